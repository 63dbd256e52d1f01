-- Literals, lists of names, and clauses: what their rules are, and what is read by them.
use Rattle.std.specs.Prelude.{ℤ, neg_ℤ, List, true, false, Option, Some, None, option_map}
use Rattle.std.proofs.Common.{inl, inr}
use Rattle.vtl_values.specs.declared.place.Place.{Place}
use Rattle.vtl_values.specs.declared.value.Value.{Value}
use Rattle.vtl_values.specs.declared.value.Value.TheVariants as value
use Rattle.vtl_tokens.specs.declared.keyword.Keyword.TheVariants as words
use Rattle.vtl_tokens.specs.declared.sign.Sign.TheVariants as signs
use Rattle.vtl_syntax.specs.declared.expr.Clause.{Clause}
use Rattle.vtl_syntax.specs.declared.expr.Clause.TheVariants as clause_tree
use Rattle.vtl_syntax.specs.declared.expr.Item.{Item}
use Rattle.vtl_syntax.specs.declared.expr.Comp.{Comp}
use Rattle.vtl_syntax.specs.declared.expr.Rename.{Rename}
use Rattle.vtl_syntax.specs.declared.expr.SubItem.{SubItem}
use Rattle.vtl_syntax.specs.declared.expr.Grouping.{Grouping}
use Rattle.vtl_syntax.specs.declared.expr.Groups.{Groups}
use Rattle.vtl_grammar.specs.Rules.{Rule, name, integer, number, text, ◌▸◌, option, suffix, either, here, Of, Text, JoinPart, filtering, calculating, keeping, renaming, word, sig, expr, comma, commas, listed}
use Rattle.vtl_grammar.specs.Words.{one_of, chosen, roles, group_words}

-- ["-"] integer | ["-"] number | string | "true" | "false" | "null"
abbrev pub literal : Rule
literal = either (option (sig signs.Minus) (either integer number)) (either text (either (word words.True) (either (word words.False) (word words.Null))))

-- with a minus before it, or without
abbrev pub signed : Option Place → ℤ → ℤ
signed None z = z
signed (Some p) z = neg_ℤ z

abbrev pub literal_of : Of literal → Value
literal_of (inl (m, inl v)) = value.Integer (signed m v.value)
literal_of (inl (m, inr v)) = value.Number (signed m v.value)
literal_of (inr (inl v)) = value.Text v.value
literal_of (inr (inr (inl p))) = value.Truth true
literal_of (inr (inr (inr (inl p)))) = value.Truth false
literal_of (inr (inr (inr (inr p)))) = value.Null

-- ["-"] integer
abbrev pub signed_integer : Rule
signed_integer = option (sig signs.Minus) integer

abbrev pub signed_of : Of signed_integer → ℤ
signed_of v = signed v.0 v.1.value

-- name {"," name}
abbrev pub names : Rule
names = commas name

abbrev pub names_of : Of names → List Text
names_of v = listed (λ w. w.value) v

-- ["measure" | "attribute"] name ":=" expr
abbrev pub item : Rule
item = here (option (one_of roles) (name ▸ sig signs.Assign ▸ expr 0))

abbrev pub item_of : Of item → Item
item_of v = record { role = option_map (chosen roles) v.1.0; name = v.1.1.0.value; expr = v.1.1.1.1; place = v.0 }

-- name ["#" name]
abbrev pub comp : Rule
comp = suffix name (sig signs.Hash ▸ name)

abbrev pub comp_of : Of comp → Comp
comp_of v = record { name = v.0.value; component = option_map (λ w. w.1.value) v.1; place = v.0.place }

-- comp "to" name
abbrev pub renamed : Rule
renamed = comp ▸ word words.To ▸ name

abbrev pub renamed_of : Of renamed → Rename
renamed_of v = record { component = comp_of v.0; name = v.1.1.value; place = v.0.0.place }

-- name "=" lit
abbrev pub sub_item : Rule
sub_item = name ▸ sig signs.Equal ▸ literal

abbrev pub sub_item_of : Of sub_item → SubItem
sub_item_of v = record { name = v.0.value; value = literal_of v.1.1; place = v.0.place }

-- "group" ("by" | "except") name {"," name}
abbrev pub grouping : Rule
grouping = word words.Group ▸ one_of group_words ▸ names

abbrev pub grouping_of : Of grouping → Grouping
grouping_of v = record { word = chosen group_words v.1.0; names = names_of v.1.1; place = v.0 }

-- grouping ["having" expr]
abbrev pub groups : Rule
groups = suffix grouping (word words.Having ▸ expr 0)

abbrev pub groups_of : Of groups → Groups
groups_of v = record { grouping = grouping_of v.0; having = option_map (λ w. w.1) v.1; place = v.0.0 }

-- ---- clauses

abbrev pub filter_rule : Rule
filter_rule = word words.Filter ▸ expr 0

abbrev pub calc_rule : Rule
calc_rule = word words.Calc ▸ commas item

abbrev pub keep_rule : Rule
keep_rule = word words.Keep ▸ commas comp

abbrev pub drop_rule : Rule
drop_rule = word words.Drop ▸ commas comp

abbrev pub rename_rule : Rule
rename_rule = word words.Rename ▸ commas renamed

abbrev pub sub_rule : Rule
sub_rule = word words.Sub ▸ commas sub_item

abbrev pub unpivot_rule : Rule
unpivot_rule = word words.Unpivot ▸ name ▸ comma ▸ name

abbrev pub aggr_rule : Rule
aggr_rule = word words.Aggr ▸ suffix (commas item) groups

-- a clause after a data set
abbrev pub clause_rule : Rule
clause_rule = either filter_rule (either calc_rule (either keep_rule (either drop_rule (either rename_rule (either sub_rule (either unpivot_rule aggr_rule))))))

abbrev pub filter_of : Of filter_rule → Clause
filter_of v = clause_tree.Filter v.1 v.0

abbrev pub calc_of : Of calc_rule → Clause
calc_of v = clause_tree.Calc (listed item_of v.1) v.0

abbrev pub keep_of : Of keep_rule → Clause
keep_of v = clause_tree.Keep (listed comp_of v.1) v.0

abbrev pub drop_of : Of drop_rule → Clause
drop_of v = clause_tree.Drop (listed comp_of v.1) v.0

abbrev pub rename_of : Of rename_rule → Clause
rename_of v = clause_tree.Rename (listed renamed_of v.1) v.0

abbrev pub sub_of : Of sub_rule → Clause
sub_of v = clause_tree.Sub (listed sub_item_of v.1) v.0

abbrev pub unpivot_of : Of unpivot_rule → Clause
unpivot_of v = clause_tree.Unpivot v.1.0.value v.1.1.1.value v.0

abbrev pub aggr_of : Of aggr_rule → Clause
aggr_of v = clause_tree.Aggr (listed item_of v.1.0) (option_map groups_of v.1.1) v.0

abbrev pub clause_of : Of clause_rule → Clause
clause_of (inl v) = filter_of v
clause_of (inr (inl v)) = calc_of v
clause_of (inr (inr (inl v))) = keep_of v
clause_of (inr (inr (inr (inl v)))) = drop_of v
clause_of (inr (inr (inr (inr (inl v))))) = rename_of v
clause_of (inr (inr (inr (inr (inr (inl v)))))) = sub_of v
clause_of (inr (inr (inr (inr (inr (inr (inl v))))))) = unpivot_of v
clause_of (inr (inr (inr (inr (inr (inr (inr v))))))) = aggr_of v

-- the clauses in a join: "filter" .., "calc" .., "keep" .. or "drop" .., "rename" ..
abbrev pub join_part_rule : JoinPart → Rule
join_part_rule filtering = filter_rule
join_part_rule calculating = calc_rule
join_part_rule keeping = either keep_rule drop_rule
join_part_rule renaming = rename_rule

abbrev pub kept_of : Of (either keep_rule drop_rule) → Clause
kept_of (inl v) = keep_of v
kept_of (inr v) = drop_of v

abbrev pub join_part_tree : (k : JoinPart) → Of (join_part_rule k) → Clause
join_part_tree filtering v = filter_of v
join_part_tree calculating v = calc_of v
join_part_tree keeping v = kept_of v
join_part_tree renaming v = rename_of v
