-- Calls: what stands after a word, and the tree that is read.
use Rattle.std.specs.Prelude.{ℕ, Option, Some, None, ◌⊎◌, option_map, map}
use Rattle.std.proofs.Common.{inl, inr}
use Rattle.vtl_values.specs.declared.place.Place.{Place}
use Rattle.vtl_tokens.specs.declared.keyword.Keyword.TheVariants as words
use Rattle.vtl_syntax.specs.declared.expr.Expr.{Expr}
use Rattle.vtl_syntax.specs.declared.expr.Expr.TheVariants as tree
use Rattle.vtl_syntax.specs.declared.expr.JoinOperand.{JoinOperand}
use Rattle.vtl_syntax.specs.declared.expr.SubstrRange.{SubstrRange}
use Rattle.vtl_syntax.specs.declared.expr.Over.{Over}
use Rattle.vtl_syntax.specs.declared.expr.OrderItem.{OrderItem}
use Rattle.vtl_syntax.specs.declared.expr.Points.{Points}
use Rattle.vtl_syntax.specs.declared.words.UnaryFunction.{UnaryFunction}
use Rattle.vtl_syntax.specs.declared.words.RoundFunction.{RoundFunction}
use Rattle.vtl_syntax.specs.declared.words.BinaryFunction.{BinaryFunction}
use Rattle.vtl_syntax.specs.declared.words.SetFunction.{SetFunction}
use Rattle.vtl_syntax.specs.declared.words.DifferenceFunction.{DifferenceFunction}
use Rattle.vtl_syntax.specs.declared.words.JoinFunction.{JoinFunction}
use Rattle.vtl_syntax.specs.declared.words.AggregateFunction.{AggregateFunction}
use Rattle.vtl_syntax.specs.declared.words.AggregateFunction.TheVariants as aggregate_word
use Rattle.vtl_syntax.specs.declared.words.WindowFunction.{WindowFunction}
use Rattle.vtl_syntax.specs.declared.words.WindowFunction.TheVariants as window_word
use Rattle.vtl_syntax.specs.declared.words.OffsetFunction.{OffsetFunction}
use Rattle.vtl_syntax.specs.declared.words.TimeFunction.{TimeFunction}
use Rattle.vtl_syntax.specs.declared.words.WindowStart.{WindowStart}
use Rattle.vtl_syntax.specs.declared.words.WindowStart.TheVariants as start
use Rattle.vtl_syntax.specs.declared.words.WindowEnd.{WindowEnd}
use Rattle.vtl_syntax.specs.declared.words.WindowEnd.TheVariants as stop
use Rattle.vtl_grammar.specs.Rules.{Rule, name, integer, text, part, ◌▸◌, option, suffix, either, repeated, prefixed, here, component, clause, filtering, calculating, keeping, renaming, operands, Of, word, expr, comma, open_paren, close_paren, commas, listed}
use Rattle.vtl_grammar.specs.Words.{one_of, chosen, directions, exists_rows, fill_spans, rows_outputs, modes, hierarchy_inputs, hierarchy_outputs, check_inputs, check_outputs}
use Rattle.vtl_grammar.specs.Clauses.{literal, literal_of, signed_integer, signed_of, names, names_of, groups, groups_of}

-- a form that begins with a word of its own: its precedence, what comes after the word, and the tree with the word's
-- place
pub record Form : Type 0 where
  pub precedence : ℕ
  pub rule : Rule
  pub tree : Of rule → Place → Expr

-- the second of two
abbrev pub second : {A B : Type 0} → A × B → B
second v = v.1

-- ---- scalar functions

-- F(expr)
abbrev pub unary : UnaryFunction → Form
unary f = record { precedence = 7; rule = open_paren ▸ expr 0 ▸ close_paren; tree = λ v p. tree.Unary f v.1.0 p }

-- F(expr [, ["-"] integer])
abbrev pub round : RoundFunction → Form
round f = record { precedence = 7; rule = open_paren ▸ expr 0 ▸ option (comma ▸ signed_integer) close_paren; tree = λ v p. tree.Round f v.1.0 (option_map (λ w. signed_of w.1) v.1.1.0) p }

-- expr, expr)
abbrev pub two_operands : Rule
two_operands = open_paren ▸ expr 0 ▸ comma ▸ expr 0 ▸ close_paren

-- F(expr, expr)
abbrev pub binary : BinaryFunction → Form
binary f = record { precedence = 7; rule = two_operands; tree = λ v p. tree.Binary f v.1.0 v.1.1.1.0 p }

-- between(expr, lit, lit)
abbrev pub between : Form
between = record { precedence = 7; rule = open_paren ▸ expr 0 ▸ comma ▸ literal ▸ comma ▸ literal ▸ close_paren; tree = λ v p. tree.Between v.1.0 (literal_of v.1.1.1.0) (literal_of v.1.1.1.1.1.0) p }

-- match_characters(expr, string)
abbrev pub match_characters : Form
match_characters = record { precedence = 7; rule = open_paren ▸ expr 0 ▸ comma ▸ text ▸ close_paren; tree = λ v p. tree.MatchCharacters v.1.0 v.1.1.1.0.value p }

-- [, expr [, expr]])
abbrev pub substr_rest : Rule
substr_rest = either close_paren (comma ▸ expr 0 ▸ option (comma ▸ expr 0) close_paren)

abbrev pub range_of : Of substr_rest → Option SubstrRange
range_of (inl p) = None
range_of (inr w) = Some (record { start = w.1.0; length = option_map second w.1.1.0; place = w.0 })

-- substr(expr [, expr [, expr]])
abbrev pub substr : Form
substr = record { precedence = 7; rule = open_paren ▸ expr 0 ▸ substr_rest; tree = λ v p. tree.Substr v.1.0 (range_of v.1.1) p }

-- replace(expr, expr [, expr])
abbrev pub replace : Form
replace = record { precedence = 7; rule = open_paren ▸ expr 0 ▸ comma ▸ expr 0 ▸ option (comma ▸ expr 0) close_paren; tree = λ v p. tree.Replace v.1.0 v.1.1.1.0 (option_map second v.1.1.1.1.0) p }

-- ---- sets and joins

-- exists_in(expr, expr [, all or true or false])
abbrev pub exists_in : Form
exists_in = record { precedence = 7; rule = open_paren ▸ expr 0 ▸ comma ▸ expr 0 ▸ option (comma ▸ one_of exists_rows) close_paren; tree = λ v p. tree.ExistsIn v.1.0 v.1.1.1.0 (option_map (λ w. chosen exists_rows w.1) v.1.1.1.1.0) p }

-- F(expr, expr {, expr})
abbrev pub sets : SetFunction → Form
sets f = record { precedence = 7; rule = open_paren ▸ expr 0 ▸ comma ▸ repeated operands (expr 0) (comma ▸ expr 0) ▸ close_paren; tree = λ v p. tree.Sets f v.1.0 v.1.1.1.0.0 (map second v.1.1.1.0.1) p }

-- F(expr, expr)
abbrev pub difference : DifferenceFunction → Form
difference f = record { precedence = 7; rule = two_operands; tree = λ v p. tree.Difference f v.1.0 v.1.1.1.0 p }

-- expr [as name]
abbrev pub join_operand : Rule
join_operand = here (suffix (expr 0) (word words.As ▸ name))

abbrev pub join_operand_of : Of join_operand → JoinOperand
join_operand_of v = record { expr = v.1.0; alias = option_map (λ w. w.1.value) v.1.1; place = v.0 }

-- ["filter" ..] ["calc" ..] ["keep" .. or "drop" ..] ["rename" ..])
abbrev pub join_clauses : Rule
join_clauses = option (part (clause filtering)) (option (part (clause calculating)) (option (part (clause keeping)) (option (part (clause renaming)) close_paren)))

-- F(expr [as name], expr [as name] {, expr [as name]} clauses)
abbrev pub join : JoinFunction → Form
join f = record {
  precedence = 7;
  rule = open_paren ▸ join_operand ▸ comma ▸ repeated operands join_operand (comma ▸ join_operand) ▸ join_clauses;
  tree = λ v p. tree.Join f (join_operand_of v.1.0) (join_operand_of v.1.1.1.0.0) (map (λ w. join_operand_of w.1) v.1.1.1.0.1) v.1.1.1.1.0 v.1.1.1.1.1.0 v.1.1.1.1.1.1.0 v.1.1.1.1.1.1.1.0 p;
}

-- ---- aggregates and windows

-- name ["asc" | "desc"]
abbrev pub order_item : Rule
order_item = suffix name (one_of directions)

abbrev pub order_item_of : Of order_item → OrderItem
order_item_of v = record { name = v.0.value; direction = option_map (chosen directions) v.1; place = v.0.place }

-- "current" "data" "point"
abbrev pub current_point : Rule
current_point = word words.Current ▸ word words.Data ▸ word words.Point

-- integer "preceding" | "unbounded" "preceding" | "current" "data" "point"
abbrev pub window_start : Rule
window_start = either (integer ▸ word words.Preceding) (either (word words.Unbounded ▸ word words.Preceding) current_point)

abbrev pub window_start_of : Of window_start → WindowStart
window_start_of (inl v) = start.Preceding v.0.value
window_start_of (inr (inl v)) = start.UnboundedPreceding
window_start_of (inr (inr v)) = start.Current

-- integer "following" | "unbounded" "following" | "current" "data" "point"
abbrev pub window_end : Rule
window_end = either (integer ▸ word words.Following) (either (word words.Unbounded ▸ word words.Following) current_point)

abbrev pub window_end_of : Of window_end → WindowEnd
window_end_of (inl v) = stop.Following v.0.value
window_end_of (inr (inl v)) = stop.UnboundedFollowing
window_end_of (inr (inr v)) = stop.Current

-- "data" "points" "between" from "and" to
abbrev pub points : Rule
points = word words.Data ▸ word words.Points ▸ word words.Between ▸ window_start ▸ word words.And ▸ window_end

abbrev pub points_of : Of points → Points
points_of v = record { from = window_start_of v.1.1.1.0; to = window_end_of v.1.1.1.1.1; place = v.0 }

-- "over" "(" ["partition" "by" name {"," name}] ["order" "by" oitem {"," oitem}] [points] ")"
abbrev pub over : Rule
over = word words.Over ▸ open_paren ▸ option (word words.Partition ▸ word words.By ▸ names) (option (word words.Order ▸ word words.By ▸ commas order_item) (option points close_paren))

abbrev pub over_of : Of over → Over
over_of v = record { partition = option_map (λ w. names_of w.1.1) v.1.1.0; order = option_map (λ w. listed order_item_of w.1.1) v.1.1.1.0; points = option_map points_of v.1.1.1.1.0; place = v.0 }

-- [over | groups])
abbrev pub over_or_groups : Rule
over_or_groups = option (either over groups) close_paren

abbrev pub aggregate_of : AggregateFunction → WindowFunction → Expr → Option (Of over ⊎ Of groups) → Place → Expr
aggregate_of f g e None p = tree.Aggregate f e None p
aggregate_of f g e (Some (inl w)) p = tree.Window g e (over_of w) p
aggregate_of f g e (Some (inr w)) p = tree.Aggregate f e (Some (groups_of w)) p

-- F(expr [grouping ["having" expr]]), F(expr over)
abbrev pub aggregate : AggregateFunction → WindowFunction → Form
aggregate f g = record { precedence = 7; rule = open_paren ▸ expr 0 ▸ over_or_groups; tree = λ v p. aggregate_of f g v.1.0 v.1.1.0 p }

abbrev pub count_rest : Rule
count_rest = either close_paren (expr 0 ▸ over_or_groups)

abbrev pub count_of : Of count_rest → Place → Expr
count_of (inl q) p = tree.CountAll p
count_of (inr v) p = aggregate_of aggregate_word.Count window_word.Count v.0 v.1.0 p

-- count(), and count as the other aggregates
abbrev pub count : Form
count = record { precedence = 7; rule = open_paren ▸ count_rest; tree = λ v p. count_of v.1 p }

-- F(expr over)
abbrev pub window : WindowFunction → Form
window f = record { precedence = 7; rule = open_paren ▸ expr 0 ▸ over ▸ close_paren; tree = λ v p. tree.Window f v.1.0 (over_of v.1.1.0) p }

-- F(expr, integer over)
abbrev pub offset : OffsetFunction → Form
offset f = record { precedence = 7; rule = open_paren ▸ expr 0 ▸ comma ▸ integer ▸ over ▸ close_paren; tree = λ v p. tree.Offset f v.1.0 v.1.1.1.0.value (over_of v.1.1.1.1.0) p }

-- rank(over)
abbrev pub rank : Form
rank = record { precedence = 7; rule = open_paren ▸ over ▸ close_paren; tree = λ v p. tree.Rank (over_of v.1.0) p }

-- ---- time periods

-- F(expr)
abbrev pub time : TimeFunction → Form
time f = record { precedence = 7; rule = open_paren ▸ expr 0 ▸ close_paren; tree = λ v p. tree.Time f v.1.0 p }

-- timeshift(expr, ["-"] integer)
abbrev pub timeshift : Form
timeshift = record { precedence = 7; rule = open_paren ▸ expr 0 ▸ comma ▸ signed_integer ▸ close_paren; tree = λ v p. tree.Timeshift v.1.0 (signed_of v.1.1.1.0) p }

-- fill_time_series(expr [, all or single])
abbrev pub fill_time_series : Form
fill_time_series = record { precedence = 7; rule = open_paren ▸ expr 0 ▸ option (comma ▸ one_of fill_spans) close_paren; tree = λ v p. tree.FillTimeSeries v.1.0 (option_map (λ w. chosen fill_spans w.1) v.1.1.0) p }

-- ---- rulesets and checks

-- check_datapoint(expr, name [output])
abbrev pub check_datapoint : Form
check_datapoint = record {
  precedence = 7;
  rule = open_paren ▸ expr 0 ▸ comma ▸ name ▸ option (one_of rows_outputs) close_paren;
  tree = λ v p. tree.CheckDatapoint v.1.0 v.1.1.1.0.value v.1.1.1.0.place (option_map (chosen rows_outputs) v.1.1.1.1.0) p;
}

-- hierarchy(expr, name ["rule" name] [mode] [input] [output]); `rule` before a name gives the component
abbrev pub hierarchy : Form
hierarchy = record {
  precedence = 7;
  rule = open_paren ▸ expr 0 ▸ comma ▸ name ▸ prefixed component (option (one_of modes) (option (one_of hierarchy_inputs) (option (one_of hierarchy_outputs) close_paren)));
  tree = λ v p. tree.Hierarchy v.1.0 v.1.1.1.0.value v.1.1.1.0.place (option_map (λ w. w.value) v.1.1.1.1.0) (option_map (chosen modes) v.1.1.1.1.1.0) (option_map (chosen hierarchy_inputs) v.1.1.1.1.1.1.0) (option_map (chosen hierarchy_outputs) v.1.1.1.1.1.1.1.0) p;
}

-- check_hierarchy(expr, name ["rule" name] [mode] [input] [output])
abbrev pub check_hierarchy : Form
check_hierarchy = record {
  precedence = 7;
  rule = open_paren ▸ expr 0 ▸ comma ▸ name ▸ option (word words.Rule ▸ name) (option (one_of modes) (option (one_of check_inputs) (option (one_of rows_outputs) close_paren)));
  tree = λ v p. tree.CheckHierarchy v.1.0 v.1.1.1.0.value v.1.1.1.0.place (option_map (λ w. w.1.value) v.1.1.1.1.0) (option_map (chosen modes) v.1.1.1.1.1.0) (option_map (chosen check_inputs) v.1.1.1.1.1.1.0) (option_map (chosen rows_outputs) v.1.1.1.1.1.1.1.0) p;
}

-- check(expr ["errorcode" string] ["errorlevel" ["-"] integer] ["imbalance" expr] [all or invalid])
abbrev pub check : Form
check = record {
  precedence = 7;
  rule = open_paren ▸ expr 0 ▸ option (word words.Errorcode ▸ text) (option (word words.Errorlevel ▸ signed_integer) (option (word words.Imbalance ▸ expr 0) (option (one_of check_outputs) close_paren)));
  tree = λ v p. tree.Check v.1.0 (option_map (λ w. w.1.value) v.1.1.0) (option_map (λ w. signed_of w.1) v.1.1.1.0) (option_map second v.1.1.1.1.0) (option_map (chosen check_outputs) v.1.1.1.1.1.0) p;
}
