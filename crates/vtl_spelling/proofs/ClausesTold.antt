-- Items, groupings and clauses, as their rules tell them.
use Rattle.std.proofs.Common.{◌≡◌, ℕ, List, [], ◌∷◌, Option, Some, None, inl, inr, refl, ap, ◌∙◌, map}
use Rattle.std.proofs.Math.Path.{ap₂}
use Rattle.std.specs.Prelude.{option_map}
use Rattle.std.proofs.lemmas.List.Folds.{flat_map-map}
use Rattle.vtl_values.specs.declared.place.Place.{Place}
use Rattle.vtl_tokens.specs.declared.keyword.Keyword.TheVariants as words
use Rattle.vtl_tokens.specs.declared.sign.Sign.TheVariants as signs
use Rattle.vtl_syntax.specs.declared.expr.Expr.{Expr}
use Rattle.vtl_syntax.specs.declared.expr.Clause.{Clause}
use Rattle.vtl_syntax.specs.declared.expr.Clause.TheVariants as clause_tree
use Rattle.vtl_syntax.specs.declared.expr.Groups.{Groups}
use Rattle.vtl_syntax.specs.declared.expr.Item.{Item}
use Rattle.vtl_syntax.specs.declared.expr.JoinOperand.{JoinOperand}
use Rattle.vtl_syntax.specs.declared.expr.SubstrRange.{SubstrRange}
use Rattle.vtl_syntax.specs.declared.expr.Comp.{Comp}
use Rattle.vtl_syntax.specs.declared.expr.Grouping.{Grouping}
use Rattle.vtl_syntax.specs.declared.expr.Rename.{Rename}
use Rattle.vtl_syntax.specs.declared.expr.SubItem.{SubItem}
use Rattle.vtl_grammar.specs.Marks.{key, sign}
use Rattle.vtl_grammar.specs.Rules.{Rule, ◌▸◌, either, lists, Of, word, expr, listed, JoinPart, filtering, calculating, keeping, renaming}
use Rattle.vtl_grammar.specs.Clauses as g
use Rattle.vtl_grammar.specs.Words.{chosen, roles}
use Rattle.vtl_spelling.specs.Kinds.{Kinds, ◌&◌, one, optional, separated}
use Rattle.vtl_spelling.specs.Kinds as k
use Rattle.vtl_spelling.specs.Parts as s
use Rattle.vtl_spelling.specs.Trees.{clause_step, expr_step, groups_step, item_step, operand_step, range_step, spelled, clause_spelled, groups_spelled, item_spelled}
use Rattle.vtl_spelling.specs.Placeless.{nowhere, comp_placeless, rename_placeless, sub_item_placeless, clause_bare, expr_bare, groups_bare, item_bare, operand_bare, range_bare, placeless, clause_placeless, groups_placeless, item_placeless}
use Rattle.vtl_spelling.proofs.Folds.{Steps, groups_folded, item_folded, clause_folded-Filter, clause_folded-Calc, clause_folded-Keep, clause_folded-Drop, clause_folded-Rename, clause_folded-Sub, clause_folded-Unpivot, clause_folded-Aggr}
use Rattle.vtl_spelling.proofs.Values.{value_spelled, value_placeless}
use Rattle.vtl_spelling.proofs.Told.{Told, next, behind-told, optional-told, option-plain, option-same, listed-told, listed-plain}
use Rattle.vtl_spelling.proofs.WordsTold.{choice-told}
use Rattle.vtl_spelling.proofs.PartsTold.{comp-told, renamed-told, sub_item-told, grouping-told}

abbrev pub spelling : Steps
spelling = record { A = Kinds; B = Kinds; C = Kinds; D = Kinds; E = Kinds; F = Kinds; of_clause = clause_step; of_expr = expr_step; of_groups = groups_step; of_item = item_step; of_operand = operand_step; of_range = range_step }

abbrev pub baring : Steps
baring = record { A = Clause; B = Expr; C = Groups; D = Item; E = JoinOperand; F = SubstrRange; of_clause = clause_bare; of_expr = expr_bare; of_groups = groups_bare; of_item = item_bare; of_operand = operand_bare; of_range = range_bare }

-- ---- parts that are spelled first

pub optional-map : {A B : Type 0} (f : B → Kinds) (h : A → B) (x : Option A) → optional f (option_map h x) ≡ optional (λ a. f (h a)) x
optional-map f h None = refl
optional-map f h (Some a) = refl

pub separated-map : {A B : Type 0} (c : Kinds) (f : B → Kinds) (h : A → B) (xs : List A) → separated c f (map h xs) ≡ separated c (λ a. f (h a)) xs
separated-map c f h [] = refl
separated-map c f h (x ∷ xs) = ap (λ (ks : Kinds). f (h x) & ks) (flat_map-map (λ y. c & f y) h xs)

pub expr-told : (m : ℕ) → Told (expr m) (λ e. e) spelled placeless
expr-told m = record { tells = λ e. (refl, refl) }

-- ---- items and groupings

pub item-told : Told g.item g.item_of item_spelled item_placeless
item-told = record {
  tells = λ v.
      let a = optional-told _ _ _ _ (choice-told roles) v.1.0 in
      let b = option-same _ _ _ (choice-told roles) v.1.0 in (
        item_folded spelling (option_map (chosen roles) v.1.0) v.1.1.0.value v.1.1.1.1 v.0 ∙ ap (λ (ks : Kinds). ks & k.name v.1.1.0.value & k.sig signs.Assign & spelled v.1.1.1.1) a,
        item_folded baring (option_map (chosen roles) v.1.0) v.1.1.0.value v.1.1.1.1 v.0 ∙ cc,
      );
}

having-told : Told (word words.Having ▸ expr 0) (λ w. w.1) (λ e. k.key words.Having & spelled e) placeless
having-told = behind-told (key words.Having) (expr 0) (λ e. e) spelled placeless (expr-told 0)

pub groups-told : Told g.groups g.groups_of groups_spelled groups_placeless
groups-told = record {
  tells = λ v.
      let e = grouping-told.tells v.0 in
      let a = e.0 in
      let b = e.1 in
      let c = optional-map (λ (ks : Kinds). k.key words.Having & ks) spelled (option_map (λ (w : Place × Expr). w.1) v.1) ∙ optional-told _ _ _ _ having-told v.1 in
      let d = option-plain _ _ _ _ having-told v.1 in
      (groups_folded spelling (g.grouping_of v.0) (option_map (λ w. w.1) v.1) v.0.0 ∙ next a c, groups_folded baring (g.grouping_of v.0) (option_map (λ w. w.1) v.1) v.0.0 ∙ ap₂ made b d);
}
  where
    made : Grouping → Option Expr → Groups
    made x y = record { grouping = x; having = y; place = nowhere }

-- ---- clauses

abbrev ClauseTold : (r : Rule) → (Of r → Clause) → Type 0
ClauseTold r make = Told r make clause_spelled clause_placeless

pub filter-told : ClauseTold g.filter_rule g.filter_of
filter-told = record { tells = λ v. (clause_folded-Filter spelling v.1 v.0, clause_folded-Filter baring v.1 v.0) }

pub calc-told : ClauseTold g.calc_rule g.calc_of
calc-told = record {
  tells = λ v.
      let a = separated-map k.comma (λ (ks : Kinds). ks) item_spelled (listed g.item_of v.1) ∙ listed-told g.item g.item_of item_spelled item_placeless item-told lists (sign signs.Comma) v.1 in
      let b = listed-plain g.item g.item_of item_spelled item_placeless item-told lists (sign signs.Comma) v.1 in (
        clause_folded-Calc spelling (listed g.item_of v.1) v.0 ∙ ap (λ (ks : Kinds). k.key words.Calc & ks) a,
        clause_folded-Calc baring (listed g.item_of v.1) v.0 ∙ ap (λ (xs : List Item). clause_tree.Calc xs nowhere) b,
      );
}

pub keep-told : ClauseTold g.keep_rule g.keep_of
keep-told = record {
  tells = λ v.
      let a = listed-told g.comp g.comp_of s.comp_spelled comp_placeless comp-told lists (sign signs.Comma) v.1 in
      let b = listed-plain g.comp g.comp_of s.comp_spelled comp_placeless comp-told lists (sign signs.Comma) v.1 in (
        clause_folded-Keep spelling (listed g.comp_of v.1) v.0 ∙ ap (λ (ks : Kinds). k.key words.Keep & ks) a,
        clause_folded-Keep baring (listed g.comp_of v.1) v.0 ∙ ap (λ (xs : List Comp). clause_tree.Keep xs nowhere) b,
      );
}

pub drop-told : ClauseTold g.drop_rule g.drop_of
drop-told = record {
  tells = λ v.
      let a = listed-told g.comp g.comp_of s.comp_spelled comp_placeless comp-told lists (sign signs.Comma) v.1 in
      let b = listed-plain g.comp g.comp_of s.comp_spelled comp_placeless comp-told lists (sign signs.Comma) v.1 in (
        clause_folded-Drop spelling (listed g.comp_of v.1) v.0 ∙ ap (λ (ks : Kinds). k.key words.Drop & ks) a,
        clause_folded-Drop baring (listed g.comp_of v.1) v.0 ∙ ap (λ (xs : List Comp). clause_tree.Drop xs nowhere) b,
      );
}

pub rename-told : ClauseTold g.rename_rule g.rename_of
rename-told = record {
  tells = λ v.
      let a = listed-told g.renamed g.renamed_of s.rename_spelled rename_placeless renamed-told lists (sign signs.Comma) v.1 in
      let b = listed-plain g.renamed g.renamed_of s.rename_spelled rename_placeless renamed-told lists (sign signs.Comma) v.1 in (
        clause_folded-Rename spelling (listed g.renamed_of v.1) v.0 ∙ ap (λ (ks : Kinds). k.key words.Rename & ks) a,
        clause_folded-Rename baring (listed g.renamed_of v.1) v.0 ∙ ap (λ (xs : List Rename). clause_tree.Rename xs nowhere) b,
      );
}

pub sub-told : ClauseTold g.sub_rule g.sub_of
sub-told = record {
  tells = λ v.
      let a = listed-told g.sub_item g.sub_item_of s.sub_item_spelled sub_item_placeless sub_item-told lists (sign signs.Comma) v.1 in
      let b = listed-plain g.sub_item g.sub_item_of s.sub_item_spelled sub_item_placeless sub_item-told lists (sign signs.Comma) v.1 in (
        clause_folded-Sub spelling (listed g.sub_item_of v.1) v.0 ∙ ap (λ (ks : Kinds). k.key words.Sub & ks) a,
        clause_folded-Sub baring (listed g.sub_item_of v.1) v.0 ∙ ap (λ (xs : List SubItem). clause_tree.Sub xs nowhere) b,
      );
}

pub unpivot-told : ClauseTold g.unpivot_rule g.unpivot_of
unpivot-told = record { tells = λ v. (clause_folded-Unpivot spelling v.1.0.value v.1.1.1.value v.0, clause_folded-Unpivot baring v.1.0.value v.1.1.1.value v.0) }

pub aggr-told : ClauseTold g.aggr_rule g.aggr_of
aggr-told = record {
  tells = λ v.
      let a = separated-map k.comma (λ (ks : Kinds). ks) item_spelled (listed g.item_of v.1.0) ∙ listed-told g.item g.item_of item_spelled item_placeless item-told lists (sign signs.Comma) v.1.0 in
      let b = listed-plain g.item g.item_of item_spelled item_placeless item-told lists (sign signs.Comma) v.1.0 in
      let c = optional-map (λ (ks : Kinds). ks) groups_spelled (option_map g.groups_of v.1.1) ∙ optional-told _ _ _ _ groups-told v.1.1 in
      let d = option-plain _ _ _ _ groups-told v.1.1 in (
        clause_folded-Aggr spelling (listed g.item_of v.1.0) (option_map g.groups_of v.1.1) v.0 ∙ ap (λ (ks : Kinds). k.key words.Aggr & ks) (next a c),
        clause_folded-Aggr baring (listed g.item_of v.1.0) (option_map g.groups_of v.1.1) v.0 ∙ ap₂ (λ (xs : List Item) (x : Option Groups). clause_tree.Aggr xs x nowhere) b d,
      );
}

pub clause-told : ClauseTold g.clause_rule g.clause_of
clause-told = record { tells = by_case }
  where
    by_case : (v : Of g.clause_rule) → (clause_spelled (g.clause_of v) ≡ value_spelled g.clause_rule v) × (clause_placeless (g.clause_of v) ≡ g.clause_of (value_placeless g.clause_rule v))
    by_case (inl v) = filter-told.tells v
    by_case (inr (inl v)) = calc-told.tells v
    by_case (inr (inr (inl v))) = keep-told.tells v
    by_case (inr (inr (inr (inl v)))) = drop-told.tells v
    by_case (inr (inr (inr (inr (inl v))))) = rename-told.tells v
    by_case (inr (inr (inr (inr (inr (inl v)))))) = sub-told.tells v
    by_case (inr (inr (inr (inr (inr (inr (inl v))))))) = unpivot-told.tells v
    by_case (inr (inr (inr (inr (inr (inr (inr v))))))) = aggr-told.tells v

keeping-told : ClauseTold (either g.keep_rule g.drop_rule) g.kept_of
keeping-told = record { tells = by_case }
  where
    by_case : (v : Of (either g.keep_rule g.drop_rule)) → (clause_spelled (g.kept_of v) ≡ value_spelled (either g.keep_rule g.drop_rule) v) × (clause_placeless (g.kept_of v) ≡ g.kept_of (value_placeless (either g.keep_rule g.drop_rule) v))
    by_case (inl v) = keep-told.tells v
    by_case (inr v) = drop-told.tells v

pub join_part-told : (q : JoinPart) → ClauseTold (g.join_part_rule q) (λ v. g.join_part_tree q v)
join_part-told filtering = filter-told
join_part-told calculating = calc-told
join_part-told keeping = keeping-told
join_part-told renaming = rename-told
