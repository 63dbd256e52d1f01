-- Forms of expressions that begin with a word of their own, as their rules tell them: joins, aggregates, windows,
-- rulesets and checks.
use Rattle.std.proofs.Common.{◌≡◌, lit<, List, Option, Some, None, inl, inr, refl, sym, ap, ◌∙◌, map, append_assoc}
use Rattle.std.specs.Prelude.{ℤ, option_map}
use Rattle.std.specs.List.{flat_map}
use Rattle.std.proofs.lemmas.List.Folds.{flat_map-map}
use Rattle.vtl_values.specs.declared.place.Place.{Place}
use Rattle.vtl_tokens.specs.declared.keyword.Keyword.TheVariants as words
use Rattle.vtl_tokens.specs.declared.token.TokenKind.{TokenKind}
use Rattle.vtl_tokens.specs.declared.token.TokenKind.TheVariants as what
use Rattle.vtl_syntax.specs.declared.expr.Expr.{Expr}
use Rattle.vtl_syntax.specs.declared.expr.Expr.TheVariants as tree
use Rattle.vtl_syntax.specs.declared.expr.Groups.{Groups}
use Rattle.vtl_syntax.specs.declared.expr.JoinOperand.{JoinOperand}
use Rattle.vtl_syntax.specs.declared.expr.Over.{Over}
use Rattle.vtl_syntax.specs.declared.words.JoinFunction.{JoinFunction}
use Rattle.vtl_syntax.specs.declared.words.AggregateFunction.{AggregateFunction}
use Rattle.vtl_syntax.specs.declared.words.AggregateFunction.TheVariants as aggregate_word
use Rattle.vtl_syntax.specs.declared.words.WindowFunction.{WindowFunction}
use Rattle.vtl_syntax.specs.declared.words.WindowFunction.TheVariants as window_word
use Rattle.vtl_syntax.specs.declared.words.OffsetFunction.{OffsetFunction}
use Rattle.vtl_syntax.specs.declared.words.RowsOutput.{RowsOutput}
use Rattle.vtl_syntax.specs.declared.words.CheckOutput.{CheckOutput}
use Rattle.vtl_syntax.specs.declared.words.Mode.{Mode}
use Rattle.vtl_syntax.specs.declared.words.HierarchyInput.{HierarchyInput}
use Rattle.vtl_syntax.specs.declared.words.HierarchyOutput.{HierarchyOutput}
use Rattle.vtl_syntax.specs.declared.words.CheckInput.{CheckInput}
use Rattle.vtl_grammar.specs.Marks.{key}
use Rattle.vtl_grammar.specs.Rules.{Rule, name, text, ◌▸◌, either, Of, At, Text, word, expr, comma, filtering, calculating, keeping, renaming}
use Rattle.vtl_grammar.specs.Clauses as g
use Rattle.vtl_grammar.specs.Calls as c
use Rattle.vtl_grammar.specs.Calls.{second}
use Rattle.vtl_grammar.specs.Words.{chosen, rows_outputs, modes, hierarchy_inputs, hierarchy_outputs, check_inputs, check_outputs}
use Rattle.vtl_spelling.specs.Kinds.{Kinds, ◌&◌, one, optional}
use Rattle.vtl_spelling.specs.Kinds as k
use Rattle.vtl_spelling.specs.Words.{join_kind, aggregate_kind, window_kind, offset_kind}
use Rattle.vtl_spelling.specs.Trees.{spelled, operand_spelled}
use Rattle.vtl_spelling.specs.Placeless.{nowhere, placeless, clause_placeless}
use Rattle.vtl_spelling.proofs.Folds.{folded-Join, folded-Aggregate, folded-Window, folded-CountAll, folded-Offset, folded-Rank, folded-CheckDatapoint, folded-Hierarchy, folded-CheckHierarchy, folded-Check}
use Rattle.vtl_spelling.proofs.Values.{value_spelled, value_placeless}
use Rattle.vtl_spelling.proofs.Told.{Told, same_word, next, ap_three, ap_four, behind-told, optional-told, option-plain, option-same, map-told, map-plain}
use Rattle.vtl_spelling.proofs.WordsTold.{choice-told}
use Rattle.vtl_spelling.proofs.PartsTold.{signed_integer-told, name-told, over-told}
use Rattle.vtl_spelling.proofs.ClausesTold.{spelling, baring, optional-map, expr-told, groups-told}
use Rattle.vtl_spelling.proofs.FormsTold.{FormTold, operand-told, more_operands-told, join_clause}

-- ---- joins

more_operands : (xs : List (Place × Of c.join_operand)) → flat_map (λ (ks : Kinds). k.comma & ks) (map operand_spelled (map (λ w. c.join_operand_of w.1) xs)) ≡ flat_map (value_spelled (comma ▸ c.join_operand)) xs
more_operands xs = flat_map-map (λ (ks : Kinds). k.comma & ks) operand_spelled (map (λ w. c.join_operand_of w.1) xs) ∙ map-told _ _ _ _ more_operands-told xs

pub join-told : (f : JoinFunction) → FormTold (join_kind f) (c.join f)
join-told f = record {
  low = lit< tt;
  tells = λ v p.
      let more = map (λ w. c.join_operand_of w.1) v.1.1.1.0.1 in
      let x = v.1.1.1.1 in
      let last : Kinds = value_spelled c.join_clauses x in
      let two = operand-told.tells v.1.1.1.0.0 in
      let one' = operand-told.tells v.1.0 in (
        folded-Join spelling f (c.join_operand_of v.1.0) (c.join_operand_of v.1.1.1.0.0) more x.0 x.1.0 x.1.1.0 x.1.1.1.0 p
            ∙ ap (λ (ks : Kinds). one (join_kind f) & k.open_paren & ks) (next one'.0 (next {a = k.comma} refl (next two.0 (next (more_operands v.1.1.1.0.1) (next (join_clause filtering x.0) (next (join_clause calculating x.1.0) (next (join_clause keeping x.1.1.0) (next (join_clause renaming x.1.1.1.0) refl))))))))
            ∙ ap (λ (ks : Kinds). one (join_kind f) & k.open_paren & value_spelled c.join_operand v.1.0 & k.comma & ks) (sym (append_assoc (value_spelled c.join_operand v.1.1.1.0.0) (flat_map (value_spelled (comma ▸ c.join_operand)) v.1.1.1.0.1) last)),
        folded-Join baring f (c.join_operand_of v.1.0) (c.join_operand_of v.1.1.1.0.0) more x.0 x.1.0 x.1.1.0 x.1.1.1.0 p
            ∙ ap_three (λ (a b : JoinOperand) (xs : List JoinOperand). tree.Join f a b xs (option_map clause_placeless x.0) (option_map clause_placeless x.1.0) (option_map clause_placeless x.1.1.0) (option_map clause_placeless x.1.1.1.0) nowhere) one'.1 two.1 (map-plain _ _ _ _ more_operands-told v.1.1.1.0.1),
      );
}

-- ---- aggregates and windows

pub window-told : (f : WindowFunction) → FormTold (window_kind f) (c.window f)
window-told f = record {
  low = lit< tt;
  tells = λ v p.
      let o = over-told.tells v.1.1.0 in (
        folded-Window spelling f v.1.0 (c.over_of v.1.1.0) p ∙ ap (λ (x : Kinds). one (window_kind f) & k.open_paren & spelled v.1.0 & x & k.close_paren) o.0,
        folded-Window baring f v.1.0 (c.over_of v.1.1.0) p ∙ ap (λ (x : Over). tree.Window f (placeless v.1.0) x nowhere) o.1,
      );
}

pub offset-told : (f : OffsetFunction) → FormTold (offset_kind f) (c.offset f)
offset-told f = record {
  low = lit< tt;
  tells = λ v p.
      let o = over-told.tells v.1.1.1.1.0 in (
        folded-Offset spelling f v.1.0 v.1.1.1.0.value (c.over_of v.1.1.1.1.0) p ∙ ap (λ (x : Kinds). one (offset_kind f) & k.open_paren & spelled v.1.0 & k.comma & k.integer v.1.1.1.0.value & x & k.close_paren) o.0,
        folded-Offset baring f v.1.0 v.1.1.1.0.value (c.over_of v.1.1.1.1.0) p ∙ ap (λ (x : Over). tree.Offset f (placeless v.1.0) v.1.1.1.0.value x nowhere) o.1,
      );
}

pub rank-told : FormTold (what.Reserved words.Rank) c.rank
rank-told = record {
  low = lit< tt;
  tells = λ v p.
      let o = over-told.tells v.1.0 in (
        folded-Rank spelling (c.over_of v.1.0) p ∙ ap (λ (x : Kinds). k.key words.Rank & k.open_paren & x & k.close_paren) o.0,
        folded-Rank baring (c.over_of v.1.0) p ∙ ap (λ (x : Over). tree.Rank x nowhere) o.1,
      );
}

abbrev pub groups_or_over : Rule
groups_or_over = either c.over g.groups

aggregate-case : (f : AggregateFunction) (h : WindowFunction) → window_kind h ≡ aggregate_kind f → (e : Expr) (x : Option (Of groups_or_over)) (p : Place) → (spelled (c.aggregate_of f h e x p) ≡ one (aggregate_kind f) & k.open_paren & spelled e & optional (value_spelled groups_or_over) x & k.close_paren) × (placeless (c.aggregate_of f h e x p) ≡ c.aggregate_of f h (placeless e) (option_map (value_placeless groups_or_over) x) nowhere)
aggregate-case f h same e None p = (folded-Aggregate spelling f e None p, folded-Aggregate baring f e None p)
aggregate-case f h same e (Some (inl w)) p =
    let o = over-told.tells w in (
      folded-Window spelling h e (c.over_of w) p ∙ ap (λ (x : Kinds). one (window_kind h) & k.open_paren & spelled e & x & k.close_paren) o.0 ∙ ap (λ (x : TokenKind). one x & k.open_paren & spelled e & value_spelled c.over w & k.close_paren) same,
      folded-Window baring h e (c.over_of w) p ∙ ap (λ (x : Over). tree.Window h (placeless e) x nowhere) o.1,
    )
aggregate-case f h same e (Some (inr w)) p =
    let o = groups-told.tells w in (
      folded-Aggregate spelling f e (Some (g.groups_of w)) p ∙ ap (λ (x : Kinds). one (aggregate_kind f) & k.open_paren & spelled e & x & k.close_paren) o.0,
      folded-Aggregate baring f e (Some (g.groups_of w)) p ∙ ap (λ (x : Groups). tree.Aggregate f (placeless e) (Some x) nowhere) o.1,
    )

-- an aggregate, or a window whose word is the same
pub aggregate-told : (f : AggregateFunction) (h : WindowFunction) → window_kind h ≡ aggregate_kind f → FormTold (aggregate_kind f) (c.aggregate f h)
aggregate-told f h same = record { low = lit< tt; tells = λ v p. aggregate-case f h same v.1.0 v.1.1.0 p }

pub count-told : FormTold (what.Reserved words.Count) c.count
count-told = record { low = lit< tt; tells = λ v p. by_case v.1 p }
  where
    by_case : (v : Of c.count_rest) (p : Place) → (spelled (c.count_of v p) ≡ k.key words.Count & k.open_paren & value_spelled c.count_rest v) × (placeless (c.count_of v p) ≡ c.count_of (value_placeless c.count_rest v) nowhere)
    by_case (inl q) p = (folded-CountAll spelling p, folded-CountAll baring p)
    by_case (inr v) p = aggregate-case aggregate_word.Count window_word.Count refl v.0 v.1.0 p

-- ---- rulesets and checks

pub check_datapoint-told : FormTold (what.Reserved words.CheckDatapoint) c.check_datapoint
check_datapoint-told = record {
  low = lit< tt;
  tells = λ v p. (
    folded-CheckDatapoint spelling v.1.0 v.1.1.1.0.value v.1.1.1.0.place (option_map (chosen rows_outputs) v.1.1.1.1.0) p
        ∙ ap (λ (x : Kinds). k.key words.CheckDatapoint & k.open_paren & spelled v.1.0 & k.comma & k.name v.1.1.1.0.value & x & k.close_paren) (optional-told _ _ _ _ (choice-told rows_outputs) v.1.1.1.1.0),
    folded-CheckDatapoint baring v.1.0 v.1.1.1.0.value v.1.1.1.0.place (option_map (chosen rows_outputs) v.1.1.1.1.0) p
        ∙ ap (λ (x : Option RowsOutput). tree.CheckDatapoint (placeless v.1.0) v.1.1.1.0.value nowhere x nowhere) (option-same _ _ _ (choice-told rows_outputs) v.1.1.1.1.0),
  );
}

pub hierarchy-told : FormTold (what.Reserved words.Hierarchy) c.hierarchy
hierarchy-told = record {
  low = lit< tt;
  tells = λ v p.
      let w : Text = v.1.1.1.0.value in
      let q : Place = v.1.1.1.0.place in
      let x = v.1.1.1.1 in (
        folded-Hierarchy spelling v.1.0 w q (option_map (λ u. u.value) x.0) (option_map (chosen modes) x.1.0) (option_map (chosen hierarchy_inputs) x.1.1.0) (option_map (chosen hierarchy_outputs) x.1.1.1.0) p
            ∙ ap (λ (ks : Kinds). k.key words.Hierarchy & k.open_paren & spelled v.1.0 & k.comma & k.name w & ks)
            (next (optional-map (λ (u : Text). k.key words.Rule & k.name u) (λ (u : At Text). u.value) x.0) (next (optional-told _ _ _ _ (choice-told modes) x.1.0) (next (optional-told _ _ _ _ (choice-told hierarchy_inputs) x.1.1.0) (next (optional-told _ _ _ _ (choice-told hierarchy_outputs) x.1.1.1.0) refl)))),
        folded-Hierarchy baring v.1.0 w q (option_map (λ u. u.value) x.0) (option_map (chosen modes) x.1.0) (option_map (chosen hierarchy_inputs) x.1.1.0) (option_map (chosen hierarchy_outputs) x.1.1.1.0) p
            ∙ ap_four (λ (a : Option Text) (m : Option Mode) (i : Option HierarchyInput) (o : Option HierarchyOutput). tree.Hierarchy (placeless v.1.0) w nowhere a m i o nowhere)
            (option-same _ _ _ name-told x.0) (option-same _ _ _ (choice-told modes) x.1.0) (option-same _ _ _ (choice-told hierarchy_inputs) x.1.1.0) (option-same _ _ _ (choice-told hierarchy_outputs) x.1.1.1.0),
      );
}

component-told : Told (word words.Rule ▸ name) (λ w. w.1.value) (λ w. k.key words.Rule & k.name w) same_word
component-told = behind-told (key words.Rule) name (λ w. w.value) k.name same_word name-told

pub check_hierarchy-told : FormTold (what.Reserved words.CheckHierarchy) c.check_hierarchy
check_hierarchy-told = record {
  low = lit< tt;
  tells = λ v p.
      let w : Text = v.1.1.1.0.value in
      let q : Place = v.1.1.1.0.place in
      let x = v.1.1.1.1 in (
        folded-CheckHierarchy spelling v.1.0 w q (option_map (λ u. u.1.value) x.0) (option_map (chosen modes) x.1.0) (option_map (chosen check_inputs) x.1.1.0) (option_map (chosen rows_outputs) x.1.1.1.0) p
            ∙ ap (λ (ks : Kinds). k.key words.CheckHierarchy & k.open_paren & spelled v.1.0 & k.comma & k.name w & ks)
            (next (optional-told _ _ _ _ component-told x.0) (next (optional-told _ _ _ _ (choice-told modes) x.1.0) (next (optional-told _ _ _ _ (choice-told check_inputs) x.1.1.0) (next (optional-told _ _ _ _ (choice-told rows_outputs) x.1.1.1.0) refl)))),
        folded-CheckHierarchy baring v.1.0 w q (option_map (λ u. u.1.value) x.0) (option_map (chosen modes) x.1.0) (option_map (chosen check_inputs) x.1.1.0) (option_map (chosen rows_outputs) x.1.1.1.0) p
            ∙ ap_four (λ (a : Option Text) (m : Option Mode) (i : Option CheckInput) (o : Option RowsOutput). tree.CheckHierarchy (placeless v.1.0) w nowhere a m i o nowhere)
            (option-same _ _ _ component-told x.0) (option-same _ _ _ (choice-told modes) x.1.0) (option-same _ _ _ (choice-told check_inputs) x.1.1.0) (option-same _ _ _ (choice-told rows_outputs) x.1.1.1.0),
      );
}

pub code-told : Told (word words.Errorcode ▸ text) (λ w. w.1.value) (λ t. k.key words.Errorcode & k.text t) same_word
code-told = record { tells = λ v. (refl, refl) }

pub level-told : Told (word words.Errorlevel ▸ g.signed_integer) (λ w. g.signed_of w.1) (λ z. k.key words.Errorlevel & k.signed_integer z) same_word
level-told = behind-told (key words.Errorlevel) g.signed_integer g.signed_of k.signed_integer same_word signed_integer-told

imbalance-told : Told (word words.Imbalance ▸ expr 0) second (λ e. k.key words.Imbalance & spelled e) placeless
imbalance-told = behind-told (key words.Imbalance) (expr 0) (λ e. e) spelled placeless (expr-told 0)

pub check-told : FormTold (what.Reserved words.Check) c.check
check-told = record {
  low = lit< tt;
  tells = λ v p.
      let x = v.1.1 in (
        folded-Check spelling v.1.0 (option_map (λ w. w.1.value) x.0) (option_map (λ w. g.signed_of w.1) x.1.0) (option_map second x.1.1.0) (option_map (chosen check_outputs) x.1.1.1.0) p
            ∙ ap (λ (ks : Kinds). k.key words.Check & k.open_paren & spelled v.1.0 & ks)
            (next (optional-told _ _ _ _ code-told x.0) (next (optional-told _ _ _ _ level-told x.1.0)
            (next (optional-map (λ (ks : Kinds). k.key words.Imbalance & ks) spelled (option_map second x.1.1.0) ∙ optional-told _ _ _ _ imbalance-told x.1.1.0) (next (optional-told _ _ _ _ (choice-told check_outputs) x.1.1.1.0) refl)))),
        folded-Check baring v.1.0 (option_map (λ w. w.1.value) x.0) (option_map (λ w. g.signed_of w.1) x.1.0) (option_map second x.1.1.0) (option_map (chosen check_outputs) x.1.1.1.0) p
            ∙ ap_four (λ (a : Option Text) (m : Option ℤ) (i : Option Expr) (o : Option CheckOutput). tree.Check (placeless v.1.0) a m i o nowhere)
            (option-same _ _ _ code-told x.0) (option-same _ _ _ level-told x.1.0) (option-plain _ _ _ _ imbalance-told x.1.1.0) (option-same _ _ _ (choice-told check_outputs) x.1.1.1.0),
      );
}
