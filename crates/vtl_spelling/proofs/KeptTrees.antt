-- What spells a tree doesn't depend on its places.
use Rattle.std.proofs.Common.{◌≡◌, Option, refl, sym, ap, subst, ◌∙◌}
use Rattle.std.proofs.Math.Path.{ap₂}
use Rattle.std.specs.Prelude.{option_map}
use Rattle.vtl_syntax.specs.declared.expr.Expr.{Expr, roll-Expr, ind-Expr}
use Rattle.vtl_syntax.specs.declared.expr.Clause.{Clause, roll-Clause}
use Rattle.vtl_syntax.specs.declared.expr.Groups.{Groups, roll-Groups, map-Groups, rolls-Groups'}
use Rattle.vtl_syntax.specs.declared.expr.Item.{Item, roll-Item, map-Item, rolls-Item'}
use Rattle.vtl_syntax.specs.declared.expr.JoinOperand.{JoinOperand, roll-JoinOperand, map-JoinOperand, rolls-JoinOperand'}
use Rattle.vtl_syntax.specs.declared.expr.SubstrRange.{SubstrRange, roll-SubstrRange, map-SubstrRange, rolls-SubstrRange'}
use Rattle.vtl_syntax.specs.declared.expr.Clause.TheOpen.{Expr-F, Clause-F, Groups-F, Item-F, JoinOperand-F, SubstrRange-F}
use Rattle.vtl_spelling.specs.Kinds.{Kinds}
use Rattle.vtl_spelling.specs.Trees.{groups_step, item_step, operand_step, range_step, spelled, groups_spelled, item_spelled, operand_spelled, range_spelled}
use Rattle.vtl_spelling.specs.Placeless.{nowhere, grouping_placeless, placeless, groups_placeless, item_placeless, operand_placeless, range_placeless}
use Rattle.vtl_syntax.proofs.Maps.{groups_maps, range_maps}
use Rattle.vtl_spelling.proofs.Folds.{groups_folded, item_folded, operand_folded, range_folded}
use Rattle.vtl_spelling.proofs.ClausesTold.{spelling, baring}
use Rattle.vtl_spelling.proofs.Kept.{ClauseSuch, ExprSuch, GroupsSuch, ItemSuch, OperandSuch, RangeSuch, fst, option-kept, ExprKept, ClauseKept, expr_kept, clause_kept}

-- ---- what stands in expressions and clauses

abbrev GroupsKept : Groups → Type 0
GroupsKept x = groups_spelled (groups_placeless x) ≡ groups_spelled x

groups_kept : (y : Groups-F ClauseSuch ExprSuch GroupsSuch ItemSuch OperandSuch RangeSuch) → GroupsKept (roll-Groups (map-Groups ClauseSuch ExprSuch GroupsSuch ItemSuch OperandSuch RangeSuch Clause Expr Groups Item JoinOperand SubstrRange fst fst fst fst fst fst y))
groups_kept y =
    let r : Groups-F Clause Expr Groups Item JoinOperand SubstrRange = record { grouping = y.grouping; having = option_map fst y.having; place = y.place } in
    let t : Groups = record { grouping = y.grouping; having = option_map fst y.having; place = y.place } in
    let kept : GroupsKept t = ap groups_spelled (groups_folded baring y.grouping (option_map fst y.having) y.place) ∙ groups_folded spelling (grouping_placeless y.grouping) (option_map placeless (option_map fst y.having)) nowhere ∙ ap (λ (k : Option Kinds). groups_step (record { grouping = y.grouping; having = k; place = y.place })) (option-kept placeless spelled y.having) ∙ sym (groups_folded spelling y.grouping (option_map fst y.having) y.place) in
    subst (λ (z : Groups-F Clause Expr Groups Item JoinOperand SubstrRange). GroupsKept (roll-Groups z)) (sym (groups_maps ClauseSuch ExprSuch GroupsSuch ItemSuch OperandSuch RangeSuch Clause Expr Groups Item JoinOperand SubstrRange fst fst fst fst fst fst y.grouping y.having y.place)) (subst GroupsKept (sym (rolls-Groups' r)) kept)

abbrev ItemKept : Item → Type 0
ItemKept x = item_spelled (item_placeless x) ≡ item_spelled x

item_kept : (y : Item-F ClauseSuch ExprSuch GroupsSuch ItemSuch OperandSuch RangeSuch) → ItemKept (roll-Item (map-Item ClauseSuch ExprSuch GroupsSuch ItemSuch OperandSuch RangeSuch Clause Expr Groups Item JoinOperand SubstrRange fst fst fst fst fst fst y))
item_kept y =
    let r : Item-F Clause Expr Groups Item JoinOperand SubstrRange = record { role = y.role; name = y.name; expr = y.expr.0; place = y.place } in
    let t : Item = record { role = y.role; name = y.name; expr = y.expr.0; place = y.place } in
    let kept : ItemKept t = ap item_spelled (item_folded baring y.role y.name y.expr.0 y.place) ∙ item_folded spelling y.role y.name (placeless y.expr.0) nowhere ∙ ap (λ (k : Kinds). item_step (record { role = y.role; name = y.name; expr = k; place = y.place })) y.expr.1 ∙ sym (item_folded spelling y.role y.name y.expr.0 y.place) in
    subst (λ (z : Item-F Clause Expr Groups Item JoinOperand SubstrRange). ItemKept (roll-Item z)) (sym refl) (subst ItemKept (sym (rolls-Item' r)) kept)

abbrev JoinOperandKept : JoinOperand → Type 0
JoinOperandKept x = operand_spelled (operand_placeless x) ≡ operand_spelled x

operand_kept : (y : JoinOperand-F ClauseSuch ExprSuch GroupsSuch ItemSuch OperandSuch RangeSuch) → JoinOperandKept (roll-JoinOperand (map-JoinOperand ClauseSuch ExprSuch GroupsSuch ItemSuch OperandSuch RangeSuch Clause Expr Groups Item JoinOperand SubstrRange fst fst fst fst fst fst y))
operand_kept y =
    let r : JoinOperand-F Clause Expr Groups Item JoinOperand SubstrRange = record { expr = y.expr.0; alias = y.alias; place = y.place } in
    let t : JoinOperand = record { expr = y.expr.0; alias = y.alias; place = y.place } in
    let kept : JoinOperandKept t = ap operand_spelled (operand_folded baring y.expr.0 y.alias y.place) ∙ operand_folded spelling (placeless y.expr.0) y.alias nowhere ∙ ap (λ (k : Kinds). operand_step (record { expr = k; alias = y.alias; place = y.place })) y.expr.1 ∙ sym (operand_folded spelling y.expr.0 y.alias y.place) in
    subst (λ (z : JoinOperand-F Clause Expr Groups Item JoinOperand SubstrRange). JoinOperandKept (roll-JoinOperand z)) (sym refl) (subst JoinOperandKept (sym (rolls-JoinOperand' r)) kept)

abbrev SubstrRangeKept : SubstrRange → Type 0
SubstrRangeKept x = range_spelled (range_placeless x) ≡ range_spelled x

range_kept : (y : SubstrRange-F ClauseSuch ExprSuch GroupsSuch ItemSuch OperandSuch RangeSuch) → SubstrRangeKept (roll-SubstrRange (map-SubstrRange ClauseSuch ExprSuch GroupsSuch ItemSuch OperandSuch RangeSuch Clause Expr Groups Item JoinOperand SubstrRange fst fst fst fst fst fst y))
range_kept y =
    let r : SubstrRange-F Clause Expr Groups Item JoinOperand SubstrRange = record { start = y.start.0; length = option_map fst y.length; place = y.place } in
    let t : SubstrRange = record { start = y.start.0; length = option_map fst y.length; place = y.place } in
    let kept : SubstrRangeKept t = ap range_spelled (range_folded baring y.start.0 (option_map fst y.length) y.place) ∙ range_folded spelling (placeless y.start.0) (option_map placeless (option_map fst y.length)) nowhere ∙ ap₂ (λ (k : Kinds) (l : Option Kinds). range_step (record { start = k; length = l; place = y.place })) y.start.1 (option-kept placeless spelled y.length) ∙ sym (range_folded spelling y.start.0 (option_map fst y.length) y.place) in
    subst (λ (z : SubstrRange-F Clause Expr Groups Item JoinOperand SubstrRange). SubstrRangeKept (roll-SubstrRange z)) (sym (range_maps ClauseSuch ExprSuch GroupsSuch ItemSuch OperandSuch RangeSuch Clause Expr Groups Item JoinOperand SubstrRange fst fst fst fst fst fst y.start y.length y.place)) (subst SubstrRangeKept (sym (rolls-SubstrRange' r)) kept)

-- ---- whole expressions

pub spelled-placeless : (e : Expr) → spelled (placeless e) ≡ spelled e
spelled-placeless e = ind-Expr ClauseKept ExprKept GroupsKept ItemKept JoinOperandKept SubstrRangeKept
    (λ x y is. subst (λ (z : Clause-F Clause Expr Groups Item JoinOperand SubstrRange). ClauseKept (roll-Clause z)) is (clause_kept y))
    (λ x y is. subst (λ (z : Expr-F Clause Expr Groups Item JoinOperand SubstrRange). ExprKept (roll-Expr z)) is (expr_kept y))
    (λ x y is. subst (λ (z : Groups-F Clause Expr Groups Item JoinOperand SubstrRange). GroupsKept (roll-Groups z)) is (groups_kept y))
    (λ x y is. subst (λ (z : Item-F Clause Expr Groups Item JoinOperand SubstrRange). ItemKept (roll-Item z)) is (item_kept y))
    (λ x y is. subst (λ (z : JoinOperand-F Clause Expr Groups Item JoinOperand SubstrRange). JoinOperandKept (roll-JoinOperand z)) is (operand_kept y))
    (λ x y is. subst (λ (z : SubstrRange-F Clause Expr Groups Item JoinOperand SubstrRange). SubstrRangeKept (roll-SubstrRange z)) is (range_kept y)) e
