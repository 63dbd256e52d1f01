-- The aliases that operands of a join have of their own.
use Rattle.std.proofs.Common.{◌≡◌, ℕ, List, Option, Some, None, refl, ap, sym, ◌∙◌}
use Rattle.vtl_values.specs.declared.place.Place.{Place}
use Rattle.vtl_syntax.specs.declared.expr.Clause.{Clause}
use Rattle.vtl_syntax.specs.declared.expr.Clause.TheOpen.{Expr-F}
use Rattle.vtl_syntax.specs.declared.expr.Expr.{Expr, out-Expr, roll-Expr, roll-out-Expr, out-roll-Expr}
use Rattle.vtl_syntax.specs.declared.expr.Expr.TheVariants as tree
use Rattle.vtl_syntax.specs.declared.expr.Groups.{Groups}
use Rattle.vtl_syntax.specs.declared.expr.Item.{Item}
use Rattle.vtl_syntax.specs.declared.expr.JoinOperand.{JoinOperand}
use Rattle.vtl_syntax.specs.declared.expr.SubstrRange.{SubstrRange}
use Rattle.data_set_trees.specs.Joins.{own_name}

abbrev name_in : Expr-F Clause Expr Groups Item JoinOperand SubstrRange → Option (List ℕ)
name_in (Expr-F.Name name place) = Some name
name_in _ = None

name_is : (e : Expr) → own_name e ≡ name_in (out-Expr e)
name_is e = refl

pub named : (name : List ℕ) (place : Place) (e : Expr) → e ≡ tree.Name name place → Some name ≡ own_name e
named name place e is =
    sym (ap own_name (is ∙ sym (tree.rolls-Name name place)) ∙ name_is (roll-Expr (Expr-F.Name name place)) ∙ ap name_in (out-roll-Expr (Expr-F.Name name place)))

unnamed_form : (x : Expr-F Clause Expr Groups Item JoinOperand SubstrRange) (e : Expr) → roll-Expr x ≡ e → ((name : List ℕ) (place : Place) → e ≡ tree.Name name place → ⊥) → None ≡ name_in x
unnamed_form (Expr-F.Name name place) e is other = absurd (other name place (sym is ∙ tree.rolls-Name name place))
unnamed_form _ e is other = refl

-- any other expression has none
pub unnamed : (e : Expr) → ((name : List ℕ) (place : Place) → e ≡ tree.Name name place → ⊥) → None ≡ own_name e
unnamed e other = unnamed_form (out-Expr e) e (roll-out-Expr e) other ∙ sym (name_is e)
