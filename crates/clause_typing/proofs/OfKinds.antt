-- Whole expressions are of their kinds.
use Rattle.std.proofs.Common.{◌≡◌, refl, Bool, true, false, ◌&&◌, cond, Option, Some, None, Ok, ap, subst, ◌∙◌}
use Rattle.std.specs.Prelude.{unwrap_or}
use Rattle.vtl_values.specs.declared.kind.Kind.{Kind}
use Rattle.vtl_values.specs.declared.kind.Kind.TheVariants.{Text}
use Rattle.vtl_values.specs.declared.place.Place.{Place}
use Rattle.scalar_trees.specs.Kinds.{may_stand}
use Rattle.scalar_trees.specs.declared.tree.CheckedExpr.{CheckedExpr}
use Rattle.scalar_trees.specs.WellTyped.{Kinds, is_exactly, is_of_kind}
use Rattle.scalar_trees.specs.declared.typing.stop.Fault.TheVariants.{WrongType}
use Rattle.scalar_trees.specs.declared.typing.typed.Typed.{Typed}
use Rattle.scalar_trees.specs.typing.Scalars.{widened, wanted}
use Rattle.scalar_trees.specs.typing.Sound.{IsTyped}
use Rattle.scalar_trees.specs.typing.Steps.{◌>>=◌, or_refused}
use Rattle.scalar_trees.proofs.typing.Sound.{is_kind-refl, exact-own, widened-exact}

-- what is wanted is of that kind
pub wanted_is : (kinds : Kinds) (place : Place) (kind : Kind) (a : Typed) (tree : CheckedExpr) → IsTyped kinds a → wanted place kind a ≡ Ok tree → is_of_kind kinds tree kind ≡ true
wanted_is kinds place kind a tree typed answer = by_kind (may_stand kind a.kind) refl answer
  where
    by_kind : (b : Bool) → may_stand kind a.kind ≡ b → (or_refused (cond (b && true) (Some kind) None) WrongType place >>= (λ r. Ok (widened r a))) ≡ Ok tree → is_of_kind kinds tree kind ≡ true
    by_kind true stands h =
        let same : widened kind a ≡ tree = cc in
        subst (λ (t : CheckedExpr). is_of_kind kinds t kind ≡ true) same (ap (λ (f : Kind → Bool). f kind) (widened-exact kinds kind a.kind a.tree typed stands) ∙ exact-own kind a.kind)
    by_kind false stands h = cc

own_kind : (kind : Option Kind) → is_exactly kind (unwrap_or kind Text) ≡ true
own_kind None = refl
own_kind (Some kind) = is_kind-refl kind

-- a whole expression is of its kind, a string where it is null
pub whole_is : (kinds : Kinds) (a : Typed) (kind : Kind) → kind ≡ unwrap_or a.kind Text → IsTyped kinds a → is_of_kind kinds a.tree kind ≡ true
whole_is kinds a kind is typed = ap (is_of_kind kinds a.tree) is ∙ ap (λ (f : Kind → Bool). f (unwrap_or a.kind Text)) typed ∙ own_kind a.kind
