-- Operators of one and of two operands.
use Rattle.std.proofs.Common.{◌≡◌, List, [], ◌∷◌, Option, Some, None, Ok, refl, ap, ◌∙◌}
use Rattle.std.specs.Prelude.{is_some}
use Rattle.vtl_values.specs.declared.kind.Kind.{Kind}
use Rattle.vtl_values.specs.declared.place.Place.{Place}
use Rattle.scalar_trees.specs.Kinds.{agreed, unary_takes, unary_gives, binary_takes, binary_gives}
use Rattle.scalar_trees.specs.declared.operators.BinaryOperator.{BinaryOperator}
use Rattle.scalar_trees.specs.declared.operators.UnaryOperator.{UnaryOperator}
use Rattle.scalar_trees.specs.declared.tree.CheckedExpr.TheVariants as tree
use Rattle.scalar_trees.specs.declared.typing.scope.Slot.{Slot}
use Rattle.scalar_trees.specs.declared.typing.stop.Fault.TheVariants.{WrongType}
use Rattle.scalar_trees.specs.declared.typing.typed.Typed.{Typed}
use Rattle.scalar_trees.specs.typing.Scalars.{Agreed, unary_typed, binary_typed, typed_as, widened}
use Rattle.scalar_trees.specs.typing.Steps.{◌>>=◌, or_refused}
use Rattle.data_set_trees.specs.declared.operand.Operand.{Operand}
use Rattle.data_set_trees.specs.declared.operand.Operand.TheVariants as operand
use Rattle.data_set_trees.specs.declared.form.Form.TheVariants as form
use Rattle.data_set_trees.specs.Forms.{formed}
use Rattle.data_set_trees.specs.Lifted.{answer, kinds_fit, stands, with_slots}
use Rattle.data_set_typing.specs.Slots.{standing, slots_after}

one_stands : (slots : List (Option Slot)) (o : Operand) → with_slots slots (o ∷ []) ≡ standing slots o ∷ []
one_stands slots (operand.Scalar t) = refl
one_stands [] (operand.DataSet d) = refl
one_stands (slot ∷ slots) (operand.DataSet d) = refl

-- what stands for two operands
pub two_stand : (slots : List (Option Slot)) (a b : Operand) → with_slots slots (a ∷ b ∷ []) ≡ standing slots a ∷ standing (slots_after slots a) b ∷ []
two_stand slots (operand.Scalar t) b = ap (λ (ts : List Typed). t ∷ ts) (one_stands slots b)
two_stand [] (operand.DataSet d) b = ap (λ (ts : List Typed). stands None ∷ ts) (one_stands [] b)
two_stand (slot ∷ slots) (operand.DataSet d) b = ap (λ (ts : List Typed). stands slot ∷ ts) (one_stands slots b)

-- ---- of one

unary_fits_as_found : (kind : Option Kind) (place : Place) (g : Kind → Typed) → kinds_fit (or_refused kind WrongType place >>= (λ k. Ok (g k))) ≡ is_some kind
unary_fits_as_found (Some kind) place g = refl
unary_fits_as_found None place g = refl

-- what an operator of one operand is where these stand for its data sets
pub answer_of_one : (operator : UnaryOperator) (place : Place) (a : Operand) (slots : List (Option Slot))
    → answer (form.Unary operator) place (a ∷ []) slots ≡ unary_typed operator place (standing slots a)
answer_of_one operator place a slots = ap (formed (form.Unary operator) place) (one_stands slots a)

-- its kind fits exactly where it takes a kind at which it may stand
pub fits_when_taken : (operator : UnaryOperator) (place : Place) (a : Operand) (slots : List (Option Slot))
    → kinds_fit (answer (form.Unary operator) place (a ∷ []) slots) ≡ is_some (agreed (unary_takes operator) ((standing slots a).kind ∷ []))
fits_when_taken operator place a slots =
    ap kinds_fit (answer_of_one operator place a slots)
    ∙ unary_fits_as_found (agreed (unary_takes operator) ((standing slots a).kind ∷ [])) place (λ kind. typed_as (unary_gives operator kind) (tree.Unary operator (widened kind (standing slots a))))

-- ---- of two

-- an answer that is refused for the kinds alone
fits_as_found : (kind : Option Kind) (place : Place) (f : Kind → Agreed) (g : Agreed → Typed)
    → kinds_fit ((or_refused kind WrongType place >>= (λ k. Ok (f k))) >>= (λ j. Ok (g j))) ≡ is_some kind
fits_as_found (Some kind) place f g = refl
fits_as_found None place f g = refl

fit_when_agreed : (operator : BinaryOperator) (place : Place) (a b : Typed)
    → kinds_fit (binary_typed operator place a b) ≡ is_some (agreed (binary_takes operator) (a.kind ∷ b.kind ∷ []))
fit_when_agreed operator place a b =
    fits_as_found (agreed (binary_takes operator) (a.kind ∷ b.kind ∷ [])) place
    (λ kind. record { kind = kind; left = widened kind a; right = widened kind b })
    (λ j. typed_as (binary_gives operator j.kind) (tree.Binary operator j.left j.right))

-- what an operator of two operands is where these stand for its data sets
pub answer_of_two : (operator : BinaryOperator) (place : Place) (a b : Operand) (slots : List (Option Slot))
    → answer (form.Binary operator) place (a ∷ b ∷ []) slots ≡ binary_typed operator place (standing slots a) (standing (slots_after slots a) b)
answer_of_two operator place a b slots = ap (formed (form.Binary operator) place) (two_stand slots a b)

-- its kinds fit exactly where it takes a kind at which both may stand
pub fits_when_agreed : (operator : BinaryOperator) (place : Place) (a b : Operand) (slots : List (Option Slot))
    → kinds_fit (answer (form.Binary operator) place (a ∷ b ∷ []) slots) ≡ is_some (agreed (binary_takes operator) ((standing slots a).kind ∷ (standing (slots_after slots a) b).kind ∷ []))
fits_when_agreed operator place a b slots =
    ap kinds_fit (answer_of_two operator place a b slots) ∙ fit_when_agreed operator place (standing slots a) (standing (slots_after slots a) b)
