-- Scalar operators by themselves, without their operands (docs/language.md, "Scalar operators").
use Rattle.std.specs.Prelude.{ℕ, suc, Bool, true, false, List, [], ◌∷◌, Option, Some, None}
use Rattle.vtl_values.specs.declared.place.Place.{Place}
use Rattle.scalar_trees.specs.declared.operators.UnaryOperator.{UnaryOperator}
use Rattle.scalar_trees.specs.declared.operators.UnaryOperator.TheVariants as unary
use Rattle.scalar_trees.specs.declared.operators.BinaryOperator.{BinaryOperator}
use Rattle.scalar_trees.specs.declared.operators.BinaryOperator.TheVariants as binary
use Rattle.scalar_trees.specs.declared.typing.stop.Fault.TheVariants.{WrongStructure}
use Rattle.scalar_trees.specs.declared.typing.typed.Typed.{Typed}
use Rattle.scalar_trees.specs.typing.Scalars.{Answer, unary_typed, binary_typed, nvl_typed, if_typed, in_typed, between_typed, round_typed, substr_typed, replace_typed, matches_typed}
use Rattle.scalar_trees.specs.typing.Steps.{refused}
use Rattle.data_set_trees.specs.declared.form.Form.{Form}
use Rattle.data_set_trees.specs.declared.form.Form.TheVariants as form
use Rattle.data_set_trees.specs.Components.{BOOL_VAR, INT_VAR, STRING_VAR}

-- the first of the operands that may be left out, and the second
abbrev pub first : List Typed → Option Typed
first [] = None
first (a ∷ as_) = Some a

abbrev pub second : List Typed → Option Typed
second [] = None
second (a ∷ others) = first others

-- The operator on these operands. The grammar gives each its number of operands, so the last row doesn't come.
abbrev pub formed : Form → Place → List Typed → Answer
formed (form.Unary operator) place (a ∷ []) = unary_typed operator place a
formed (form.Binary operator) place (a ∷ b ∷ []) = binary_typed operator place a b
formed form.Nvl place (a ∷ b ∷ []) = nvl_typed place a b
formed form.If place (c ∷ a ∷ b ∷ []) = if_typed place c a b
formed (form.In sign set) place (a ∷ []) = in_typed sign set place a
formed (form.Between low high) place (a ∷ []) = between_typed low high place a
formed (form.Round function digits) place (a ∷ []) = round_typed function digits place a
formed form.Substr place (a ∷ others) = substr_typed place a (first others) (second others)
formed form.Replace place (a ∷ pattern ∷ others) = replace_typed place a pattern (first others)
formed (form.Matches pattern) place (a ∷ []) = matches_typed pattern place a
formed _ place _ = refused WrongStructure place

-- it may stand on two data sets
abbrev pub is_of_two : Form → Bool
is_of_two (form.Binary operator) = true
is_of_two form.Nvl = true
is_of_two _ = false

-- ---- The basic type: integers and numbers are of one. An operator that changes it names its measure by what it gives.

abbrev pub unary_name : UnaryOperator → Option (List ℕ)
unary_name unary.Length = Some INT_VAR
unary_name unary.Isnull = Some BOOL_VAR
unary_name _ = None

abbrev pub binary_name : BinaryOperator → Option (List ℕ)
binary_name binary.Instr = Some INT_VAR
binary_name binary.Equal = Some BOOL_VAR
binary_name binary.NotEqual = Some BOOL_VAR
binary_name binary.Less = Some BOOL_VAR
binary_name binary.Greater = Some BOOL_VAR
binary_name binary.AtMost = Some BOOL_VAR
binary_name binary.AtLeast = Some BOOL_VAR
binary_name _ = None

-- the name, where it changes the basic type of the operand at this place
abbrev pub changed_name : Form → ℕ → Option (List ℕ)
changed_name (form.Unary operator) at = unary_name operator
changed_name (form.Binary operator) at = binary_name operator
changed_name (form.In sign set) at = Some BOOL_VAR
changed_name (form.Between low high) at = Some BOOL_VAR
changed_name (form.Matches pattern) at = Some BOOL_VAR
changed_name form.Substr (suc at) = Some STRING_VAR
changed_name _ at = None
