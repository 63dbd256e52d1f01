-- Whether the kinds of operands fit, one operand after the other.
use Rattle.std.specs.Prelude.{Bool, true, ◌&&◌, ◌++◌, List, [], ◌∷◌, Option, Some, None}
use Rattle.std.specs.List.{list_all}
use Rattle.vtl_values.specs.declared.place.Place.{Place}
use Rattle.scalar_trees.specs.declared.typing.scope.Slot.{Slot}
use Rattle.data_set_trees.specs.declared.form.Form.{Form}
use Rattle.data_set_trees.specs.declared.measure.Measure.{Measure}
use Rattle.data_set_trees.specs.declared.operand.Operand.{Operand}
use Rattle.data_set_trees.specs.declared.operand.Operand.TheVariants as operand
use Rattle.data_set_trees.specs.Components.{measures}
use Rattle.data_set_trees.specs.Lifted.{slot_of, kinds_fit, answer}

-- this component stands after these
abbrev pub fits_after : Form → Place → List Operand → List (Option Slot) → Slot → Bool
fits_after form place operands before slot = kinds_fit (answer form place operands (before ++ Some slot ∷ []))

abbrev pub measures_fit : Form → Place → List Operand → List (Option Slot) → List Measure → Bool
measures_fit form place operands before ms = list_all (λ (m : Measure). fits_after form place operands before (slot_of m)) ms

-- each measure of a data set by itself
abbrev pub operand_fits : Form → Place → List Operand → List (Option Slot) → Operand → Bool
operand_fits form place operands before (operand.Scalar t) = true
operand_fits form place operands before (operand.DataSet d) = measures_fit form place operands before (measures d.structure)

-- what stands before the next operand
abbrev pub before_next : List (Option Slot) → Operand → List (Option Slot)
before_next before (operand.Scalar t) = before
before_next before (operand.DataSet d) = before ++ None ∷ []

abbrev pub operands_fit : Form → Place → List Operand → List (Option Slot) → List Operand → Bool
operands_fit form place operands before [] = true
operands_fit form place operands before (o ∷ os) = operand_fits form place operands before o && operands_fit form place operands (before_next before o) os
