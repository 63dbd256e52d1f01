-- What stands for the data sets among operands, one operand after the other.
use Rattle.std.specs.Prelude.{List, drop, Option, None, unwrap_or, slice_get}
use Rattle.scalar_trees.specs.declared.typing.scope.Slot.{Slot}
use Rattle.scalar_trees.specs.declared.typing.typed.Typed.{Typed}
use Rattle.data_set_trees.specs.declared.operand.Operand.{Operand}
use Rattle.data_set_trees.specs.declared.operand.Operand.TheVariants as operand
use Rattle.data_set_trees.specs.Lifted.{stands}

abbrev pub first_slot : List (Option Slot) → Option Slot
first_slot slots = unwrap_or (slice_get slots 0) None

-- the operand, or what stands for it
abbrev pub standing : List (Option Slot) → Operand → Typed
standing slots (operand.Scalar t) = t
standing slots (operand.DataSet d) = stands (first_slot slots)

-- what is left for the operands after it
abbrev pub slots_after : List (Option Slot) → Operand → List (Option Slot)
slots_after slots (operand.Scalar t) = slots
slots_after slots (operand.DataSet d) = drop 1 slots
