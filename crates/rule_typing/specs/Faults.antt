-- Faults that are told together.
use Rattle.std.specs.Prelude.{◌≡◌, [], ◌∷◌, nat_le, Option, Some, None, Result, Ok, Err, if◌then◌else◌}
use Rattle.vtl_values.specs.declared.place.Place.{Place}
use Rattle.scalar_trees.specs.declared.typing.stop.Fault.{Fault}
use Rattle.scalar_trees.specs.declared.typing.stop.Refusal.{Refusal}
use Rattle.data_set_trees.specs.rules.Rules.{fault_in, fault_number, value_or}

-- the first of two in the order of faults
abbrev pub first_of : Fault → Fault → Fault
first_of f g = if nat_le (fault_number f) (fault_number g) then f else g

-- the same, where there are faults
abbrev pub earlier : Option Fault → Option Fault → Option Fault
earlier None other = other
earlier (Some f) None = Some f
earlier (Some f) (Some g) = Some (first_of f g)

-- what was answered, or the fault of its refusal
abbrev pub Tells : {A : Type 0} → Result A Refusal → Result A Fault → Type 0
Tells meaning (Ok value) = meaning ≡ Ok value
Tells meaning (Err fault) = fault_in meaning ≡ fault ∷ []

-- the fault at the word of the call, if there is one
abbrev pub unless_found : Place → Option Fault → Result (Unit {0}) Refusal
unless_found place fault = value_or place tt fault
