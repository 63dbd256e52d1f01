-- Steps of typing, each of which may refuse; the first refusal ends the typing.
use Rattle.std.specs.Prelude.{◌≡◌, Bool, Option, Some, None, Result, Ok, Err, ⊤, if◌then◌else◌}
use Rattle.vtl_values.specs.declared.place.Place.{Place}
use Rattle.scalar_trees.specs.declared.typing.stop.Fault.{Fault}
use Rattle.scalar_trees.specs.declared.typing.stop.Refusal.{Refusal}
use Rattle.scalar_trees.specs.declared.typing.stop.TypeStop.{TypeStop}
use Rattle.scalar_trees.specs.declared.typing.stop.TypeStop.TheVariants.{Refused, Memory}

-- a step, and then the next one with what it gave
infixl 10 ◌>>=◌
abbrev pub ◌>>=◌ : {A B : Type 0} → Result A Refusal → (A → Result B Refusal) → Result B Refusal
(Ok value) >>= next = next value
(Err refusal) >>= next = Err refusal

abbrev pub refused : {A : Type 0} → Fault → Place → Result A Refusal
refused fault place = Err (record { fault = fault; place = place })

-- what is there, and where nothing is the fault
abbrev pub or_refused : {A : Type 0} → Option A → Fault → Place → Result A Refusal
or_refused (Some value) fault place = Ok value
or_refused None fault place = refused fault place

-- what is demanded at a place, else the fault
abbrev pub demanded : Bool → Fault → Place → Result (Unit {0}) Refusal
demanded holds fault place = if holds then Ok tt else refused fault place

-- a stop is this refusal, or want of memory
abbrev pub Refuses : {A : Type 0} → Result A Refusal → TypeStop → Type 0
Refuses meaning (Refused refusal) = meaning ≡ Err refusal
Refuses meaning Memory = ⊤
