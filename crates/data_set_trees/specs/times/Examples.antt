-- Small data sets, on which operators on time series are tried: amounts by name and period.
use Rattle.std.specs.Prelude.{◌≡◌, List, [], ◌∷◌, codes, Ok, Err}
use Rattle.vtl_values.specs.declared.kind.Kind.TheVariants as kind
use Rattle.vtl_values.specs.declared.kind.Role.TheVariants.{Identifier, Measure, Attribute, Viral}
use Rattle.vtl_values.specs.declared.place.Place.{Place}
use Rattle.vtl_values.specs.declared.structure.Codes.TheVariants.{Listed}
use Rattle.vtl_values.specs.declared.structure.Component.{Component}
use Rattle.scalar_trees.specs.declared.typing.stop.Fault.{Fault}
use Rattle.data_set_trees.specs.clauses.After.{made}
use Rattle.data_set_trees.specs.times.Times.{Answer, after}

abbrev pub here : Place
here = record { line = 1; column = 8 }

abbrev pub id : Component
id = made Identifier kind.Text (codes "Id")

abbrev pub period : Component
period = made Identifier kind.Text (codes "TIME_PERIOD")

abbrev pub amount : Component
amount = made Measure kind.Number (codes "Me")

abbrev pub status : Component
status = record { name = codes "St"; role = Viral; kind = kind.Text; codes = Listed (codes "e" ∷ codes "p" ∷ []) }

-- amounts with a note and a status
abbrev pub noted : List Component
noted = id ∷ period ∷ amount ∷ made Attribute kind.Text (codes "Note") ∷ status ∷ []

-- the period is a number
abbrev pub by_number : List Component
by_number = made Identifier kind.Integer (codes "TIME_PERIOD") ∷ amount ∷ []

-- texts, with an identifier of the name that `period_indicator` gives
abbrev pub named : List Component
named = period ∷ made Identifier kind.Text (codes "duration_var") ∷ made Measure kind.Text (codes "Name") ∷ []

-- the answer has these components of those
abbrev pub gives : Answer → List Component → List Component → Type 0
gives (Ok t) components result = after t components ≡ result
gives (Err refusal) components result = ⊥

abbrev pub has_fault : Answer → Fault → Type 0
has_fault (Ok t) fault = ⊥
has_fault (Err refusal) fault = refusal.fault ≡ fault
