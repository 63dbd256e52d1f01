-- A small data set, on which analytic operators are tried: amounts by name and year, a note, and marks of their status.
use Rattle.std.specs.Prelude.{◌≡◌, ℕ, List, [], ◌∷◌, codes, map, Some, None, Result, Ok, Err}
use Rattle.vtl_values.specs.declared.kind.Kind.TheVariants as kind
use Rattle.vtl_values.specs.declared.kind.Role.TheVariants.{Identifier, Measure, Attribute, Viral}
use Rattle.vtl_values.specs.declared.place.Place.{Place}
use Rattle.vtl_values.specs.declared.structure.Codes.TheVariants.{Listed}
use Rattle.vtl_values.specs.declared.structure.Component.{Component}
use Rattle.vtl_syntax.specs.declared.expr.OrderItem.{OrderItem}
use Rattle.vtl_syntax.specs.declared.expr.Over.{Over}
use Rattle.vtl_syntax.specs.declared.words.WindowEnd.{WindowEnd}
use Rattle.vtl_syntax.specs.declared.words.WindowStart.{WindowStart}
use Rattle.scalar_trees.specs.declared.typing.stop.Fault.{Fault}
use Rattle.scalar_trees.specs.declared.typing.stop.Refusal.{Refusal}
use Rattle.scalar_trees.specs.typing.Steps.{◌>>=◌}
use Rattle.data_set_trees.specs.clauses.After.{made}
use Rattle.data_set_trees.specs.clauses.Frames.{frame_of}
use Rattle.data_set_trees.specs.declared.windows.analytic.CheckedWindow.{CheckedWindow}
use Rattle.data_set_trees.specs.windows.Results.{after}
use Rattle.data_set_trees.specs.windows.Windows.{analytic_item, calc_checked, rank_typed}

abbrev pub here : Place
here = record { line = 1; column = 8 }

abbrev pub id : Component
id = made Identifier kind.Text (codes "Id")

abbrev pub year : Component
year = made Identifier kind.Integer (codes "Year")

abbrev pub amount : Component
amount = made Measure kind.Number (codes "Me")

abbrev pub note : Component
note = made Attribute kind.Text (codes "Note")

abbrev pub status : Component
status = record { name = codes "St"; role = Viral; kind = kind.Text; codes = Listed (codes "e" ∷ codes "p" ∷ []) }

-- C has an amount for each Id and Year, a note and a status
abbrev pub by_year : List Component
by_year = id ∷ year ∷ amount ∷ note ∷ status ∷ []

abbrev pub texts : List Component
texts = id ∷ made Measure kind.Text (codes "Name") ∷ []

-- an identifier has the name that `count` gives
abbrev pub counted : List Component
counted = made Identifier kind.Integer (codes "int_var") ∷ amount ∷ []

abbrev pub order_item : List ℕ → OrderItem
order_item name = record { name = name; direction = None; place = here }

-- parts by these identifiers, in the order of those components
abbrev pub over : List (List ℕ) → List (List ℕ) → Over
over partition order = record { partition = Some partition; order = Some (map order_item order); points = None; place = here }

-- one part, and a window that is stated
abbrev pub over_points : WindowStart → WindowEnd → Over
over_points from to = record { partition = None; order = None; points = Some (record { from = from; to = to; place = here }); place = here }

-- `C[calc name := rank(over (order by Me))]`
abbrev pub ranked : List ℕ → Result CheckedWindow Refusal
ranked name = rank_typed (over [] (codes "Me" ∷ [])) here (frame_of by_year) >>= (λ a. calc_checked here (analytic_item (frame_of by_year) None name a ∷ []) (frame_of by_year))

-- the answer has these components of those
abbrev pub gives : Result CheckedWindow Refusal → List Component → List Component → Type 0
gives (Ok w) components result = (after w (frame_of components)).components ≡ result
gives (Err refusal) components result = ⊥

abbrev pub has_fault : Result CheckedWindow Refusal → Fault → Type 0
has_fault (Ok w) fault = ⊥
has_fault (Err refusal) fault = refusal.fault ≡ fault
