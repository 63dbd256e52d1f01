-- Small data sets, on which aggregates are tried: amounts, counts and texts by name and year, and marks of their status.
use Rattle.std.specs.Prelude.{◌≡◌, ℕ, true, List, [], ◌∷◌, codes, Option, Some, None, Ok, Err}
use Rattle.vtl_values.specs.declared.kind.Kind.TheVariants as kind
use Rattle.vtl_values.specs.declared.kind.Role.{Role}
use Rattle.vtl_values.specs.declared.kind.Role.TheVariants.{Identifier, Measure, Attribute, Viral}
use Rattle.vtl_values.specs.declared.place.Place.{Place}
use Rattle.vtl_values.specs.declared.structure.Codes.TheVariants.{Listed}
use Rattle.vtl_values.specs.declared.structure.Component.{Component}
use Rattle.vtl_values.specs.declared.value.Value.TheVariants as value
use Rattle.vtl_syntax.specs.declared.expr.Grouping.{Grouping}
use Rattle.vtl_syntax.specs.declared.words.AggregateFunction.{AggregateFunction}
use Rattle.vtl_syntax.specs.declared.words.AggregateFunction.TheVariants.{Sum}
use Rattle.vtl_syntax.specs.declared.words.GroupWord.{GroupWord}
use Rattle.scalar_trees.specs.declared.tree.CheckedExpr.TheVariants as tree
use Rattle.scalar_trees.specs.declared.typing.stop.Fault.{Fault}
use Rattle.scalar_trees.specs.declared.typing.typed.Typed.{Typed}
use Rattle.scalar_trees.specs.typing.Scalars.{typed_as, whole_kind}
use Rattle.data_set_trees.specs.clauses.After.{made}
use Rattle.data_set_trees.specs.declared.aggregates.aggregate.AggregateItem.{AggregateItem}
use Rattle.data_set_trees.specs.aggregates.Aggregates.{Answer, groups_typed, items_of, takes_all}
use Rattle.data_set_trees.specs.aggregates.Results.{grouped}

abbrev pub here : Place
here = record { line = 1; column = 8 }

abbrev pub id : Component
id = made Identifier kind.Text (codes "Id")

abbrev pub year : Component
year = made Identifier kind.Integer (codes "Year")

abbrev pub amount : Component
amount = made Measure kind.Number (codes "Me")

abbrev pub status : Component
status = record { name = codes "St"; role = Viral; kind = kind.Text; codes = Listed (codes "e" ∷ codes "p" ∷ []) }

-- C has an amount for each Id and Year, a note and a status
abbrev pub by_year : List Component
by_year = id ∷ year ∷ amount ∷ made Attribute kind.Text (codes "Note") ∷ status ∷ []

abbrev pub counts : List Component
counts = id ∷ made Measure kind.Integer (codes "N") ∷ []

abbrev pub texts : List Component
texts = id ∷ made Measure kind.Text (codes "Name") ∷ []

-- an identifier has the name that `count` gives
abbrev pub counted : List Component
counted = id ∷ made Identifier kind.Integer (codes "int_var") ∷ amount ∷ []

abbrev pub grouped_by : GroupWord → List (List ℕ) → Option Grouping
grouped_by word names = Some (record { word = word; names = names; place = here })

-- the aggregate of each measure
abbrev pub of_each : AggregateFunction → Option Grouping → List Component → Answer
of_each f grouping components = groups_typed here grouping (takes_all f components) (items_of f components) None components

-- `sum(Me)`, where Me is component 2, `count()`, and a boolean
abbrev pub total : Typed
total = typed_as kind.Number (tree.Aggregate Sum 2)

abbrev pub count : Typed
count = typed_as kind.Integer tree.CountAll

abbrev pub truth : Typed
truth = typed_as kind.Truth (tree.Literal (value.Truth true))

abbrev pub item : Role → List ℕ → Typed → AggregateItem
item role name t = record { name = name; role = role; kind = whole_kind kind.Truth t.kind; value = t.tree }

-- items by Id
abbrev pub of_items : List AggregateItem → GroupWord → List Component → Answer
of_items items word components = groups_typed here (grouped_by word (codes "Id" ∷ [])) true items None components

-- the answer has these components of those
abbrev pub gives : Answer → List Component → List Component → Type 0
gives (Ok a) components result = grouped a components ≡ result
gives (Err refusal) components result = ⊥

abbrev pub has_fault : Answer → Fault → Type 0
has_fault (Ok a) fault = ⊥
has_fault (Err refusal) fault = refusal.fault ≡ fault
