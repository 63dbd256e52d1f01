-- A small data set, on which uses of rulesets are tried: amounts by area, with a note and a status.
use Rattle.std.specs.Prelude.{◌≡◌, ℕ, List, [], ◌∷◌, codes, map, Option, Some, None, Result, Ok, Err}
use Rattle.vtl_values.specs.declared.kind.Kind.TheVariants as kind
use Rattle.vtl_values.specs.declared.kind.Role.TheVariants.{Identifier, Measure, Attribute, Viral}
use Rattle.vtl_values.specs.declared.place.Place.{Place}
use Rattle.vtl_values.specs.declared.structure.Codes.TheVariants.{Listed}
use Rattle.vtl_values.specs.declared.structure.Component.{Component}
use Rattle.vtl_syntax.specs.declared.ruleset.DatapointRules.{DatapointRules}
use Rattle.vtl_syntax.specs.declared.ruleset.HierarchyRules.{HierarchyRules}
use Rattle.vtl_syntax.specs.declared.ruleset.Variable.{Variable}
use Rattle.vtl_syntax.specs.declared.words.RowsOutput.{RowsOutput}
use Rattle.scalar_trees.specs.declared.typing.stop.Fault.{Fault}
use Rattle.scalar_trees.specs.declared.typing.stop.Refusal.{Refusal}
use Rattle.scalar_trees.specs.typing.Steps.{◌>>=◌}
use Rattle.data_set_trees.specs.clauses.After.{made}
use Rattle.data_set_trees.specs.rules.Datapoints as datapoints
use Rattle.data_set_trees.specs.rules.Datapoints.{datapoint_checked}
use Rattle.data_set_trees.specs.rules.Hierarchies as hierarchies
use Rattle.data_set_trees.specs.rules.Hierarchies.{checked_checked, computed_checked}

abbrev pub here : Place
here = record { line = 1; column = 8 }

abbrev pub area : Component
area = made Identifier kind.Text (codes "Area")

abbrev pub amount : Component
amount = made Measure kind.Number (codes "Me")

abbrev pub status : Component
status = record { name = codes "St"; role = Viral; kind = kind.Text; codes = Listed (codes "e" ∷ codes "p" ∷ []) }

-- what rows have beside
abbrev pub ruled : Component
ruled = made Identifier kind.Text (codes "ruleid")

abbrev pub truth : Component
truth = made Measure kind.Truth (codes "bool_var")

abbrev pub code : Component
code = made Measure kind.Text (codes "errorcode")

abbrev pub level : Component
level = made Measure kind.Integer (codes "errorlevel")

-- ---- data sets

abbrev pub by_area : List Component
by_area = area ∷ amount ∷ made Attribute kind.Text (codes "Note") ∷ status ∷ []

abbrev pub texts : List Component
texts = area ∷ made Measure kind.Text (codes "Name") ∷ []

abbrev pub two : List Component
two = area ∷ amount ∷ made Measure kind.Integer (codes "N") ∷ []

-- ---- rulesets without rules

abbrev pub variable : List ℕ → Variable
variable name = record { name = name; alias = None; place = here }

abbrev pub of_points : List ℕ → DatapointRules
of_points name = record { name = codes "D"; variables = variable name ∷ []; rules = []; place = here }

abbrev pub of_items : List ℕ → List (List ℕ) → HierarchyRules
of_items component names = record { name = codes "H"; variables = Some (map variable names); component = component; rules = []; place = here }

-- the components of an answer
abbrev pub Rows : Type 0
Rows = Result (List Component) Refusal

abbrev pub points : List ℕ → Option RowsOutput → List Component → Rows
points name output components = datapoint_checked (of_points name) output here components >>= (λ d. Ok (datapoints.after d components))

-- with the amount as the variable
abbrev pub points_of : Option RowsOutput → Rows
points_of output = points (codes "Me") output by_area

abbrev pub computed_by : List ℕ → List (List ℕ) → List Component → Rows
computed_by component names components = computed_checked (of_items component names) None None None None here components >>= (λ h. Ok (hierarchies.after h components))

abbrev pub computed : Rows
computed = computed_by (codes "Area") [] by_area

abbrev pub checked : RowsOutput → Rows
checked output = checked_checked (of_items (codes "Area") []) None None None (Some output) here by_area >>= (λ h. Ok (hierarchies.after h by_area))

abbrev pub rows_are : Rows → List Component → Type 0
rows_are (Ok rows) components = rows ≡ components
rows_are (Err refusal) components = ⊥

abbrev pub has_fault : Rows → Fault → Type 0
has_fault (Ok rows) fault = ⊥
has_fault (Err refusal) fault = refusal.fault ≡ fault
