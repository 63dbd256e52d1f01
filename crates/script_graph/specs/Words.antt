-- Words, and what the names of a script stand for.
use Rattle.std.specs.Prelude.{ℕ, List, [], ◌∷◌, ◌++◌, Bool, true, false, ◌||◌, Option, Some, None, nat_eq, map, position, find, is_some, if◌then◌else◌}
use Rattle.std.specs.List.{list_any}
use Rattle.std.specs.Map.{keys_of}
use Rattle.std.specs.Cmp.Lexicographic.{pointwise}
use Rattle.vtl_values.specs.declared.place.Place.{Place}
use Rattle.vtl_values.specs.Structures.{NamedStructures, structure_of}
use Rattle.vtl_syntax.specs.declared.script.Script.{Script}
use Rattle.vtl_syntax.specs.declared.script.Statement.{Statement}
use Rattle.vtl_syntax.specs.declared.ruleset.Ruleset.{Ruleset}
use Rattle.vtl_syntax.specs.declared.ruleset.Ruleset.TheVariants as kind
use Rattle.script_graph.specs.declared.sort.NameSort.{NameSort}
use Rattle.script_graph.specs.declared.sort.NameSort.TheVariants as sort

abbrev pub is_same : List ℕ → List ℕ → Bool
is_same = pointwise nat_eq

abbrev pub has_word : List (List ℕ) → List ℕ → Bool
has_word words w = list_any (is_same w) words

-- ---- rulesets

abbrev pub ruleset_name : Ruleset → List ℕ
ruleset_name (kind.Datapoint d) = d.name
ruleset_name (kind.Hierarchy h) = h.name

abbrev pub ruleset_place : Ruleset → Place
ruleset_place (kind.Datapoint d) = d.place
ruleset_place (kind.Hierarchy h) = h.place

abbrev pub is_of : NameSort → Ruleset → Bool
is_of sort.DataSet r = false
is_of sort.Datapoint (kind.Datapoint d) = true
is_of sort.Datapoint (kind.Hierarchy h) = false
is_of sort.Hierarchy (kind.Datapoint d) = false
is_of sort.Hierarchy (kind.Hierarchy h) = true
