-- The first fault of names and uses in a script.
use Rattle.std.specs.Prelude.{◌≡◌, ℕ, List, [], ◌∷◌, ◌++◌, Option, Some, None, map, slice_get, if◌then◌else◌, ⊤}
use Rattle.std.specs.List.{flat_map}
use Rattle.std.specs.Map.{keys_of}
use Rattle.std.specs.Option.{option_map, option_and_then, option_or, option_to_list}
use Rattle.vtl_values.specs.declared.place.Place.{Place}
use Rattle.vtl_values.specs.Structures.{NamedStructures}
use Rattle.vtl_syntax.specs.declared.script.Script.{Script}
use Rattle.vtl_syntax.specs.declared.script.Statement.{Statement}
use Rattle.shortest_cycles.specs.Paths.{Graph}
use Rattle.shortest_cycles.specs.Cycles.{first_cycle}
use Rattle.script_graph.specs.declared.fault.PlacedFault.{PlacedFault}
use Rattle.script_graph.specs.declared.fault.GraphStop.{GraphStop}
use Rattle.script_graph.specs.declared.fault.GraphStop.TheVariants.{Fault, Memory}
use Rattle.script_graph.specs.declared.fault.GraphFault.TheVariants.{AssignedTwice, Cycle}
use Rattle.script_graph.specs.Words.{has_word, ruleset_name, ruleset_place}
use Rattle.script_graph.specs.Mentions.{of_statement, of_ruleset}
use Rattle.script_graph.specs.Scopes.{Names, names_of, uses, first_unknown, is_before}

-- the one that stands first in the script
abbrev pub earlier : Option PlacedFault → Option PlacedFault → Option PlacedFault
earlier None b = b
earlier (Some a) None = Some a
earlier (Some a) (Some b) = Some (if is_before b.place a.place then b else a)

-- ---- names that are given twice

abbrev pub repeated_at : Place → PlacedFault
repeated_at p = record { fault = AssignedTwice; place = p }

-- at the first whose name is one of these or that of one before it
abbrev pub repeated : {A : Type 0} → (A → List ℕ) → (A → Place) → List (List ℕ) → List A → Option PlacedFault
repeated name place given [] = None
repeated name place given (x ∷ xs) = if has_word given (name x) then Some (repeated_at (place x)) else repeated name place (given ++ name x ∷ []) xs

-- a statement repeats the name of an input or of an earlier result
abbrev pub result_repeated : NamedStructures → List Statement → Option PlacedFault
result_repeated inputs statements = repeated (λ (t : Statement). t.name) (λ (t : Statement). t.place) (keys_of inputs) statements

-- a ruleset repeats the name of an earlier one
abbrev pub assigned_twice : Script → NamedStructures → Option PlacedFault
assigned_twice s inputs = earlier (result_repeated inputs s.statements) (repeated ruleset_name ruleset_place [] s.rulesets)

-- ---- names that stand for nothing

abbrev pub unknown : Script → NamedStructures → Option PlacedFault
unknown s inputs =
    let names = names_of s inputs in
    earlier (first_unknown names (flat_map of_statement s.statements)) (first_unknown names (flat_map of_ruleset s.rulesets))

-- ---- statements that depend on themselves

-- the statements whose results the statement uses, in the order in which it mentions them
abbrev pub uses_in : Names → Statement → List ℕ
uses_in names t = uses names (of_statement t)

-- these of each statement
abbrev pub graph_of : Script → NamedStructures → Graph
graph_of s inputs = map (uses_in (names_of s inputs)) s.statements

abbrev pub name_at : List Statement → ℕ → List (List ℕ)
name_at statements i = option_to_list (option_map (λ (t : Statement). t.name) (slice_get statements i))

abbrev pub told_at : List Statement → ℕ → List (List ℕ) → Option PlacedFault
told_at statements i names = option_map (λ (t : Statement). record { fault = Cycle names; place = t.place }) (slice_get statements i)

abbrev pub told : List Statement → List ℕ → Option PlacedFault
told statements [] = None
told statements (i ∷ is) = told_at statements i (flat_map (name_at statements) (i ∷ is))

-- at the first statement that depends on itself, with the names of its cycle
abbrev pub cycle : Script → NamedStructures → Option PlacedFault
cycle s inputs = option_and_then (told s.statements) (first_cycle (graph_of s inputs))

-- ----

-- the first fault of the first kind of which there is one
abbrev pub first_fault : Script → NamedStructures → Option PlacedFault
first_fault s inputs = option_or (assigned_twice s inputs) (option_or (unknown s inputs) (cycle s inputs))

-- a stop is want of memory, or just that fault
abbrev pub IsStop : Script → NamedStructures → GraphStop → Type 0
IsStop s inputs Memory = ⊤
IsStop s inputs (Fault f) = first_fault s inputs ≡ Some f
