-- What the names in a script stand for.
use Rattle.std.specs.Prelude.{◌≡◌, ℕ, List, [], ◌∷◌, ◌++◌, Bool, false, not, ◌==◌, ◌&&◌, ◌||◌, nat_lt, Option, Some, None, Result, Ok, Err, map, position, find, is_some, ⊤, if◌then◌else◌}
use Rattle.std.specs.List.{flat_map}
use Rattle.std.specs.Option.{option_map, option_map_or, option_to_list}
use Rattle.vtl_values.specs.declared.place.Place.{Place}
use Rattle.vtl_values.specs.Structures.{NamedStructures, structure_of}
use Rattle.vtl_syntax.specs.declared.script.Script.{Script}
use Rattle.vtl_syntax.specs.declared.script.Statement.{Statement}
use Rattle.vtl_syntax.specs.declared.ruleset.Ruleset.{Ruleset}
use Rattle.script_graph.specs.declared.sort.NameSort.{NameSort}
use Rattle.script_graph.specs.declared.sort.NameSort.TheVariants.{DataSet, Datapoint, Hierarchy}
use Rattle.script_graph.specs.declared.fault.PlacedFault.{PlacedFault}
use Rattle.script_graph.specs.declared.fault.GraphFault.TheVariants.{Unknown}
use Rattle.script_graph.specs.declared.fault.GraphStop.{GraphStop}
use Rattle.script_graph.specs.declared.fault.GraphStop.TheVariants.{Fault, Memory}
use Rattle.script_graph.specs.Words.{is_same, is_of, ruleset_name}
use Rattle.script_graph.specs.Mentions.{Mention}

-- the inputs, the names to which the statements assign, and the rulesets
pub record Names : Type 0 where
  pub inputs : NamedStructures
  pub results : List (List ℕ)
  pub rulesets : List Ruleset

abbrev pub names_of : Script → NamedStructures → Names
names_of s inputs = record { inputs = inputs; results = map (λ (t : Statement). t.name) s.statements; rulesets = s.rulesets }

-- the number of the statement that assigns to the name
abbrev pub result_of : Names → List ℕ → Option ℕ
result_of n w = position (is_same w) n.results

abbrev pub ruleset_of : List Ruleset → List ℕ → Option Ruleset
ruleset_of rulesets w = find (λ r. is_same w (ruleset_name r)) rulesets

-- there is what the name has to be the name of
abbrev pub is_known : Names → NameSort → List ℕ → Bool
is_known n DataSet w = is_some (structure_of n.inputs w) || is_some (result_of n w)
is_known n Datapoint w = option_map_or (is_of Datapoint) (ruleset_of n.rulesets w) false
is_known n Hierarchy w = option_map_or (is_of Hierarchy) (ruleset_of n.rulesets w) false

-- the statement whose result it names, if it names one
abbrev pub uses_of : Names → NameSort → List ℕ → List ℕ
uses_of n DataSet w = option_to_list (result_of n w)
uses_of n Datapoint w = []
uses_of n Hierarchy w = []

-- the statements whose results are mentioned, in the order of the mentions
abbrev pub uses : Names → List Mention → List ℕ
uses n ms = flat_map (λ (m : Mention). uses_of n m.sort m.name) ms

abbrev pub is_unknown : Names → Mention → Bool
is_unknown n m = not (is_known n m.sort m.name)

abbrev pub unknown_name : List ℕ → Place → PlacedFault
unknown_name w p = record { fault = Unknown w; place = p }

abbrev pub unknown_at : Mention → PlacedFault
unknown_at m = unknown_name m.name m.place

-- the fault where there is no ruleset of that sort and name
abbrev pub wanted_ruleset : Names → NameSort → List ℕ → Place → Option PlacedFault
wanted_ruleset n s w p = if option_map_or (is_of s) (ruleset_of n.rulesets w) false then None else Some (unknown_name w p)

-- the first mention that stands for nothing
abbrev pub first_unknown : Names → List Mention → Option PlacedFault
first_unknown n ms = option_map unknown_at (find (is_unknown n) ms)

-- an answer is the wanted value where there is no fault, and else the fault; want of memory is free
abbrev pub Answers : {T : Type 0} → Option PlacedFault → (T → Type 0) → Result T GraphStop → Type 0
Answers fault IsWanted (Ok v) = (fault ≡ None) × IsWanted v
Answers fault IsWanted (Err (Fault f)) = fault ≡ Some f
Answers fault IsWanted (Err Memory) = ⊤

-- what is mentioned is put after the numbers that are there, or one of the mentions stands for nothing
abbrev pub PutsUses : Names → List Mention → List ℕ → List ℕ → Result (Unit {0}) GraphStop → Type 0
PutsUses n ms old new r = Answers (first_unknown n ms) (λ _. new ≡ old ++ uses n ms) r

-- ---- two answers of one sort

abbrev pub is_before : Place → Place → Bool
is_before a b = nat_lt a.line b.line || (a.line == b.line && nat_lt a.column b.column)

-- of two faults the one that stands first in the script
abbrev pub first_stop : GraphStop → GraphStop → GraphStop
first_stop Memory t = Memory
first_stop (Fault f) Memory = Memory
first_stop (Fault f) (Fault g) = Fault (if is_before g.place f.place then g else f)

-- both values, or the first fault
abbrev pub both_of : {A B : Type 0} → Result A GraphStop → Result B GraphStop → Result (A × B) GraphStop
both_of (Ok a) (Ok b) = Ok (a, b)
both_of (Ok a) (Err t) = Err t
both_of (Err s) (Ok b) = Err s
both_of (Err s) (Err t) = Err (first_stop s t)
