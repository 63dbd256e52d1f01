-- What a script is typed to be, or its first fault (docs/language.md, "Faults of structures").
use Rattle.std.specs.Prelude.{◌≡◌, ℕ, List, [], ◌∷◌, Option, Some, None, Result, Ok, Err, ⊤}
use Rattle.vtl_values.specs.Structures.{NamedStructures}
use Rattle.vtl_syntax.specs.declared.ruleset.Ruleset.{Ruleset}
use Rattle.vtl_syntax.specs.declared.script.Script as tree
use Rattle.vtl_syntax.specs.declared.script.Statement.{Statement}
use Rattle.shortest_cycles.specs.Paths.{Graph}
use Rattle.script_graph.specs.Faults.{graph_of, first_fault}
use Rattle.script_graph.specs.Orders.{order_of}
use Rattle.scalar_trees.specs.declared.typing.stop.Refusal.{Refusal}
use Rattle.scalar_trees.specs.typing.Steps.{◌>>=◌}
use Rattle.data_set_trees.specs.declared.checked.script.CheckedStatement.{CheckedStatement}
use Rattle.data_set_trees.specs.checked.Scripts.{Script}
use Rattle.ruleset_faults.specs.Rulesets.{rulesets_seen}
use Rattle.script_typing.specs.declared.state.State.{State}
use Rattle.script_typing.specs.declared.state.State.TheVariants.{Waits, Has, Fails}
use Rattle.script_typing.specs.declared.stop.ScriptStop.{ScriptStop}
use Rattle.script_typing.specs.declared.stop.ScriptStop.TheVariants as stop
use Rattle.script_typing.specs.States.{after_turns, start}

-- what the statements come to, typed in this order
abbrev pub states_after : NamedStructures → List Ruleset → Graph → List Statement → List ℕ → List State
states_after inputs rulesets g ts order = (after_turns g order (start inputs rulesets ts)).states

-- of the first statement in the script that has one
abbrev pub first_refusal : List State → Option Refusal
first_refusal [] = None
first_refusal (Waits t ∷ states) = first_refusal states
first_refusal (Has c ∷ states) = first_refusal states
first_refusal (Fails r ∷ states) = Some r

-- the typed statements, up to the first that has no data set
abbrev pub checked_in : List State → List CheckedStatement
checked_in [] = []
checked_in (Waits t ∷ states) = []
checked_in (Has c ∷ states) = c ∷ checked_in states
checked_in (Fails r ∷ states) = []

abbrev pub unless_refused : Option Refusal → Script → Result Script Refusal
unless_refused None script = Ok script
unless_refused (Some r) script = Err r

-- typed in this order, in which each statement stands after those that it uses
abbrev pub typed_in : NamedStructures → List Ruleset → Graph → List Statement → List ℕ → Result Script Refusal
typed_in inputs rulesets g ts order =
    let states = states_after inputs rulesets g ts order in
    unless_refused (first_refusal states) (record { inputs = inputs; statements = checked_in states; order = order })

-- the statements over inputs of these structures, or the first fault of types that one of them has
abbrev pub statements_typed : NamedStructures → tree.Script → Result Script Refusal
statements_typed inputs script = typed_in inputs script.rulesets (graph_of script inputs) script.statements (order_of (graph_of script inputs))

-- what a script is typed to be, or its first fault of types, of which those of rulesets by themselves come first; it has
-- none of names and uses
abbrev pub typed_of : NamedStructures → tree.Script → Result Script Refusal
typed_of inputs script = rulesets_seen script.rulesets >>= (λ met. statements_typed inputs script)

-- a stop is the first fault of the statements, or want of memory
abbrev pub IsStatementStop : NamedStructures → tree.Script → ScriptStop → Type 0
IsStatementStop inputs script (stop.Graph placed) = ⊥
IsStatementStop inputs script (stop.Refused r) = statements_typed inputs script ≡ Err r
IsStatementStop inputs script stop.Memory = ⊤

-- a stop is exactly the first fault of names and uses, or else that of types, or want of memory
abbrev pub IsStop : NamedStructures → tree.Script → ScriptStop → Type 0
IsStop inputs script (stop.Graph placed) = first_fault script inputs ≡ Some placed
IsStop inputs script (stop.Refused r) = (first_fault script inputs ≡ None) × (typed_of inputs script ≡ Err r)
IsStop inputs script stop.Memory = ⊤
