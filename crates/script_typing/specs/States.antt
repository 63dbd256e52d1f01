-- What the statements of a script come to, one after another (docs/language.md, "Faults of structures").
use Rattle.std.specs.Prelude.{ℕ, List, [], ◌∷◌, Bool, true, false, Option, Some, None, Result, Ok, Err, map, set, slice_get, if◌then◌else◌}
use Rattle.std.specs.List.{list_all}
use Rattle.vtl_values.specs.Texts.{same_text}
use Rattle.vtl_values.specs.declared.place.Place.{Place}
use Rattle.vtl_values.specs.Structures.{NamedStructures}
use Rattle.vtl_syntax.specs.declared.ruleset.Ruleset.{Ruleset}
use Rattle.vtl_syntax.specs.declared.script.Statement.{Statement}
use Rattle.shortest_cycles.specs.Paths.{Graph, targets_of}
use Rattle.scalar_trees.specs.declared.typing.stop.Fault.TheVariants.{WrongStructure}
use Rattle.scalar_trees.specs.declared.typing.stop.Refusal.{Refusal}
use Rattle.scalar_trees.specs.typing.Steps.{◌>>=◌, refused}
use Rattle.data_set_trees.specs.declared.operand.DataSet.{DataSet}
use Rattle.data_set_trees.specs.declared.operand.Operand.{Operand}
use Rattle.data_set_trees.specs.declared.operand.Operand.TheVariants as operand
use Rattle.data_set_trees.specs.declared.tree.Source.TheVariants as source
use Rattle.data_set_trees.specs.declared.checked.script.CheckedStatement.{CheckedStatement}
use Rattle.expression_rules.specs.Expressions.{Naming, typed}
use Rattle.statement_typing.specs.Names.{from, input_of}
use Rattle.script_typing.specs.declared.state.State.{State}
use Rattle.script_typing.specs.declared.state.State.TheVariants.{Waits, Has, Fails}

-- ---- one statement

-- a statement's result is a data set
abbrev pub data_set_of : Place → Operand → Result DataSet Refusal
data_set_of place (operand.DataSet d) = Ok d
data_set_of place (operand.Scalar t) = refused WrongStructure place

-- the data set that a statement has, where names stand for these, or its fault
abbrev pub statement_typed : Naming → Statement → Result DataSet Refusal
statement_typed naming t = typed naming t.expr >>= data_set_of t.place

-- a statement with the data set that it has
abbrev pub with_set : Statement → DataSet → CheckedStatement
with_set t d = record { name = t.name; persistent = t.persistent; tree = d.tree; structure = d.structure }

abbrev pub state_of : Statement → Result DataSet Refusal → State
state_of t (Ok d) = Has (with_set t d)
state_of t (Err r) = Fails r

-- ---- one after another

-- what names stand for, and what each statement has come to
pub record SoFar : Type 0 where
  pub naming : Naming
  pub states : List State

abbrev pub has_set : Option State → Bool
has_set None = false
has_set (Some (Waits t)) = false
has_set (Some (Has c)) = true
has_set (Some (Fails r)) = false

-- each of these statements has a data set
abbrev pub all_have_sets : List State → List ℕ → Bool
all_have_sets states numbers = list_all (λ k. has_set (slice_get states k)) numbers

-- what a statement that uses these comes to in its turn: it is typed where all of them have data sets, and else passed over
abbrev pub turn : Naming → List State → List ℕ → Option State → Option State
turn naming states uses None = None
turn naming states uses (Some (Waits t)) = if all_have_sets states uses then Some (state_of t (statement_typed naming t)) else None
turn naming states uses (Some (Has c)) = None
turn naming states uses (Some (Fails r)) = None

-- the name of statement i stands for its result, where that has a data set
abbrev pub with_result : ℕ → State → Naming → Naming
with_result i (Waits t) naming = naming
with_result i (Has c) naming = record naming { data_set = λ other. if same_text c.name other then Some (from (source.Result i) c.structure) else naming.data_set other }
with_result i (Fails r) naming = naming

-- statement i comes to this, if to anything
abbrev pub comes_to : ℕ → Option State → SoFar → SoFar
comes_to i None s = s
comes_to i (Some state) s = record { naming = with_result i state s.naming; states = set s.states i state }

-- the turn of statement i, which uses these
abbrev pub after_turn : List ℕ → ℕ → SoFar → SoFar
after_turn uses i s = comes_to i (turn s.naming s.states uses (slice_get s.states i)) s

-- the turns of these, one after another; the graph has for each statement those that it uses
abbrev pub after_turns : Graph → List ℕ → SoFar → SoFar
after_turns g [] s = s
after_turns g (i ∷ is) s = after_turns g is (after_turn (targets_of g i) i s)

-- these statements, before the first had its turn
abbrev pub all_wait : List Statement → List State
all_wait ts = map Waits ts

-- at first names stand for inputs; these are the rulesets
abbrev pub start : NamedStructures → List Ruleset → List Statement → SoFar
start inputs rulesets ts = record { naming = record { data_set = input_of inputs; rulesets = rulesets }; states = all_wait ts }
