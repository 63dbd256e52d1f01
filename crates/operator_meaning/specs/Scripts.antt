-- What a script means (docs/language.md, "What a script means").
use Rattle.std.specs.Prelude.{◌==◌, ℕ, suc, zero, ◌+◌, min, nat_le, List, [], ◌∷◌, ◌++◌, map, sum, length, slice_get, Option, Some, None, is_some, unwrap_or, cond, if◌then◌else◌, Result, Ok, Err}
use Rattle.std.specs.List.{list_all}
use Rattle.std.specs.FinMap.{empty}
use Rattle.point_sets.specs.DataSets.{DataSet}
use Rattle.data_set_trees.specs.declared.checked.script.CheckedStatement.{CheckedStatement}
use Rattle.data_set_trees.specs.declared.tree.Source.{Source}
use Rattle.data_set_trees.specs.declared.tree.Source.TheVariants.{Input, Result as ResultOf}
use Rattle.data_set_trees.specs.checked.Expressions.{Expression, expression_of}
use Rattle.data_set_trees.specs.checked.Scripts.{Script, names_in}
use Rattle.operator_meaning.specs.Results.{Wrong, Evaluated, result_of}

-- what a statement has: a data set, its own fault, or neither, where an operand has no data set
pub data State : Type 0 where
  Has : Evaluated → State
  Fails : Wrong → State
  Idle : State

abbrev pub state_of : Result Evaluated Wrong → State
state_of (Ok e) = Has e
state_of (Err wrong) = Fails wrong

-- the data set that a statement has
abbrev pub set_in : State → Option DataSet
set_in (Has e) = Some e.set
set_in (Fails wrong) = None
set_in Idle = None

-- the data set that a name stands for: the input's, or that of the result
abbrev pub set_named : List DataSet → (ℕ → State) → Source → Option DataSet
set_named inputs states (Input n) = slice_get inputs n
set_named inputs states (ResultOf i) = set_in (states i)

-- the expression is worked out where each of its names has a data set
abbrev pub worked_out : {N : Type 0} → (N → Option DataSet) → Expression N → State
worked_out sets e = if list_all (λ n. is_some (sets n)) (names_in e) then state_of (result_of (λ n. unwrap_or (sets n) empty) e) else Idle

abbrev pub statement_state : List DataSet → (ℕ → State) → Option CheckedStatement → State
statement_state inputs states None = Idle
statement_state inputs states (Some statement) = worked_out (set_named inputs states) (expression_of statement.tree)

-- statement i, where the statements before it in the order have these states
abbrev pub state_at : Script → List DataSet → (ℕ → State) → ℕ → State
state_at s inputs states i = statement_state inputs states (slice_get s.statements i)

-- the value x at i, and what f gives elsewhere
abbrev pub with_at : {X : Type 0} → ℕ → X → (ℕ → X) → ℕ → X
with_at i x f j = if j == i then x else f j

-- one statement after another
abbrev pub states_after : Script → List DataSet → List ℕ → (ℕ → State) → ℕ → State
states_after s inputs [] states = states
states_after s inputs (i ∷ is) states = states_after s inputs is (with_at i (state_at s inputs states i) states)

-- what each statement has on the inputs, worked out from scratch in the script's order
abbrev pub states : Script → List DataSet → ℕ → State
states s inputs = states_after s inputs s.order (λ i. Idle)

-- the first n of them
abbrev pub first_states : ℕ → (ℕ → State) → List State
first_states zero f = []
first_states (suc n) f = first_states n f ++ f n ∷ []

abbrev pub all_states : Script → List DataSet → List State
all_states s inputs = first_states (length s.statements) (states s inputs)

-- the points of the results of all operators together
abbrev pub points_in : State → ℕ
points_in (Has e) = e.points
points_in (Fails wrong) = 0
points_in Idle = 0

abbrev pub POINTS_LIMIT : ℕ
POINTS_LIMIT = 6000000

-- why a script has no meaning: a statement's fault, or the number of points of all operators' results, or the last u64 where it is larger
pub data ScriptWrong : Type 0 where
  At : ℕ → Wrong → ScriptWrong
  Total : ℕ → ScriptWrong

abbrev pub first_wrong : ℕ → List State → Option ScriptWrong
first_wrong i [] = None
first_wrong i (Has e ∷ rest) = first_wrong (i + 1) rest
first_wrong i (Fails wrong ∷ rest) = Some (At i wrong)
first_wrong i (Idle ∷ rest) = first_wrong (i + 1) rest

abbrev pub or_total : Option ScriptWrong → ℕ → Option ScriptWrong
or_total (Some wrong) points = Some wrong
or_total None points = cond (nat_le points POINTS_LIMIT) None (Some (Total (min points 18446744073709551615)))

-- the fault of the first statement in the script that has one, or too many points in all; none where the script is in bounds
abbrev pub script_wrong : Script → List DataSet → Option ScriptWrong
script_wrong s inputs = or_total (first_wrong 0 (all_states s inputs)) (sum (map points_in (all_states s inputs)))
