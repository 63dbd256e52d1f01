-- What a round ends by (docs/language.md, "Rounds").
use Rattle.std.specs.Prelude.{◌≡◌, ◌≢◌, ◌<◌, ℕ, List, length, slice_index}
use Rattle.point_sets.specs.DataSets.{DataSet}
use Rattle.data_set_trees.specs.checked.Scripts.{Script}
use Rattle.operator_meaning.specs.Results.{Wrong, Evaluated}
use Rattle.operator_meaning.specs.Scripts.{Has, Fails, states, points_in}
use Rattle.round_journal.specs.Journals.{State, Back, Spoiled, Over, new_inputs}

-- no statement was given up
abbrev pub NoneSpoiled : State → Type 0
NoneSpoiled s = (i : ℕ) → i < length s.round.script.statements → s.status i ≢ Spoiled

-- the round is over, and no statement was given up
pub record OverUnspoiled (s : State) : Type 0 where
  pub over : Over s
  pub unspoiled : NoneSpoiled s

-- the statement has a data set on the inputs
abbrev pub HasSet : Script → List DataSet → ℕ → Type 0
HasSet c xs i = (e : Evaluated) × (states c xs i ≡ Has e)

-- a statement that came back has no fault on the round's inputs
abbrev pub IsNoFault : State → ℕ → Type 0
IsNoFault s i = s.status i ≡ Back → (wrong : Wrong) → states s.round.script (new_inputs s) i ≢ Fails wrong

-- of the statements that came back, this is the first in the script that has a fault, and this is its fault
pub record FirstFault (s : State) (i : ℕ) (wrong : Wrong) : Type 0 where
  pub below : i < length s.round.script.statements
  pub back : s.status i ≡ Back
  pub fails : states s.round.script (new_inputs s) i ≡ Fails wrong
  pub first : (j : ℕ) → j < i → IsNoFault s j

-- none of the statements that came back has a fault
abbrev pub NoFault : State → Type 0
NoFault s = (i : ℕ) → i < length s.round.script.statements → IsNoFault s i

-- the points of each statement's operators on the inputs
pub record ArePoints (c : Script) (xs : List DataSet) (points : List ℕ) : Type 0 where
  pub many : length points ≡ length c.statements
  pub each : (i : ℕ) → i < length c.statements → slice_index points i ≡ points_in (states c xs i)
