-- What an expression gives (docs/language.md, "Faults").
use Rattle.std.specs.Prelude.{ℕ, ◌+◌, List, [], ◌∷◌, map, sum, Result, Ok, Err}
use Rattle.std.specs.FinMap.{empty, len}
use Rattle.vtl_values.specs.declared.place.Place.{Place}
use Rattle.vtl_values.specs.declared.value.Value.{Value}
use Rattle.data_model.specs.Outcomes.{Made, Range, TooMany}
use Rattle.point_sets.specs.DataSets.{DataSet}
use Rattle.data_set_trees.specs.checked.Operators.{Operator}
use Rattle.data_set_trees.specs.checked.Expressions.{Expression, Expressions, Named, Applied, none, more}
use Rattle.operator_meaning.specs.Operators.{SetOutcome, meaning_of}

-- why an expression has no data set: an evaluation of the operator at the place is out of range at the key, or its result has too many points
pub data Wrong : Type 0 where
  RangeAt : Place → List Value → Wrong
  ManyAt : Place → Wrong

-- a data set, and how many points the results of all operators have that were worked out for it
pub record Evaluated : Type 0 where
  pub set : DataSet
  pub points : ℕ

-- an empty data set, and no points
abbrev pub without_points : Evaluated
without_points = record { set = empty; points = 0 }

-- what operands have together
abbrev pub sets_of : List Evaluated → List DataSet
sets_of = map (λ e. e.set)

abbrev pub points_of : List Evaluated → ℕ
points_of es = sum (map (λ e. e.points) es)

-- the outcome of the operator at the place, where so many points were worked out for its operands
abbrev pub placed : Place → ℕ → SetOutcome → Result Evaluated Wrong
placed place points (Made x) = Ok (record { set = x; points = points + len x })
placed place points (Range key) = Err (RangeAt place key)
placed place points TooMany = Err (ManyAt place)

-- an operator on its operands, if they have data sets
abbrev pub worked : Operator → Place → Result (List Evaluated) Wrong → Result Evaluated Wrong
worked o place (Ok es) = placed place (points_of es) (meaning_of o (sets_of es))
worked o place (Err wrong) = Err wrong

-- the operands' data sets, or the first fault among them
abbrev pub gathered : Result Evaluated Wrong → Result (List Evaluated) Wrong → Result (List Evaluated) Wrong
gathered (Ok e) (Ok es) = Ok (e ∷ es)
gathered (Ok e) (Err wrong) = Err wrong
gathered (Err wrong) rest = Err wrong

abbrev mutual
  -- where names stand for these data sets: the expression's data set, or the fault of its first operator that has one, operands first
  pub result_of : {N : Type 0} → (N → DataSet) → Expression N → Result Evaluated Wrong
  result_of sets (Named n) = Ok (record { set = sets n; points = 0 })
  result_of sets (Applied o place es) = worked o place (results_of sets es)

  pub results_of : {N : Type 0} → (N → DataSet) → Expressions N → Result (List Evaluated) Wrong
  results_of sets none = Ok []
  results_of sets (more e es) = gathered (result_of sets e) (results_of sets es)
