-- How an operator on one data set is worked out (docs/language.md, "Data set operators").
use Rattle.std.specs.Prelude.{Bool, false, List, Option, option_and_then}
use Rattle.std.specs.Option.{option_map_or}
use Rattle.std.specs.FinMap.{get, keys}
use Rattle.vtl_values.specs.declared.value.Value.{Value}
use Rattle.vtl_values.specs.Order.{key_cmp}
use Rattle.data_model.specs.Outcomes.{Outcome, outcome}
use Rattle.point_sets.specs.DataSets.{DataSet}

-- how an operator is worked out on its operand
pub record Working : Type 0 where
  -- the keys at which it is evaluated, and whether it is out of range at a key
  pub evaluated : List (List Value)
  pub beyond : List Value → Bool
  -- the keys at which its result may have points, and the values that it has at a key, if there is a point
  pub keys : List (List Value)
  pub value : List Value → Option (List Value)

-- what comes of it: a data set, the least key at which it is out of range, or that there are too many points
abbrev pub outcome_of : Working → Outcome key_cmp (List Value)
outcome_of w = outcome w.evaluated w.beyond w.keys w.value

-- each point by itself, under its key: out of range where `beyond` says so, and with the values that `gives` says, if it stays
abbrev pub point_by_point : (List Value → List Value → Bool) → (List Value → List Value → Option (List Value)) → DataSet → Working
point_by_point beyond gives a = record { evaluated = keys a; beyond = λ k. option_map_or (beyond k) (get a k) false; keys = keys a; value = λ k. option_and_then (gives k) (get a k) }

-- no point is out of range
abbrev pub never : List Value → List Value → Bool
never key rest = false
