-- What was found at a key.
use Rattle.std.specs.Prelude.{◌≡◌, Bool, true, false, List, Option, Some, None}
use Rattle.std.specs.declared.sync.Arc.{Arc}
use Rattle.std.specs.declared.alloc.Global.{Global}
use Rattle.vtl_values.specs.declared.value.Value.{Value}
use Rattle.point_sets.specs.declared.point.Point.{Point}
use Rattle.point_sets.specs.DataSets.{HasKey}
use Rattle.point_sets.specs.Changes.{values_of}
use Rattle.clause_eval.specs.declared.evaluation.Evaluation.{Evaluation}
use Rattle.clause_eval.specs.declared.evaluation.Evaluation.TheVariants.{Absent, Present, OutOfRange}

abbrev pub is_beyond : Evaluation → Bool
is_beyond Absent = false
is_beyond (Present p) = false
is_beyond OutOfRange = true

-- the point that was made
abbrev pub point_in : Evaluation → Option (Arc Point Global)
point_in Absent = None
point_in (Present p) = Some p
point_in OutOfRange = None

-- at this key the evaluation is out of range, or it isn't and has these values, if there is a point
pub record IsEvaluation (key : List Value) (beyond : Bool) (values : Option (List Value)) (found : Evaluation) : Type 0 where
  pub range : is_beyond found ≡ beyond
  pub values_are : values_of (point_in found) ≡ values
  pub at_key : HasKey key (point_in found)
