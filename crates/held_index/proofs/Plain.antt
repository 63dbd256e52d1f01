-- What is held in one part, by the key.
use Rattle.std.proofs.Common.{◌≡◌, List, Bool, Option, Some, None, true, refl}
use Rattle.vtl_values.specs.declared.value.Value.{Value}
use Rattle.std.specs.FinMap.{get}
use Rattle.data_model.specs.Maps.{if_passes}
use Rattle.point_sets.specs.DataSets.{DataSet}
use Rattle.held_index.specs.declared.want.Want.{Want}
use Rattle.held_index.specs.Walks.{PointValues}
use Rattle.held_index.specs.Holdings.{IsPlain, stands_with, found_at}

all_pass : (p : List Value → Bool) (o : Option (List Value)) → ((x : List Value) → p x ≡ true) → if_passes p o ≡ o
all_pass p None f = refl
all_pass p (Some x) f = rw (f x) refl

-- a look finds what the data set has at the key
pub found_at-plain : (w : Want) (at : PointValues) (m : DataSet) → IsPlain w → found_at w at m ≡ get m at.0
found_at-plain w at m is = all_pass (λ rest. stands_with w at (at.0, rest)) (get m at.0) (λ rest. rw (is.one_part, is.by_key) refl)
