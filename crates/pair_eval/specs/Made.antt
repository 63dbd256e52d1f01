-- What a pair makes of two points (docs/language.md, "Pairs").
use Rattle.std.specs.Prelude.{List, Option, ◌++◌, is_none, option_map, option_and_then}
use Rattle.std.specs.Option.{option_map_or, option_zip}
use Rattle.std.specs.Prelude.{Bool, false}
use Rattle.std.specs.declared.sync.Arc.{Arc}
use Rattle.std.specs.declared.alloc.Global.{Global}
use Rattle.vtl_values.specs.declared.value.Value.{Value}
use Rattle.point_sets.specs.declared.point.Point.{Point}
use Rattle.point_sets.specs.DataSets.{key_of, rest_of}
use Rattle.clause_eval.specs.declared.evaluation.Evaluation.{Evaluation}
use Rattle.clause_eval.specs.Evaluations.{IsEvaluation}
use Rattle.operator_meaning.specs.pairs.Pairs.{PairOn, pair_values}

-- all values of the point that may be there
abbrev pub all_values : Option (Arc Point Global) → Option (List Value)
all_values point = option_map (λ p. key_of p ++ rest_of p) point

-- all values of two points, where both are there
abbrev pub AllValues : Type 0
AllValues = Option (List Value × List Value)

-- the measures of two points are out of range
abbrev pub is_beyond : PairOn → AllValues → Bool
is_beyond p both = option_map_or (λ q. is_none (pair_values p q.0 q.1)) both false

-- what the result has where these two points meet
abbrev pub value_of : PairOn → AllValues → Option (List Value)
value_of p both = option_and_then (λ q. pair_values p q.0 q.1) both

-- what was found at this key of the result is what these points make there
abbrev pub IsMade : PairOn → List Value → Option (Arc Point Global) → Option (Arc Point Global) → Evaluation → Type 0
IsMade p key left right found =
    let both : AllValues = option_zip (all_values left) (all_values right) in
    IsEvaluation key (is_beyond p both) (value_of p both) found
