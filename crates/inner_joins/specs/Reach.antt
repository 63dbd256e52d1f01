-- How many steps the rules of inner joins may take (docs/layers.md, "inner_joins").
use Rattle.std.specs.Prelude.{ℕ, ◌+◌, ◌*◌, List, map, length}
use Rattle.std.specs.List.{range_with_len, sum_by}
use Rattle.std.specs.FinMap.{len}
use Rattle.point_sets.specs.Changes.{Changes}
use Rattle.held_index.specs.Holdings.{Holding}
use Rattle.join_eval.specs.Plans.{structure_of}
use Rattle.operator_meaning.specs.joins.Joins.{JoinOn}
use Rattle.pair_ops.specs.Reach.{NamedValue, met_keys, named_values, pairs_with}
use Rattle.inner_joins.specs.Noted.{held_for, news_of}
use Rattle.inner_joins.specs.Rules.{main_number}

-- the points of the main operand before the news and after them, as it is held for the operand of a number
abbrev pub points_for : JoinOn → List Holding → List Changes → ℕ → List (List NamedValue)
points_for j held news number = map (named_values (structure_of j (main_number j))) (met_keys (held_for j held number).content (news_of (main_number j) news))

-- how often a change of an operand agrees with one of these
abbrev pub pairs_of : JoinOn → List Holding → List Changes → ℕ → ℕ
pairs_of j held news number = pairs_with (points_for j held news number) (structure_of j number) (news_of number news)

-- 2n + 2 steps for each change of an operand, and for each such point that it agrees with
abbrev pub steps_for : JoinOn → List Holding → List Changes → ℕ → ℕ
steps_for j held news number = (2 * length j.operands + 2) * (len (news_of number news) + pairs_of j held news number)

-- for all operands together
abbrev pub inner_reach : JoinOn → List Holding → List Changes → ℕ
inner_reach j held news = sum_by (steps_for j held news) (range_with_len 0 (length j.operands))
