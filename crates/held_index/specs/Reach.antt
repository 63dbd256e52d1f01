-- How many changes there are (docs/layers.md, "held_index").
use Rattle.std.specs.Prelude.{ℕ, List}
use Rattle.std.specs.List.{sum_by}
use Rattle.std.specs.FinMap.{len}
use Rattle.point_sets.specs.Changes.{Changes}

-- the changes in all news together
abbrev pub changes_in : List Changes → ℕ
changes_in news = sum_by len news
