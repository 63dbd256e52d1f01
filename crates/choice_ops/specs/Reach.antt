-- How many steps the rule of a conditional may take (docs/layers.md, "choice_ops").
use Rattle.std.specs.Prelude.{ℕ, ◌+◌, ◌*◌, List, length}
use Rattle.vtl_values.specs.declared.structure.Component.{Component}
use Rattle.point_sets.specs.Changes.{Changes}
use Rattle.held_index.specs.Holdings.{Holding}
use Rattle.held_index.specs.Reach.{changes_in}

-- at the key of each change the condition is looked up, and the branches that it chose and chooses
abbrev pub choice_reach : List (List Component) → List Holding → List Changes → ℕ
choice_reach structures held news = (2 * length structures + 2) * changes_in news
