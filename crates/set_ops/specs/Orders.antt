-- Values in another order (docs/language.md, "Sets").
use Rattle.std.specs.Prelude.{◌≡◌, ◌<◌, ℕ, List, length, filter_map, slice_index}
use Rattle.std.specs.List.{position}
use Rattle.vtl_values.specs.declared.structure.Component.{Component}
use Rattle.data_set_trees.specs.Components.{has_name}

-- the numbers, among some components, of those that have the names of the other ones, in their order
abbrev pub numbers_between : List Component → List Component → List ℕ
numbers_between from to = filter_map (λ c. position (has_name c.name) from) to

-- each number stands in its own place
abbrev pub AreInPlace : List ℕ → Type 0
AreInPlace numbers = (k : ℕ) → k < length numbers → slice_index numbers k ≡ k
