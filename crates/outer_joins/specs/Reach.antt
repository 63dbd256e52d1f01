-- How many steps the rules of left and full joins may take (docs/layers.md, "outer_joins").
use Rattle.std.specs.Prelude.{◌≡◌, ℕ, ◌*◌, List}
use Rattle.std.proofs.Common.{arith}
use Rattle.held_index.specs.Reach.{changes_in}
use Rattle.point_sets.specs.Changes.{Changes}

-- for each change a look at each operand, before the news and after them
abbrev pub outer_reach : ℕ → List Changes → ℕ
outer_reach operands news = 4 * operands * changes_in news

-- without a change nothing is reached
pub no_reach : (operands : ℕ) (news : List Changes) → changes_in news ≡ 0 → outer_reach operands news ≡ 0
no_reach operands news h = rw h (omega arith)
