-- Laws of reaches.
use Rattle.std.proofs.Common.{◌≡◌, ℕ, ◌+◌, ◌*◌, List, length, arith}
use Rattle.vtl_values.specs.declared.structure.Component.{Component}
use Rattle.point_sets.specs.Changes.{Changes}
use Rattle.held_index.specs.Holdings.{Holding}
use Rattle.held_index.specs.Reach.{changes_in}
use Rattle.choice_ops.specs.Reach.{choice_reach}

nothing_times : (a b : ℕ) → b ≡ 0 → a * b ≡ 0
nothing_times a b h = rw h (omega arith)

-- without a change nothing is reached
pub no_reach : (structures : List (List Component)) (held : List Holding) (news : List Changes) → changes_in news ≡ 0 → choice_reach structures held news ≡ 0
no_reach structures held news h = nothing_times (2 * length structures + 2) (changes_in news) h
