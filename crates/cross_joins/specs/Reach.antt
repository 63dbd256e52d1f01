-- How many steps the rules of cross joins may take (docs/layers.md, "cross_joins").
use Rattle.std.specs.Prelude.{◌≡◌, ℕ, ◌+◌, ◌*◌, List, [], length, nat_eq, if◌then◌else◌, refl}
use Rattle.std.specs.FinMap.{len}
use Rattle.std.specs.List.{sum_by}
use Rattle.point_sets.specs.Changes.{Changes}
use Rattle.held_index.specs.Holdings.{Holding, part_of}
use Rattle.held_index.specs.Reach.{changes_in}

-- going through an operand: it is counted, and each point is looked at
abbrev pub walk_steps : Holding → ℕ
walk_steps held = 1 + 2 * length (part_of held.want [] held.content)

-- all points that are held
abbrev pub points_in : List Holding → ℕ
points_in held = sum_by (λ h. len h.content) held

-- where something changes, each operand is counted and gone through
abbrev pub cross_reach : ℕ → List Holding → List Changes → ℕ
cross_reach operands held news = if nat_eq (changes_in news) 0 then 0 else 2 * points_in held + 3 * operands

-- without a change nothing is reached
pub no_reach : (operands : ℕ) (held : List Holding) (news : List Changes) → changes_in news ≡ 0 → cross_reach operands held news ≡ 0
no_reach operands held news h = rw h refl
