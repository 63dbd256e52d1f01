use Rattle.std.proofs.Common.{◌≤◌, ◌+◌, ◌*◌, List, ◌++◌, map, take}
use Rattle.vtl_values.specs.declared.value.Value.{Value}
use Rattle.point_sets.specs.Changes.{Changes}
use Rattle.held_index.specs.Holdings.{Holding, part_of}
use Rattle.operator_meaning.specs.exists.Exists.{ExistsOn}
use Rattle.exists_ops.specs.Noted.{IsFor, IsMetIn, IsNoted}
use Rattle.exists_ops.proofs.notes.note_part.Given as goal

-- the keys of the points so far are noted, with two steps for each
abbrev pub invariant-loop-n : goal.invariant-loop-n
invariant-loop-n g l = record {
  noted : ((e : ExistsOn) (b : Holding) (f : Changes) → IsFor e l.told l.left b l.own f → IsMetIn e b.content f l.part l.met → (ks : List (List Value))
      → IsNoted e l.left.content b.content l.own f ks l.fn.draft → IsNoted e l.left.content b.content l.own f (ks ++ map (λ p. p.0) (take l.n (part_of l.left.want l.part l.left.content))) l.draft);
  steps : l.steps ≤ l.fn.steps + 1 + 2 * l.n;
}
