use Rattle.std.proofs.Common.{◌≡◌, take, length, map}
use Rattle.std.specs.Prelude.{sum}
use Rattle.round_core.specs.Answers.{told}
use Rattle.round_core.proofs.machine.part_fields.Given as goal

abbrev pub invariant-loop-row : goal.invariant-loop-row
invariant-loop-row l = l.count ≡ told (sum (map (λ row. length row.fields) (take l.row-index l.rows)))
