use Rattle.std.proofs.Common.{◌≡◌, take, map}
use Rattle.std.specs.Prelude.{sum}
use Rattle.round_journal.specs.Journals.{part_fields}
use Rattle.round_core.specs.Answers.{told}
use Rattle.round_core.proofs.machine.count_fields.Given as goal

abbrev pub invariant-loop-part : goal.invariant-loop-part
invariant-loop-part l = l.count ≡ told (sum (map part_fields (take l.part-index l.parts)))
