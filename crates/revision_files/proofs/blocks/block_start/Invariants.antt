use Rattle.std.proofs.Common.{◌≡◌, ◌+◌, length, drop}
use Rattle.revision_files.specs.Blocks.{cut_from}
use Rattle.revision_files.proofs.blocks.block_start.Given as goal

abbrev pub invariant-loop-at : goal.invariant-loop-at
invariant-loop-at l = length (cut_from l.fn.fresh l.text).before ≡ l.at + length (cut_from l.begins (drop l.at l.text)).before
