use Rattle.std.proofs.Common.{◌≡◌, length}
use Rattle.revision_files.specs.Blocks.{is_blank_text}
use Rattle.revision_files.proofs.blocks.is_blank_text.Given as goal

abbrev pub invariant-loop-rest : goal.invariant-loop-rest
invariant-loop-rest l = is_blank_text l.fn.text ≡ is_blank_text l.rest

abbrev pub decreases-loop-rest : goal.decreases-loop-rest
decreases-loop-rest l = length l.rest
