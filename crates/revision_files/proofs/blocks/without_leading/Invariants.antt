use Rattle.std.proofs.Common.{◌≡◌, length}
use Rattle.std.specs.Str.{IsUtf8}
use Rattle.revision_files.specs.Blocks.{without_leading}
use Rattle.revision_files.proofs.blocks.without_leading.Given as goal

abbrev pub invariant-loop-rest : goal.invariant-loop-rest
invariant-loop-rest l = (without_leading l.fn.text ≡ without_leading l.rest) × (IsUtf8 l.fn.text → IsUtf8 l.rest)

abbrev pub decreases-loop-rest : goal.decreases-loop-rest
decreases-loop-rest l = length l.rest
