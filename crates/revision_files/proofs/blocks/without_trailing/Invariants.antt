use Rattle.std.proofs.Common.{◌≡◌, length}
use Rattle.std.specs.Str.{IsUtf8}
use Rattle.revision_files.specs.Blocks.{without_trailing}
use Rattle.revision_files.proofs.blocks.without_trailing.Given as goal

abbrev pub invariant-loop-front : goal.invariant-loop-front
invariant-loop-front l = (without_trailing l.fn.text ≡ without_trailing l.front) × (IsUtf8 l.fn.text → IsUtf8 l.front)

abbrev pub decreases-loop-front : goal.decreases-loop-front
decreases-loop-front l = length l.front
