use Rattle.std.proofs.Common.{◌≡◌, ◌≤◌, [], length}
use Rattle.std.specs.Str.{IsUtf8}
use Rattle.revision_files.specs.Answers.{one_by_one}
use Rattle.revision_files.specs.Blocks.{cut}
use Rattle.revision_files.specs.Feeds.{MOST_BLOCKS, next_block, no_blocks}
use Rattle.revision_files.specs.Seen.{seen}
use Rattle.revision_files.proofs.feed.all_blocks.Given as goal

abbrev pub invariant-loop-rest : goal.invariant-loop-rest
invariant-loop-rest l = (one_by_one (next_block l.structures) no_blocks (cut l.fn.text).blocks ≡ one_by_one (next_block l.structures) (seen l.feed) (cut l.rest).blocks)
    × ((cut l.rest).before ≡ [])
    × IsUtf8 l.rest
    × (l.feed.blocks ≤ MOST_BLOCKS)

abbrev pub decreases-loop-rest : goal.decreases-loop-rest
decreases-loop-rest l = length l.rest
