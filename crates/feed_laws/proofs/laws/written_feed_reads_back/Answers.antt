use Rattle.feed_laws.proofs.FeedsRead.{written-back}
use Rattle.feed_laws.proofs.laws.written_feed_reads_back.Goals as goal

pub returns : goal.returns
returns c = written-back
