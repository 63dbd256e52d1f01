use Rattle.vtl_lexer.proofs.PlaceLemmas.{counts}
use Rattle.vtl_lexer.proofs.laws.counts_places.Goals as goal

pub returns : goal.returns
returns c = counts
