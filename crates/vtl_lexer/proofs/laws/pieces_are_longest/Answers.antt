use Rattle.vtl_lexer.proofs.LongestLemmas.{longest}
use Rattle.vtl_lexer.proofs.laws.pieces_are_longest.Goals as goal

pub returns : goal.returns
returns c = longest
