use Rattle.vtl_grammar.proofs.GrammarLaws as law
use Rattle.vtl_grammar.proofs.laws.reads_rightly.Goals as goal

pub returns : goal.returns
returns c = law.reads_rightly
