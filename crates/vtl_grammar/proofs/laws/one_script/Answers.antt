use Rattle.vtl_grammar.proofs.GrammarLaws as law
use Rattle.vtl_grammar.proofs.laws.one_script.Goals as goal

pub returns : goal.returns
returns c = law.one_script
