use Rattle.vtl_grammar.proofs.OneAnswer as law
use Rattle.vtl_grammar.proofs.laws.one_answer.Goals as goal

pub returns : goal.returns
returns c = law.one_answer
