use Rattle.vtl_grammar.proofs.ParsedLaw as law
use Rattle.vtl_grammar.proofs.laws.parses_all.Goals as goal

pub returns : goal.returns
returns c = law.parses_all
