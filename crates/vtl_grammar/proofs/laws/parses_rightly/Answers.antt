use Rattle.vtl_grammar.proofs.ParsedLaw as law
use Rattle.vtl_grammar.proofs.laws.parses_rightly.Goals as goal

pub returns : goal.returns
returns c = law.parses_rightly
