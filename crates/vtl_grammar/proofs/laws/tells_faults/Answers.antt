use Rattle.vtl_grammar.proofs.FaultLaw as law
use Rattle.vtl_grammar.proofs.laws.tells_faults.Goals as goal

pub returns : goal.returns
returns c = law.tells_faults
