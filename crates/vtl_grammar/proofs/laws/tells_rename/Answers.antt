use Rattle.vtl_grammar.proofs.RenameLaw as law
use Rattle.vtl_grammar.proofs.laws.tells_rename.Goals as goal

pub returns : goal.returns
returns c = law.tells_rename
