use Rattle.vtl_spelling.proofs.SpellingLaws as law
use Rattle.vtl_spelling.proofs.laws.spells_scripts.Goals as goal

pub returns : goal.returns
returns c = law.spells_scripts
