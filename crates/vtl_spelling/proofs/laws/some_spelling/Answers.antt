use Rattle.vtl_spelling.proofs.SpellingLaws as law
use Rattle.vtl_spelling.proofs.laws.some_spelling.Goals as goal

pub returns : goal.returns
returns c = law.some_spelling
