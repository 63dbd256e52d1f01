use Rattle.std.proofs.Common.{sym}
use Rattle.scalar_texts.proofs.BlankLemmas.{ltrimmed_is, IsLeftTrimmed-chars}
use Rattle.scalar_texts.proofs.blanks.without_leading.Goals as goal

pub returns-clause-law : goal.returns-clause-law
returns-clause-law c = IsLeftTrimmed-chars _ _ c.trim_start_matches.utf8 c.trim_start_matches.ensures.matches

pub returns-clause-value : goal.returns-clause-value
returns-clause-value c = sym (ltrimmed_is _ _ (returns-clause-law c))
