use Rattle.std.proofs.Common.{sym}
use Rattle.scalar_texts.proofs.BlankLemmas.{rtrimmed_is, IsRightTrimmed-chars}
use Rattle.scalar_texts.proofs.blanks.without_trailing.Goals as goal

pub returns-clause-law : goal.returns-clause-law
returns-clause-law c = IsRightTrimmed-chars _ _ c.trim_end_matches.utf8 c.trim_end_matches.ensures.matches

pub returns-clause-value : goal.returns-clause-value
returns-clause-value c = sym (rtrimmed_is _ _ (returns-clause-law c))
