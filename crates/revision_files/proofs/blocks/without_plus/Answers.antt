use Rattle.revision_files.proofs.Lines.{plus_less}
use Rattle.revision_files.proofs.blocks.without_plus.Goals as goal

pub returns-then-first-eq43-clause-text : goal.returns-then-first-eq43-clause-text
returns-then-first-eq43-clause-text c = plus_less c.args.line.now c.in-len1-up.len_at_least c.if-first-eq43.true
