use Rattle.operator_meaning.proofs.joins.Words.{some-whole, left-whole, full-whole}
use Rattle.operator_meaning.proofs.joins.laws.operands_are_whole.Goals as goal

pub returns-clause-inner : goal.returns-clause-inner
returns-clause-inner c = some-whole

pub returns-clause-left : goal.returns-clause-left
returns-clause-left c = left-whole

pub returns-clause-full : goal.returns-clause-full
returns-clause-full c = full-whole
