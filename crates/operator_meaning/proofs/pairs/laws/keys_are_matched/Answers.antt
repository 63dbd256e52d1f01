use Rattle.operator_meaning.proofs.pairs.Keys.{main-back, partner-same, result-long, result-back}
use Rattle.operator_meaning.proofs.pairs.laws.keys_are_matched.Goals as goal

pub returns-clause-back : goal.returns-clause-back
returns-clause-back c = main-back

pub returns-clause-partner_same : goal.returns-clause-partner_same
returns-clause-partner_same c = partner-same

pub returns-clause-whole : goal.returns-clause-whole
returns-clause-whole c = result-long

pub returns-clause-forth : goal.returns-clause-forth
returns-clause-forth c = result-back
