use Rattle.operator_meaning.proofs.choices.Keys.{key-back, key-forth, key-whole}
use Rattle.operator_meaning.proofs.choices.laws.keys_are_matched.Goals as goal

pub returns-clause-back : goal.returns-clause-back
returns-clause-back c = key-back

pub returns-clause-forth : goal.returns-clause-forth
returns-clause-forth c = key-forth

pub returns-clause-whole : goal.returns-clause-whole
returns-clause-whole c = key-whole
