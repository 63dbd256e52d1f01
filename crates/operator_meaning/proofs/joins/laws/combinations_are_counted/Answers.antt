use Rattle.operator_meaning.proofs.joins.Counted.{too-many, not-so-many}
use Rattle.operator_meaning.proofs.joins.laws.combinations_are_counted.Goals as goal

pub returns-clause-too_many : goal.returns-clause-too_many
returns-clause-too_many c = too-many

pub returns-clause-few : goal.returns-clause-few
returns-clause-few c = not-so-many
