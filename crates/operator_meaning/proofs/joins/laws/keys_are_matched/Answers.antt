use Rattle.operator_meaning.proofs.joins.Typed.{key-long, key-back, key-partner, key-forth}
use Rattle.operator_meaning.proofs.joins.Structure.{as-many-identifiers}
use Rattle.operator_meaning.proofs.joins.laws.keys_are_matched.Goals as goal

pub returns-clause-result : goal.returns-clause-result
returns-clause-result c = λ j typed. as-many-identifiers j.function j.operands j.structure typed.join.gives

pub returns-clause-whole : goal.returns-clause-whole
returns-clause-whole c = λ j s own typed apart there whole long. key-long j typed apart s there whole own long

pub returns-clause-back : goal.returns-clause-back
returns-clause-back c = λ j s own typed apart there whole long. key-back j typed apart s there whole own long

pub returns-clause-partner : goal.returns-clause-partner
returns-clause-partner c = λ j s t own typed apart there whole its long. key-partner j typed apart s there whole own long t its

pub returns-clause-forth : goal.returns-clause-forth
returns-clause-forth c = λ j s key typed apart there whole long. key-forth j typed apart s there whole key long
