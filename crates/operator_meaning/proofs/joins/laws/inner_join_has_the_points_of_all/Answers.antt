use Rattle.std.specs.Prelude.{true, false}
use Rattle.operator_meaning.proofs.joins.Words.{where-all}
use Rattle.operator_meaning.proofs.joins.laws.inner_join_has_the_points_of_all.Goals as goal

pub returns-clause-all : goal.returns-clause-all
returns-clause-all c = λ j sets y typed many is made key long. where-all j sets y typed many made key long true is

pub returns-clause-not_all : goal.returns-clause-not_all
returns-clause-not_all c = λ j sets y typed many is made key long. where-all j sets y typed many made key long false is
