use Rattle.std.specs.Prelude.{true, false}
use Rattle.operator_meaning.proofs.joins.Words.{where-any}
use Rattle.operator_meaning.proofs.joins.laws.full_join_has_the_points_of_any.Goals as goal

pub returns-clause-any : goal.returns-clause-any
returns-clause-any c = λ j sets y typed many is made key long. where-any j sets y typed many made key long true is

pub returns-clause-none : goal.returns-clause-none
returns-clause-none c = λ j sets y typed many is made key long. where-any j sets y typed many made key long false is
