use Rattle.operator_meaning.proofs.joins.Words.{where-first, where-not-first}
use Rattle.operator_meaning.proofs.joins.laws.left_join_has_the_points_of_the_first.Goals as goal

pub returns-clause-there : goal.returns-clause-there
returns-clause-there c = where-first

pub returns-clause-missing : goal.returns-clause-missing
returns-clause-missing c = where-not-first
