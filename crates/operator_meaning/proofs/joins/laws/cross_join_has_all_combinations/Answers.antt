use Rattle.std.specs.Prelude.{true, false}
use Rattle.operator_meaning.proofs.joins.Words.{cross-keys, cross-own, where-each}
use Rattle.operator_meaning.proofs.joins.laws.cross_join_has_all_combinations.Goals as goal

pub returns-clause-keys : goal.returns-clause-keys
returns-clause-keys c = cross-keys

pub returns-clause-own : goal.returns-clause-own
returns-clause-own c = cross-own

pub returns-clause-all : goal.returns-clause-all
returns-clause-all c = λ j sets y typed many is made own long. where-each j sets is own long y typed many made true

pub returns-clause-not_all : goal.returns-clause-not_all
returns-clause-not_all c = λ j sets y typed many is made own long. where-each j sets is own long y typed many made false
