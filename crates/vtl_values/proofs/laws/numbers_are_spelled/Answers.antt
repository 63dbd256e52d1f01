use Rattle.vtl_values.proofs.Spelled.{spells, reads}
use Rattle.vtl_values.proofs.laws.numbers_are_spelled.Goals as goal

pub returns-clause-spelled : goal.returns-clause-spelled
returns-clause-spelled c = spells

pub returns-clause-read : goal.returns-clause-read
returns-clause-read c = reads
