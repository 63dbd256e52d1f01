use Rattle.data_set_trees.specs.declared.times.time.CheckedTime.TheVariants as time
use Rattle.data_set_trees.proofs.times.Given.{gives_structures}
use Rattle.time_typing.proofs.Checked.{fill_is}
use Rattle.time_typing.proofs.operators.fill_typed.Goals as goal

pub returns-clause-structure : goal.returns-clause-structure
returns-clause-structure c = λ is. gives_structures c.args.place c.args.components.now (time.Fill c.unwrap_or.result c.in_ok-period.period) is (fill_is c.unwrap_or.result c.args.place c.args.components.now c.in_ok-period.period c.in_ok-period.ensures.ok)
