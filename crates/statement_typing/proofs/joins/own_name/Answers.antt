use Rattle.statement_typing.proofs.Aliases.{unnamed}
use Rattle.statement_typing.proofs.joins.own_name.Goals as goal

pub returns-in_default : goal.returns-in_default
returns-in_default c = unnamed c.args.tree.now c.in_default.not-Name
