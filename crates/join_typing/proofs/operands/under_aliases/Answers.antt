use Rattle.std.proofs.Common.{sym}
use Rattle.join_typing.proofs.Aliases.{unequal}
use Rattle.join_typing.proofs.operands.under_aliases.Goals as goal

pub returns-then-aliases-sets : goal.returns-then-aliases-sets
returns-then-aliases-sets c = sym (unequal c.args.aliases.now c.args.sets.now c.if-aliases-sets.true)
