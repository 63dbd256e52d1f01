use Rattle.std.proofs.Common.{◌≡◌, ◌∙◌}
use Rattle.join_typing.proofs.Agreeing.{aliases_are}
use Rattle.join_typing.proofs.beginning.aliases_differ.Goals as goal

pub returns : goal.returns
returns c = c.no_alias_twice.ensures ∙ aliases_are c.args.operands.now
