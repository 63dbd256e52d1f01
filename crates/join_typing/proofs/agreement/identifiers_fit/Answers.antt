use Rattle.std.proofs.Common.{◌≡◌, ◌∙◌}
use Rattle.join_typing.proofs.Agreeing.{lists_are}
use Rattle.join_typing.proofs.agreement.identifiers_fit.Goals as goal

pub returns : goal.returns
returns c = c.lists_fit.ensures ∙ lists_are c.args.function c.as_slice.result.now c.args.structures.now (c.as_slice.ensures ∙ c.in_ok-all.ensures)
