use Rattle.std.proofs.Common.{◌≡◌, ap, ◌∙◌}
use Rattle.std.specs.List.{list_any}
use Rattle.join_typing.specs.Joining.{is_identifier_named}
use Rattle.join_typing.proofs.Naming.{taken_by}
use Rattle.join_typing.proofs.titles.has_identifier.Goals as goal

pub returns : goal.returns
returns c = c.has_identifier_named.ensures ∙ ap (list_any (is_identifier_named c.args.name.now)) c.components.ensures.value ∙ taken_by c.args.name.now c.args.operand.now.structure
