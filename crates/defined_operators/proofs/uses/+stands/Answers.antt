use Rattle.defined_operators.proofs.Standing.{stands-inside}
use Rattle.std.proofs.Common.{ap, sym, ◌∙◌}
use Rattle.std.specs.List.{list_any}
use Rattle.defined_operators.specs.Uses.{stands_in}
use Rattle.defined_operators.proofs.uses.+stands.Goals as goal

pub stands-returns-else-is_name : goal.stands-returns-else-is_name
stands-returns-else-is_name t c = stands-inside c.args.name.now c.args.outline.now c.stands_in_one.result (sym c.is_name.ensures ∙ c.if-is_name.false) (c.stands_in_one.ensures ∙ ap (list_any (stands_in c.args.name.now)) c.as_slice.ensures)
