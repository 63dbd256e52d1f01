use Rattle.std.proofs.Common.{◌∙◌, sym}
use Rattle.data_set_trees.specs.Pairs.{is_called}
use Rattle.data_set_typing.proofs.Opposites.{any_by_place}
use Rattle.data_set_typing.proofs.meetings.has_namesake.Goals as goal

pub returns-then-is_opposite : goal.returns-then-is_opposite
returns-then-is_opposite c = sym (any_by_place (is_called c.args.measure.now.name) c.args.others.now c.args.at (sym c.is_opposite.ensures ∙ c.if-is_opposite.true))
