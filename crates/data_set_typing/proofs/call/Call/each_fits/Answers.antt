use Rattle.std.proofs.Common.{Bool, ◌&&◌, [], ap, sym, ◌∙◌}
use Rattle.data_set_trees.specs.Trees.{data_sets}
use Rattle.data_set_trees.specs.Lifted.{all_fit, alone}
use Rattle.data_set_typing.proofs.Alone.{operands_fit_alone}
use Rattle.data_set_typing.proofs.call.Call.each_fits.Goals as goal

pub returns-then-constants-clause-ok : goal.returns-then-constants-clause-ok
returns-then-constants-clause-ok c =
    let form = c.args.self.now.form.now in
    let place = c.args.self.now.place in
    let operands = c.args.self.now.operands.now in
    c.in_ok-each.ensures.ok
    ∙ operands_fit_alone form place operands [] operands
    ∙ ap (λ (b : Bool). b && all_fit form place operands (alone [] (data_sets operands))) (sym (sym c.in_ok-constants.ensures.ok ∙ c.if-constants.true))
