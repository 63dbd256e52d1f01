use Rattle.std.proofs.Common.{List, sym, subst}
use Rattle.vtl_values.specs.declared.structure.Component.{Component}
use Rattle.held_index.specs.Holdings.{FitsStructure}
use Rattle.held_index.specs.declared.want.Want.{Want}
use Rattle.operator_rules.specs.Rules.{IsWanted}
use Rattle.transform_nodes.proofs.build.nothing_held_of.Goals as goal

pub empty-requires : goal.empty-requires
empty-requires c =
    let want = c.want-item.result in
    let operand = c.index-operands-want.result in
    let wanted = subst (λ (w : Want). IsWanted w c.args.operands.now) (sym c.want-item.is) (c.requires c.loop-want.want-index want c.loop-want-test.true) in
    subst (λ (cs : List Component). FitsStructure want cs) (sym c.index-operands-want.is) (wanted.fits operand)
