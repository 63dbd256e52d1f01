use Rattle.std.proofs.Common.{◌≡◌, rules, ap}
use denote.Param.Weighed.{most}
use Rattle.vtl_syntax.proofs.expr.JoinOperand.TheLaws.{the_size as operand_size}
use Rattle.vtl_syntax.specs.declared.expr.Clause.TheViews.{the_lemmas}
use Rattle.tree_copies.proofs.maker.Maker.joined.Goals as goal

pub operands-requires-clause-inside : goal.operands-requires-clause-inside
operands-requires-clause-inside g c =
    let m : most operand_size c.as_slice.result.now ≡ most operand_size c.in-Join.others = ap (most operand_size) c.as_slice.ensures in
    search (rules, the_lemmas, m)
