use Rattle.std.proofs.Common.{◌≡◌, rules, ap}
use denote.Param.Weighed.{most}
use Rattle.vtl_syntax.proofs.expr.Expr.TheLaws.{the_size as expr_size}
use Rattle.vtl_syntax.specs.declared.expr.Clause.TheViews.{the_lemmas}
use Rattle.tree_copies.proofs.maker.Maker.other_parts.Goals as goal

pub each-requires-clause-inside : goal.each-requires-clause-inside
each-requires-clause-inside g c =
    let m : most expr_size c.as_slice.result.now ≡ most expr_size c.in-Sets.others = ap (most expr_size) c.as_slice.ensures in
    search (rules, the_lemmas, m)
