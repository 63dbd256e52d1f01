use Rattle.std.proofs.Common.{◌≡◌}
use Rattle.held_index.specs.Sums.{join_sums}
use Rattle.held_index.specs.SumLaws.{join_sums-fit}
use Rattle.held_index.proofs.sums.SumsMeasure.around.Goals as goal

pub joined-requires-2-clause-other : goal.joined-requires-2-clause-other
joined-requires-2-clause-other c =
    let fit = join_sums-fit.both 1 c.args.after c.args.item.now c.args.right.now c.requires.item c.requires.right in
    let is : c.deref-4.result.now ≡ join_sums c.args.item.now c.args.right.now = cc (c.deref-4.ensures.value, c.in_ok-rest.ensures, c.deref.ensures.value, c.deref-2.ensures.value, c.item.view_is, c.right.view_is) in
    rw is fit
