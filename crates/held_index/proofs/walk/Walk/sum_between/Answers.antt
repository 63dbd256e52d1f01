use Rattle.std.proofs.Common.{◌∙◌, ◌<◌, length}
use Rattle.std.specs.Arc.{arc_value}
use Rattle.ordered_tree.specs.Lists.{stretch}
use Rattle.held_index.proofs.EntryLemmas.{sum_at-total, own-stretch, points-stretch}
use Rattle.held_index.proofs.walk.Walk.sum_between.Goals as goal

pub returns : goal.returns
returns c =
    let es = c.self.inside.entries in
    let sums = (arc_value c.self.inside.want).sums in
    let which : c.args.which < length sums = rw (← c.self.view_is) at c.requires.which in
    rw (← c.self.view_is, ← points-stretch c.args.from c.args.to es)
    (c.read_between.ensures.value ∙ sum_at-total sums c.args.which (stretch c.args.from c.args.to es) (own-stretch sums c.args.from c.args.to es c.self.invariant.own) which)
