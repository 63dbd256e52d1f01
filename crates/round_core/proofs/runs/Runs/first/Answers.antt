use Rattle.std.proofs.Common.{◌≡◌, ◌+◌, List, map, take, sym, ap, subst, arith}
use Rattle.std.specs.Arc.{arc_value}
use Rattle.std.specs.declared.sync.Arc.{Arc}
use Rattle.std.specs.declared.alloc.Global.{Global}
use Rattle.point_sets.specs.Changes.{Changes}
use Rattle.round_core.proofs.RunLemmas.{first_more, first_all}
use Rattle.round_core.proofs.runs.Runs.first.Goals as goal

pub loop-run-preserved : goal.loop-run-preserved
loop-run-preserved c =
    let first = take c.args.kept c.deref.result.now in
    subst (λ (runs : List (Arc Changes Global)). map arc_value runs ≡ take (c.loop-run.run-index + 1) (map arc_value first)) (sym c.in_ok-push.ensures.items)
    (first_more first c.loop-run.runs.items c.loop-run.run-index c.run-item.result c.in_ok-clone.field-0 c.loop-run-test.true c.run-item.is c.loop-run.invariant c.in_ok-clone.ensures.cases)

pub returns : goal.returns
returns c =
    let first = take c.args.kept c.deref.result.now in
    first_all first c.loop-run.runs.items c.args.self.now.runs.items c.loop-run.run-index c.args.kept c.loop-run.invariant (omega (arith, c.loop-run-test.false, c.loop-run.auto.run-index-end)) (ap (take c.args.kept) c.deref.ensures.value)
