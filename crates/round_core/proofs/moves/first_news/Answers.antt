use Rattle.std.proofs.Common.{subst, sym, arith, List, get_or}
use Rattle.std.specs.declared.sync.Arc.{Arc}
use Rattle.std.specs.declared.alloc.Global.{Global}
use Rattle.point_sets.specs.Changes.{Changes}
use Rattle.round_core.specs.Steps.{IsFirstNews}
use Rattle.round_core.proofs.Lists.{each_push}
use Rattle.round_core.proofs.StepLemmas.{first_at}
use Rattle.round_core.proofs.moves.first_news.Goals as goal

pub loop-source-preserved : goal.loop-source-preserved
loop-source-preserved c =
    let inv = c.loop-source.invariant in
    let n = c.loop-source.source-index in
    let sources = c.args.sources.now in
    let x = c.in_ok-first_change.field-0 in (
      omega (arith, c.in_ok-push.ensures.len, inv.0),
      λ k d e l. subst (λ (v : List (Arc Changes Global)). IsFirstNews c.args.changes.now (get_or v k d) (get_or sources k e)) (sym c.in_ok-push.ensures.items)
          (each_push (IsFirstNews c.args.changes.now) c.loop-source.news.items sources n x inv.0 inv.1 (λ q. first_at c.args.changes.now x sources n _ q c.loop-source-test.true c.in_ok-first_change.ensures) k d e l),
    )
