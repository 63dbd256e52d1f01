use Rattle.std.proofs.Common.{ap, ◌∙◌}
use Rattle.held_index.specs.Wants.{whole}
use Rattle.inner_joins.specs.Rules.{main_number, number_at}
use Rattle.inner_joins.proofs.Wanted.{wants-more}
use Rattle.inner_joins.proofs.wants.push_whole.Goals as goal

pub loop-place-preserved : goal.loop-place-preserved
loop-place-preserved c =
    wants-more whole (main_number c.args.plan.now) c.loop-place.place c.args.wants.now c.loop-place.wants c.push.new.self c.whole.result c.loop-place.invariant c.in_ok-push.ensures.ok
    (c.whole.ensures ∙ ap whole (c.number_at-number.ensures ∙ ap (λ m. number_at m c.loop-place.place) c.main.ensures.number))
