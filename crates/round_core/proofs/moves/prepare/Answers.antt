use Rattle.std.proofs.Common.{subst, ◌∙◌, arith, ◌<◌, length}
use Rattle.round_core.specs.declared.slot.Slot.{Slot}
use Rattle.round_core.specs.Slots.{SameHome}
use Rattle.round_core.specs.Steps.{IsPrepared}
use Rattle.round_core.proofs.Lists.{below_set, get_or_any}
use Rattle.round_core.proofs.StepLemmas.{prepared_step}
use Rattle.round_core.proofs.moves.prepare.Goals as goal

pub loop-i-preserved : goal.loop-i-preserved
loop-i-preserved c =
    let inv = c.loop-i.invariant in
    let i = c.loop-i.i in
    let news = c.loop-i.slots.items in
    let slot = c.index_mut-slot.result.now in
    let x = c.start.new.self in
    let l : i < length news = omega (arith, c.loop-i-test.true, c.len-i-end.ensures, inv.0) in
    let b = below_set (λ (old new : Slot). SameHome old new × IsPrepared c.args.changes.now new) c.args.slots.now.items news i x (record { many = inv.0; changed = inv.1; stays = inv.2 }) l
    (λ d. subst (λ (y : Slot). SameHome y x × IsPrepared c.args.changes.now x) (c.index_mut-slot.ensures.value ∙ get_or_any news i slot d l) (prepared_step c.args.changes.now slot x c.in_ok-news.news c.as_slice.result.now c.start.ensures c.in_ok-news.ensures c.as_slice.ensures)) in
    (b.many, b.changed, b.stays)
