use Rattle.std.proofs.Common.{◌≡◌, subst, ◌∙◌, arith, ◌<◌, ◌++◌, length, get_or}
use Rattle.round_core.specs.declared.slot.Slot.{Slot}
use Rattle.round_core.specs.Slots.{HandedOn, names_it}
use Rattle.round_core.proofs.Lists.{below_set, get_or_any}
use Rattle.round_core.proofs.StepLemmas.{handed_more, still_enough, gone_more}
use Rattle.round_core.proofs.moves.hand_on.Goals as goal

pub loop-i-preserved : goal.loop-i-preserved
loop-i-preserved c =
    let inv = c.loop-i.invariant in
    let i = c.loop-i.i in
    let olds = c.args.slots.now.items in
    let news = c.loop-i.slots.items in
    let rest = c.loop-i.rest.items in
    let deltas = c.args.deltas.items in
    let slot = c.index_mut-slot.result.now in
    let x = c.take_change.new.self in
    let r = c.take_change.ensures.rest in
    let m : i < length olds = omega (arith, c.loop-i-test.true, c.len-i-end.ensures) in
    let l : i < length news = omega (arith, m, inv.0) in
    let was : slot ≡ get_or olds i slot = c.index_mut-slot.ensures.value ∙ inv.2 i slot (omega arith) in
    let b = below_set (HandedOn c.args.statement deltas) olds news i x (record { many = inv.0; changed = inv.1; stays = inv.2 }) l
    (λ d. subst (λ (y : Slot). HandedOn c.args.statement deltas y x) (c.index_mut-slot.ensures.value ∙ get_or_any news i slot d l) (handed_more c.args.statement rest inv.4.0 deltas slot x inv.4.1 c.take_change.ensures.slot)) in
    (b.many, b.changed, b.stays, still_enough (names_it c.args.statement) olds i slot rest c.take_change.new.rest.items m was inv.3 r, (r.gone ++ inv.4.0, gone_more c.take_change.new.rest.items r.gone inv.4.0 rest deltas r.front inv.4.1))
