use Rattle.std.proofs.Common.{◌≡◌, subst, sym, refl, ◌∙◌, ap, arith, ◌<◌, ◌++◌, [], length, get_or}
use Rattle.round_core.specs.declared.slot.Slot.{Slot}
use Rattle.round_journal.specs.Releases.{and_page}
use Rattle.round_core.specs.Slots.{SameHome, pages_of_stage}
use Rattle.round_core.proofs.Lists.{below_set, get_or_any}
use Rattle.round_core.proofs.StepLemmas.{pages_step, one_page_more}
use Rattle.round_core.proofs.moves.collect_pages.Goals as goal

pub loop-i-preserved : goal.loop-i-preserved
loop-i-preserved c =
    let inv = c.loop-i.invariant in
    let i = c.loop-i.i in
    let olds = c.args.slots.now.items in
    let news = c.loop-i.slots.items in
    let slot = c.index_mut-slot.result.now in
    let x = c.take_pages.new.self in
    let m : i < length olds = omega (arith, c.loop-i-test.true, c.len-i-end.ensures) in
    let l : i < length news = omega (arith, m, inv.0) in
    let was : slot ≡ get_or olds i slot = c.index_mut-slot.ensures.value ∙ inv.2 i slot (omega arith) in
    let b = below_set SameHome olds news i x (record { many = inv.0; changed = inv.1; stays = inv.2 }) l
    (λ d. subst (λ (y : Slot). SameHome y x) (c.index_mut-slot.ensures.value ∙ get_or_any news i slot d l) (subst (λ (z : Slot). SameHome slot z) (sym c.take_pages.ensures.rest) (record { sources = refl; stamp = refl; node = refl }))) in
    let pages = c.push_pages.ensures.pages ∙ ap (λ o. c.loop-i.room.items ++ and_page o []) (c.take_pages.ensures.pages ∙ ap (λ (y : Slot). pages_of_stage y.stage) was) in
    let longer = one_page_more c.loop-i.room.items c.push_pages.new.room.items c.take_pages.result c.push_pages.ensures.pages in
    (b.many, b.changed, b.stays, pages_step (λ (y : Slot). pages_of_stage y.stage) olds i slot c.args.room.now.items c.loop-i.room.items c.push_pages.new.room.items m inv.3 pages, omega (arith, inv.4, longer, c.push_pages.ensures.capacity))
