use Rattle.std.proofs.Common.{◌≡◌, sym, ◌∙◌, ap, arith, refl, subst}
use Rattle.round_core.specs.declared.slot.Slot.{Slot}
use Rattle.round_core.specs.Kept.{KeptMachine}
use Rattle.std.proofs.Common.{List, ◌<◌}
use Rattle.std.specs.Prelude.{min}
use Rattle.round_core.specs.Slots.{AllStill, EachSlot, IsFaultFree, points_in_all}
use Rattle.operator_meaning.specs.Scripts.{POINTS_LIMIT}
use Rattle.round_core.proofs.EndLemmas.{Ended, room_left, kept_failed, kept_dropped, too_many, still_of_over}
use Rattle.round_core.proofs.machine.Machine.end_round.Goals as goal

pub close-requires : goal.close-requires
close-requires c =
    let e : Ended c.args.self.now c.args.by = record { still = c.requires; slots = subst (λ (v : List Slot). AllStill v) c.as_slice.ensures.value c.in-Dropped.ensures.0 } in
    omega (arith, room_left c.args.self.now c.args.by e, c.requires.within.room)

pub close-requires-in-Total : goal.close-requires-in-Total
close-requires-in-Total c =
    let e : Ended c.args.self.now c.args.by = record { still = c.requires; slots = subst (λ (v : List Slot). AllStill v) c.as_slice.ensures.value c.in-Total.ensures.0 } in
    omega (arith, room_left c.args.self.now c.args.by e, c.requires.within.room)

pub returns-in-GoesOn-clause-kept : goal.returns-in-GoesOn-clause-kept
returns-in-GoesOn-clause-kept c = record { within = c.requires.within; sound = c.requires.sound; live = λ over. c.in-GoesOn.ensures (subst (λ (v : List Slot). AllStill v) (sym c.as_slice.ensures.value) (still_of_over c.args.self.now c.args.by c.requires over)) }

pub returns-in-Dropped-clause-kept : goal.returns-in-Dropped-clause-kept
returns-in-Dropped-clause-kept c =
    let a = c.args.self.now in
    let e : Ended a c.args.by = record { still = c.requires; slots = subst (λ (v : List Slot). AllStill v) c.as_slice.ensures.value c.in-Dropped.ensures.0 } in
    subst KeptMachine (sym c.close.ensures.rest) (kept_dropped a c.args.by e c.close.new.self.journal c.in-Dropped.ensures.1 c.close.ensures.items c.close.ensures.capacity)

pub returns-in-Total-clause-kept : goal.returns-in-Total-clause-kept
returns-in-Total-clause-kept c =
    let a = c.args.self.now in
    let slots = c.as_slice.result.now in
    let v : slots ≡ a.slots.items = c.as_slice.ensures.value in
    let e : Ended a c.args.by = record { still = c.requires; slots = subst (λ (q : List Slot). AllStill q) v c.in-Total.ensures.0 } in
    subst KeptMachine (sym c.close-in-Total.ensures.rest) (kept_failed a c.args.by e c.close-in-Total.new.self.journal a.slots _ c.in-Total.ensures.1 (too_many a c.args.by e c.in-Total.ensures.1 (subst (λ (q : List Slot). EachSlot (λ i slot. IsFaultFree slot) q) v c.in-Total.ensures.2) c.in-Total.points (subst (λ (q : List Slot). POINTS_LIMIT < points_in_all q) v c.in-Total.ensures.3) (c.in-Total.ensures.4 ∙ ap (λ (q : List Slot). min (points_in_all q) 18446744073709551615) v)) (refl, λ i d l. record { sources = refl; stamp = refl; node = refl }) c.close-in-Total.ensures.items c.close-in-Total.ensures.capacity)
