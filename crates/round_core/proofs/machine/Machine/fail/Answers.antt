use Rattle.std.proofs.Common.{sym, ◌∙◌, ap, arith, refl, subst}
use Rattle.round_core.specs.declared.slot.Slot.{Slot}
use Rattle.round_core.specs.Kept.{KeptMachine}
use Rattle.round_core.proofs.EndLemmas.{Ended, room_left, kept_failed, fault_is, same_homes_set}
use Rattle.round_core.proofs.machine.Machine.fail.Goals as goal

pub close-requires : goal.close-requires
close-requires c =
    let e : Ended c.args.self.now c.args.by = record { still = c.requires.still; slots = c.requires.over.0 } in
    omega (arith, room_left c.args.self.now c.args.by e, c.requires.still.within.room)

pub unreachable-requires : goal.unreachable-requires
unreachable-requires c =
    let w = c.requires.over.2.wrong c.index_mut-slot.result.now in
    c.in_default.not-Wrong w.0 w.1 (c.replace-stage.ensures.value ∙ ap (λ (s : Slot). s.stage) c.index_mut-slot.ensures.value ∙ w.2)

pub returns-clause-kept : goal.returns-clause-kept
returns-clause-kept c =
    let a = c.args.self.now in
    let slot = c.index_mut-slot.result.now in
    let e : Ended a c.args.by = record { still = c.requires.still; slots = c.requires.over.0 } in
    let st = sym (ap (λ (s : Slot). s.stage) c.index_mut-slot.ensures.value) ∙ sym c.replace-stage.ensures.value ∙ c.in-Wrong.is in
    subst KeptMachine (sym c.close.ensures.rest) (kept_failed a c.args.by e c.close.new.self.journal _ _ c.requires.over.1 (fault_is a c.args.by e c.args.i c.in-Wrong.kept c.in-Wrong.told slot c.requires.over.1 c.requires.over.2 st) (same_homes_set a.slots.items c.args.i slot _ c.index_mut-slot.ensures.value (record { sources = refl; stamp = refl; node = refl })) c.close.ensures.items c.close.ensures.capacity)
