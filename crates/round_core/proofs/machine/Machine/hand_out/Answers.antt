use Rattle.std.proofs.Common.{◌≡◌, ◌<◌, ℕ, List, length, take, set, subst, sym, ◌∙◌, ap, arith, refl}
use Rattle.std.specs.Arc.{arc_value}
use Rattle.std.specs.List.{All}
use Rattle.std.proofs.lemmas.List.{length-set}
use Rattle.data_set_trees.specs.checked.Scripts.{Script}
use Rattle.round_core.specs.Kept.{NoneWaits}
use Rattle.round_core.specs.declared.slot.Slot.{Slot}
use Rattle.std.specs.Vec.{with_item}
use Rattle.round_core.proofs.ClaimLemmas.{ripe_of, aside_some, script_below, kept_claimed}
use Rattle.round_core.proofs.machine.Machine.hand_out.Goals as goal

pub overflow_sub-self : goal.overflow_sub-self
overflow_sub-self c =
    let a = c.args.self.now in
    let slot = c.index_mut-slot.result.now in
    let ripe = ripe_of a c.args.i slot c.requires.kept.within c.requires.kept.sound c.requires.running c.requires.first.ready c.index_mut-slot.ensures.value in
    omega (arith, aside_some a c.args.i slot c.requires.kept c.requires.running ripe)

pub passed_over-self-requires-clause-below : goal.passed_over-self-requires-clause-below
passed_over-self-requires-clause-below c =
    let a = c.args.self.now in
    let order = c.order.ensures ∙ ap (λ (q : Script). q.order) c.deref.ensures in
    let long : length c.as_slice.result.now ≡ length a.slots.items = ap length c.as_slice.ensures.value ∙ length-set a.slots.items c.args.i c.hand_out-settle.new.self in
    subst (λ (xs : List ℕ). All (λ i. i < length c.as_slice.result.now) xs) (sym order) (subst (λ n. All (λ i. i < n) (arc_value a.script).order) (sym long) (script_below a c.requires.kept.within c.requires.kept.sound))

pub note-requires : goal.note-requires
note-requires c =
    let a = c.args.self.now in
    let slot = c.index_mut-slot.result.now in
    let ripe = ripe_of a c.args.i slot c.requires.kept.within c.requires.kept.sound c.requires.running c.requires.first.ready c.index_mut-slot.ensures.value in
    omega (arith, aside_some a c.args.i slot c.requires.kept c.requires.running ripe, c.requires.kept.within.room)

pub returns : goal.returns
returns c =
    let a = c.args.self.now in
    let slot = c.index_mut-slot.result.now in
    let new = c.hand_out-settle.new.self in
    let r = c.hand_out-settle.result in
    let passed = c.passed_over-self.result in
    let ripe = ripe_of a c.args.i slot c.requires.kept.within c.requires.kept.sound c.requires.running c.requires.first.ready c.index_mut-slot.ensures.value in
    let none = subst (λ (xs : List ℕ). NoneWaits (set a.slots.items c.args.i new) (take passed xs)) (c.order.ensures ∙ ap (λ (q : Script). q.order) c.deref.ensures) (subst (λ (v : List Slot). NoneWaits v (take passed c.order.result.now)) c.as_slice.ensures.value c.passed_over-self.ensures.passed) in
    let h = kept_claimed a c.note.new.journal (with_item a.slots c.args.i new) slot new c.args.i c.args.by passed r.0 r.1 r.2 c.requires.kept c.requires.running c.requires.first ripe c.hand_out-settle.ensures refl none c.note.ensures.items c.note.ensures.capacity in
    record { kept = h.kept; claims = h.claims; which = refl }
