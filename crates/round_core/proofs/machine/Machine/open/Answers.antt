use Rattle.std.proofs.Common.{◌<◌, length, sym, ◌∙◌, ◌+◌, ap, arith, subst, vec_len}
use Rattle.round_journal.specs.declared.entry.What.TheVariants.{Published}
use Rattle.round_core.specs.declared.machine.Machine.{Machine}
use Rattle.round_core.specs.Kept.{KeptMachine, seen_of, state_at}
use Rattle.round_core.specs.Seen.{seen_with}
use Rattle.round_core.specs.Steps.{OpenStill}
use Rattle.round_core.proofs.JudgeLemmas.{rounds_few}
use Rattle.round_core.proofs.OpenLemmas.{opens_as, room_to_open, kept_opened, seen_opened_none, seen_opened_some, some_slots, no_slots}
use Rattle.round_core.proofs.machine.Machine.open.Goals as goal

pub overflow_add-round : goal.overflow_add-round
overflow_add-round c =
    let same = ap (λ (z : Machine). z.counts.rounds) c.take_on.ensures.rest in
    omega (arith, same, rounds_few c.args.self.now c.requires.kept.within c.requires.kept.sound)

pub note-requires : goal.note-requires
note-requires c = let room = room_to_open c.args.self.now c.take_on.new.self c.args.setting c.take_on.ensures c.requires.ready in omega (arith, room)

pub publish-requires-clause-still : goal.publish-requires-clause-still
publish-requires-clause-still c =
    let h = opens_as c.args.self.now c.take_on.new.self c.args.setting c.args.by c.len.result c.note.new.journal c.take_on.ensures c.requires.kept c.requires.ready c.requires.opens (omega (arith, c.len.ensures)) c.note.ensures.items c.note.ensures.capacity in
    subst (λ (z : Machine). OpenStill z c.args.by) (sym h.same) h.still

pub returns-then-is_empty-clause-seen : goal.returns-then-is_empty-clause-seen
returns-then-is_empty-clause-seen c =
    let a = c.args.self.now in
    let m = c.take_on.new.self in
    let h = opens_as a m c.args.setting c.args.by c.len.result c.note.new.journal c.take_on.ensures c.requires.kept c.requires.ready c.requires.opens (omega (arith, c.len.ensures)) c.note.ensures.items c.note.ensures.capacity in
    seen_opened_none a m c.note.new.journal c.args.setting.changes c.args.by c.len.result _ c.requires.kept h.still h.items (let q = no_slots (vec_len m.slots) c.is_empty.result c.is_empty.ensures c.if-is_empty.true in omega (arith, q))
    (c.publish.ensures.ends.0 ∙ ap (λ (z : Machine). seen_with (seen_of z) c.args.by (Published (state_at z).to)) h.same)

pub returns-then-is_empty-clause-number : goal.returns-then-is_empty-clause-number
returns-then-is_empty-clause-number c = ap (λ (z : Machine). z.counts.rounds + 1) c.take_on.ensures.rest ∙ ap (λ n. n + 1) c.requires.kept.sound.counts.rounds

pub returns-else-is_empty : goal.returns-else-is_empty
returns-else-is_empty c =
    let a = c.args.self.now in
    let m = c.take_on.new.self in
    let j = c.note.new.journal in
    let size = c.len.result in
    let h = opens_as a m c.args.setting c.args.by size j c.take_on.ensures c.requires.kept c.requires.ready c.requires.opens (omega (arith, c.len.ensures)) c.note.ensures.items c.note.ensures.capacity in
    let some : 0 < length m.slots.items = let q = some_slots (vec_len m.slots) c.is_empty.result c.is_empty.ensures c.if-is_empty.false in omega (arith, q) in record {
      kept = subst KeptMachine (sym h.same) (kept_opened a m j c.args.setting.changes c.args.by size h.still h.items some);
      seen = ap seen_of h.same ∙ seen_opened_some a m j c.args.setting.changes c.args.by size c.requires.kept h.still h.items some;
      number = ap (λ (z : Machine). z.counts.rounds + 1) c.take_on.ensures.rest ∙ ap (λ n. n + 1) c.requires.kept.sound.counts.rounds;
    }
