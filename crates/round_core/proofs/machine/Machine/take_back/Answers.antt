use Rattle.std.proofs.Common.{subst, sym, arith}
use Rattle.round_journal.specs.work.Finish.{Finish}
use Rattle.round_journal.specs.Nodes.{FinishFor}
use Rattle.round_journal.specs.Journals.{old_inputs, new_inputs}
use Rattle.round_core.specs.Kept.{state_at}
use Rattle.round_core.specs.declared.machine.Machine.{Machine}
use Rattle.round_core.specs.Steps.{OpenStill}
use Rattle.round_core.proofs.GiveLemmas.{comes_with, aside_two}
use Rattle.round_core.proofs.BackLemmas.{enough_changes, still_right, still_wrong, still_spoiled}
use Rattle.round_core.proofs.machine.Machine.take_back.Goals as goal

pub hand_on-requires : goal.hand_on-requires
hand_on-requires c =
    let a = c.args.self.now in
    let d = c.args.done in
    let p = comes_with a c.args.by d c.requires.out c.requires.stands in
    let right = subst (λ (f : Finish). FinishFor (state_at a).round.script d.node (old_inputs (state_at a)) (new_inputs (state_at a)) f) c.in-Right.is p.1 in
    enough_changes a c.args.by d.statement c.in-Right.deltas d.node c.in-Right.points c.in-Right.pages c.requires.kept p.0 right

pub put-requires-clause-aside : goal.put-requires-clause-aside
put-requires-clause-aside c = omega (arith, aside_two c.args.self.now c.args.by c.args.done.statement c.requires.kept c.requires.out)

pub put-requires-clause-room : goal.put-requires-clause-room
put-requires-clause-room c = omega (arith, aside_two c.args.self.now c.args.by c.args.done.statement c.requires.kept c.requires.out, c.requires.kept.within.room)

pub put-requires-in-Fault-clause-aside : goal.put-requires-in-Fault-clause-aside
put-requires-in-Fault-clause-aside c = omega (arith, aside_two c.args.self.now c.args.by c.args.done.statement c.requires.kept c.requires.out)

pub put-requires-in-Fault-clause-room : goal.put-requires-in-Fault-clause-room
put-requires-in-Fault-clause-room c = omega (arith, aside_two c.args.self.now c.args.by c.args.done.statement c.requires.kept c.requires.out, c.requires.kept.within.room)

pub put-requires-in-GaveUp-clause-aside : goal.put-requires-in-GaveUp-clause-aside
put-requires-in-GaveUp-clause-aside c = omega (arith, aside_two c.args.self.now c.args.by c.args.done.statement c.requires.kept c.requires.out)

pub put-requires-in-GaveUp-clause-room : goal.put-requires-in-GaveUp-clause-room
put-requires-in-GaveUp-clause-room c = omega (arith, aside_two c.args.self.now c.args.by c.args.done.statement c.requires.kept c.requires.out, c.requires.kept.within.room)

pub returns-in-Right-clause-still : goal.returns-in-Right-clause-still
returns-in-Right-clause-still c =
    let a = c.args.self.now in
    let d = c.args.done in
    let p = comes_with a c.args.by d c.requires.out c.requires.stands in
    let right = subst (λ (f : Finish). FinishFor (state_at a).round.script d.node (old_inputs (state_at a)) (new_inputs (state_at a)) f) c.in-Right.is p.1 in
    let s = c.put.ensures.slots in
    subst (λ (m : Machine). OpenStill m c.args.by) (sym c.put.ensures.rest) (still_right a c.put.new.self.journal c.put.new.self.slots c.hand_on.new.slots.items s.0 d.statement c.args.by d.node c.in-Right.deltas c.in-Right.points c.in-Right.pages c.requires.kept p.0 right c.hand_on.ensures.many c.hand_on.ensures.each s.1 s.2 c.put.ensures.items c.put.ensures.capacity)

pub returns-in-Fault-clause-still : goal.returns-in-Fault-clause-still
returns-in-Fault-clause-still c =
    let a = c.args.self.now in
    let d = c.args.done in
    let p = comes_with a c.args.by d c.requires.out c.requires.stands in
    let wrong = subst (λ (f : Finish). FinishFor (state_at a).round.script d.node (old_inputs (state_at a)) (new_inputs (state_at a)) f) c.in-Fault.is p.1 in
    let s = c.put-in-Fault.ensures.slots in
    subst (λ (m : Machine). OpenStill m c.args.by) (sym c.put-in-Fault.ensures.rest) (still_wrong a c.put-in-Fault.new.self.journal c.put-in-Fault.new.self.slots s.0 d.statement c.args.by d.node c.in-Fault.kept c.in-Fault.told c.requires.kept p.0 wrong s.1 s.2 c.put-in-Fault.ensures.items c.put-in-Fault.ensures.capacity)

pub returns-in-GaveUp-clause-still : goal.returns-in-GaveUp-clause-still
returns-in-GaveUp-clause-still c =
    let a = c.args.self.now in
    let d = c.args.done in
    let p = comes_with a c.args.by d c.requires.out c.requires.stands in
    let s = c.put-in-GaveUp.ensures.slots in
    subst (λ (m : Machine). OpenStill m c.args.by) (sym c.put-in-GaveUp.ensures.rest) (still_spoiled a c.put-in-GaveUp.new.self.journal c.put-in-GaveUp.new.self.slots s.0 d.statement c.args.by d.node c.requires.kept p.0 s.1 s.2 c.put-in-GaveUp.ensures.items c.put-in-GaveUp.ensures.capacity)
