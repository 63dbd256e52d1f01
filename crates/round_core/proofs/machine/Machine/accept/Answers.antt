use Rattle.std.proofs.Common.{arith, refl}
use Rattle.std.specs.Arc.{arc_value}
use Rattle.round_journal.specs.Journals.{inputs_now}
use Rattle.round_core.specs.Kept.{state_at}
use Rattle.revision_judge.specs.Judging.{judged}
use Rattle.round_core.proofs.StepLemmas.{on_err_of}
use Rattle.round_core.proofs.JudgeLemmas.{fits_so, shares_below, afters_long, accepted_few, kept_accepted, same_inputs}
use Rattle.round_core.proofs.machine.Machine.accept.Goals as goal

pub take-requires : goal.take-requires
take-requires c =
    let a = c.args.self.now in
    let nows = inputs_now (state_at a) in
    let h = fits_so nows c.args.shares (judged (arc_value a.first).inputs nows c.args.revision) c.requires.judged in
    shares_below a nows h.afters c.args.shares c.requires.kept.sound refl h.shared

pub returns-in_err-take-clause-err : goal.returns-in_err-take-clause-err
returns-in_err-take-clause-err c = on_err_of _ c.from_residual.result (record { kept = same_inputs c.args.self.now c.take.new.self c.requires.kept c.in_err-take.ensures.err; seen = refl })

pub overflow_add-self : goal.overflow_add-self
overflow_add-self c = omega (arith, accepted_few c.args.self.now c.requires.kept.within c.requires.kept.sound)

pub returns-clause-ok : goal.returns-clause-ok
returns-clause-ok c =
    let a = c.args.self.now in
    let nows = inputs_now (state_at a) in
    let h = fits_so nows c.args.shares (judged (arc_value a.first).inputs nows c.args.revision) c.requires.judged in
    kept_accepted a c.note.new.journal c.take.new.self c.args.by c.args.revision c.args.shares c.count_fields.result c.requires.kept c.requires.room h (c.in_ok-take.ensures.kept _ _ _ h.afters c.requires.kept.sound.inputs h.shared (afters_long a c.args.revision h.afters h.judgement)) c.note.ensures.items c.note.ensures.capacity c.count_fields.ensures
