use Rattle.std.proofs.Common.{ℕ, sym, subst}
use Rattle.round_journal.specs.declared.entry.What.TheVariants.{Rescripted}
use Rattle.round_journal.specs.Journals.{IsOutBy}
use Rattle.round_core.specs.Seen.{state_in}
use Rattle.program_cases.proofs.TurnLemmas.{out_still, done_still}
use Rattle.program_cases.proofs.rounds.turns.take_turn_with_script.Goals as goal

pub give-requires-clause-out : goal.give-requires-clause-out
give-requires-clause-out g c =
    let p = c.claim.new.self in
    let replaced = c.in_ok-rescript.ensures.replaced in
    let out = subst (λ (i : ℕ). IsOutBy (state_in p) c.args.by i) (sym c.run_work-done.ensures.statement) c.in_ok-work.ensures.claimed.out in
    out_still p c.rescript.new.self c.args.by 2 c.run_work-done.result.statement (Rescripted replaced.script) tt replaced.entry c.journal.ensures.legal out

pub give-requires-clause-stands : goal.give-requires-clause-stands
give-requires-clause-stands g c =
    let p = c.claim.new.self in
    let replaced = c.in_ok-rescript.ensures.replaced in
    let out = subst (λ (i : ℕ). IsOutBy (state_in p) c.args.by i) (sym c.run_work-done.ensures.statement) c.in_ok-work.ensures.claimed.out in
    done_still p c.rescript.new.self c.args.by 2 c.run_work-done.result (Rescripted replaced.script) tt replaced.entry c.journal.ensures.legal out (c.run_work-done.ensures.stands (state_in p) c.in_ok-work.ensures.claimed.stands)
