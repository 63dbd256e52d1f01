use Rattle.std.proofs.Common.{ℕ, sym, subst}
use Rattle.round_journal.specs.Journals.{IsOutBy}
use Rattle.round_core.specs.Seen.{state_in}
use Rattle.program_cases.proofs.rounds.turns.take_turn.Goals as goal

pub give-requires-clause-out : goal.give-requires-clause-out
give-requires-clause-out g c =
    let p = c.claim.new.self in
    subst (λ (i : ℕ). IsOutBy (state_in p) c.args.by i) (sym c.run_work-done.ensures.statement) c.in_ok-work.ensures.claimed.out

pub give-requires-clause-stands : goal.give-requires-clause-stands
give-requires-clause-stands g c = c.run_work-done.ensures.stands (state_in c.claim.new.self) c.in_ok-work.ensures.claimed.stands
