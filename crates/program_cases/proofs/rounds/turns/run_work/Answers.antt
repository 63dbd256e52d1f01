use Rattle.round_journal.proofs.StandLemmas.{DoneStands-from_work}
use Rattle.program_cases.proofs.rounds.turns.run_work.Goals as goal

pub returns-clause-stands : goal.returns-clause-stands
returns-clause-stands g c = λ state stands.
    DoneStands-from_work state c.args.work c.run.result
    (record { round = c.run.ensures.round; statement = c.run.ensures.statement; base = c.run.ensures.base; to = c.run.ensures.to; stands = c.run.ensures.stands }) stands
