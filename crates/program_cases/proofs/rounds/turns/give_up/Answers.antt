use Rattle.round_journal.proofs.StandLemmas.{DoneStands-from_work}
use Rattle.round_core.specs.Seen.{state_in}
use Rattle.program_cases.proofs.rounds.turns.give_up.Goals as goal

pub give-requires-clause-stands : goal.give-requires-clause-stands
give-requires-clause-stands c =
    DoneStands-from_work (state_in c.claim.new.self) _ c.give_up.result
    (record { round = c.give_up.ensures.round; statement = c.give_up.ensures.statement; base = c.give_up.ensures.base; to = c.give_up.ensures.to; stands = c.give_up.ensures.stands })
    c.in_ok-work.ensures.claimed.stands
