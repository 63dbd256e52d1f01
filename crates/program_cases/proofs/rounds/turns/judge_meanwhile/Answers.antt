use Rattle.std.proofs.Common.{ap, ◌∙◌}
use Rattle.round_journal.specs.declared.entry.What.TheVariants.{Judged}
use Rattle.round_core.specs.Seen.{Seen, seen_with}
use Rattle.program_cases.proofs.rounds.turns.judge_meanwhile.Goals as goal

pub returns-clause-judged : goal.returns-clause-judged
returns-clause-judged c =
    let v = c.in_ok-judge_one.field-0 in
    (v, c.in_ok-judge_one.ensures.judged.1 ∙ ap (λ (p : Seen). seen_with p 3 (Judged c.args.news v)) c.in-Err-NoneReady-eq1.ensures.err)
