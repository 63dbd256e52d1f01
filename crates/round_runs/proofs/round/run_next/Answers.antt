use Rattle.std.proofs.Common.{◌≡◌, ◌∙◌, ◌+◌, ℕ, Result, IfOk, ap, subst, arith}
use Rattle.round_core.specs.work.Work.{Work}
use Rattle.round_core.proofs.StandLemmas.{DoneStands-from_work}
use Rattle.round_core.specs.declared.stops.ClaimStop.{ClaimStop}
use Rattle.round_core.specs.Journals.{number}
use Rattle.round_core.specs.Answers.{Claims, GivesSo, given_what}
use Rattle.round_core.specs.Seen.{Seen, state_in}
use Rattle.round_runs.specs.Rounds.{IsBackOf}
use Rattle.round_runs.proofs.RoundLemmas.{claim_ok, back_of}
use Rattle.round_runs.proofs.round.run_next.Goals as goal

pub unwrap-work-requires : goal.unwrap-work-requires
unwrap-work-requires g c = claim_ok c.args.production.now c.claim.result c.requires.open_round c.journal.ensures.live
    (λ k e. ((c.claim.ensures.no_round k).0 e).0) (λ out e. ((c.claim.ensures.none_ready out).0 e).1)

pub give-given-requires-clause-stands : goal.give-given-requires-clause-stands
give-given-requires-clause-stands g c =
    let claims = subst (λ (r : Result Work ClaimStop). IfOk r (λ w. Claims c.args.production.now c.args.by w c.claim.new.self)) c.unwrap-work.ensures c.claim.ensures.claimed in
    DoneStands-from_work (state_in c.claim.new.self) c.unwrap-work.result c.run.result
    (record { round = c.run.ensures.round; statement = c.run.ensures.statement; base = c.run.ensures.base; to = c.run.ensures.to; stands = c.run.ensures.stands }) claims.stands

pub returns : goal.returns
returns g c =
    let claims = subst (λ (r : Result Work ClaimStop). IfOk r (λ w. Claims c.args.production.now c.args.by w c.claim.new.self)) c.unwrap-work.ensures c.claim.ensures.claimed in
    let i = c.unwrap-work.result.statement in
    let w = given_what c.run.result.finish c.run.result.statement in
    record {
      statement = i;
      what = w;
      back = subst (λ (j : ℕ). IsBackOf j w) c.run.ensures.statement (back_of c.run.result.finish c.run.result.statement);
      gives = subst (λ (p : Seen). GivesSo p c.args.by w c.give-given.result c.give-given.new.self) claims.entry c.give-given.ensures.journal;
      number = λ k is. ((c.give-given.ensures.published k).0 is).1 ∙ ap (λ (p : Seen). number (state_in p) + 1) claims.entry;
      fits = let fits = c.journal-2.ensures.fits in omega (arith, fits);
      live = c.journal-2.ensures.live;
    }
