use Rattle.std.proofs.Common.{◌∙◌, ap, subst}
use Rattle.round_journal.specs.work.DoneParts.{DoneParts}
use Rattle.round_core.specs.Answers.{given_what}
use Rattle.round_core.specs.Kept.{seen_of}
use Rattle.round_core.specs.Seen.{Seen, seen_with}
use Rattle.round_core.proofs.AnswerLemmas.{gives_so, Answered, answered}
use Rattle.round_core.proofs.production.Production.give.Goals as goal

pub returns : goal.returns
returns c =
    let old = seen_of c.self.inside.machine in
    let mid = seen_of c.take_back.new.self in
    let what = given_what c.args.done.finish c.args.done.statement in
    let given = c.take_back.ensures.seen ∙ ap (λ (d : DoneParts). seen_with old c.args.by (given_what d.finish d.statement)) c.into_parts.ensures in
    let ended = c.end_round.ensures in
    let h = subst (λ (p : Seen). Answered p c.args.by what c.end_round.result) c.self.view_is (answered old mid (seen_of c.end_round.new.self) c.args.by c.args.done.statement c.args.done.finish c.end_round.result given ended.kept.within.legal ended.kept.live ended.ends) in record {
      journal = rw (← c.self.view_is) (gives_so old mid _ c.args.by c.args.done.statement c.args.done.finish c.end_round.result given ended.ends);
      counted = h.counted;
      dropped = h.dropped;
      published = h.published;
      failed = h.failed;
    }
