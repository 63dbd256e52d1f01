use Rattle.std.proofs.Common.{◌≡◌, ◌∷◌, [], ◌++◌, length, sym, ap, subst, ◌∙◌, append_assoc, arith}
use Rattle.std.specs.Vec.Iter.{into_iter_items}
use Rattle.round_runs.specs.Runs.{IsFew}
use Rattle.round_runs.proofs.JudgeLemmas.{fits, judged_more}
use Rattle.round_runs.proofs.eval.judge_revisions.Goals as goal

pub judge_next-requires : goal.judge_next-requires
judge_next-requires c =
    let at = c.loop-revision in
    let r = c.in-Some.revision in
    let steps : into_iter_items at.revision-iterator ≡ r ∷ into_iter_items c.next.new.self = c.in-Some.ensures.steps.0 in
    let all = ap (λ l. at.yielded ++ l) (sym steps) ∙ at.invariant.parts ∙ c.into_iter-revision-iterator.ensures.into_iter_gives.0 in
    fits c.args.production.now.script at.yielded (into_iter_items c.next.new.self) r at.verdicts at.production at.invariant.judged (subst IsFew (sym all) c.requires.few)

pub loop-revision-preserved : goal.loop-revision-preserved
loop-revision-preserved c =
    let at = c.loop-revision in
    let r = c.in-Some.revision in
    let steps : into_iter_items at.revision-iterator ≡ r ∷ into_iter_items c.next.new.self = c.in-Some.ensures.steps.0 in
    record {
      parts = append_assoc at.yielded (r ∷ []) _ ∙ rw (← steps) at.invariant.parts;
      count = let was = at.invariant.count in let gone = c.in-Some.ensures.steps.1 in let short = ap length steps in omega arith;
      judged = judged_more c.args.production.now.script at.yielded r at.verdicts c.judge_next.new.verdicts at.production c.judge_next.new.production at.invariant.judged c.in_ok-judge_next.ensures;
    }
