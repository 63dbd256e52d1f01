use Rattle.std.proofs.Common.{List, ℕ, [], ◌∷◌, ◌++◌, sym, ap, ◌∙◌}
use Rattle.join_eval.proofs.Kept.{run-more}
use Rattle.join_eval.proofs.sides.run.Goals as goal

pub loop-number-preserved : goal.loop-number-preserved
loop-number-preserved c =
    let n = c.loop-number.number in
    c.in_ok-push.ensures.ok ∙ ap (λ (ks : List ℕ). ks ++ n ∷ []) c.loop-number.invariant ∙ sym (run-more c.args.from n c.loop-number.auto.number)
