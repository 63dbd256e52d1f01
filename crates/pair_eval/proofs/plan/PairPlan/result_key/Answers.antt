use Rattle.std.proofs.Common.{◌≡◌, sym, ap, ◌∙◌}
use Rattle.std.proofs.lemmas.Result.{IfOk-weaker}
use Rattle.clause_meaning.specs.Clauses.{values_at}
use Rattle.operator_meaning.specs.pairs.Pairs.{main}
use Rattle.pair_eval.specs.Plans.{result_numbers}
use Rattle.pair_eval.proofs.Places.{key-numbered}
use Rattle.pair_eval.proofs.plan.PairPlan.result_key.Goals as goal

pub returns : goal.returns
returns c =
    let p = c.args.self.now in
    let key = c.args.key.now in
    let numbers : c.as_slice.result.now ≡ result_numbers p = c.as_slice.ensures ∙ c.self.invariant.result_is ∙ ap result_numbers c.self.view_is in
    IfOk-weaker c.key_at.result _ _ (λ made h. h ∙ ap (λ ns. values_at ns key) numbers ∙ sym (key-numbered (main p) p.structure key)) c.key_at.ensures
