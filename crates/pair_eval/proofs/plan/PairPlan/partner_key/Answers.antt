use Rattle.std.proofs.Common.{◌≡◌, sym, ap, ◌∙◌}
use Rattle.std.proofs.lemmas.Result.{IfOk-weaker}
use Rattle.clause_meaning.specs.Clauses.{values_at}
use Rattle.operator_meaning.specs.pairs.Pairs.{main, partner}
use Rattle.pair_eval.specs.Plans.{partner_numbers}
use Rattle.pair_eval.proofs.Places.{key-numbered}
use Rattle.pair_eval.proofs.plan.PairPlan.partner_key.Goals as goal

pub returns : goal.returns
returns c =
    let p = c.args.self.now in
    let key = c.args.key.now in
    let numbers : c.as_slice.result.now ≡ partner_numbers p = c.as_slice.ensures ∙ c.self.invariant.partner_is ∙ ap partner_numbers c.self.view_is in
    IfOk-weaker c.key_at.result _ _ (λ made h. h ∙ ap (λ ns. values_at ns key) numbers ∙ sym (key-numbered (main p) (partner p) key)) c.key_at.ensures
