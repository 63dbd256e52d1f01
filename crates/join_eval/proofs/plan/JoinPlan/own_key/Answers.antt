use Rattle.std.proofs.Common.{rules, ◌≡◌, ◌<◌, List, [], ℕ, length, get_or, ap, ◌∙◌, arith}
use Rattle.std.specs.Prelude.{slice_index_or}
use Rattle.std.proofs.lemmas.List.{get_or_default}
use Rattle.std.proofs.lemmas.Result.{IfOk-weaker}
use Rattle.clause_meaning.specs.Clauses.{values_at}
use Rattle.operator_meaning.specs.joins.Joins.{JoinOn, own_places}
use Rattle.join_eval.proofs.Kept.{length-places}
use Rattle.join_eval.proofs.plan.JoinPlan.own_key.Goals as goal

-- there are as many places as operands
many : (j : JoinOn) (places : List (List ℕ)) (operand : ℕ) → places ≡ own_places j → operand < length j.operands → operand < length places
many j places operand are within =
    let long : length places ≡ length j.operands = ap (λ (ps : List (List ℕ)). length ps) are ∙ length-places j in
    omega (arith, long, within)

pub offset_bounds-as_slice-operand : goal.offset_bounds-as_slice-operand
offset_bounds-as_slice-operand c =
    let within : c.args.operand < length c.as_slice.result.now = many c.args.self.now c.as_slice.result.now c.args.operand (c.as_slice.ensures ∙ c.self.invariant.own_is ∙ ap own_places c.self.view_is) c.requires in
    search rules

pub bounds-as_slice-operand : goal.bounds-as_slice-operand
bounds-as_slice-operand c = many c.args.self.now c.as_slice.result.now c.args.operand (c.as_slice.ensures ∙ c.self.invariant.own_is ∙ ap own_places c.self.view_is) c.requires

pub returns : goal.returns
returns c =
    let j : JoinOn = c.args.self.now in
    let places : List (List ℕ) = c.as_slice.result.now in
    let operand = c.args.operand in
    let are : places ≡ own_places j = c.as_slice.ensures ∙ c.self.invariant.own_is ∙ ap own_places c.self.view_is in
    let own : c.as_slice-2.result.now ≡ slice_index_or (own_places j) operand [] =
    c.as_slice-2.ensures ∙ c.index-as_slice-operand.is
    ∙ get_or_default places operand c.index-as_slice-operand.result [] (many j places operand are c.requires)
    ∙ ap (λ (ps : List (List ℕ)). get_or ps operand []) are in
    IfOk-weaker c.key_at.result _ _ (λ made h. h ∙ ap (λ (ns : List ℕ). values_at ns c.args.key.now) own) c.key_at.ensures
