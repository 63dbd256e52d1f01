use Rattle.std.proofs.Common.{◌≡◌, ◌++◌, List, Option, Some, map, is_none, sym, ap, subst, ◌∙◌}
use Rattle.std.proofs.lemmas.Result.{IfOk-weaker}
use Rattle.vtl_values.specs.declared.value.Value.{Value}
use Rattle.scalar_meaning.specs.Rows.{point_row}
use Rattle.clause_meaning.specs.Clauses.{worked_values}
use Rattle.clause_eval.specs.Evaluations.{IsEvaluation}
use Rattle.operator_meaning.specs.pairs.Pairs.{PairOn, pair_values}
use Rattle.pair_eval.specs.Plans.{measures_of, viral_places, value_of_places}
use Rattle.pair_eval.specs.declared.virals.ViralPlaces.{ViralPlaces}
use Rattle.pair_eval.proofs.Places.{pair-made}
use Rattle.pair_eval.proofs.plan.PairPlan.evaluate_both.Goals as goal

pub returns-in_ok-push_virals-in-Ok : goal.returns-in_ok-push_virals-in-Ok
returns-in_ok-push_virals-in-Ok c =
    let p = c.args.self.now in
    let a = c.args.left.now.key ++ c.args.left.now.rest in
    let b = c.args.right.now.key ++ c.args.right.now.rest in
    let measures : c.measures_of-measures.result.now ≡ p.measures = c.measures_of-measures.ensures ∙ ap measures_of c.get.ensures ∙ ap (λ (q : PairOn). q.measures) c.self.view_is in
    let places : c.as_slice.result.now ≡ viral_places p = c.as_slice.ensures ∙ c.self.invariant.virals_are ∙ ap viral_places c.self.view_is in
    let worked : worked_values (point_row a b) p.measures ≡ Some c.in-Ok.values = ap (worked_values (point_row a b)) (sym measures) ∙ c.in-Ok.ensures in
    let rest : c.push_virals.new.values ≡ c.in-Ok.values ++ map (value_of_places a b) (viral_places p) = c.in_ok-push_virals-in-Ok.ensures ∙ ap (λ (all : List ViralPlaces). c.in-Ok.values ++ map (value_of_places a b) all) places in
    let is : pair_values p a b ≡ Some c.push_virals.new.values = pair-made p a b c.in-Ok.values worked ∙ ap Some (sym rest) in
    IfOk-weaker c.made.result _ _ (λ found h. subst (λ (o : Option (List Value)). IsEvaluation c.args.key.now (is_none o) o found) (sym is) h) c.made.ensures
