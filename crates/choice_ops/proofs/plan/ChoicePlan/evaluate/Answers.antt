use Rattle.std.proofs.Common.{◌≡◌, List, ◌++◌, map, Option, Some, sym, ap, subst, ◌∙◌}
use Rattle.std.specs.Prelude.{is_none, IfOk}
use Rattle.std.specs.Option.{option_copied}
use Rattle.vtl_values.specs.declared.value.Value.{Value}
use Rattle.point_sets.specs.DataSets.{entry_of}
use Rattle.clause_eval.specs.Evaluations.{IsEvaluation}
use Rattle.data_set_trees.specs.checked.Operators.{Operator}
use Rattle.operator_meaning.specs.choices.Choices.{ChoiceOn, chosen_values}
use Rattle.choice_ops.specs.Plans.{choice_in, all_of, chosen_entry, value_of_places, IsPlan}
use Rattle.choice_ops.specs.declared.values.ViralPlaces.{ViralPlaces}
use Rattle.choice_ops.proofs.Places.{values-made}
use Rattle.choice_ops.proofs.plan.ChoicePlan.evaluate.Goals as goal

pub returns-in_ok-append-in-Ok : goal.returns-in_ok-append-in-Ok
returns-in_ok-append-in-Ok c =
    let r = c.self.inside in
    let on : ChoiceOn = choice_in c.args.self.now in
    let truth = c.args.truth in
    let own = all_of (entry_of c.args.own.now) in
    let point = chosen_entry (option_copied c.args.chosen) in
    let plan : IsPlan on r.keys r.test r.virals = subst (λ (q : Operator). IsPlan (choice_in q) r.keys r.test r.virals) c.self.view_is c.self.invariant in
    let virals : c.in_ok-viral_values-in-Ok.field-0 ≡ map (value_of_places truth own (all_of point)) r.virals =
    c.in_ok-viral_values-in-Ok.ensures ∙ ap (λ (ps : List ViralPlaces). map (value_of_places truth own (all_of point)) ps) c.as_slice-virals.ensures in
    let is : chosen_values on truth own point ≡ Some c.append.new.self =
    values-made on truth own point r.virals c.in-Ok.values plan.virals_are c.in-Ok.ensures
    ∙ ap Some (ap (λ (vs : List Value). c.in-Ok.values ++ vs) (sym virals) ∙ sym c.in_ok-append-in-Ok.ensures) in
    subst (λ (v : Option (List Value)). IfOk c.made.result (IsEvaluation c.args.key.now (is_none v) v)) (sym is) c.made.ensures
