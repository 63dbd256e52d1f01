use Rattle.std.proofs.Common.{◌≡◌, ◌++◌, ◌∷◌, Some, None, option_map, rules, sym, ap, ◌∙◌}
use Rattle.vtl_values.specs.declared.value.Value.{Value}
use Rattle.vtl_values.specs.declared.kind.Role.TheVariants.{Viral}
use Rattle.data_set_trees.specs.clauses.Frames.{numbers_of}
use Rattle.point_sets.specs.DataSets.{rest_of}
use Rattle.clause_meaning.specs.Clauses.{values_at}
use Rattle.clause_eval.proofs.Named.{measure-point}
use Rattle.clause_eval.proofs.pieces.measure_of.Goals as goal

pub returns-in_default-clause-values : goal.returns-in_default-clause-values
returns-in_default-clause-values c = λ frame d at picks.
    let values = c.args.point.now.key ++ c.args.point.now.rest in
    let none : None ≡ c.in_ok-value.field-0 = search rules in
    sym (measure-point frame c.args.number d values at ∙ ap (option_map (λ (v : Value). v ∷ values_at (numbers_of Viral frame.components) values)) (sym (none ∙ c.in_ok-value.ensures)))

pub returns-clause-values : goal.returns-clause-values
returns-clause-values c = λ frame d at picks.
    let values = c.args.point.now.key ++ c.args.point.now.rest in
    let some : Some c.in-Some.value ≡ c.in_ok-value.field-0 = search rules in
    let rest : rest_of c.in_ok-new.field-0 ≡ c.in-Some.value ∷ values_at c.args.picks.now values = search rules in
    ap Some (rest ∙ ap (λ ns. c.in-Some.value ∷ values_at ns values) picks)
    ∙ sym (measure-point frame c.args.number d values at ∙ ap (option_map (λ (v : Value). v ∷ values_at (numbers_of Viral frame.components) values)) (sym (some ∙ c.in_ok-value.ensures)))
