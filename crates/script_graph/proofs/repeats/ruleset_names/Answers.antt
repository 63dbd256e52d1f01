use Rattle.std.proofs.Common.{Some, Err, if◌then◌else◌, subst, ◌∷◌, ◌≡◌, ℕ, List, [], ◌++◌, map, refl, sym, ap, ◌∙◌}
use Rattle.std.specs.Map.{keys_of}
use Rattle.vtl_syntax.specs.declared.script.Statement.{Statement}
use Rattle.std.specs.Prelude.{⊤}
use Rattle.vtl_values.specs.declared.place.Place.{Place}
use Rattle.script_graph.specs.Scopes.{Answers}
use Rattle.script_graph.specs.Words.{has_word, ruleset_name, ruleset_place}
use Rattle.script_graph.specs.Faults.{repeated, repeated_at, result_repeated}
use Rattle.script_graph.proofs.RepeatLemmas.{Next, told_here, kept_names, kept_rest}
use Rattle.script_graph.proofs.repeats.ruleset_names.Goals as goal

pub returns-then-again : goal.returns-then-again
returns-then-again c =
    let next : Next ruleset_name ruleset_place [] c.loop-ruleset.names c.args.rulesets.now c.loop-ruleset.ruleset-index c.ruleset-item.result c.in_ok-again.again (repeated ruleset_name ruleset_place [] c.args.rulesets.now) = record {
      within = c.loop-ruleset-test.true;
      item = c.ruleset-item.is;
      named = c.loop-ruleset.invariant.0;
      rest = c.loop-ruleset.invariant.1;
      tells = c.in_ok-again.ensures.again ∙ ap (λ (w : List ℕ). has_word c.loop-ruleset.names w) c.name_of.ensures;
    } in
    told_here ruleset_name ruleset_place [] c.loop-ruleset.names c.args.rulesets.now c.loop-ruleset.ruleset-index c.ruleset-item.result c.in_ok-again.again (repeated ruleset_name ruleset_place [] c.args.rulesets.now) (λ (names : List (List ℕ)). names ≡ map ruleset_name c.args.rulesets.now) c.told_at.result next c.if-again.true (subst (λ (p : Place). Answers {T = Unit {0}} (Some (repeated_at p)) (λ _. ⊤) (Err c.told_at.result)) c.place_of.ensures c.told_at.ensures)

pub loop-ruleset-preserved : goal.loop-ruleset-preserved
loop-ruleset-preserved c =
    let next : Next ruleset_name ruleset_place [] c.loop-ruleset.names c.args.rulesets.now c.loop-ruleset.ruleset-index c.ruleset-item.result c.in_ok-again.again (repeated ruleset_name ruleset_place [] c.args.rulesets.now) = record {
      within = c.loop-ruleset-test.true;
      item = c.ruleset-item.is;
      named = c.loop-ruleset.invariant.0;
      rest = c.loop-ruleset.invariant.1;
      tells = c.in_ok-again.ensures.again ∙ ap (λ (w : List ℕ). has_word c.loop-ruleset.names w) c.name_of.ensures;
    } in (
      kept_names ruleset_name ruleset_place [] c.loop-ruleset.names c.args.rulesets.now c.loop-ruleset.ruleset-index c.ruleset-item.result c.in_ok-again.again (repeated ruleset_name ruleset_place [] c.args.rulesets.now) c.repeats.new.self next c.if-again.false (c.in_ok-again.ensures.words ∙ ap (λ (w : List ℕ). if c.in_ok-again.again then c.loop-ruleset.names else c.loop-ruleset.names ++ w ∷ []) c.name_of.ensures),
      kept_rest ruleset_name ruleset_place [] c.loop-ruleset.names c.args.rulesets.now c.loop-ruleset.ruleset-index c.ruleset-item.result c.in_ok-again.again (repeated ruleset_name ruleset_place [] c.args.rulesets.now) next c.if-again.false,
    )
