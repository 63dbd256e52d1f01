use Rattle.std.proofs.Common.{◌≡◌, ℕ, List, [], Option, Result, Ok, map, sym, subst, ap, ◌∙◌}
use Rattle.std.proofs.Math.Path.{ap₂}
use Rattle.vtl_syntax.specs.declared.script.Statement.{Statement}
use Rattle.vtl_syntax.specs.declared.ruleset.Ruleset.{Ruleset}
use Rattle.script_graph.specs.declared.fault.GraphStop.{GraphStop}
use Rattle.script_graph.specs.Words.{ruleset_name, ruleset_place}
use Rattle.script_graph.specs.Scopes.{Names, Answers, both_of}
use Rattle.script_graph.specs.Faults.{earlier, repeated, result_repeated}
use Rattle.script_graph.proofs.Whole.{both_answers}
use Rattle.script_graph.proofs.script_order.scope_of.Goals as goal

pub returns : goal.returns
returns c =
    let inputs = c.args.structures.now in
    let ts = c.as_slice.result.now in
    let rs = c.as_slice-rulesets.result.now in
    let e = result_repeated inputs ts in
    let f = repeated ruleset_name ruleset_place [] rs in
    let P : List (List ℕ) → Type 0 = λ ns. ns ≡ map (λ (t : Statement). t.name) ts in
    let Q : List (List ℕ) → Type 0 = λ ns. ns ≡ map ruleset_name rs in
    let Both : List (List ℕ) × List (List ℕ) → Type 0 = λ p. P p.0 × Q p.1 in
    let a : Answers {T = List (List ℕ) × List (List ℕ)} (earlier e f) Both (both_of c.results.result c.ruleset_names.result) = both_answers e f P Q c.results.result c.ruleset_names.result c.results.ensures c.ruleset_names.ensures in
    let b : Answers {T = List (List ℕ) × List (List ℕ)} (earlier e f) Both (Ok (c.in_ok-results.results, c.in_ok-results.names)) =
    subst (λ (r : Result (List (List ℕ) × List (List ℕ)) GraphStop). Answers {T = List (List ℕ) × List (List ℕ)} (earlier e f) Both r) (sym c.in_ok-results.ensures) a
    in
    let built : List (List ℕ) → List Ruleset → Names = λ ns qs. record { inputs = inputs; results = ns; rulesets = qs } in (
      ap₂ (λ (xs : List Statement) (qs : List Ruleset). earlier (result_repeated inputs xs) (repeated ruleset_name ruleset_place [] qs)) (sym c.as_slice.ensures) (sym c.as_slice-rulesets.ensures) ∙ b.0,
      c.new.ensures ∙ ap₂ built (b.1.0 ∙ ap (λ (xs : List Statement). map (λ (t : Statement). t.name) xs) c.as_slice.ensures) c.as_slice-rulesets.ensures,
    )
