use Rattle.std.proofs.Common.{◌≡◌, List, Ok}
use Rattle.std.specs.Prelude.{⊤}
use Rattle.std.specs.List.{flat_map}
use Rattle.script_graph.specs.Mentions.{of_ruleset}
use Rattle.script_graph.specs.Scopes.{first_unknown}
use Rattle.script_graph.specs.ScopeViews.{names_in}
use Rattle.script_graph.proofs.Answering.{exits, unknown_then, unknown_fails}
use Rattle.script_graph.proofs.scope.Scope.want_rulesets.Goals as goal

pub returns-in_err-want_ruleset_names : goal.returns-in_err-want_ruleset_names
returns-in_err-want_ruleset_names c =
    let n = names_in c.args.self.now in
    let e = c.in_err-want_ruleset_names.field-0.0 in
    exits (first_unknown n (flat_map of_ruleset c.args.rulesets.now)) (λ (_ : Unit {0}). ⊤) c.from_residual.result e c.from_residual.ensures.1
    (unknown_fails n of_ruleset c.args.rulesets.now c.loop-ruleset.ruleset-index c.ruleset-item.result (λ (_ : Unit {0}). ⊤) (λ (_ : Unit {0}). ⊤) e (c.loop-ruleset-test.true, c.ruleset-item.is) c.loop-ruleset.invariant c.in_err-want_ruleset_names.ensures)

pub loop-ruleset-preserved : goal.loop-ruleset-preserved
loop-ruleset-preserved c =
    let n = names_in c.args.self.now in
    (unknown_then n of_ruleset c.args.rulesets.now c.loop-ruleset.ruleset-index c.ruleset-item.result (λ (_ : Unit {0}). ⊤) (λ (_ : Unit {0}). ⊤) (Ok tt) (c.loop-ruleset-test.true, c.ruleset-item.is) c.loop-ruleset.invariant (c.in_ok-want_ruleset_names.ensures {u = tt}) (λ v p. p)).0
