use Rattle.std.proofs.Common.{◌≡◌, List, Ok}
use Rattle.std.specs.Prelude.{⊤}
use Rattle.std.specs.List.{flat_map}
use Rattle.script_graph.specs.Mentions.{of_datapoint}
use Rattle.script_graph.specs.Scopes.{first_unknown}
use Rattle.script_graph.specs.ScopeViews.{names_in}
use Rattle.script_graph.proofs.Answering.{exits, unknown_then, unknown_fails}
use Rattle.script_graph.proofs.scope.Scope.want_datapoint.Goals as goal

pub returns-in_err-want_rule : goal.returns-in_err-want_rule
returns-in_err-want_rule c =
    let n = names_in c.args.self.now in
    let e = c.in_err-want_rule.field-0.0 in
    exits (first_unknown n (flat_map of_datapoint c.args.rules.now)) (λ (_ : Unit {0}). ⊤) c.from_residual.result e c.from_residual.ensures.1
    (unknown_fails n of_datapoint c.args.rules.now c.loop-rule.rule-index c.rule-item.result (λ (_ : Unit {0}). ⊤) (λ (_ : Unit {0}). ⊤) e (c.loop-rule-test.true, c.rule-item.is) c.loop-rule.invariant c.in_err-want_rule.ensures)

pub loop-rule-preserved : goal.loop-rule-preserved
loop-rule-preserved c =
    let n = names_in c.args.self.now in
    (unknown_then n of_datapoint c.args.rules.now c.loop-rule.rule-index c.rule-item.result (λ (_ : Unit {0}). ⊤) (λ (_ : Unit {0}). ⊤) (Ok tt) (c.loop-rule-test.true, c.rule-item.is) c.loop-rule.invariant (c.in_ok-want_rule.ensures {u = tt}) (λ v p. p)).0
