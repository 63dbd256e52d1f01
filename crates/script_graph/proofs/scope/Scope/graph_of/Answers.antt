use Rattle.std.proofs.Common.{◌≡◌, ℕ, ◌+◌, List, [], ◌∷◌, ◌++◌, Ok, map, take, sym, ap, ◌∙◌}
use Rattle.std.specs.Prelude.{⊤}
use Rattle.std.specs.List.{flat_map}
use Rattle.vtl_syntax.specs.declared.script.Statement.{Statement}
use Rattle.shortest_cycles.specs.Paths.{Graph}
use Rattle.script_graph.specs.Mentions.{of_statement}
use Rattle.script_graph.specs.Scopes.{first_unknown, uses}
use Rattle.script_graph.specs.ScopeViews.{names_in}
use Rattle.script_graph.specs.Faults.{uses_in}
use Rattle.script_graph.proofs.Answering.{exits, unknown_then, unknown_fails}
use Rattle.script_graph.proofs.RepeatLemmas.{map_more}
use Rattle.script_graph.proofs.scope.Scope.graph_of.Goals as goal

pub returns-in_err-put_expr : goal.returns-in_err-put_expr
returns-in_err-put_expr c =
    let n = names_in c.args.self.now in
    let x = c.statement-item.result in
    let e = c.in_err-put_expr.field-0.0 in
    exits (first_unknown n (flat_map of_statement c.args.statements.now)) (λ (g : Graph). g ≡ map (uses_in n) c.args.statements.now) c.from_residual.result e c.from_residual.ensures.1
    (unknown_fails n of_statement c.args.statements.now c.loop-statement.statement-index x (λ (_ : Unit {0}). c.put_expr.new.uses ≡ c.new-uses.result ++ uses n (of_statement x)) (λ (g : Graph). g ≡ map (uses_in n) c.args.statements.now) e (c.loop-statement-test.true, c.statement-item.is) c.loop-statement.invariant.0 c.in_err-put_expr.ensures)

pub loop-statement-preserved : goal.loop-statement-preserved
loop-statement-preserved c =
    let n = names_in c.args.self.now in
    let ts = c.args.statements.now in
    let i = c.loop-statement.statement-index in
    let x = c.statement-item.result in
    let told = c.in_ok-put_expr.ensures {u = tt} in
    let used : c.put_expr.new.uses ≡ uses_in n x = told.1 ∙ ap (λ (ks : List ℕ). ks ++ uses n (of_statement x)) c.new-uses.ensures in (
      (unknown_then n of_statement ts i x (λ (_ : Unit {0}). c.put_expr.new.uses ≡ c.new-uses.result ++ uses n (of_statement x)) (λ (_ : Unit {0}). ⊤) (Ok tt) (c.loop-statement-test.true, c.statement-item.is) c.loop-statement.invariant.0 told (λ v p. tt)).0,
      (c.in_ok-push.ensures {u = tt}).ok
          ∙ ap (λ (g : Graph). g ++ c.put_expr.new.uses ∷ []) c.loop-statement.invariant.1
          ∙ ap (λ (us : List ℕ). map (uses_in n) (take i ts) ++ us ∷ []) used
          ∙ ap (λ (y : Statement). map (uses_in n) (take i ts) ++ uses_in n y ∷ []) c.statement-item.is
          ∙ sym (map_more (uses_in n) ts i x c.loop-statement-test.true),
    )
