use Rattle.std.proofs.Common.{◌≡◌, true, List, ◌++◌}
use Rattle.std.specs.Prelude.{⊤}
use Rattle.script_graph.specs.Mentions.{Mention, of_condition, mentions}
use Rattle.script_graph.specs.Scopes.{first_unknown}
use Rattle.script_graph.specs.ScopeViews.{names_in}
use Rattle.script_graph.proofs.Answering.{exits, after, fails, unknown-append}
use Rattle.script_graph.proofs.scope.Scope.want_rule.Goals as goal

pub returns-in_err-want_condition : goal.returns-in_err-want_condition
returns-in_err-want_condition c =
    let n = names_in c.args.self.now in
    let xs : List Mention = of_condition c.args.rule.now.condition in
    let ys : List Mention = mentions c.args.rule.now.expr true in
    let e = c.in_err-want_condition.field-0.0 in
    exits (first_unknown n (xs ++ ys)) (λ (_ : Unit {0}). ⊤) c.from_residual.result e c.from_residual.ensures.1
    (fails (first_unknown n xs) (first_unknown n ys) (first_unknown n (xs ++ ys)) (λ (_ : Unit {0}). ⊤) (λ (_ : Unit {0}). ⊤) e (unknown-append n xs ys) c.in_err-want_condition.ensures)

pub returns : goal.returns
returns c =
    let n = names_in c.args.self.now in
    let xs : List Mention = of_condition c.args.rule.now.condition in
    let ys : List Mention = mentions c.args.rule.now.expr true in
    after (first_unknown n xs) (first_unknown n ys) (first_unknown n (xs ++ ys)) (λ (_ : Unit {0}). ⊤) (λ (_ : Unit {0}). ⊤) c.want_expr.result (unknown-append n xs ys) (c.in_ok-want_condition.ensures {u = tt}).0 c.want_expr.ensures (λ v p. p)
