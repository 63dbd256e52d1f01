use Rattle.std.proofs.Common.{ap, ◌∙◌}
use Rattle.scalar_trees.specs.WellTyped.{is_of_kind}
use Rattle.scalar_trees.specs.typing.Scopes.{kinds_of}
use Rattle.component_typing.proofs.Steps.{whole_typed}
use Rattle.component_typing.proofs.expression.check_expr.Goals as goal

pub returns-clause-typed : goal.returns-clause-typed
returns-clause-typed c =
    let kinds = kinds_of c.args.scope.now.columns c.args.basis in
    let kind = c.whole_kind-kind.result in
    ap (λ tree. is_of_kind kinds tree kind) c.into_tree.ensures ∙ whole_typed kinds c.args.null_kind c.in_ok-typed.typed kind c.whole_kind-kind.ensures c.in_ok-typed.ensures.typed
