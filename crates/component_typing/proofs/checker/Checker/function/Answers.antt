use Rattle.scalar_trees.specs.typing.Steps.{◌>>=◌}
use Rattle.scalar_trees.specs.typing.Scopes.{kinds_of}
use Rattle.scalar_trees.specs.typing.Scalars as meant
use Rattle.scalar_trees.proofs.typing.Sound.{function-typed}
use Rattle.component_typing.proofs.Steps.{answers_after, answers_as}
use Rattle.component_typing.proofs.checker.Checker.function.Goals as goal

pub returns : goal.returns
returns g c =
    let kinds = kinds_of c.args.self.now.scope.now.columns c.args.self.now.basis in
    let a = c.in_ok-left.left in
    let b = c.in_ok-right.right in
    answers_after kinds (meant.typed c.args.self.now.scope.now c.args.self.now.basis c.args.left.now) (λ x. (meant.typed c.args.self.now.scope.now c.args.self.now.basis c.args.right.now) >>= meant.function_typed c.args.function c.args.place x) a c.function_typed.result c.in_ok-left.ensures.ok
    (answers_after kinds (meant.typed c.args.self.now.scope.now c.args.self.now.basis c.args.right.now) (meant.function_typed c.args.function c.args.place a) b c.function_typed.result c.in_ok-right.ensures.ok
    (answers_as kinds (meant.function_typed c.args.function c.args.place a b) c.function_typed.result c.function_typed.ensures.ok c.function_typed.ensures.err (function-typed kinds c.args.function c.args.place a b c.function_typed.result c.function_typed.ensures.ok c.in_ok-left.ensures.typed c.in_ok-right.ensures.typed)))
