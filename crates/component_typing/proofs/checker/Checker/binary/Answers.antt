use Rattle.scalar_trees.specs.typing.Steps.{◌>>=◌}
use Rattle.scalar_trees.specs.typing.Scopes.{kinds_of}
use Rattle.scalar_trees.specs.typing.Scalars as meant
use Rattle.scalar_trees.proofs.typing.Sound.{binary-typed}
use Rattle.component_typing.proofs.Steps.{answers_after, answers_as}
use Rattle.component_typing.proofs.checker.Checker.binary.Goals as goal

pub returns : goal.returns
returns g c =
    let kinds = kinds_of c.args.self.now.scope.now.columns c.args.self.now.basis in
    let a = c.in_ok-left.left in
    let b = c.in_ok-right.right in
    answers_after kinds (meant.typed c.args.self.now.scope.now c.args.self.now.basis c.args.left.now) (λ x. (meant.typed c.args.self.now.scope.now c.args.self.now.basis c.args.right.now) >>= meant.binary_typed c.args.operator c.args.place x) a c.binary_typed.result c.in_ok-left.ensures.ok
    (answers_after kinds (meant.typed c.args.self.now.scope.now c.args.self.now.basis c.args.right.now) (meant.binary_typed c.args.operator c.args.place a) b c.binary_typed.result c.in_ok-right.ensures.ok
    (answers_as kinds (meant.binary_typed c.args.operator c.args.place a b) c.binary_typed.result c.binary_typed.ensures.ok c.binary_typed.ensures.err (binary-typed kinds c.args.operator c.args.place a b c.binary_typed.result c.binary_typed.ensures.ok c.in_ok-left.ensures.typed c.in_ok-right.ensures.typed)))
