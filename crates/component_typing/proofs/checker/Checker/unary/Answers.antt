use Rattle.scalar_trees.specs.typing.Scopes.{kinds_of}
use Rattle.scalar_trees.specs.typing.Scalars as meant
use Rattle.scalar_trees.proofs.typing.Sound.{unary-typed}
use Rattle.component_typing.proofs.Steps.{answers_after, answers_as}
use Rattle.component_typing.proofs.checker.Checker.unary.Goals as goal

pub returns : goal.returns
returns g c =
    let kinds = kinds_of c.args.self.now.scope.now.columns c.args.self.now.basis in
    let a = c.in_ok-operand.operand in
    answers_after kinds (meant.typed c.args.self.now.scope.now c.args.self.now.basis c.args.operand.now) (meant.unary_typed c.args.operator c.args.place) a c.unary_typed.result c.in_ok-operand.ensures.ok
    (answers_as kinds (meant.unary_typed c.args.operator c.args.place a) c.unary_typed.result c.unary_typed.ensures.ok c.unary_typed.ensures.err (unary-typed kinds c.args.operator c.args.place a c.unary_typed.result c.unary_typed.ensures.ok c.in_ok-operand.ensures.typed))
