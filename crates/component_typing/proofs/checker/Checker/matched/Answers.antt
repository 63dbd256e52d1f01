use Rattle.scalar_trees.specs.typing.Scopes.{kinds_of}
use Rattle.scalar_trees.specs.typing.Scalars as meant
use Rattle.scalar_trees.proofs.typing.Sound.{matches-typed}
use Rattle.component_typing.proofs.Steps.{answers_after, answers_as}
use Rattle.component_typing.proofs.checker.Checker.matched.Goals as goal

pub returns : goal.returns
returns g c =
    let kinds = kinds_of c.args.self.now.scope.now.columns c.args.self.now.basis in
    let a = c.in_ok-operand.operand in
    answers_after kinds (meant.typed c.args.self.now.scope.now c.args.self.now.basis c.args.operand.now) (meant.matches_typed c.args.pattern.now c.args.place) a c.matches_typed.result c.in_ok-operand.ensures.ok
    (answers_as kinds (meant.matches_typed c.args.pattern.now c.args.place a) c.matches_typed.result c.matches_typed.ensures.ok c.matches_typed.ensures.err (matches-typed kinds c.args.pattern.now c.args.place a c.matches_typed.result c.matches_typed.ensures.ok c.in_ok-operand.ensures.typed))
