use Rattle.scalar_trees.specs.typing.Scopes.{kinds_of}
use Rattle.scalar_trees.specs.typing.Scalars as meant
use Rattle.scalar_trees.proofs.typing.SoundSets.{in-typed}
use Rattle.component_typing.proofs.Steps.{answers_after, answers_as}
use Rattle.component_typing.proofs.checker.Checker.in_set.Goals as goal

pub returns : goal.returns
returns g c =
    let kinds = kinds_of c.args.self.now.scope.now.columns c.args.self.now.basis in
    let a = c.in_ok-operand.operand in
    let next = meant.in_typed c.args.sign c.args.set.now c.args.place in
    answers_after kinds (meant.typed c.args.self.now.scope.now c.args.self.now.basis c.args.operand.now) next a c.in_typed.result c.in_ok-operand.ensures.ok
    (answers_as kinds (next a) c.in_typed.result c.in_typed.ensures.ok c.in_typed.ensures.err (in-typed kinds c.args.sign c.args.set.now c.args.place a c.in_typed.result c.in_typed.ensures.ok c.in_typed.ensures.range c.in_ok-operand.ensures.typed))
