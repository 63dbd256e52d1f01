use Rattle.scalar_trees.specs.typing.Scopes.{kinds_of}
use Rattle.scalar_trees.specs.typing.Scalars as meant
use Rattle.scalar_trees.proofs.typing.SoundSets.{between-typed}
use Rattle.component_typing.proofs.Steps.{answers_after, answers_as, always}
use Rattle.component_typing.proofs.checker.Checker.between.Goals as goal

pub returns : goal.returns
returns g c =
    let kinds = kinds_of c.args.self.now.scope.now.columns c.args.self.now.basis in
    let a = c.in_ok-operand.operand in
    let next = meant.between_typed c.args.low.now c.args.high.now c.args.place in
    answers_after kinds (meant.typed c.args.self.now.scope.now c.args.self.now.basis c.args.operand.now) next a c.between_typed.result c.in_ok-operand.ensures.ok
    (answers_as kinds (next a) c.between_typed.result c.between_typed.ensures.ok c.between_typed.ensures.err (between-typed kinds c.args.low.now c.args.high.now c.args.place a c.between_typed.result c.between_typed.ensures.ok (always c.between_typed.result c.between_typed.ensures.low) (always c.between_typed.result c.between_typed.ensures.high) c.in_ok-operand.ensures.typed))
