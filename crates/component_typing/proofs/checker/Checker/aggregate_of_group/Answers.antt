use Rattle.scalar_trees.specs.declared.typing.scope.Basis.TheVariants.{Point, Group}
use Rattle.scalar_trees.specs.typing.Scopes.{kinds_of}
use Rattle.scalar_trees.specs.typing.Scalars as meant
use Rattle.scalar_trees.proofs.typing.SoundNames.{aggregate-typed}
use Rattle.component_typing.proofs.Steps.{answers_after, answers_as}
use Rattle.component_typing.proofs.checker.Checker.aggregate_of_group.Goals as goal

pub returns : goal.returns
returns g c =
    let columns = c.args.self.now.scope.now.columns in
    let a = c.in_ok-operand.operand in
    let next = meant.aggregate_typed c.args.function c.args.is_bare c.args.place in
    answers_after (kinds_of columns Group) (meant.typed c.args.self.now.scope.now Point c.args.operand.now) next a c.aggregate_typed.result c.in_ok-operand.ensures.ok
    (answers_as (kinds_of columns Group) (next a) c.aggregate_typed.result c.aggregate_typed.ensures.ok c.aggregate_typed.ensures.err (aggregate-typed columns c.args.function c.args.is_bare c.args.place a c.aggregate_typed.result c.aggregate_typed.ensures.ok c.in_ok-operand.ensures.typed))
