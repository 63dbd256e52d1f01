use Rattle.vtl_values.specs.declared.kind.Kind.TheVariants.{Truth}
use Rattle.data_set_trees.specs.clauses.WellTyped.{kinds_on}
use Rattle.clause_typing.proofs.OfKinds.{wanted_is}
use Rattle.clause_typing.proofs.points.filter_typed.Goals as goal

pub returns-clause-typed : goal.returns-clause-typed
returns-clause-typed c = λ frame typed. wanted_is (kinds_on frame) c.args.place Truth c.args.condition c.in_ok-condition.condition typed c.in_ok-condition.ensures.ok
