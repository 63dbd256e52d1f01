use Rattle.std.proofs.Common.{ap, ◌∙◌}
use Rattle.scalar_trees.specs.WellTyped.{is_of_kind}
use Rattle.data_set_trees.specs.clauses.WellTyped.{kinds_on}
use Rattle.clause_typing.proofs.OfKinds.{whole_is}
use Rattle.clause_typing.proofs.calc.item_typed.Goals as goal

pub returns-clause-typed : goal.returns-clause-typed
returns-clause-typed c = λ typed.
    let kinds = kinds_on c.args.frame.now in
    ap (λ tree. is_of_kind kinds tree c.unwrap_or.result) c.into_tree.ensures ∙ whole_is kinds c.args.value c.unwrap_or.result c.unwrap_or.ensures typed
