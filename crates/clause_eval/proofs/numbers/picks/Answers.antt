use Rattle.std.proofs.Common.{List, ◌∙◌, ap, sym}
use Rattle.std.proofs.lemmas.Result.{IfOk-weaker}
use Rattle.data_set_trees.specs.clauses.Frames.{frame_of}
use Rattle.data_set_trees.specs.declared.clauses.clause.CheckedClause.{CheckedClause}
use Rattle.data_set_trees.specs.declared.clauses.clause.CheckedItem.{CheckedItem}
use Rattle.clause_eval.specs.Points.{picks_of}
use Rattle.clause_eval.specs.Roles.{others_with, roles_after}
use Rattle.clause_eval.proofs.RoleLemmas.{calc-picks, roles}
use Rattle.clause_eval.proofs.numbers.picks.Goals as goal

pub returns-in-Calc : goal.returns-in-Calc
returns-in-Calc c =
    let components = c.args.components.now in
    IfOk-weaker c.calculated.result _ _
    (λ numbers h. h ∙ ap (λ (is : List CheckedItem). others_with (roles_after is (roles components))) c.as_slice.ensures ∙ calc-picks c.in-Calc.items (frame_of components) ∙ ap (λ (clause : CheckedClause). picks_of clause (frame_of components)) (sym c.in-Calc.is))
    c.calculated.ensures
