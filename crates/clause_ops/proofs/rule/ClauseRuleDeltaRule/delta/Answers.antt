-- All changes of the operand are noted, and so the draft ends in the right answer.
use Rattle.std.proofs.Common.{◌≡◌, ◌∙◌, List, [], ◌∷◌, map, length, Some, refl, sym, subst, ap}
use Rattle.std.specs.Arc.{arc_value}
use Rattle.vtl_values.specs.declared.structure.Component.{Component}
use Rattle.data_set_trees.specs.declared.clauses.clause.CheckedClause.{CheckedClause}
use Rattle.data_set_trees.specs.declared.tree.DataSetOperator.{DataSetOperator}
use Rattle.data_set_trees.specs.checked.Operators.{Operator}
use Rattle.operator_meaning.specs.Operators.{clause_on, meaning_of, AreOperands}
use Rattle.point_sets.specs.DataSets.{DataSet}
use Rattle.point_sets.specs.Changes.{Changes}
use Rattle.clause_meaning.proofs.First.{identifiers-first}
use Rattle.held_index.specs.Rules.{SetOutcome, IsRightAnswer}
use Rattle.clause_ops.specs.Rules.{clause_in}
use Rattle.clause_ops.proofs.Marked.{right-for-all, one-in}
use Rattle.clause_ops.proofs.Meant.{meaning-one}
use Rattle.clause_ops.proofs.rule.ClauseRuleDeltaRule.delta.Goals as goal

pub returns-clause-answer : goal.returns-clause-answer
returns-clause-answer g c =
    let operator : DataSetOperator = c.self.inside.operator in
    let operand : List Component = c.self.inside.operand in
    let structure : List Component = c.self.inside.structure in
    let clause : CheckedClause = c.clause_of-clause.result.now in
    let is : clause_in operator ≡ Some clause = rw c.get.ensures at c.clause_of-clause.ensures in
    let d : Changes = arc_value c.index-news-0.result in
    let noted = rw (c.components-components.ensures.value, c.deref.ensures) at c.in_ok-noted.ensures in
    let one : length c.args.self.now.operands ≡ 1 = subst (λ (q : Operator). length q.operands ≡ 1) c.self.view_is refl in
    let first = identifiers-first operand c.components-components.ensures.structure in
    let AnswersRight : Operator → List Changes → Type 0 = λ q ds. IsRightAnswer (AreOperands q.operands) (meaning_of q) [] c.args._held.now ds c.args.before c.finish.result in
    let AnswersAs : (List DataSet → SetOutcome) → List Changes → Type 0 = λ meaning ds. IsRightAnswer (AreOperands (operand ∷ [])) meaning [] c.args._held.now ds c.args.before c.finish.result in
    subst (λ (q : Operator). AnswersRight q (map arc_value c.args.news.now)) c.self.view_is
    (subst (λ (meaning : List DataSet → SetOutcome). AnswersAs meaning (map arc_value c.args.news.now)) (sym (meaning-one operator clause operand structure is))
    (subst (λ (ds : List Changes). AnswersAs (clause_on clause (operand ∷ [])) ds) (ap (map arc_value) (one-in c.args.news.now c.index-news-0.result (c.requires.news ∙ one) c.index-news-0.is))
    (right-for-all clause operand d c.args.before c.in_ok-noted.field-0 c.args._held.now first noted c.finish.result c.finish.ensures)))
