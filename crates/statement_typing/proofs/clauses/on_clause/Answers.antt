use Rattle.std.proofs.Common.{List, sym, ap, ◌∙◌}
use Rattle.vtl_syntax.specs.declared.expr.Clause.{Clause, roll-Clause, out-roll-Clause}
use Rattle.vtl_syntax.specs.declared.expr.Clause.TheOpen.{Clause-F}
use Rattle.vtl_syntax.specs.declared.expr.Clause.TheVariants as tree
use Rattle.vtl_syntax.specs.declared.expr.Expr.{Expr}
use Rattle.vtl_syntax.specs.declared.expr.Groups.{Groups}
use Rattle.vtl_syntax.specs.declared.expr.Item.{Item}
use Rattle.vtl_syntax.specs.declared.expr.JoinOperand.{JoinOperand}
use Rattle.vtl_syntax.specs.declared.expr.SubstrRange.{SubstrRange}
use Rattle.data_set_trees.specs.Trees.{SetAnswer}
use Rattle.expression_rules.specs.OnClauses.{by_form, on_clause}
use Rattle.expression_rules.specs.OnSets.{on_aggr}
use Rattle.statement_typing.proofs.Steps.{answers_same}
use Rattle.statement_typing.proofs.clauses.on_clause.Goals as goal

pub returns-in-Aggr : goal.returns-in-Aggr
returns-in-Aggr c =
    let form : Clause-F Clause Expr Groups Item JoinOperand SubstrRange = Clause-F.Aggr c.in-Aggr.items c.in-Aggr.groups c.in-Aggr.place in
    let m : List Item → SetAnswer = λ items. on_aggr items c.in-Aggr.groups c.in-Aggr.place c.args.operand in
    let step : Clause-F Clause Expr Groups Item JoinOperand SubstrRange → SetAnswer = λ x. by_form x (roll-Clause form) c.args.operand in
    let whole : Clause → SetAnswer = λ e. on_clause e c.args.operand in
    answers_same (m c.as_slice.result.now) (whole c.args.clause.now) c.on_aggr.result
    (ap m c.as_slice.ensures ∙ ap step (sym (out-roll-Clause form)) ∙ ap whole (tree.rolls-Aggr c.in-Aggr.items c.in-Aggr.groups c.in-Aggr.place ∙ sym c.in-Aggr.is))
    c.on_aggr.ensures
