use Rattle.std.proofs.Common.{List, sym, ap, ◌∙◌}
use Rattle.vtl_syntax.specs.declared.expr.Clause.{Clause, out-roll-Clause}
use Rattle.vtl_syntax.specs.declared.expr.Clause.TheOpen.{Clause-F}
use Rattle.vtl_syntax.specs.declared.expr.Clause.TheVariants as tree
use Rattle.vtl_syntax.specs.declared.expr.Expr.{Expr}
use Rattle.vtl_syntax.specs.declared.expr.Groups.{Groups}
use Rattle.vtl_syntax.specs.declared.expr.Item.{Item}
use Rattle.vtl_syntax.specs.declared.expr.JoinOperand.{JoinOperand}
use Rattle.vtl_syntax.specs.declared.expr.SubItem.{SubItem}
use Rattle.vtl_syntax.specs.declared.expr.SubstrRange.{SubstrRange}
use Rattle.data_set_trees.specs.clauses.Clauses.{Answer, sub_typed}
use Rattle.expression_rules.specs.OnClauses.{clause_step, clause_checked}
use Rattle.statement_typing.proofs.Steps.{answers_same, answers_as}
use Rattle.statement_typing.proofs.clauses.clause_checked.Goals as goal

pub returns-in-Sub : goal.returns-in-Sub
returns-in-Sub c =
    let frame = c.args.frame.now in
    let m : List SubItem → Answer = λ items. sub_typed c.in-Sub.place items frame in
    let step : Clause-F Clause Expr Groups Item JoinOperand SubstrRange → Answer = λ x. clause_step x frame in
    let whole : Clause → Answer = λ e. clause_checked e frame in
    let told = m c.as_slice-in-Sub.result.now in
    answers_same told (whole c.args.clause.now) c.sub_typed.result
    (ap m c.as_slice-in-Sub.ensures ∙ ap step (sym (out-roll-Clause (Clause-F.Sub c.in-Sub.items c.in-Sub.place))) ∙ ap whole (tree.rolls-Sub c.in-Sub.items c.in-Sub.place ∙ sym c.in-Sub.is))
    (answers_as told c.sub_typed.result c.sub_typed.ensures.ok c.sub_typed.ensures.err)
