use Rattle.std.proofs.Common.{map, drop, sym, ◌∙◌}
use Rattle.std.proofs.Math.ListN.{drop_of_length-le}
use Rattle.operator_typing.proofs.Steps.{stops_same}
use Rattle.vtl_syntax.specs.declared.expr.JoinOperand.{JoinOperand}
use Rattle.expression_rules.specs.Expressions.{all_typed}
use Rattle.data_set_parts.specs.Walks.{each}
use Rattle.data_set_parts.proofs.Binds.{each_stops, each_ends}
use Rattle.statement_typing.specs.Joins.{typing_of}
use Rattle.statement_typing.specs.Names.{naming_of}
use Rattle.statement_typing.proofs.Steps.{stopped}
use Rattle.statement_typing.proofs.Walks.{joined_each}
use Rattle.statement_typing.proofs.checker.Checker.further_operands.Goals as goal

pub returns-in_err-operand : goal.returns-in_err-operand
returns-in_err-operand g c =
    let naming = naming_of c.args.self.now.names.now in
    let h = λ (o : JoinOperand). typing_of o naming in
    let xs = c.args.others.now in
    let stop = c.in_err-operand.field-0.0 in
    let refuses = each_stops h xs c.loop-other.other-index c.other-item.result c.loop-other.operands stop c.loop-other-test.true c.other-item.is c.in_err-operand.ensures.err c.loop-other.invariant in
    stopped (all_typed (map typing_of xs) naming) stop c.from_residual.result (stops_same (each h xs) (all_typed (map typing_of xs) naming) stop (joined_each naming xs) refuses) c.from_residual.ensures.1

pub returns : goal.returns
returns g c =
    let naming = naming_of c.args.self.now.names.now in
    let h = λ (o : JoinOperand). typing_of o naming in
    let xs = c.args.others.now in
    record {
      ok = sym (joined_each naming xs) ∙ each_ends h xs (drop c.loop-other.other-index xs) c.loop-other.operands (drop_of_length-le xs c.loop-other-test.false) c.loop-other.invariant;
      err = tt;
    }
