use Rattle.std.proofs.Common.{map, drop, sym, ◌∙◌}
use Rattle.std.proofs.Math.ListN.{drop_of_length-le}
use Rattle.operator_typing.proofs.Steps.{stops_same}
use Rattle.expression_rules.specs.Expressions.{typing, all_typed, typed}
use Rattle.data_set_parts.specs.Walks.{each}
use Rattle.data_set_parts.proofs.Binds.{each_stops, each_ends}
use Rattle.statement_typing.specs.Names.{naming_of}
use Rattle.statement_typing.proofs.Steps.{stopped}
use Rattle.statement_typing.proofs.Walks.{operands_each}
use Rattle.statement_typing.proofs.checker.Checker.each.Goals as goal

pub returns-in_err-part_of : goal.returns-in_err-part_of
returns-in_err-part_of g c =
    let naming = naming_of c.args.self.now.names.now in
    let xs = c.args.trees.now in
    let stop = c.in_err-part_of.field-0.0 in
    let refuses = each_stops (typed naming) xs c.loop-tree.tree-index c.tree-item.result c.loop-tree.operands stop c.loop-tree-test.true c.tree-item.is c.in_err-part_of.ensures.err c.loop-tree.invariant in
    stopped (all_typed (map typing xs) naming) stop c.from_residual.result (stops_same (each (typed naming) xs) (all_typed (map typing xs) naming) stop (operands_each naming xs) refuses) c.from_residual.ensures.1

pub returns : goal.returns
returns g c =
    let naming = naming_of c.args.self.now.names.now in
    let xs = c.args.trees.now in
    record {
      ok = sym (operands_each naming xs) ∙ each_ends (typed naming) xs (drop c.loop-tree.tree-index xs) c.loop-tree.operands (drop_of_length-le xs c.loop-tree-test.false) c.loop-tree.invariant;
      err = tt;
    }
