use Rattle.std.proofs.Common.{◌≡◌, drop}
use Rattle.expression_rules.specs.Expressions.{typed}
use Rattle.data_set_parts.specs.Walks.{each}
use Rattle.data_set_parts.proofs.Binds.{left_after}
use Rattle.statement_typing.specs.Names.{naming_of}
use Rattle.statement_typing.proofs.checker.Checker.each.Given as goal

abbrev pub invariant-loop-tree : goal.invariant-loop-tree
invariant-loop-tree g l =
    let h = typed (naming_of l.self.names.now) in
    each h l.trees ≡ left_after h l.operands (drop l.tree-index l.trees)
