use Rattle.std.proofs.Common.{◌≡◌, drop}
use Rattle.expression_rules.specs.OnClauses.{analytic_checked}
use Rattle.data_set_parts.specs.Walks.{each}
use Rattle.data_set_parts.proofs.Binds.{left_after}
use Rattle.statement_typing.proofs.points.all_analytic_checked.Given as goal

abbrev pub invariant-loop-item : goal.invariant-loop-item
invariant-loop-item l =
    let h = analytic_checked l.frame in
    each h l.items ≡ left_after h l.checked (drop l.item-index l.items)
