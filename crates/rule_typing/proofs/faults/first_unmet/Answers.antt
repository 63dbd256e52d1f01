use Rattle.std.proofs.Common.{Bool, false, ◌∙◌}
use Rattle.scalar_trees.specs.declared.typing.stop.Fault.{Fault}
use Rattle.scalar_trees.specs.declared.typing.stop.Fault.TheVariants.{UnknownComponent}
use Rattle.rule_typing.proofs.FirstFaults.{met_more, unmet_more}
use Rattle.rule_typing.proofs.faults.first_unmet.Goals as goal
use Rattle.rule_typing.proofs.faults.first_unmet.Goals.{then-not-holds, else-not-holds}

pub loop-holds-preserved : goal.loop-holds-preserved
loop-holds-preserved c =
    let ds = c.args.demanded.now in
    let i = c.loop-holds.holds-index in
    let none : Bool × Fault = (false, UnknownComponent) in
    elim c.if-not-holds.branch [
      | then-not-holds w ↦ w.found-is ∙ w.earlier-found.ensures ∙ unmet_more ds i none c.loop-holds.found c.loop-holds-test.true c.loop-holds.invariant w.if-not-holds.true
      | else-not-holds w ↦ w.found-is ∙ met_more ds i none c.loop-holds.found c.loop-holds-test.true c.loop-holds.invariant w.if-not-holds.false
    ]
