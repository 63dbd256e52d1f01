use Rattle.std.proofs.Common.{sym, subst}
use Rattle.data_model.specs.Deltas.{BeginsAt}
use Rattle.point_sets.specs.Changes.{Changes}
use Rattle.value_cases.proofs.Noting.{begins-empty}
use Rattle.value_cases.proofs.held.operand.delta_of.Goals as goal

pub loop-row-init : goal.loop-row-init
loop-row-init c = begins-empty c.new-notes.result c.args.set.now c.new-notes.ensures

pub returns : goal.returns
returns c = subst (λ (d : Changes). BeginsAt d c.args.set.now) (sym c.in_ok-delta.ensures) c.loop-row.invariant
