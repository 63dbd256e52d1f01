use Rattle.held_index.proofs.PlanLemmas.{IsUnderWay}
use Rattle.held_index.proofs.held.Held.plan.Given as goal

abbrev pub invariant-loop-change : goal.invariant-loop-change
invariant-loop-change l = IsUnderWay l.initial.walk l.change-items l.change-index l.walk
