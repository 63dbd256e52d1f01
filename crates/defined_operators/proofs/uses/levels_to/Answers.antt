use Rattle.std.proofs.Common.{◌∙◌, refl}
use Rattle.defined_operators.proofs.Unused.{known_to, levels_next}
use Rattle.defined_operators.proofs.uses.levels_to.Goals as goal

pub uses_after-requires : goal.uses_after-requires
uses_after-requires c = known_to _ _ _ _ (c.as_slice.ensures ∙ c.loop-level.invariant) refl

pub loop-level-preserved : goal.loop-level-preserved
loop-level-preserved c = levels_next c.args.operators.now c.loop-level.level c.loop-level.levels c.push-in-loop-level.new.self c.in_ok-uses.uses c.loop-level.invariant c.in_ok-uses.ensures (c.in_ok-push-2.ensures {u = tt}).ok
