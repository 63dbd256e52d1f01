use Rattle.std.proofs.Common.{◌∙◌, refl}
use Rattle.defined_operators.proofs.Answered.{replaced_answered}
use Rattle.defined_operators.proofs.Unused.{known_to}
use Rattle.defined_operators.proofs.scripts.calls_replaced.Goals as goal

pub invariant_of-writer : goal.invariant_of-writer
invariant_of-writer c = record { known = known_to _ _ _ _ (c.as_slice.ensures ∙ c.in_ok-levels.ensures) refl }

pub returns : goal.returns
returns c = replaced_answered c.script.result c.args.script.now c.as_slice-operators.result.now c.new.result c.as_slice-operators.ensures c.new.ensures c.script.ensures
