use Rattle.defined_operators.proofs.Answered.{sorted_answered}
use Rattle.defined_operators.proofs.Unused.{known_none}
use Rattle.defined_operators.proofs.scripts.sorted_script.Goals as goal

pub invariant_of-writer : goal.invariant_of-writer
invariant_of-writer c = record { known = known_none c.as_slice.result.now }

pub returns : goal.returns
returns c = sorted_answered c.script.result c.args.script.now c.as_slice.result.now c.as_slice-2.result.now c.in_ok-operators.operators c.as_slice.ensures c.as_slice-2.ensures c.in_ok-operators.ensures c.script.ensures
