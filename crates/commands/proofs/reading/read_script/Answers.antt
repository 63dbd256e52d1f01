-- The end of a later read is the end of all.
use Rattle.std.proofs.Common.{arith}
use Rattle.commands.proofs.StageLemmas.{stands_later, second_named}
use Rattle.commands.proofs.reading.read_script.Goals as goal

pub returns-in_err-structures-clause-stands : goal.returns-in_err-structures-clause-stands
returns-in_err-structures-clause-stands g c = stands_later _ c.from_residual-in_err-structures.ensures.1 c.read_file.ensures.stands.files c.read_file.ensures.stands.later
    (second_named _ _)
    (λ f told end own. grind (arith, own, c.in_ok-script.ensures.stands.value f told))
    c.in_err-structures.ensures.stands
