-- The end of a later read is the end of all.
use Rattle.std.proofs.Common.{arith}
use Rattle.commands.proofs.StageLemmas.{stands_later, third_named}
use Rattle.commands.proofs.reading.read_files.Goals as goal

pub returns-in_err-feed-in-Eval-clause-stands : goal.returns-in_err-feed-in-Eval-clause-stands
returns-in_err-feed-in-Eval-clause-stands g c = rw c.in-Eval.is (stands_later _ c.from_residual-in_err-feed-in-Eval.ensures.1 c.read_script-in-Eval.ensures.stands.files c.read_script-in-Eval.ensures.stands.later
    (third_named _ _ _)
    (λ f told end own. grind (arith, own, c.in_ok-bytes-in-Eval.ensures.stands.value f told))
    c.in_err-feed-in-Eval.ensures.stands)
