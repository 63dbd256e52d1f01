use Rattle.std.proofs.Common.{arith, inr}
use Rattle.outside.proofs.Found.{if_copied, none_copied}
use Rattle.outside.proofs.memory.found.Goals as goal

pub returns-clause-some : goal.returns-clause-some
returns-clause-some c = if_copied _ c.get.result _ c.get.ensures.value

pub returns-clause-none : goal.returns-clause-none
returns-clause-none c =
    let same = none_copied (λ v. v.items) c.get.result _ c.get.ensures.value in
    (λ none. inr (same.0 none), λ why. grind (arith, why, same.1, c.if-fails.false))
