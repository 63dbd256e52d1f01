-- A read that found nothing is one that was to fail.
use Rattle.std.proofs.Common.{inl, inr, ⊎_elim, ap, is_some}
use Rattle.outside.proofs.memory.MemoryShelfShelf.read.Goals as goal

pub returns-clause-failed : goal.returns-clause-failed
returns-clause-failed c = λ failed. ⊎_elim (λ numbered. inl (c.is_to_fail.ensures.0 numbered)) inr (c.found.ensures.none.0 (ap is_some c.in-None.is))
