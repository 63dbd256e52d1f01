use Rattle.std.proofs.Common.{refl, arith}
use Rattle.outside.proofs.Writes.{took_all}
use Rattle.outside.proofs.real.StdoutSinkSink.write.Goals as goal

pub returns-in-Ok : goal.returns-in-Ok
returns-in-Ok g c = record { later = omega arith; failed = λ no. grind arith; memory = λ no. grind arith; room = λ ok. omega arith; took = took_all refl }
