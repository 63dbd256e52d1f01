-- Where the run has not ended, the piece goes after it.
use Rattle.std.proofs.Common.{subst}
use Rattle.outside.proofs.Writes.{wrote_then}
use Rattle.outside.specs.Sinks.{Wrote}
use Rattle.outside.proofs.sink.put.Goals as goal

pub returns : goal.returns
returns g c = λ start before so_far. wrote_then (subst (λ r. Wrote start (g.K.Sink.view c.args.out.now) r before) (c.in_ok-so_far.was {u = tt}) so_far) c.write.ensures
