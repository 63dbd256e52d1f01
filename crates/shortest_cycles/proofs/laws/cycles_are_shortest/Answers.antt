use Rattle.shortest_cycles.proofs.CycleLemmas.{finds_shortest}
use Rattle.shortest_cycles.proofs.laws.cycles_are_shortest.Goals as goal

pub returns : goal.returns
returns c = finds_shortest
