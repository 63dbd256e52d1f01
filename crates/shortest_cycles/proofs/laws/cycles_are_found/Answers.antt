use Rattle.shortest_cycles.proofs.CyclesFound.{finds_cycles}
use Rattle.shortest_cycles.proofs.laws.cycles_are_found.Goals as goal

pub returns : goal.returns
returns c = finds_cycles
