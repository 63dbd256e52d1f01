use Rattle.shortest_cycles.proofs.FirstCycles.{answers_first, answers_none}
use Rattle.shortest_cycles.proofs.cycles.first_cycle.Goals as goal

pub returns-clause-first : goal.returns-clause-first
returns-clause-first c = answers_first c.args.graph.now c.find_cycle.result c.find_cycle.ensures

pub returns-clause-none : goal.returns-clause-none
returns-clause-none c = answers_none c.args.graph.now c.find_cycle.result c.find_cycle.ensures
