use Rattle.std.proofs.Common.{◌≡◌, drop}
use Rattle.data_set_trees.specs.clauses.Clauses.{demands}
use Rattle.clause_typing.proofs.demanded.demands.Given as goal

abbrev pub invariant-loop-holds : goal.invariant-loop-holds
invariant-loop-holds l = demands l.place l.demands ≡ demands l.place (drop l.holds-index l.demands)
