use Rattle.std.proofs.Common.{◌≡◌, drop}
use Rattle.std.specs.List.{list_any}
use Rattle.defined_operators.specs.Uses.{stands_in}
use Rattle.defined_operators.proofs.uses.+stands.Given as goal

abbrev pub invariant-stands_in_one-loop-outline : goal.invariant-stands_in_one-loop-outline
invariant-stands_in_one-loop-outline l = list_any (stands_in l.name) l.outlines ≡ list_any (stands_in l.name) (drop l.outline-index l.outlines)
