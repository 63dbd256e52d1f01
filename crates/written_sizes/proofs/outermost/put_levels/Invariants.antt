use Rattle.std.proofs.Common.{◌≡◌, ◌++◌, map, take}
use Rattle.written_sizes.specs.Outermost.{told_levels}
use Rattle.written_sizes.proofs.outermost.put_levels.Given as goal

abbrev pub invariant-loop-outline : goal.invariant-loop-outline
invariant-loop-outline l = l.out ≡ l.initial.out ++ map (told_levels l.operators) (take l.outline-index l.outlines)
