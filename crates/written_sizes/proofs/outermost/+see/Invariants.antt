use Rattle.std.proofs.Common.{◌≡◌, ◌+◌, ◌++◌, take}
use Rattle.written_sizes.specs.declared.measure.Measure.TheVariants as measure
use Rattle.written_sizes.specs.Arithmetic.{capped}
use Rattle.written_sizes.specs.Outermost.{outside_in, told_calls}
use Rattle.written_sizes.proofs.outermost.+see.Given as goal

abbrev pub invariant-put_all-loop-outline : goal.invariant-put_all-loop-outline
invariant-put_all-loop-outline l =
    (l.total ≡ capped measure.Expressions (l.own + outside_in l.operators (take l.outline-index l.outlines)))
    × (l.out ≡ l.initial.out ++ told_calls l.operators l.above (take l.outline-index l.outlines))
