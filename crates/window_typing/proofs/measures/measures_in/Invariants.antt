use Rattle.std.proofs.Common.{◌≡◌, ◌++◌, drop}
use Rattle.std.specs.Prelude.{filter_map}
use Rattle.window_typing.specs.Each.{measure_in}
use Rattle.window_typing.proofs.measures.measures_in.Given as goal

abbrev pub invariant-loop-number : goal.invariant-loop-number
invariant-loop-number l = filter_map (measure_in l.parts l.over (l.operator) l.components) l.numbers ≡ l.items ++ filter_map (measure_in l.parts l.over (l.operator) l.components) (drop l.number-index l.numbers)
