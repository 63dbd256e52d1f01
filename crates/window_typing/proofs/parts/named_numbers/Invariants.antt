use Rattle.std.proofs.Common.{◌≡◌, ◌++◌, drop}
use Rattle.std.specs.Prelude.{filter_map}
use Rattle.data_set_trees.specs.clauses.Clauses.{bare_number_of}
use Rattle.window_typing.proofs.parts.named_numbers.Given as goal

abbrev pub invariant-loop-name : goal.invariant-loop-name
invariant-loop-name l = filter_map (bare_number_of l.frame) l.names ≡ l.numbers ++ filter_map (bare_number_of l.frame) (drop l.name-index l.names)
