use Rattle.std.proofs.Common.{◌≡◌, ◌++◌, drop}
use Rattle.std.specs.Prelude.{filter_map}
use Rattle.data_set_trees.specs.clauses.Frames.{moved_name}
use Rattle.clause_typing.proofs.parts.moved_names.Given as goal

abbrev pub invariant-loop-name : goal.invariant-loop-name
invariant-loop-name l = filter_map (moved_name l.numbers) l.names ≡ l.moved ++ filter_map (moved_name l.numbers) (drop l.name-index l.names)
