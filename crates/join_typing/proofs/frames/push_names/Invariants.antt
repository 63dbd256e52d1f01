use Rattle.std.proofs.Common.{◌≡◌, ◌++◌, drop}
use Rattle.data_set_trees.specs.Joins.{names_at}
use Rattle.join_typing.proofs.frames.push_names.Given as goal

abbrev pub invariant-loop-alias : goal.invariant-loop-alias
invariant-loop-alias l = l.fn.names ++ names_at l.number l.name l.titles ≡ l.names ++ names_at l.number l.name (drop l.alias-index l.titles)
