use Rattle.data_set_trees.specs.clauses.Clauses.{is_same_name}
use Rattle.clause_typing.specs.Keys.{full_name, name_of}
use Rattle.clause_typing.proofs.Differing.{Seen}
use Rattle.clause_typing.proofs.differ.names_differ.Given as goal

abbrev pub invariant-loop-name : goal.invariant-loop-name
invariant-loop-name l = Seen is_same_name full_name name_of l.name-items l.name-index l.seen.keys
