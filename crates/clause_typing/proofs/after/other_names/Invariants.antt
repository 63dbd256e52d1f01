use Rattle.std.proofs.Common.{◌≡◌, ◌++◌, not, drop}
use Rattle.std.specs.Prelude.{filter}
use Rattle.data_set_trees.specs.clauses.After.{is_name_of}
use Rattle.clause_typing.proofs.after.other_names.Given as goal

abbrev pub invariant-loop-name : goal.invariant-loop-name
invariant-loop-name l = filter (λ n. not (is_name_of l.number n)) l.names ≡ l.others ++ filter (λ n. not (is_name_of l.number n)) (drop l.name-index l.names)
