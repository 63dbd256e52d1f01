use Rattle.std.proofs.Common.{◌≡◌, ◌++◌, drop}
use Rattle.data_set_trees.specs.clauses.Frames.{numbers_from}
use Rattle.data_set_trees.specs.aggregates.Groups.{forms_groups}
use Rattle.aggregate_typing.proofs.groups.numbers_forming.Given as goal

abbrev pub invariant-loop-i : goal.invariant-loop-i
invariant-loop-i l = numbers_from (λ number. forms_groups l.word l.names) 0 l.components ≡ l.numbers ++ numbers_from (λ number. forms_groups l.word l.names) l.i (drop l.i l.components)
