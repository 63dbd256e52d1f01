use Rattle.std.proofs.Common.{◌≡◌, ◌++◌, ◌&&◌, drop}
use Rattle.structured_sets.specs.Fitting.{is_identifier}
use Rattle.data_set_trees.specs.clauses.Frames.{numbers_from}
use Rattle.data_set_trees.specs.clauses.After.{is_left}
use Rattle.clause_eval.proofs.numbers.identifiers_left.Given as goal

abbrev pub invariant-loop-i : goal.invariant-loop-i
invariant-loop-i l = numbers_from (λ number c. is_identifier c && is_left l.named number c) 0 l.components ≡ l.numbers ++ numbers_from (λ number c. is_identifier c && is_left l.named number c) l.i (drop l.i l.components)
