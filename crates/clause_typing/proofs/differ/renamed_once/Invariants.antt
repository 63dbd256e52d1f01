use Rattle.std.proofs.Common.{ℕ, nat_eq}
use Rattle.data_set_trees.specs.declared.clauses.clause.CheckedRename.{CheckedRename}
use Rattle.clause_typing.proofs.Differing.{Seen}
use Rattle.clause_typing.proofs.differ.renamed_once.Given as goal

abbrev pub invariant-loop-renaming : goal.invariant-loop-renaming
invariant-loop-renaming l = Seen (λ (a b : CheckedRename). nat_eq a.component b.component) (λ r. r.component) (λ (n : ℕ). n) l.renames l.renaming-index l.seen.keys
