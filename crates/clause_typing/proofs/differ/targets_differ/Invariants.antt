use Rattle.data_set_trees.specs.declared.clauses.clause.CheckedItem.{CheckedItem}
use Rattle.data_set_trees.specs.clauses.Clauses.{is_same_target}
use Rattle.clause_typing.specs.Keys.{target_of}
use Rattle.clause_typing.proofs.Differing.{Seen}
use Rattle.clause_typing.proofs.differ.targets_differ.Given as goal

abbrev pub invariant-loop-item : goal.invariant-loop-item
invariant-loop-item l = Seen (λ (a b : CheckedItem). is_same_target a.target b.target) (λ i. i.target) target_of l.items l.item-index l.seen.keys
