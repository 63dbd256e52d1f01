use Rattle.std.proofs.Common.{◌≡◌, ◌++◌, take}
use Rattle.std.specs.List.{flat_map}
use Rattle.vtl_spelling.specs.Kinds.{◌&◌, comma, commas}
use Rattle.vtl_spelling.specs.Trees.{spelled, item_spelled, operand_spelled}
use Rattle.vtl_spelling.proofs.Unfolded.{has_some}
use Rattle.vtl_spelling.proofs.trees.+spelling.Given as goal

abbrev pub invariant-more_operands-loop-operand : goal.invariant-more_operands-loop-operand
invariant-more_operands-loop-operand l = l.out.items ≡ l.initial.out.items ++ flat_map (λ e. comma & spelled e) (take l.operand-index l.operands)

abbrev pub invariant-more_join_operands-loop-operand : goal.invariant-more_join_operands-loop-operand
invariant-more_join_operands-loop-operand l = l.out.items ≡ l.initial.out.items ++ flat_map (λ o. comma & operand_spelled o) (take l.operand-index l.operands)

abbrev pub invariant-items-loop-next : goal.invariant-items-loop-next
invariant-items-loop-next l = (l.out.items ≡ l.initial.out.items ++ commas item_spelled (take l.next-index l.items)) × (l.some ≡ has_some (take l.next-index l.items))

abbrev pub invariant-arguments-loop-next : goal.invariant-arguments-loop-next
invariant-arguments-loop-next l = (l.out.items ≡ l.initial.out.items ++ commas spelled (take l.next-index l.arguments)) × (l.some ≡ has_some (take l.next-index l.arguments))
