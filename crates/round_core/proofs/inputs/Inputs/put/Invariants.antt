use Rattle.std.proofs.Common.{◌≡◌, List, length}
use Rattle.std.specs.List.{All}
use Rattle.std.specs.Vec.Iter.{into_iter_items, into_iter_len}
use Rattle.point_sets.specs.DataSets.{DataSet}
use Rattle.round_core.specs.declared.inputs.Next.{Next}
use Rattle.round_core.specs.Inputs.{InputsKept, HasInput, AreNexts}
use Rattle.round_core.proofs.NextLemmas.{IsPutSo}
use Rattle.round_core.proofs.inputs.Inputs.put.Given as goal

abbrev pub invariant-loop-next : goal.invariant-loop-next
invariant-loop-next l = record {
  count : into_iter_len l.next-iterator ≡ length (into_iter_items l.next-iterator);
  numbers : All (λ (next : Next). HasInput l.self next.set) (into_iter_items l.next-iterator);
  put : (bases tos nows afters : List DataSet) → InputsKept bases tos nows l.fn.self → AreNexts tos nows afters l.fn.nexts.items → length afters ≡ length nows → IsPutSo bases tos nows afters (into_iter_items l.next-iterator) l.self;
}
