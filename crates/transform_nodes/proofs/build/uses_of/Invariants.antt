use Rattle.std.proofs.Common.{◌≡◌, ◌≤◌, take}
use Rattle.std.specs.Prelude.{count_by}
use Rattle.data_set_trees.specs.checked.Scripts.{names_result}
use Rattle.transform_nodes.proofs.build.uses_of.Given as goal

abbrev pub invariant-loop-named : goal.invariant-loop-named
invariant-loop-named l = record {
  value : l.uses ≡ count_by (names_result l.statement) (take l.named-index l.statements);
  few : l.uses ≤ l.named-index;
}
