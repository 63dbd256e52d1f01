use Rattle.std.proofs.Common.{◌≡◌, [], map, drop}
use Rattle.std.specs.List.{All, filter}
use Rattle.data_set_trees.specs.clauses.Frames.{has_role}
use Rattle.data_set_trees.specs.Joins.{gathered}
use Rattle.data_set_parts.specs.Joins.{IsOf}
use Rattle.join_typing.proofs.components.gathered_of.Given as goal

abbrev pub invariant-loop-structure : goal.invariant-loop-structure
invariant-loop-structure l = record {
  value : gathered [] (map (filter (has_role l.role)) l.structures) ≡ gathered l.all (map (filter (has_role l.role)) (drop l.structure-index l.structures));
  sound : All (IsOf l.role) l.all;
}
