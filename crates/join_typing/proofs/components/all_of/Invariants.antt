use Rattle.std.proofs.Common.{◌≡◌, ◌++◌, drop}
use Rattle.std.specs.List.{All, filter, flat_map}
use Rattle.data_set_trees.specs.clauses.Frames.{has_role}
use Rattle.data_set_parts.specs.Joins.{IsOf}
use Rattle.join_typing.proofs.components.all_of.Given as goal

abbrev pub invariant-loop-structure : goal.invariant-loop-structure
invariant-loop-structure l = record {
  value : flat_map (filter (has_role l.role)) l.structures ≡ l.all ++ flat_map (filter (has_role l.role)) (drop l.structure-index l.structures);
  sound : All (IsOf l.role) l.all;
}
