use Rattle.std.proofs.Common.{◌≡◌, [], map, drop}
use Rattle.std.specs.Prelude.{filter}
use Rattle.data_set_trees.specs.clauses.Frames.{has_role}
use Rattle.data_set_trees.specs.Joins.{gathered}
use Rattle.join_eval.proofs.components.gathered_of.Given as goal

abbrev pub invariant-loop-structure : goal.invariant-loop-structure
invariant-loop-structure l = gathered [] (map (filter (has_role l.role)) l.structures) ≡ gathered l.all (map (filter (has_role l.role)) (drop l.structure-index l.structures))
