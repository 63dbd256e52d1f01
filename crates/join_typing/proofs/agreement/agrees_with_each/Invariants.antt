use Rattle.std.proofs.Common.{◌≡◌, drop}
use Rattle.std.specs.List.{list_all}
use Rattle.data_set_trees.specs.Components.{virals_agree}
use Rattle.join_typing.proofs.agreement.agrees_with_each.Given as goal

abbrev pub invariant-loop-other : goal.invariant-loop-other
invariant-loop-other l = list_all (virals_agree l.structure) l.others ≡ list_all (virals_agree l.structure) (drop l.other-index l.others)
