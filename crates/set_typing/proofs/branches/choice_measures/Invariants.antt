use Rattle.std.proofs.Common.{◌≡◌, drop}
use Rattle.data_set_trees.specs.Choices.{choice_measure}
use Rattle.data_set_parts.specs.Walks.{each}
use Rattle.data_set_parts.proofs.Binds.{left_after}
use Rattle.set_typing.proofs.branches.choice_measures.Given as goal

abbrev pub invariant-loop-measure : goal.invariant-loop-measure
invariant-loop-measure l =
    let h = choice_measure l.place l.holds l.fails in
    each h l.measures ≡ left_after h l.all (drop l.measure-index l.measures)
