use Rattle.std.proofs.Common.{ℕ, ◌<◌, get_or}
use Rattle.data_set_trees.specs.declared.tree.Source.{Source}
use Rattle.round_core.specs.Slots.{ThereIn}
use Rattle.round_core.proofs.ends.all_there.Given as goal

abbrev pub invariant-loop-source : goal.invariant-loop-source
invariant-loop-source l = (k : ℕ) (d : Source) → k < l.source-index → ThereIn l.slots (get_or l.sources k d)
