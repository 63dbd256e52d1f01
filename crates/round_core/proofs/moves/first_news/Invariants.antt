use Rattle.std.proofs.Common.{◌≡◌, ℕ, ◌<◌, length, get_or}
use Rattle.std.specs.declared.sync.Arc.{Arc}
use Rattle.std.specs.declared.alloc.Global.{Global}
use Rattle.point_sets.specs.Changes.{Changes}
use Rattle.data_set_trees.specs.declared.tree.Source.{Source}
use Rattle.round_core.specs.Steps.{IsFirstNews}
use Rattle.round_core.proofs.moves.first_news.Given as goal

abbrev pub invariant-loop-source : goal.invariant-loop-source
invariant-loop-source l = (length l.news.items ≡ l.source-index) × ((k : ℕ) (d : Arc Changes Global) (e : Source) → k < l.source-index → IsFirstNews l.changes (get_or l.news.items k d) (get_or l.sources k e))
