use Rattle.std.proofs.Common.{◌≡◌, map, drop}
use Rattle.data_set_trees.specs.Lifted.{all_fit}
use Rattle.data_set_trees.specs.Pairs.{both}
use Rattle.data_set_typing.proofs.call.Call.pairs_fit.Given as goal

abbrev pub invariant-loop-pair : goal.invariant-loop-pair
invariant-loop-pair l = all_fit l.self.form.now l.self.place l.self.operands.now (map (both l.count) l.met) ≡ all_fit l.self.form.now l.self.place l.self.operands.now (map (both l.count) (drop l.pair-index l.met))
