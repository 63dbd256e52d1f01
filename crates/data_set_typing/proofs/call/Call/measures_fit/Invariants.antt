use Rattle.std.proofs.Common.{◌≡◌, drop}
use Rattle.data_set_trees.specs.Components.{measures_from}
use Rattle.data_set_typing.specs.Kinds.{measures_fit}
use Rattle.data_set_typing.proofs.call.Call.measures_fit.Given as goal

abbrev pub invariant-loop-i : goal.invariant-loop-i
invariant-loop-i l =
    (l.slots ≡ l.before)
    × (measures_fit l.self.form.now l.self.place l.self.operands.now l.before (measures_from 0 l.components) ≡ measures_fit l.self.form.now l.self.place l.self.operands.now l.before (measures_from l.i (drop l.i l.components)))
