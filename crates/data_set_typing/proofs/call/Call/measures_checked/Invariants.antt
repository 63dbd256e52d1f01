use Rattle.std.proofs.Common.{◌≡◌, drop}
use Rattle.data_set_parts.specs.Walks.{each}
use Rattle.data_set_typing.specs.Plans.{measure_checked}
use Rattle.data_set_parts.proofs.Binds.{left_after}
use Rattle.data_set_typing.proofs.call.Call.measures_checked.Given as goal

abbrev pub invariant-loop-measure : goal.invariant-loop-measure
invariant-loop-measure l =
    let h = measure_checked l.self.form.now l.self.place l.self.operands.now l.changed in
    each h l.measures ≡ left_after h l.all (drop l.measure-index l.measures)
