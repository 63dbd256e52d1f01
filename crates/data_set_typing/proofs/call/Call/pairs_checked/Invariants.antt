use Rattle.std.proofs.Common.{◌≡◌, drop}
use Rattle.data_set_parts.specs.Walks.{each}
use Rattle.data_set_typing.specs.Plans.{pair_checked}
use Rattle.data_set_parts.proofs.Binds.{left_after}
use Rattle.data_set_typing.proofs.call.Call.pairs_checked.Given as goal

abbrev pub invariant-loop-pair : goal.invariant-loop-pair
invariant-loop-pair l =
    let h = pair_checked l.self.form.now l.self.place l.self.operands.now l.changed l.count in
    each h l.met ≡ left_after h l.all (drop l.pair-index l.met)
