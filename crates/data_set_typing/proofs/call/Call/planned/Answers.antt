use Rattle.std.proofs.Common.{ap, ◌∙◌}
use Rattle.data_set_trees.specs.Forms.{changed_name}
use Rattle.data_set_typing.specs.Plans.{planned_on, planned}
use Rattle.data_set_parts.proofs.Follows.{ok_same, err_same}
use Rattle.data_set_typing.proofs.call.Call.planned.Goals as goal

pub returns-clause-ok : goal.returns-clause-ok
returns-clause-ok c =
    let call = c.args.self.now in
    let form = call.form.now in
    let operands = call.operands.now in
    let changed = c.in_ok-changed.ensures ∙ ap (changed_name form) c.set_place.ensures in
    let structures = c.as_slice.ensures ∙ c.in_ok-structures.ensures in
    let of = planned_on form call.place operands in
    ok_same (of c.in_ok-changed.changed c.as_slice.result.now) (planned form call.place operands) c.planned_on.result (λ i. of (changed i) (structures i)) c.planned_on.ensures.ok

pub returns-clause-err : goal.returns-clause-err
returns-clause-err c =
    let call = c.args.self.now in
    let form = call.form.now in
    let operands = call.operands.now in
    let changed = c.in_ok-changed.ensures ∙ ap (changed_name form) c.set_place.ensures in
    let structures = c.as_slice.ensures ∙ c.in_ok-structures.ensures in
    let of = planned_on form call.place operands in
    err_same (of c.in_ok-changed.changed c.as_slice.result.now) (planned form call.place operands) c.planned_on.result (λ i. of (changed i) (structures i)) c.planned_on.ensures.err
