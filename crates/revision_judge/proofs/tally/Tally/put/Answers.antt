use Rattle.std.proofs.Common.{Result, Err, sym, ◌∙◌, ap}
use Rattle.point_sets.specs.Changes.{values_of, with_change}
use Rattle.revision_judge.specs.declared.cause.Cause.{Cause}
use Rattle.revision_judge.specs.Rows.{Progress, Put, granted}
use Rattle.revision_judge.proofs.Grants.{cause-passed, put-refused, put-granted}
use Rattle.revision_judge.proofs.tally.Tally.put.Goals as goal

pub returns-in_err-points : goal.returns-in_err-points
returns-in_err-points c = λ p h.
    let added = c.in_ok-see.ensures.ok in
    let full = put-refused c.args.set.now c.args.self.now p h c.args.point.key c.in_ok-old.old added.absent c.in_ok-old.ensures.value c.args.point.rest c.in_err-points.ensures.many in
    let cause = ap (λ (why : Cause). let r : Result Progress Cause = Err why in r) (sym c.in_err-points.ensures.err) in
    cause-passed c.args.set.now (record { keys = c.see.new.keys; points = c.args.self.now.points; notes = c.args.self.now.notes }) (granted p (Put c.args.point.key c.args.point.rest)) c.from_residual-in_err-points.result c.in_err-points.field-0.0 (full ∙ cause) c.from_residual-in_err-points.ensures.1

pub returns : goal.returns
returns c = λ p h.
    let added = c.in_ok-see.ensures.ok in
    let change = c.in_ok-change.ensures in
    put-granted c.args.set.now c.args.self.now p h c.args.point.key c.in_ok-old.old added.absent c.in_ok-old.ensures.value
    (record { keys = c.see.new.keys; points = c.in_ok-points.points; notes = c.note.new.self }) added.added c.args.point.rest
    c.in_ok-points.ensures.ok c.in_ok-points.ensures.few
    (c.in_ok-note.ensures.ok ∙ (λ i. with_change c.args.self.now.notes (change.key i) (values_of (change.old i)) (change.new i)))
