use Rattle.std.proofs.Common.{◌≡◌, Bool, map, length, Ok, ap, sym, ◌∙◌}
use Rattle.operator_typing.proofs.Steps.{stops_same, fails_there, goes_on}
use Rattle.data_set_trees.specs.Joins.{may_join, structures_of, join_frame}
use Rattle.join_typing.specs.Joining.{aliased, demanded_of}
use Rattle.join_typing.proofs.Agreeing.{room_met}
use Rattle.join_typing.proofs.Fitting.{within}
use Rattle.join_typing.proofs.beginning.framed.Goals as goal

pub returns-in_err-demanded_of-clause-err : goal.returns-in_err-demanded_of-clause-err
returns-in_err-demanded_of-clause-err c =
    let place = c.args.place in
    let f = c.args.function in
    let os = map aliased c.args.operands.now in
    let asked = demanded_of place (may_join f (structures_of os)) os (join_frame f os) in
    let given = demanded_of place c.in_ok-may.may os c.in_ok-frame.frame in
    let may : c.in_ok-may.may ≡ may_join f (structures_of os) = c.in_ok-may.ensures ∙ ap (may_join f) (c.as_slice.ensures ∙ c.in_ok-structures.ensures) in
    let same : given ≡ asked = λ i. demanded_of place (may i) os (c.in_ok-frame.ensures.value i) in
    let stop = c.in_err-demanded_of.field-0.0 in
    fails_there asked (λ met. Ok (join_frame f os)) c.from_residual-in_err-demanded_of.result stop (stops_same given asked stop same c.in_err-demanded_of.ensures.err) c.from_residual-in_err-demanded_of.ensures.1

pub returns-clause-ok : goal.returns-clause-ok
returns-clause-ok c =
    let place = c.args.place in
    let f = c.args.function in
    let os = map aliased c.args.operands.now in
    let asked = demanded_of place (may_join f (structures_of os)) os (join_frame f os) in
    let given = demanded_of place c.in_ok-may.may os c.in_ok-frame.frame in
    let may : c.in_ok-may.may ≡ may_join f (structures_of os) = c.in_ok-may.ensures ∙ ap (may_join f) (c.as_slice.ensures ∙ c.in_ok-structures.ensures) in
    let same : given ≡ asked = λ i. demanded_of place (may i) os (c.in_ok-frame.ensures.value i) in
    goes_on asked (λ met. Ok (join_frame f os)) c.in_ok-demanded_of.field-0 (sym same ∙ c.in_ok-demanded_of.ensures.ok) ∙ ap Ok (sym c.in_ok-frame.ensures.value)

pub returns-clause-fits : goal.returns-clause-fits
returns-clause-fits c =
    let frame = c.in_ok-frame.frame in
    c.in_ok-frame.ensures.fits (within (length frame.components) (room_met c.args.place c.in_ok-may.may (map aliased c.args.operands.now) frame c.in_ok-demanded_of.field-0 c.in_ok-demanded_of.ensures.ok))
