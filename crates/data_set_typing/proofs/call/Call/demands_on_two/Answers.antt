use Rattle.std.proofs.Common.{◌≡◌, ◌&&◌, Bool, [], ◌∷◌, map, length, ◌∙◌}
use Rattle.scalar_trees.specs.declared.typing.stop.Fault.TheVariants.{WrongType, WrongStructure}
use Rattle.data_set_trees.specs.clauses.Clauses.{demands}
use Rattle.data_set_trees.specs.Lifted.{all_fit}
use Rattle.data_set_trees.specs.Pairs.{both}
use Rattle.data_set_typing.specs.Plans.{demands_on_two}
use Rattle.data_set_parts.proofs.Follows.{ok_same, err_same}
use Rattle.data_set_typing.proofs.call.Call.demands_on_two.Goals as goal

pub returns-clause-ok : goal.returns-clause-ok
returns-clause-ok c =
    let call = c.args.self.now in
    let s = c.args.components.now in
    let t = c.args.others.now in
    let changed = c.args.changed.now in
    let met = c.requires.met in
    let pairs = c.in_ok-pairs.ensures.ok ∙ (λ i. all_fit call.form.now call.place call.operands.now (map (both (length s)) (met i))) in
    let of = λ (fit meet : Bool). demands call.place ((fit, WrongType) ∷ (meet, WrongStructure) ∷ []) in
    let fit = c.hold-fit.ensures ∙ (λ i. c.in_ok-each.ensures.ok i && pairs i) in
    let same : of c.hold-fit.result c.in_ok-meet.meet ≡ demands_on_two call.form.now call.place call.operands.now changed s t = λ i. of (fit i) (c.in_ok-meet.ensures i) in
    ok_same (of c.hold-fit.result c.in_ok-meet.meet) (demands_on_two call.form.now call.place call.operands.now changed s t) c.demands.result same c.demands.ensures.ok

pub returns-clause-err : goal.returns-clause-err
returns-clause-err c =
    let call = c.args.self.now in
    let s = c.args.components.now in
    let t = c.args.others.now in
    let changed = c.args.changed.now in
    let met = c.requires.met in
    let pairs = c.in_ok-pairs.ensures.ok ∙ (λ i. all_fit call.form.now call.place call.operands.now (map (both (length s)) (met i))) in
    let of = λ (fit meet : Bool). demands call.place ((fit, WrongType) ∷ (meet, WrongStructure) ∷ []) in
    let fit = c.hold-fit.ensures ∙ (λ i. c.in_ok-each.ensures.ok i && pairs i) in
    let same : of c.hold-fit.result c.in_ok-meet.meet ≡ demands_on_two call.form.now call.place call.operands.now changed s t = λ i. of (fit i) (c.in_ok-meet.ensures i) in
    err_same (of c.hold-fit.result c.in_ok-meet.meet) (demands_on_two call.form.now call.place call.operands.now changed s t) c.demands.result same c.demands.ensures.err
