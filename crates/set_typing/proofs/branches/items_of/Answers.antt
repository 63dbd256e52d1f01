use Rattle.std.proofs.Common.{ap, sym, ◌∙◌}
use Rattle.operator_typing.proofs.Steps.{fails_there, goes_on}
use Rattle.data_set_trees.specs.Choices.{choice_measure}
use Rattle.data_set_parts.specs.Walks.{each}
use Rattle.data_set_parts.proofs.Follows.{ok_same, err_same}
use Rattle.set_typing.specs.Conditionals.{demanded_of, first_measures, items_of}
use Rattle.set_typing.proofs.branches.items_of.Goals as goal

pub returns-in_err-demanded_of-clause-err : goal.returns-in_err-demanded_of-clause-err
returns-in_err-demanded_of-clause-err c =
    let asked = demanded_of c.args.place c.args.condition.now c.args.holds.now c.args.fails.now c.args.branches.now in
    let h = choice_measure c.args.place c.args.holds.now c.args.fails.now in
    fails_there asked (λ met. each h (first_measures c.args.branches.now)) c.from_residual.result c.in_err-demanded_of.field-0.0 c.in_err-demanded_of.ensures.err c.from_residual.ensures.1

pub returns-clause-ok : goal.returns-clause-ok
returns-clause-ok c =
    let asked = demanded_of c.args.place c.args.condition.now c.args.holds.now c.args.fails.now c.args.branches.now in
    let h = choice_measure c.args.place c.args.holds.now c.args.fails.now in
    let same = ap (each h) (c.as_slice.ensures ∙ c.in_ok-measures.ensures) ∙ sym (goes_on asked (λ met. each h (first_measures c.args.branches.now)) c.in_ok-demanded_of.field-0 c.in_ok-demanded_of.ensures.ok) in
    ok_same (each h c.as_slice.result.now) (items_of c.args.place c.args.condition.now c.args.holds.now c.args.fails.now c.args.branches.now) c.choice_measures.result same c.choice_measures.ensures.ok

pub returns-clause-err : goal.returns-clause-err
returns-clause-err c =
    let asked = demanded_of c.args.place c.args.condition.now c.args.holds.now c.args.fails.now c.args.branches.now in
    let h = choice_measure c.args.place c.args.holds.now c.args.fails.now in
    let same = ap (each h) (c.as_slice.ensures ∙ c.in_ok-measures.ensures) ∙ sym (goes_on asked (λ met. each h (first_measures c.args.branches.now)) c.in_ok-demanded_of.field-0 c.in_ok-demanded_of.ensures.ok) in
    err_same (each h c.as_slice.result.now) (items_of c.args.place c.args.condition.now c.args.holds.now c.args.fails.now c.args.branches.now) c.choice_measures.result same c.choice_measures.ensures.err
