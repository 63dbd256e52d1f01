use Rattle.std.proofs.Common.{◌≡◌, List, Bool, true, ◌&&◌, Ok, [], ◌∷◌, ap, sym, ◌∙◌}
use Rattle.scalar_trees.specs.declared.typing.stop.Fault.{Fault}
use Rattle.scalar_trees.specs.declared.typing.stop.Fault.TheVariants.{UnknownComponent, WrongType, WrongRole, BadConstant}
use Rattle.scalar_trees.proofs.typing.Sound.{both, left, right}
use Rattle.data_set_trees.specs.declared.clauses.clause.CheckedClause.TheVariants as clause
use Rattle.data_set_trees.specs.declared.clauses.clause.CheckedSubItem.{CheckedSubItem}
use Rattle.data_set_trees.specs.clauses.Clauses.{are_known_items, subs_checked, are_comparable, are_identifiers, are_present}
use Rattle.clause_typing.proofs.Demanding.{hold, passes, refuses}
use Rattle.clause_typing.proofs.sub.sub_typed.Goals as goal

pub returns-in_err-demands-clause-err : goal.returns-in_err-demands-clause-err
returns-in_err-demands-clause-err c =
    let frame = c.args.frame.now in
    let items = c.args.items.now in
    let checked = subs_checked frame items in
    let found : c.as_slice-found.result.now ≡ checked = c.as_slice-found.ensures ∙ c.in_ok-checked.ensures in
    let alike : c.are_comparable-alike.result ≡ are_comparable frame checked = c.are_comparable-alike.ensures ∙ ap (are_comparable frame) found in
    let fit : c.are_identifiers-fit.result ≡ are_identifiers frame checked = c.are_identifiers-fit.ensures ∙ ap (are_identifiers frame) found in
    let present : c.are_present-present.result ≡ are_present checked = c.are_present-present.ensures ∙ ap are_present found in
    let given : List (Bool × Fault) = (c.are_known-known.result, UnknownComponent) ∷ (c.are_comparable-alike.result, WrongType) ∷ (c.are_identifiers-fit.result, WrongRole) ∷ (c.are_present-present.result, BadConstant) ∷ [] in
    let meant : List (Bool × Fault) = (are_known_items frame items, UnknownComponent) ∷ (are_comparable frame checked, WrongType) ∷ (are_identifiers frame checked, WrongRole) ∷ (are_present checked, BadConstant) ∷ [] in
    refuses c.args.place given meant (clause.Sub checked) c.from_residual-in_err-demands.result c.in_err-demands.field-0.0
    (λ i. (c.are_known-known.ensures i, UnknownComponent) ∷ (alike i, WrongType) ∷ (fit i, WrongRole) ∷ (present i, BadConstant) ∷ [])
    c.in_err-demands.ensures.err c.from_residual-in_err-demands.ensures.1

pub returns-clause-ok : goal.returns-clause-ok
returns-clause-ok c =
    let frame = c.args.frame.now in
    let items = c.args.items.now in
    let checked = subs_checked frame items in
    let found : c.as_slice-found.result.now ≡ checked = c.as_slice-found.ensures ∙ c.in_ok-checked.ensures in
    let alike : c.are_comparable-alike.result ≡ are_comparable frame checked = c.are_comparable-alike.ensures ∙ ap (are_comparable frame) found in
    let fit : c.are_identifiers-fit.result ≡ are_identifiers frame checked = c.are_identifiers-fit.ensures ∙ ap (are_identifiers frame) found in
    let present : c.are_present-present.result ≡ are_present checked = c.are_present-present.ensures ∙ ap are_present found in
    let given : List (Bool × Fault) = (c.are_known-known.result, UnknownComponent) ∷ (c.are_comparable-alike.result, WrongType) ∷ (c.are_identifiers-fit.result, WrongRole) ∷ (c.are_present-present.result, BadConstant) ∷ [] in
    let meant : List (Bool × Fault) = (are_known_items frame items, UnknownComponent) ∷ (are_comparable frame checked, WrongType) ∷ (are_identifiers frame checked, WrongRole) ∷ (are_present checked, BadConstant) ∷ [] in
    passes c.args.place given meant (clause.Sub checked) c.in_ok-demands.field-0
    (λ i. (c.are_known-known.ensures i, UnknownComponent) ∷ (alike i, WrongType) ∷ (fit i, WrongRole) ∷ (present i, BadConstant) ∷ [])
    c.in_ok-demands.ensures.ok
    ∙ ap (λ (q : List CheckedSubItem). Ok (clause.Sub q)) (sym c.in_ok-checked.ensures)

pub returns-clause-typed : goal.returns-clause-typed
returns-clause-typed c =
    let frame = c.args.frame.now in
    let known = c.are_known-known.result in
    let alike = c.are_comparable-alike.result in
    let fit = c.are_identifiers-fit.result in
    let present = c.are_present-present.result in
    let holds = hold c.args.place ((known, UnknownComponent) ∷ (alike, WrongType) ∷ (fit, WrongRole) ∷ (present, BadConstant) ∷ []) c.in_ok-demands.field-0 c.in_ok-demands.ensures.ok in
    let compared = right known (alike && (fit && (present && true))) holds in
    both (are_comparable frame c.in_ok-checked.checked) (are_identifiers frame c.in_ok-checked.checked)
    (sym (c.are_comparable-alike.ensures ∙ ap (are_comparable frame) c.as_slice-found.ensures) ∙ left alike (fit && (present && true)) compared)
    (sym (c.are_identifiers-fit.ensures ∙ ap (are_identifiers frame) c.as_slice-found.ensures) ∙ left fit (present && true) (right alike (fit && (present && true)) compared))
