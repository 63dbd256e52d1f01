use Rattle.std.proofs.Common.{◌≡◌, List, Bool, true, ◌&&◌, [], ◌∷◌, ap, sym, ◌∙◌}
use Rattle.scalar_trees.specs.declared.typing.stop.Fault.{Fault}
use Rattle.scalar_trees.specs.declared.typing.stop.Fault.TheVariants.{UnknownComponent, WrongRole}
use Rattle.scalar_trees.proofs.typing.Sound.{left, right}
use Rattle.data_set_trees.specs.declared.clauses.clause.CheckedClause.TheVariants as clause
use Rattle.data_set_trees.specs.clauses.Clauses.{are_known, may_keep, numbers_named}
use Rattle.clause_typing.proofs.Demanding.{hold, refuses}
use Rattle.clause_typing.proofs.choices.keep_typed.Goals as goal

pub returns-in_err-demands-clause-err : goal.returns-in_err-demands-clause-err
returns-in_err-demands-clause-err c =
    let frame = c.args.frame.now in
    let names = c.args.names.now in
    let fit : c.may_keep-fit.result ≡ may_keep frame (numbers_named frame names) = c.may_keep-fit.ensures ∙ ap (may_keep frame) (c.as_slice.ensures ∙ c.in_ok-components.ensures) in
    let given : List (Bool × Fault) = (c.are_known-known.result, UnknownComponent) ∷ (c.may_keep-fit.result, WrongRole) ∷ [] in
    let meant : List (Bool × Fault) = (are_known frame names, UnknownComponent) ∷ (may_keep frame (numbers_named frame names), WrongRole) ∷ [] in
    refuses c.args.place given meant (clause.Keep (numbers_named frame names)) c.from_residual-in_err-demands.result c.in_err-demands.field-0.0
    (λ i. (c.are_known-known.ensures i, UnknownComponent) ∷ (fit i, WrongRole) ∷ [])
    c.in_err-demands.ensures.err c.from_residual-in_err-demands.ensures.1

pub returns-clause-typed : goal.returns-clause-typed
returns-clause-typed c =
    let known = c.are_known-known.result in
    let fit = c.may_keep-fit.result in
    let holds = hold c.args.place ((known, UnknownComponent) ∷ (fit, WrongRole) ∷ []) c.in_ok-demands.field-0 c.in_ok-demands.ensures.ok in
    sym (c.may_keep-fit.ensures ∙ ap (may_keep c.args.frame.now) c.as_slice.ensures) ∙ left fit true (right known (fit && true) holds)
