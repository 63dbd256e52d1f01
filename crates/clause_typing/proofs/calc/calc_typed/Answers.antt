use Rattle.std.proofs.Common.{◌≡◌, List, Bool, true, ◌&&◌, [], ◌∷◌, ap, sym, ◌∙◌}
use Rattle.scalar_trees.specs.declared.typing.stop.Fault.{Fault}
use Rattle.scalar_trees.specs.declared.typing.stop.Fault.TheVariants.{WrongRole, NameTwice, TooManyComponents}
use Rattle.scalar_trees.proofs.typing.Sound.{left}
use Rattle.data_set_trees.proofs.clauses.Typed.{items_well_typed}
use Rattle.data_set_trees.specs.declared.clauses.clause.CheckedClause.TheVariants as clause
use Rattle.data_set_trees.specs.clauses.After.{calculated}
use Rattle.data_set_trees.specs.clauses.Clauses.{may_calculate, targets_differ, has_room}
use Rattle.clause_typing.proofs.Demanding.{hold, refuses}
use Rattle.clause_typing.proofs.calc.calc_typed.Goals as goal

pub returns-in_err-demands-clause-err : goal.returns-in_err-demands-clause-err
returns-in_err-demands-clause-err c =
    let frame = c.args.frame.now in
    let items = c.args.items in
    let fit : c.may_calculate-fit.result ≡ may_calculate frame items = c.may_calculate-fit.ensures ∙ ap (may_calculate frame) c.as_slice-all.ensures in
    let once : c.in_ok-once.once ≡ targets_differ items = c.in_ok-once.ensures ∙ ap targets_differ c.as_slice-all.ensures in
    let room : c.has_room_for-room.result ≡ has_room (calculated items frame) = c.has_room_for-room.ensures ∙ ap (λ is. has_room (calculated is frame)) c.as_slice-all.ensures in
    let given : List (Bool × Fault) = (c.may_calculate-fit.result, WrongRole) ∷ (c.in_ok-once.once, NameTwice) ∷ (c.has_room_for-room.result, TooManyComponents) ∷ [] in
    let meant : List (Bool × Fault) = (may_calculate frame items, WrongRole) ∷ (targets_differ items, NameTwice) ∷ (has_room (calculated items frame), TooManyComponents) ∷ [] in
    refuses c.args.place given meant (clause.Calc items) c.from_residual-in_err-demands.result c.in_err-demands.field-0.0
    (λ i. (fit i, WrongRole) ∷ (once i, NameTwice) ∷ (room i, TooManyComponents) ∷ [])
    c.in_err-demands.ensures.err c.from_residual-in_err-demands.ensures.1

pub returns-clause-typed : goal.returns-clause-typed
returns-clause-typed c =
    let frame = c.args.frame.now in
    let items = c.args.items in
    let fit = c.may_calculate-fit.result in
    let once = c.in_ok-once.once in
    let room = c.has_room_for-room.result in
    let holds = hold c.args.place ((fit, WrongRole) ∷ (once, NameTwice) ∷ (room, TooManyComponents) ∷ []) c.in_ok-demands.field-0 c.in_ok-demands.ensures.ok in
    let may : may_calculate frame items ≡ true = sym (c.may_calculate-fit.ensures ∙ ap (may_calculate frame) c.as_slice-all.ensures) ∙ left fit (once && (room && true)) holds in
    λ all typed. items_well_typed frame items may all typed
