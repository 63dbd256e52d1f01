use Rattle.std.proofs.Common.{true, ◌&&◌, [], ◌∷◌, ap, sym, ◌∙◌}
use Rattle.scalar_trees.specs.declared.typing.stop.Fault.TheVariants.{WrongType, WrongStructure, NameTwice, TooManyComponents}
use Rattle.scalar_trees.proofs.typing.Sound.{left}
use Rattle.data_set_trees.specs.clauses.Clauses.{are_alike}
use Rattle.clause_typing.proofs.Demanding.{hold}
use Rattle.clause_typing.proofs.unpivot.unpivot_typed.Goals as goal

pub returns-clause-typed : goal.returns-clause-typed
returns-clause-typed c =
    let alike = c.are_alike-alike.result in
    let some = c.has_measure-some.result in
    let once = c.in_ok-once.once in
    let room = c.has_room-room.result in
    let holds = hold c.args.place ((alike, WrongType) ∷ (some, WrongStructure) ∷ (once, NameTwice) ∷ (room, TooManyComponents) ∷ []) c.in_ok-demands.field-0 c.in_ok-demands.ensures.ok in
    sym (c.are_alike-alike.ensures ∙ ap are_alike c.as_slice.ensures) ∙ left alike (some && (once && (room && true))) holds
