use Rattle.std.proofs.Common.{◌≡◌, Bool, List, [], ◌∷◌, Ok, ap, ◌∙◌}
use Rattle.scalar_trees.specs.declared.typing.stop.Fault.{Fault}
use Rattle.scalar_trees.specs.declared.typing.stop.Fault.TheVariants.{WrongRole, NameTwice, TooManyComponents}
use Rattle.operator_typing.proofs.Steps.{stops_same}
use Rattle.data_set_trees.specs.clauses.Clauses.{demands}
use Rattle.data_set_trees.specs.aggregates.Aggregates.{has_room, names_differ}
use Rattle.data_set_trees.specs.aggregates.Results.{unordered}
use Rattle.aggregate_typing.proofs.Steps.{ends_there}
use Rattle.aggregate_typing.proofs.parts.joined.Goals as goal

pub returns-in_err-demands : goal.returns-in_err-demands
returns-in_err-demands c =
    let all = unordered c.args.aggregate c.args.components.now in
    let differ : c.in_ok-differ.differ ≡ names_differ all = c.in_ok-differ.ensures ∙ ap names_differ (c.as_slice.ensures ∙ c.in_ok-all.ensures) in
    let room : c.has_room-room.result ≡ has_room all = c.has_room-room.ensures ∙ ap has_room (c.as_slice-2.ensures ∙ c.in_ok-all.ensures) in
    let given : List (Bool × Fault) = (c.args.may, WrongRole) ∷ (c.in_ok-differ.differ, NameTwice) ∷ (c.has_room-room.result, TooManyComponents) ∷ [] in
    let meant : List (Bool × Fault) = (c.args.may, WrongRole) ∷ (names_differ all, NameTwice) ∷ (has_room all, TooManyComponents) ∷ [] in
    let same : given ≡ meant = λ i. (c.args.may, WrongRole) ∷ (differ i, NameTwice) ∷ (room i, TooManyComponents) ∷ [] in
    ends_there (demands c.args.place meant) (λ met. Ok c.args.aggregate) c.in_err-demands.field-0.0 c.from_residual-in_err-demands.result
    (stops_same (demands c.args.place given) (demands c.args.place meant) c.in_err-demands.field-0.0 (ap (demands c.args.place) same) c.in_err-demands.ensures.err)
    c.from_residual-in_err-demands.ensures.1
