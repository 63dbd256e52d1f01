use Rattle.std.proofs.Common.{◌≡◌, List, Bool, [], ◌∷◌, ap, ◌∙◌}
use Rattle.scalar_trees.specs.declared.typing.stop.Fault.{Fault}
use Rattle.scalar_trees.specs.declared.typing.stop.Fault.TheVariants.{UnknownComponent, WrongType, WrongStructure, WrongRole, NameTwice, TooManyComponents, BadConstant}
use Rattle.data_set_trees.specs.clauses.Clauses.{demands}
use Rattle.data_set_trees.specs.aggregates.Aggregates.{has_room, names_differ}
use Rattle.data_set_trees.specs.windows.Parts.{knows, may_part}
use Rattle.data_set_trees.specs.windows.Results.{unordered}
use Rattle.data_set_trees.specs.windows.Windows.{takes_all}
use Rattle.window_typing.proofs.Same.{err_same}
use Rattle.window_typing.proofs.measures.fits.Goals as goal

pub returns-clause-err : goal.returns-clause-err
returns-clause-err c =
    let place = c.args.place in
    let frame = c.args.frame.now in
    let over = c.args.over.now in
    let asked = c.args.asked.now in
    let items = c.args.items.now in
    let made = unordered items frame.components in
    let taken : c.takes_all-taken.result ≡ takes_all asked.takes.now frame.components = c.takes_all-taken.ensures ∙ ap (takes_all asked.takes.now) c.as_slice-components.ensures in
    let after : c.in_ok-after.after ≡ made = c.in_ok-after.ensures ∙ ap (unordered items) c.as_slice-components.ensures in
    let once : c.in_ok-once.once ≡ names_differ made = c.in_ok-once.ensures ∙ ap names_differ (c.as_slice.ensures ∙ after) in
    let room : c.has_room-room.result ≡ has_room made = c.has_room-room.ensures ∙ ap has_room (c.as_slice-2.ensures ∙ after) in
    let given : List (Bool × Fault) = (c.knows-known.result, UnknownComponent) ∷ (c.takes_all-taken.result, WrongType) ∷ (asked.stated, WrongStructure) ∷ (c.may_part-may.result, WrongRole) ∷ (c.in_ok-once.once, NameTwice) ∷ (c.has_room-room.result, TooManyComponents) ∷ (asked.within, BadConstant) ∷ [] in
    let meant : List (Bool × Fault) = (knows frame over, UnknownComponent) ∷ (takes_all asked.takes.now frame.components, WrongType) ∷ (asked.stated, WrongStructure) ∷ (may_part frame over, WrongRole) ∷ (names_differ made, NameTwice) ∷ (has_room made, TooManyComponents) ∷ (asked.within, BadConstant) ∷ [] in
    let same : given ≡ meant = λ i. (c.knows-known.ensures i, UnknownComponent) ∷ (taken i, WrongType) ∷ (asked.stated, WrongStructure) ∷ (c.may_part-may.ensures i, WrongRole) ∷ (once i, NameTwice) ∷ (room i, TooManyComponents) ∷ (asked.within, BadConstant) ∷ [] in
    err_same (demands place given) (demands place meant) c.demands.result (ap (demands place) same) c.demands.ensures.err
