use Rattle.std.proofs.Common.{◌≡◌, not, sym, subst}
use Rattle.std.specs.List.{All}
use Rattle.std.proofs.lemmas.List.Elements.{All-filter}
use Rattle.std.proofs.lemmas.Result.{IfOk-weaker}
use Rattle.data_set_trees.specs.Components.{further, is_taken}
use Rattle.data_set_parts.specs.Joins.{IsOf}
use Rattle.join_typing.proofs.components.more_of.Goals as goal

pub returns-clause-sound : goal.returns-clause-sound
returns-clause-sound c =
    let r = c.args.role in
    let before = c.args.before.now in
    let cs = c.as_slice.result.now in
    let sound = subst (All (IsOf r)) (sym c.as_slice.ensures) c.in_ok-all.ensures.sound in
    IfOk-weaker c.further.result (λ more. more ≡ further before cs) (All (IsOf r)) (λ more same. subst (All (IsOf r)) (sym same) (All-filter (λ d. not (is_taken d.name before)) (IsOf r) cs sound)) c.further.ensures
