use Rattle.std.proofs.Common.{◌++◌, drop, ◌+◌, List, Option, ℕ, ap, ◌∙◌, sym}
use Rattle.std.specs.Prelude.{filter_map, option_map}
use Rattle.scalar_trees.specs.declared.typing.scope.ScopeName.{ScopeName}
use Rattle.data_set_trees.specs.clauses.Frames.{moved_name}
use Rattle.clause_typing.proofs.Walks.{kept, passed}
use Rattle.clause_typing.proofs.parts.moved_names.Goals as goal
use Rattle.clause_typing.proofs.parts.moved_names.Goals.{in-Some+in_ok-push, in_default}

pub loop-name-preserved : goal.loop-name-preserved
loop-name-preserved c =
    let numbers = c.args.numbers.now in
    let names = c.args.names.now in
    let move = moved_name numbers in
    let i = c.loop-name.name-index in
    let x = c.name-item.result in
    let moved = c.loop-name.moved in
    let rest = filter_map move (drop (i + 1) names) in
    let is = c.in_ok-name.ensures ∙ ap (λ (o : Option ℕ). option_map (λ place. record x { number = place }) o) (c.in_ok-places.ensures x.number) in
    elim c.match-branch-3.branch [
      | in-Some+in_ok-push w ↦ kept move names i x w.in-Some.name moved c.loop-name-test.true c.name-item.is (sym w.in-Some.is ∙ is) c.loop-name.invariant ∙ ap (λ (q : List ScopeName). q ++ rest) (sym (w.moved-is ∙ w.in_ok-push.ensures.ok))
      | in_default w ↦ passed move names i x moved c.loop-name-test.true c.name-item.is (sym w.in_default.is ∙ is) c.loop-name.invariant ∙ ap (λ (q : List ScopeName). q ++ rest) (sym w.moved-is)
    ]
