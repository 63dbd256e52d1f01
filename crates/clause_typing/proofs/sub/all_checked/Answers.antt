use Rattle.std.proofs.Common.{◌++◌, drop, ◌+◌, List, ap, ◌∙◌, sym}
use Rattle.std.specs.Prelude.{filter_map}
use Rattle.data_set_trees.specs.declared.clauses.clause.CheckedSubItem.{CheckedSubItem}
use Rattle.data_set_trees.specs.clauses.Clauses.{sub_checked}
use Rattle.clause_typing.proofs.Walks.{kept, passed}
use Rattle.clause_typing.proofs.sub.all_checked.Goals as goal
use Rattle.clause_typing.proofs.sub.all_checked.Goals.{in-Some+in_ok-push, in_default}

pub loop-item-preserved : goal.loop-item-preserved
loop-item-preserved c =
    let check = sub_checked c.args.frame.now in
    let items = c.args.items.now in
    let i = c.loop-item.item-index in
    let x = c.item-item.result in
    let all = c.loop-item.all in
    let rest = filter_map check (drop (i + 1) items) in
    elim c.match-branch-2.branch [
      | in-Some+in_ok-push w ↦ kept check items i x w.in-Some.item all c.loop-item-test.true c.item-item.is (sym w.in-Some.is ∙ c.in_ok-item.ensures) c.loop-item.invariant ∙ ap (λ (q : List CheckedSubItem). q ++ rest) (sym (w.all-is ∙ w.in_ok-push.ensures.ok))
      | in_default w ↦ passed check items i x all c.loop-item-test.true c.item-item.is (sym w.in_default.is ∙ c.in_ok-item.ensures) c.loop-item.invariant ∙ ap (λ (q : List CheckedSubItem). q ++ rest) (sym w.all-is)
    ]
