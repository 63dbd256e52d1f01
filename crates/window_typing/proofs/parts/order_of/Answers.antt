use Rattle.std.proofs.Common.{◌++◌, drop, ◌+◌, List, ap, ◌∙◌, sym}
use Rattle.std.specs.Prelude.{filter_map}
use Rattle.clause_typing.proofs.Walks.{kept, passed}
use Rattle.data_set_trees.specs.declared.windows.analytic.OrderedBy.{OrderedBy}
use Rattle.data_set_trees.specs.windows.Parts.{ordered_by}
use Rattle.window_typing.proofs.parts.order_of.Goals as goal
use Rattle.window_typing.proofs.parts.order_of.Goals.{in-Some+in_ok-push, in_default}

pub loop-item-preserved : goal.loop-item-preserved
loop-item-preserved c =
    let order_by = ordered_by c.args.frame.now in
    let items = c.args.items.now in
    let i = c.loop-item.item-index in
    let x = c.item-item.result in
    let order = c.loop-item.order in
    let rest = filter_map order_by (drop (i + 1) items) in
    elim c.match-ordered_by.branch [
      | in-Some+in_ok-push w ↦ kept order_by items i x w.in-Some.by order c.loop-item-test.true c.item-item.is (sym w.in-Some.is ∙ c.ordered_by.ensures) c.loop-item.invariant ∙ ap (λ (q : List OrderedBy). q ++ rest) (sym (w.order-is ∙ w.in_ok-push.ensures.ok))
      | in_default w ↦ passed order_by items i x order c.loop-item-test.true c.item-item.is (sym w.in_default.is ∙ c.ordered_by.ensures) c.loop-item.invariant ∙ ap (λ (q : List OrderedBy). q ++ rest) (sym w.order-is)
    ]
