use Rattle.std.proofs.Common.{◌≡◌}
use Rattle.std.proofs.lemmas.Result.{IfOk-weaker}
use Rattle.data_set_trees.specs.declared.windows.analytic.AnalyticItem.{AnalyticItem}
use Rattle.data_set_trees.specs.declared.windows.analytic.AnalyticValue.TheVariants as value
use Rattle.data_set_trees.specs.windows.Windows.{IsItemOf, item_typed}
use Rattle.window_typing.proofs.items.scalar_item.Goals as goal

pub returns-clause-made : goal.returns-clause-made
returns-clause-made c =
    let frame = c.args.frame.now in
    let kind = c.unwrap_or-kind.result in
    let v = value.Scalar c.into_tree.result in
    IfOk-weaker c.item_typed.result (λ (item : AnalyticItem). item ≡ item_typed frame c.args.stated c.args.name.now kind v) (IsItemOf frame)
    (λ item is. record { stated = c.args.stated; name = c.args.name.now; kind = kind; value = v; is = is }) c.item_typed.ensures
