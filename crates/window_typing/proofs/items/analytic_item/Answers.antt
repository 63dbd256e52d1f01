use Rattle.std.proofs.Common.{◌≡◌}
use Rattle.std.proofs.lemmas.Result.{IfOk-weaker}
use Rattle.data_set_trees.specs.declared.windows.analytic.AnalyticItem.{AnalyticItem}
use Rattle.data_set_trees.specs.windows.Windows.{IsItemOf, analytic_item}
use Rattle.data_set_trees.specs.declared.windows.analytic.AnalyticValue.TheVariants as value
use Rattle.window_typing.proofs.items.analytic_item.Goals as goal

pub returns-clause-made : goal.returns-clause-made
returns-clause-made c =
    let frame = c.args.frame.now in
    let v = c.args.value in
    IfOk-weaker c.item_typed.result (λ (item : AnalyticItem). item ≡ analytic_item frame c.args.stated c.args.name.now v) (IsItemOf frame)
    (λ item is. record { stated = c.args.stated; name = c.args.name.now; kind = v.0; value = value.Analytic v.1; is = is }) c.item_typed.ensures
