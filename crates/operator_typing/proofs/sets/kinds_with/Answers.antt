use Rattle.std.proofs.Common.{get_or, take, sym, ap, ◌∙◌, arith}
use Rattle.std.specs.List.{list_all}
use Rattle.std.proofs.lemmas.Grind.{common_steps}
use Rattle.std.proofs.lemmas.List.Folds.{list_all_more}
use Rattle.scalar_trees.specs.WellTyped.{in_range}
use Rattle.scalar_trees.proofs.typing.Sound.{both}
use Rattle.operator_typing.proofs.sets.kinds_with.Goals as goal

pub loop-value-preserved : goal.loop-value-preserved
loop-value-preserved c =
    let set = c.args.set.now in
    let i = c.loop-value.value-index in
    let x = c.value-item.result in (
      grind (arith, common_steps),
      list_all_more in_range set i x c.loop-value-test.true ∙ both (list_all in_range (take i set)) (in_range (get_or set i x)) c.loop-value.invariant.1 (ap in_range (sym c.value-item.is) ∙ c.literal_kind.ensures.range),
    )
