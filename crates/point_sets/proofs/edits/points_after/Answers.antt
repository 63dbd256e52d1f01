use Rattle.std.proofs.Common.{◌≤◌, length, sym, ◌∙◌, arith, map}
use Rattle.vtl_values.proofs.Values.{key_cmp-IsTotalOrder, key_cmp-IsAntisymmetric}
use Rattle.point_sets.specs.Changes.{change_entry}
use Rattle.point_sets.specs.DataSets.{of_points}
use Rattle.point_sets.proofs.Applied.{put_each-more, put_each-end, put_each-apply}
use Rattle.point_sets.proofs.edits.points_after.Goals as goal

pub loop-change-preserved : goal.loop-change-preserved
loop-change-preserved c = record {
  ascend = c.in_ok-after-2.ensures.ascend;
  few = let more = c.in_ok-after-2.ensures.few in omega arith;
  applied = put_each-more change_entry c.args.changes.now c.loop-change.change-index c.change-item.result (of_points c.loop-change.after) _ c.loop-change-test.true c.change-item.is c.in_ok-after-2.ensures.map ∙ c.loop-change.invariant.applied;
}

pub returns : goal.returns
returns c =
    let le : length c.args.changes.now ≤ c.loop-change.change-index = omega arith in
    record {
      ascend = c.loop-change.invariant.ascend;
      applied = sym (put_each-end change_entry c.args.changes.now c.loop-change.change-index (of_points c.loop-change.after) le) ∙ c.loop-change.invariant.applied ∙ put_each-apply key_cmp-IsTotalOrder key_cmp-IsAntisymmetric (map change_entry c.args.changes.now) (of_points c.args.points.now) c.requires.changes.ascend;
    }
