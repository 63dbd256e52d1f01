use Rattle.std.proofs.Common.{◌≡◌, ◌≤◌, map, length, sym, ◌∙◌, arith}
use Rattle.vtl_values.specs.Order.{key_cmp}
use Rattle.point_sets.specs.Changes.{change_entry, joined, values_eq}
use Rattle.point_sets.proofs.Changes.{are_changes_composed, map_composed}
use Rattle.point_sets.proofs.Edited.{edited, edited-end}
use Rattle.point_sets.proofs.delta.composed_changes.Goals as goal

pub returns : goal.returns
returns c =
    let le : length c.args.first.now ≤ c.loop-change.change-index = omega arith in
    let e : map change_entry c.push_all.new.all.items ≡ edited key_cmp (joined values_eq) (map change_entry c.args.first.now) (map change_entry c.args.then.now) =
    c.in_ok-push_all.ensures.pushed ∙ sym (edited-end key_cmp (joined values_eq) change_entry c.args.first.now c.loop-change.change-index (map change_entry c.loop-change.all.items) (map change_entry c.loop-change.rest.now) le) ∙ c.loop-change.invariant.edited in
    record {
      changes = are_changes_composed c.args.first.now c.args.then.now c.push_all.new.all.items e c.requires.first c.requires.then c.in_ok-push_all.ensures.all;
      composed = map_composed c.args.first.now c.args.then.now c.push_all.new.all.items e c.requires.first;
    }
