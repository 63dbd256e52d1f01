use Rattle.std.proofs.Common.{sym}
use Rattle.vtl_values.proofs.Values.{key_cmp-IsTotalOrder, key_cmp-IsAntisymmetric}
use Rattle.point_sets.specs.Changes.{change_entry, IsChange}
use Rattle.point_sets.proofs.Changes.{All-more, All-parts, change_entry-copied, IsChange-copied}
use Rattle.point_sets.proofs.Passes.{passes-more, passed-equal, passed-greater}
use Rattle.point_sets.proofs.delta.push_below.Goals as goal

pub returns-in-Equal : goal.returns-in-Equal
returns-in-Equal c =
    let passed = passed-equal key_cmp-IsTotalOrder change_entry c.args.key.now c.args.all.now.items c.args.changes.now c.loop-change.all.items c.loop-change.rest.now c.in-Some.change.now c.in-Some.later.now c.loop-change.invariant.passes c.in-Some.ensures.cases.0 (sym c.in-Equal.ensures) in
    let parts = All-parts IsChange c.loop-change.rest.now c.in-Some.change.now c.in-Some.later.now c.in-Some.ensures.cases.0 c.loop-change.invariant.rest in
    record {
      pushed = passed.pushed;
      all = c.loop-change.invariant.all;
      found = passed.found;
      is_change = (parts.0, key_cmp-IsAntisymmetric c.in-Some.change.now.key c.args.key.now (sym c.in-Equal.ensures));
      rest = passed.behind;
      are_changes = record { ascend = passed.ascend; each = parts.1 };
    }

pub returns-in-Greater : goal.returns-in-Greater
returns-in-Greater c =
    let passed = passed-greater key_cmp-IsTotalOrder change_entry c.args.key.now c.args.all.now.items c.args.changes.now c.loop-change.all.items c.loop-change.rest.now c.in-Some.change.now c.in-Some.later.now c.loop-change.invariant.passes c.in-Some.ensures.cases.0 (sym c.in-Greater.ensures) in
    record {
      pushed = passed.pushed;
      all = c.loop-change.invariant.all;
      found = passed.found;
      is_change = tt;
      rest = passed.behind;
      are_changes = record { ascend = passed.ascend; each = c.loop-change.invariant.rest };
    }

pub loop-change-preserved : goal.loop-change-preserved
loop-change-preserved c =
    let copied = c.in_ok-copy_change-in-Less in
    let parts = All-parts IsChange c.loop-change.rest.now c.in-Some.change.now c.in-Some.later.now c.in-Some.ensures.cases.0 c.loop-change.invariant.rest in
    rw c.in_ok-push-in-Less.ensures.items record {
      passes = passes-more key_cmp-IsTotalOrder change_entry c.args.key.now c.args.all.now.items c.args.changes.now c.loop-change.all.items c.loop-change.rest.now c.in-Some.change.now c.in-Some.later.now c.loop-change.invariant.passes c.in-Some.ensures.cases.0 copied.field-0 (change_entry-copied c.in-Some.change.now copied.field-0 copied.ensures.key copied.ensures.old copied.ensures.new) (sym c.in-Less.ensures);
      all = All-more IsChange c.loop-change.all.items copied.field-0 c.loop-change.invariant.all (IsChange-copied c.in-Some.change.now copied.field-0 copied.ensures.key copied.ensures.old copied.ensures.new parts.0);
      rest = parts.1;
    }
