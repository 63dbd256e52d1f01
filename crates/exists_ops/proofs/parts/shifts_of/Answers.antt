-- No change, and one more.
use Rattle.std.proofs.Common.{◌+◌, map, take, sym, subst, arith}
use Rattle.std.proofs.lemmas.List.{length-take}
use Rattle.point_sets.specs.Changes.{change_entry}
use Rattle.exists_ops.specs.Parts.{AreShifts}
use Rattle.exists_ops.proofs.ShiftLemmas.{few-kept, first-more}
use Rattle.exists_ops.proofs.parts.shifts_of.Goals as goal

pub add_change-requires : goal.add_change-requires
add_change-requires c =
    let cs = c.changes-change-items.result.now in
    let i = c.loop-change.change-index in
    let es = take i (map change_entry cs) in
    let long = length-take i (map change_entry cs) in
    let counted = c.loop-change.invariant.counted in
    record { few = few-kept c.args.numbers.now es c.loop-change.shifts (c.loop-change.count + 1) c.loop-change.invariant.added (omega (arith, long, counted)) }

pub loop-change-preserved : goal.loop-change-preserved
loop-change-preserved c =
    let cs = c.changes-change-items.result.now in
    let i = c.loop-change.change-index in
    let counted = c.loop-change.invariant.counted in
    record {
      added = subst (λ es. AreShifts c.args.numbers.now es c.add_change.new.shifts) (sym (first-more cs i c.change-item.result c.loop-change-test.true c.change-item.is))
          (c.in_ok-add_change.ensures (take i (map change_entry cs)) c.loop-change.invariant.added);
      counted = omega (arith, counted);
    }
