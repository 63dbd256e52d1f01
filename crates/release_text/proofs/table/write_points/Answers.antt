use Rattle.std.proofs.Common.{◌≡◌, ◌++◌, ap, sym, map, take_all}
use Rattle.std.proofs.lemmas.List.{map-append}
use Rattle.vtl_values.specs.Texts.{text_of}
use Rattle.point_sets.specs.DataSets.{entry_of}
use Rattle.release_text.specs.Rows.{row}
use Rattle.release_text.specs.Tables.{point_row, values_row}
use Rattle.release_text.proofs.RowFacts.{pieces_more}
use Rattle.release_text.proofs.table.write_points.Goals as goal

pub loop-point-preserved : goal.loop-point-preserved
unfolding point_row values_row
loop-point-preserved c = λ written h.
    let key = c.in_ok-push_values.ensures _ _ (c.loop-point.invariant written h) in
    let rest = c.in_ok-push_values-2.ensures _ _ key in
    let after = c.in_ok-end_row.ensures _ _ rest in
    let values : map text_of c.values.result.now ++ map text_of c.as_slice.result.now ≡ map text_of ((entry_of c.point-item.result).0 ++ (entry_of c.point-item.result).1) =
    rw (c.values.ensures, c.as_slice.ensures, c.deref.ensures, c.deref-in-loop-point.ensures) (sym (map-append text_of _ _)) in
    rw (pieces_more point_row entry_of written c.args.points.now c.loop-point.point-index c.point-item.result _ c.loop-point-test.true c.point-item.is (ap row values)) at after

pub returns : goal.returns
returns c = λ written h.
    let after = c.loop-point.invariant written h in
    rw (take_all c.loop-point.point-index c.args.points.now c.loop-point-test.false) at after
