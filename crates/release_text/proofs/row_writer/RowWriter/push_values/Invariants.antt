use Rattle.std.proofs.Common.{ℕ, List, ◌++◌, map, take}
use Rattle.vtl_values.specs.Texts.{text_of}
use Rattle.release_text.specs.Rows.{HasWritten}
use Rattle.release_text.proofs.row_writer.RowWriter.push_values.Given as goal

abbrev pub invariant-loop-value : goal.invariant-loop-value
invariant-loop-value l = (written : List ℕ) → (texts : List (List ℕ)) → HasWritten l.fn.self written texts
    → HasWritten l.self written (texts ++ map text_of (take l.value-index l.values))
