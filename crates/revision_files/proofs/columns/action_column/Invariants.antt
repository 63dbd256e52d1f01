use Rattle.std.proofs.Common.{◌≡◌, length, take}
use Rattle.std.specs.Prelude.{MatchOption, filter}
use Rattle.vtl_values.specs.Texts.{same_text}
use Rattle.revision_files.specs.Columns.{ACTION, column_of}
use Rattle.revision_files.specs.Texts.{texts_of}
use Rattle.revision_files.proofs.columns.action_column.Given as goal

abbrev pub invariant-loop-column : goal.invariant-loop-column
invariant-loop-column l = MatchOption l.found
    (length (filter (same_text ACTION) (take l.column (texts_of l.header))) ≡ 0)
    (λ at. (length (filter (same_text ACTION) (take l.column (texts_of l.header))) ≡ 1) × (at ≡ column_of (texts_of l.header) ACTION))
