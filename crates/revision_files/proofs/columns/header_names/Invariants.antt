use Rattle.std.proofs.Common.{◌≡◌, take, true}
use Rattle.revision_files.specs.Texts.{is_of, texts_of}
use Rattle.revision_files.proofs.columns.header_names.Given as goal

abbrev pub invariant-loop-column : goal.invariant-loop-column
invariant-loop-column l = (l.names.keys ≡ take l.column (texts_of l.header)) × (is_of l.wanted.keys (take l.column (texts_of l.header)) ≡ true)
