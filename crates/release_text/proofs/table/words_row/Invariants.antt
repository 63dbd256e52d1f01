use Rattle.std.proofs.Common.{[], take}
use Rattle.release_text.specs.Rows.{HasWritten}
use Rattle.release_text.proofs.table.words_row.Given as goal

abbrev pub invariant-loop-word : goal.invariant-loop-word
invariant-loop-word l = HasWritten l.writer [] (take l.word-index l.words)
