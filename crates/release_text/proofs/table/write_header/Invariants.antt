use Rattle.std.proofs.Common.{ℕ, List, [], map, take}
use Rattle.release_text.specs.Rows.{HasWritten}
use Rattle.release_text.proofs.table.write_header.Given as goal

abbrev pub invariant-loop-component : goal.invariant-loop-component
invariant-loop-component l = (written : List ℕ) → HasWritten l.fn.writer written []
    → HasWritten l.writer written (map (λ c. c.name) (take l.component-index l.component-items))
