use Rattle.std.proofs.Common.{◌≡◌, take}
use Rattle.std.specs.FinMap.{empty}
use Rattle.round_journal.specs.Nodes.{published}
use Rattle.round_core.specs.Slots.{pages_by}
use Rattle.round_core.proofs.moves.first_pages.Given as goal

abbrev pub invariant-loop-statement : goal.invariant-loop-statement
invariant-loop-statement l = l.pages.items ≡ pages_by (λ statement. published statement empty) (take l.statement-index l.statements)
