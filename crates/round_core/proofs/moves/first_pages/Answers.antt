use Rattle.std.proofs.Common.{[], ap, ◌∙◌, ◌++◌}
use Rattle.std.specs.FinMap.{empty}
use Rattle.round_journal.specs.Nodes.{published}
use Rattle.round_journal.specs.Releases.{and_page}
use Rattle.round_core.proofs.StepLemmas.{pages_step}
use Rattle.round_core.proofs.moves.first_pages.Goals as goal

pub loop-statement-preserved : goal.loop-statement-preserved
loop-statement-preserved c =
    let st = c.statement-item.result in
    pages_step (λ statement. published statement empty) c.statements-statements.result.now c.loop-statement.statement-index st [] c.loop-statement.pages.items c.push_first.new.pages.items c.loop-statement-test.true c.loop-statement.invariant (c.in_ok-push_first.ensures ∙ ap (λ s. c.loop-statement.pages.items ++ and_page (published s empty) []) c.statement-item.is)
