-- No change, one change more, and all.
use Rattle.std.proofs.Common.{[], sym, subst}
use Rattle.data_set_trees.specs.clauses.Frames.{frame_of}
use Rattle.clause_meaning.proofs.First.{identifiers-first}
use Rattle.held_index.specs.Drafts.{SetDraft}
use Rattle.clause_ops.specs.Noted.{IsNoted}
use Rattle.clause_ops.proofs.Marked.{noted-nothing, noted-more, noted-all}
use Rattle.clause_ops.proofs.notes.noted.Goals as goal

pub loop-change-init : goal.loop-change-init
loop-change-init c = λ a fit fit_after begins.
    let frame = frame_of c.args.components.now in
    subst (λ (n : SetDraft). IsNoted c.args.clause.now frame c.args.news.now a [] n) (sym c.new-draft.ensures)
    (noted-nothing c.args.clause.now frame (identifiers-first c.args.components.now c.requires.structure) c.args.news.now a fit fit_after)

pub loop-change-preserved : goal.loop-change-preserved
loop-change-preserved c = λ a fit fit_after begins.
    let changes = c.changes-change-items in
    noted-more c.args.clause.now (frame_of c.args.components.now) (identifiers-first c.args.components.now c.requires.structure) c.args.news.now a fit fit_after begins changes.ensures.differs
    changes.result.now c.loop-change.change-index c.change-item.result c.loop-change.draft c.note_change.new.draft changes.ensures.entries changes.ensures.changes c.loop-change-test.true c.change-item.is c.in_ok-note_change.ensures
    (c.loop-change.invariant a fit fit_after begins)

pub returns : goal.returns
returns c = λ a fit fit_after begins.
    noted-all c.args.clause.now (frame_of c.args.components.now) (identifiers-first c.args.components.now c.requires.structure) c.args.news.now a fit fit_after
    c.changes-change-items.result.now c.loop-change.change-index c.loop-change.draft c.changes-change-items.ensures.entries c.loop-change-test.false (c.loop-change.invariant a fit fit_after begins)
