use Rattle.std.proofs.Common.{◌≡◌, ap, ◌∙◌}
use Rattle.data_set_trees.specs.declared.clauses.frame.Frame.{Frame}
use Rattle.data_set_trees.specs.clauses.Frames.{frame_of}
use Rattle.clause_typing.proofs.Nameless.{after_same}
use Rattle.clause_typing.proofs.after.components_after.Goals as goal

pub returns : goal.returns
returns c =
    let cs : Frame → _ = λ f. f.components in
    c.into_components.ensures ∙ ap cs c.in_ok-frame_after.ensures ∙ after_same c.args.clause.now c.in_ok-frame.frame (frame_of c.args.components.now) (ap cs c.in_ok-frame.ensures)
