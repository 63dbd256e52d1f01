use Rattle.std.proofs.Common.{◌≡◌, List, Option, map, ap, ◌∙◌}
use Rattle.std.specs.Arc.{arc_value}
use Rattle.std.specs.declared.alloc.Global.{Global}
use Rattle.std.specs.declared.sync.Arc.{Arc}
use Rattle.data_model.specs.Drafts.{note_value}
use Rattle.point_sets.specs.Changes.{Changes, values_eq, values_of}
use Rattle.point_sets.specs.declared.point.Point.{Point}
use Rattle.held_index.specs.Drafts.{SetDraft}
use Rattle.held_index.specs.Holdings.{AllPlain, Holding}
use Rattle.operator_meaning.specs.joins.Joins.{JoinOn}
use Rattle.outer_joins.specs.Noted.{noted_key}
use Rattle.outer_joins.proofs.Looked.{on-ok, noted-same}
use Rattle.outer_joins.proofs.notes.note_key.Goals as goal

pub returns-clause-noted : goal.returns-clause-noted
returns-clause-noted g c =
    let j : JoinOn = c.args.plan.now in
    let held : List Holding = c.args.held.now in
    let news : List Changes = map arc_value c.args.news.now in
    let key = c.args.key.now in
    let at = c.in_ok-at.at in
    let old = values_of c.in_ok-old.old in
    let new = values_of c.in_ok-new.new in
    let draft : SetDraft = c.args.draft.now in
    let made : SetDraft = c.note.new.self in
    on-ok (made ≡ note_value values_eq at old new draft) (AllPlain held → made ≡ noted_key j held news key draft) c.note.result
    (λ is plain. is ∙ noted-same j held news key at old new (map values_of c.deref.result.now) (map values_of c.deref-2.result.now) draft c.in_ok-at.ensures
    c.in_ok-old.ensures.value (ap (λ (ps : List (Option (Arc Point Global))). map values_of ps) c.deref.ensures.value ∙ c.in_ok-points.ensures.before plain)
    c.in_ok-new.ensures.value (ap (λ (ps : List (Option (Arc Point Global))). map values_of ps) c.deref-2.ensures.value ∙ c.in_ok-points.ensures.after plain))
    c.note.ensures.ok
