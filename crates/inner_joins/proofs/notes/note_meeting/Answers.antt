use Rattle.std.proofs.Common.{◌≡◌, List, Option, map, ap, ◌∙◌}
use Rattle.std.specs.Arc.{arc_value}
use Rattle.std.specs.declared.alloc.Global.{Global}
use Rattle.std.specs.declared.sync.Arc.{Arc}
use Rattle.data_model.specs.Drafts.{note_value}
use Rattle.point_sets.specs.Changes.{Changes, values_eq, values_of}
use Rattle.point_sets.specs.DataSets.{DataSet}
use Rattle.point_sets.specs.declared.point.Point.{Point}
use Rattle.held_index.specs.Drafts.{SetDraft}
use Rattle.held_index.specs.Holdings.{Holding}
use Rattle.operator_meaning.specs.joins.Joins.{JoinOn, joined_point}
use Rattle.outer_joins.proofs.Looked.{on-ok}
use Rattle.inner_joins.specs.Noted.{noted_key, AreBehind, IsMet}
use Rattle.inner_joins.proofs.Sights.{noted-same}
use Rattle.inner_joins.proofs.notes.note_meeting.Goals as goal

pub returns-clause-noted : goal.returns-clause-noted
returns-clause-noted g c =
    let j : JoinOn = c.args.plan.now in
    let held : List Holding = c.args.held.now in
    let news : List Changes = map arc_value c.args.news.now in
    let m = c.args.meeting.now in
    let at = c.in_ok-key.key in
    let old = values_of c.in_ok-old.old in
    let new = values_of c.in_ok-new.new in
    let draft : SetDraft = c.args.draft.now in
    let made : SetDraft = c.note.new.self in
    let planned = c.join-join.ensures.join in
    on-ok (made ≡ note_value values_eq at old new draft) ((xs : List DataSet) → AreBehind j held news xs → IsMet j xs news m → made ≡ noted_key j xs news draft m.key) c.note.result
    (λ is xs behind met. is ∙ noted-same j xs news m.key at old new (map values_of c.deref.result.now) (map values_of c.deref-2.result.now) draft met.long c.in_ok-key.ensures
    (c.in_ok-old.ensures.value ∙ ap (λ (i : JoinOn). joined_point i (map values_of c.deref.result.now)) planned) (ap (λ (ps : List (Option (Arc Point Global))). map values_of ps) c.deref.ensures.value ∙ c.in_ok-points.ensures.before xs behind met)
    (c.in_ok-new.ensures.value ∙ ap (λ (i : JoinOn). joined_point i (map values_of c.deref-2.result.now)) planned) (ap (λ (ps : List (Option (Arc Point Global))). map values_of ps) c.deref-2.ensures.value ∙ c.in_ok-points.ensures.after xs behind met))
    c.note.ensures.ok
