use Rattle.std.proofs.Common.{◌≡◌, List, [], ◌∷◌, None, map, refl, ap, ◌∙◌}
use Rattle.std.specs.Arc.{arc_value}
use Rattle.point_sets.specs.Changes.{Changes, values_of}
use Rattle.point_sets.specs.DataSets.{DataSet}
use Rattle.held_index.specs.Drafts.{SetDraft}
use Rattle.held_index.specs.Holdings.{Holding}
use Rattle.operator_meaning.specs.joins.Joins.{JoinOn}
use Rattle.outer_joins.proofs.Looked.{on-ok}
use Rattle.inner_joins.specs.Noted.{noted_key, AreBehind, IsMet, Notes}
use Rattle.inner_joins.specs.Rules.{key_from}
use Rattle.inner_joins.specs.declared.notes.Meeting.{Meeting}
use Rattle.inner_joins.proofs.Meetings.{met-main}
use Rattle.inner_joins.proofs.notes.note_main_change.Goals as goal

pub returns-clause-noted : goal.returns-clause-noted
returns-clause-noted g c =
    let j : JoinOn = c.args.plan.now in
    let held : List Holding = c.args.held.now in
    let news : List Changes = map arc_value c.args.news.now in
    let change = c.args.change.now in
    let m : Meeting = record { key = c.in_ok-key.key; main = c.in_ok-main.main; partner = None } in
    let draft : SetDraft = c.args.draft.now in
    let made : SetDraft = c.note_meeting.new.draft in
    on-ok ((xs : List DataSet) → AreBehind j held news xs → IsMet j xs news m → made ≡ noted_key j xs news draft m.key) (Notes j held news (key_from j change.key ∷ []) draft made) c.note_meeting.result
    (λ each xs behind.
    each xs behind
    (met-main j c.key_from.ensures.inner held news xs behind m change c.requires.change c.requires.its c.in_ok-key.ensures.key
    (c.in_ok-main.ensures.before ∙ ap values_of c.as_ref.ensures.value) (c.in_ok-main.ensures.after ∙ ap values_of c.as_ref-2.ensures.value) refl)
    ∙ ap (noted_key j xs news draft) c.in_ok-key.ensures.key)
    c.note_meeting.ensures.noted
