-- No point, one point more, and all; each one is found.
use Rattle.std.proofs.Common.{◌≡◌, ℕ, List, Some, length, map, take, refl, sym, ap, ◌∙◌, arith}
use Rattle.std.specs.Prelude.{slice_get}
use Rattle.std.specs.Arc.{arc_value}
use Rattle.std.specs.FinMap.{get}
use Rattle.std.proofs.lemmas.List.{take_all}
use Rattle.std.proofs.lemmas.Option.{get_or_from_slice_get, slice_get_within}
use Rattle.vtl_values.specs.declared.value.Value.{Value}
use Rattle.data_model.specs.Deltas.{after}
use Rattle.point_sets.specs.Changes.{Changes}
use Rattle.point_sets.specs.DataSets.{entry_of}
use Rattle.held_index.specs.Holdings.{Holding, part_of}
use Rattle.held_index.specs.Walks.{PointValues}
use Rattle.operator_meaning.specs.joins.Joins.{JoinOn}
use Rattle.inner_joins.specs.Noted.{held_for, keys_met, news_of, noted_key, points_met}
use Rattle.inner_joins.specs.Rules.{key_from, main_number}
use Rattle.inner_joins.proofs.Counted.{point-end, point-more}
use Rattle.inner_joins.proofs.Folded.{news-at, notes-key, notes-none, notes-same}
use Rattle.inner_joins.proofs.Meetings.{met-point, part-there}
use Rattle.inner_joins.proofs.notes.note_partner_change.Goals as goal

-- the points of the part are counted
counted : (h g : Holding) (key : List Value) (count : ℕ) → count ≡ length (part_of h.want key h.content) → h ≡ g → count ≡ length (part_of g.want key g.content)
counted h g key count is same = is ∙ ap (λ (x : Holding). length (part_of x.want key x.content)) same

-- and found
found-in : (h g : Holding) (key : List Value) (n : ℕ) (point : PointValues) → Some point ≡ slice_get (part_of h.want key h.content) n → h ≡ g → Some point ≡ slice_get (part_of g.want key g.content) n
found-in h g key n point is same = is ∙ ap (λ (x : Holding). slice_get (part_of x.want key x.content) n) same

pub loop-n-init : goal.loop-n-init
loop-n-init g c =
    let count = c.count_in-count.ensures.steps in
    record { noted = notes-none c.args.plan.now c.args.held.now (map arc_value c.args.news.now) c.args.draft.now c.args.draft.now refl; steps = omega (arith, count) }

pub loop-n-preserved : goal.loop-n-preserved
loop-n-preserved g c =
    let j : JoinOn = c.args.plan.now in
    let held : List Holding = c.args.held.now in
    let news : List Changes = map arc_value c.args.news.now in
    let number = c.args.number in
    let change = c.args.change.now in
    let n = c.loop-n.n in
    let on = c.main-main.ensures.inner in
    let ps : List PointValues = points_met j held number change.key in
    let point : PointValues = entry_of c.in-Some.point.now in
    let m = c.in_ok-meeting.meeting in
    let found : Some point ≡ slice_get ps n = found-in c.parts_for-parts.result.now (held_for j held number) change.key n point c.in-Some.ensures.found c.parts_for-parts.ensures in
    let many = c.requires.news in
    let below = c.main-main.ensures.within in
    let is : c.deref.result.now ≡ news_of (main_number j) news = news-at c.args.news.now c.main-main.result (main_number j) c.index-news-main.result c.deref.result.now (omega (arith, many, below)) c.index-news-main.is c.deref.ensures c.main-main.ensures.number in
    let before = c.loop-n.invariant.steps in
    let look = c.in-Some.ensures.steps in
    let one = c.in_ok-note_meeting.ensures.steps in
    record {
      noted =
          notes-key j held news ps n point (slice_get_within ps n point (sym found)) (sym (get_or_from_slice_get ps n point point (sym found))) (λ (p : PointValues). key_from j p.0)
          c.args.draft.now c.loop-n.draft c.note_meeting.new.draft c.loop-n.invariant.noted
          (λ xs behind.
          c.in_ok-note_meeting.ensures.noted xs behind
          (met-point j on held news xs behind number c.requires.number change c.requires.its m point (part-there j on held news xs behind number c.requires.number change c.requires.its c.requires.other n point found) c.in_ok-meeting.ensures.key
          c.in_ok-meeting.ensures.before (c.in_ok-meeting.ensures.after ∙ ap (λ (d : Changes). after (get d point.0) (Some point.1)) is) c.in_ok-meeting.ensures.partner)
          ∙ ap (noted_key j xs news c.loop-n.draft) c.in_ok-meeting.ensures.key);
      steps = omega (arith, before, look, one);
    }

pub returns-clause-noted : goal.returns-clause-noted
returns-clause-noted g c =
    let j : JoinOn = c.args.plan.now in
    let held : List Holding = c.args.held.now in
    let news : List Changes = map arc_value c.args.news.now in
    let f : PointValues → List Value = λ p. key_from j p.0 in
    let ps : List PointValues = points_met j held c.args.number c.args.change.now.key in
    let all : c.count_in-count.result ≡ length ps = counted c.parts_for-parts.result.now (held_for j held c.args.number) c.args.change.now.key c.count_in-count.result c.count_in-count.ensures.count c.parts_for-parts.ensures in
    let done = c.loop-n-test.false in
    notes-same j held news (map f (take c.loop-n.n ps)) (keys_met j held c.args.number c.args.change.now.key) c.args.draft.now c.loop-n.draft (ap (map f) (take_all c.loop-n.n ps (omega (arith, all, done)))) c.loop-n.invariant.noted

pub returns-in_err-meeting-clause-steps : goal.returns-in_err-meeting-clause-steps
returns-in_err-meeting-clause-steps g c =
    let all = counted c.parts_for-parts.result.now (held_for c.args.plan.now c.args.held.now c.args.number) c.args.change.now.key c.count_in-count.result c.count_in-count.ensures.count c.parts_for-parts.ensures in
    let ps : List PointValues = points_met c.args.plan.now c.args.held.now c.args.number c.args.change.now.key in
    let test = c.loop-n-test.true in
    let look = c.in-Some.ensures.steps in
    point-more (length c.args.plan.now.operands) c.loop-n.n (length ps) c.args.steps.now c.loop-n.steps c.nth_in.new.steps (omega (arith, all, test)) c.loop-n.invariant.steps (omega (arith, look))

pub returns-in_err-note_meeting-clause-steps : goal.returns-in_err-note_meeting-clause-steps
returns-in_err-note_meeting-clause-steps g c =
    let all = counted c.parts_for-parts.result.now (held_for c.args.plan.now c.args.held.now c.args.number) c.args.change.now.key c.count_in-count.result c.count_in-count.ensures.count c.parts_for-parts.ensures in
    let ps : List PointValues = points_met c.args.plan.now c.args.held.now c.args.number c.args.change.now.key in
    let test = c.loop-n-test.true in
    let look = c.in-Some.ensures.steps in
    let one = c.in_err-note_meeting.ensures.steps in
    point-more (length c.args.plan.now.operands) c.loop-n.n (length ps) c.args.steps.now c.loop-n.steps c.note_meeting.new.steps (omega (arith, all, test)) c.loop-n.invariant.steps (omega (arith, look, one))

pub returns-clause-steps : goal.returns-clause-steps
returns-clause-steps g c =
    let all = counted c.parts_for-parts.result.now (held_for c.args.plan.now c.args.held.now c.args.number) c.args.change.now.key c.count_in-count.result c.count_in-count.ensures.count c.parts_for-parts.ensures in
    let ps : List PointValues = points_met c.args.plan.now c.args.held.now c.args.number c.args.change.now.key in
    let most = c.loop-n.auto.n-end in
    point-end (length c.args.plan.now.operands) c.loop-n.n (length ps) c.args.steps.now c.loop-n.steps (omega (arith, all, most)) c.loop-n.invariant.steps
