-- No change, one change more, and all.
use Rattle.std.proofs.Common.{◌≡◌, ◌≤◌, ◌+◌, ◌*◌, List, Some, length, map, take, refl, ap, subst, ◌∙◌, arith}
use Rattle.std.specs.Arc.{arc_value}
use Rattle.std.specs.FinMap.{get, keys, len}
use Rattle.std.proofs.lemmas.List.{take_all}
use Rattle.vtl_values.specs.declared.value.Value.{Value}
use Rattle.point_sets.specs.Changes.{Changes, change_entry}
use Rattle.point_sets.specs.declared.delta.Change.{Change}
use Rattle.held_index.specs.Holdings.{Holding}
use Rattle.operator_meaning.specs.joins.Joins.{JoinOn}
use Rattle.outer_joins.proofs.Looked.{keys-all, one-more}
use Rattle.inner_joins.specs.Noted.{news_of}
use Rattle.inner_joins.specs.Rules.{key_from, main_number}
use Rattle.inner_joins.proofs.Folded.{change-is, change-there, changes-count, news-at, notes-key, notes-none, notes-same}
use Rattle.inner_joins.proofs.notes.note_main.Goals as goal
use Rattle.inner_joins.proofs.notes.note_main.Goals.{At-loop-change}

-- whose changes are gone through
its-news : (g : _) (c : At-loop-change g) → c.deref.result.now ≡ news_of (main_number c.args.plan.now) (map arc_value c.args.news.now)
its-news g c =
    let many = c.requires.news in
    let below = c.main-main.ensures.within in
    news-at c.args.news.now c.main-main.result (main_number c.args.plan.now) c.index-news-main.result c.deref.result.now (omega (arith, many, below)) c.index-news-main.is c.deref.ensures c.main-main.ensures.number

pub note_main_change-requires-clause-change : goal.note_main_change-requires-clause-change
note_main_change-requires-clause-change g c =
    change-is c.changes-change-items.result.now c.deref.result.now c.changes-change-items.ensures.entries c.loop-change.change-index c.change-item.result c.loop-change-test.true c.change-item.is c.changes-change-items.ensures.changes

pub note_main_change-requires-clause-its : goal.note_main_change-requires-clause-its
note_main_change-requires-clause-its g c =
    subst (λ (d : Changes). get d c.change-item.result.key ≡ Some (change_entry c.change-item.result).1) (its-news g (goal.at.note_main_change-requires-clause-its g c).At-loop-change)
    (change-there c.changes-change-items.result.now c.deref.result.now c.changes-change-items.ensures.entries c.loop-change.change-index c.change-item.result c.loop-change-test.true c.change-item.is)

pub loop-change-init : goal.loop-change-init
loop-change-init g c = record { noted = notes-none c.args.plan.now c.args.held.now (map arc_value c.args.news.now) c.args.draft.now c.args.draft.now refl; within = omega arith; steps = omega arith }

pub loop-change-preserved : goal.loop-change-preserved
loop-change-preserved g c =
    let j : JoinOn = c.args.plan.now in
    let held : List Holding = c.args.held.now in
    let news : List Changes = map arc_value c.args.news.now in
    let before = c.loop-change.invariant.steps in
    let one = c.in_ok-note_main_change.ensures.steps in
    let test = c.loop-change-test.true in
    record {
      noted =
          notes-key j held news c.changes-change-items.result.now c.loop-change.change-index c.change-item.result test c.change-item.is (λ (d : Change). key_from j d.key)
          c.args.draft.now c.loop-change.draft c.note_main_change.new.draft c.loop-change.invariant.noted c.in_ok-note_main_change.ensures.noted;
      within = omega (arith, test);
      steps = omega (arith, before, one);
    }

pub returns-clause-noted : goal.returns-clause-noted
returns-clause-noted g c =
    let j : JoinOn = c.args.plan.now in
    let held : List Holding = c.args.held.now in
    let news : List Changes = map arc_value c.args.news.now in
    let changes : List Change = c.changes-change-items.result.now in
    let f : Change → List Value = λ d. key_from j d.key in
    let is = its-news g (goal.at.returns-clause-noted g c).At-loop-change in
    let all : map f (take c.loop-change.change-index changes) ≡ map (key_from j) (keys (news_of (main_number j) news)) =
    ap (map f) (take_all c.loop-change.change-index changes c.loop-change-test.false) ∙ keys-all (key_from j) changes c.deref.result.now c.changes-change-items.ensures.entries ∙ ap (λ (d : Changes). map (key_from j) (keys d)) is in
    notes-same j held news (map f (take c.loop-change.change-index changes)) (map (key_from j) (keys (news_of (main_number j) news))) c.args.draft.now c.loop-change.draft all c.loop-change.invariant.noted

pub returns-clause-steps : goal.returns-clause-steps
returns-clause-steps g c =
    let j : JoinOn = c.args.plan.now in
    let news : List Changes = map arc_value c.args.news.now in
    let is = its-news g (goal.at.returns-clause-steps g c).At-loop-change in
    let count : length c.changes-change-items.result.now ≡ len (news_of (main_number j) news) = changes-count c.changes-change-items.result.now c.deref.result.now c.changes-change-items.ensures.entries ∙ ap (λ (d : Changes). len d) is in
    let within = c.loop-change.invariant.within in
    let past = c.loop-change-test.false in
    let index : c.loop-change.change-index ≡ len (news_of (main_number j) news) = omega (arith, count, within, past) in
    subst (λ n. c.loop-change.steps ≤ c.args.steps.now + 2 * length j.operands * n) index c.loop-change.invariant.steps

pub returns-in_err-note_main_change-clause-steps : goal.returns-in_err-note_main_change-clause-steps
returns-in_err-note_main_change-clause-steps g c =
    let j : JoinOn = c.args.plan.now in
    let news : List Changes = map arc_value c.args.news.now in
    let is = its-news g (goal.at.returns-in_err-note_main_change-clause-steps g c).At-loop-change in
    let count : length c.changes-change-items.result.now ≡ len (news_of (main_number j) news) = changes-count c.changes-change-items.result.now c.deref.result.now c.changes-change-items.ensures.entries ∙ ap (λ (d : Changes). len d) is in
    let test = c.loop-change-test.true in
    one-more (length j.operands) c.loop-change.change-index (len (news_of (main_number j) news)) c.args.steps.now c.loop-change.steps c.note_main_change.new.steps (omega (arith, test, count)) c.loop-change.invariant.steps c.in_err-note_main_change.ensures.steps
