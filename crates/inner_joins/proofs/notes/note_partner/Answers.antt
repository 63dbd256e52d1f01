-- No change, one change more, and all.
use Rattle.std.proofs.Common.{◌≡◌, ℕ, ◌≤◌, ◌+◌, ◌*◌, List, Some, length, map, take, refl, sym, ap, subst, ◌∙◌, arith}
use Rattle.std.specs.Arc.{arc_value}
use Rattle.std.specs.FinMap.{get, keys}
use Rattle.std.specs.List.{flat_map, sum_by}
use Rattle.std.proofs.lemmas.List.{take_all}
use Rattle.std.proofs.lemmas.List.Sums.{sum_by_more, sum_by_more_le}
use Rattle.vtl_values.specs.declared.value.Value.{Value}
use Rattle.point_sets.specs.Changes.{Changes, change_entry}
use Rattle.point_sets.specs.declared.delta.Change.{Change}
use Rattle.held_index.specs.Holdings.{Holding}
use Rattle.operator_meaning.specs.joins.Joins.{JoinOn}
use Rattle.pair_ops.specs.Noted.{part_steps, walk_steps}
use Rattle.pair_ops.proofs.Folds.{sum_by-changes}
use Rattle.inner_joins.specs.Noted.{held_for, keys_met, news_of}
use Rattle.inner_joins.proofs.Counted.{part-more}
use Rattle.inner_joins.proofs.Folded.{change-there, flat_map-keys, news-at, notes-keys, notes-none, notes-same}
use Rattle.inner_joins.proofs.notes.note_partner.Goals as goal

pub note_partner_change-requires-clause-its : goal.note_partner_change-requires-clause-its
note_partner_change-requires-clause-its g c =
    let many = c.requires.news in
    let below = c.requires.number in
    let is : c.deref.result.now ≡ news_of c.args.number (map arc_value c.args.news.now) = news-at c.args.news.now c.args.number c.args.number c.index-news-number.result c.deref.result.now (omega (arith, many, below)) c.index-news-number.is c.deref.ensures refl in
    subst (λ (d : Changes). get d c.change-item.result.key ≡ Some (change_entry c.change-item.result).1) is
    (change-there c.changes-change-items.result.now c.deref.result.now c.changes-change-items.ensures.entries c.loop-change.change-index c.change-item.result c.loop-change-test.true c.change-item.is)

pub loop-change-init : goal.loop-change-init
loop-change-init g c = record { noted = notes-none c.args.plan.now c.args.held.now (map arc_value c.args.news.now) c.args.draft.now c.args.draft.now refl; steps = omega arith }

pub loop-change-preserved : goal.loop-change-preserved
loop-change-preserved g c =
    let j : JoinOn = c.args.plan.now in
    let held : List Holding = c.args.held.now in
    let news : List Changes = map arc_value c.args.news.now in
    let changes : List Change = c.changes-change-items.result.now in
    let i = c.loop-change.change-index in
    let item = c.change-item.result in
    let n : ℕ = length j.operands + 1 in
    let cost : Change → ℕ = λ d. part_steps (held_for j held c.args.number) d.key in
    let more : n * sum_by cost (take (i + 1) changes) ≡ n * (sum_by cost (take i changes) + cost item) =
    ap (λ s. n * s) (sum_by_more cost changes i item c.loop-change-test.true ∙ ap (λ (d : Change). sum_by cost (take i changes) + cost d) (sym c.change-item.is)) in
    let before = c.loop-change.invariant.steps in
    let one = c.in_ok-note_partner_change.ensures.steps in
    record {
      noted =
          notes-keys j held news changes i item c.loop-change-test.true c.change-item.is (λ (d : Change). keys_met j held c.args.number d.key)
          c.args.draft.now c.loop-change.draft c.note_partner_change.new.draft c.loop-change.invariant.noted c.in_ok-note_partner_change.ensures.noted;
      steps = omega (arith, before, one, more);
    }

pub returns-clause-noted : goal.returns-clause-noted
returns-clause-noted g c =
    let j : JoinOn = c.args.plan.now in
    let held : List Holding = c.args.held.now in
    let news : List Changes = map arc_value c.args.news.now in
    let changes : List Change = c.changes-change-items.result.now in
    let keys_of_one : List Value → List (List Value) = keys_met j held c.args.number in
    let f : Change → List (List Value) = λ d. keys_of_one d.key in
    let many = c.requires.news in
    let below = c.requires.number in
    let is : c.deref.result.now ≡ news_of c.args.number news = news-at c.args.news.now c.args.number c.args.number c.index-news-number.result c.deref.result.now (omega (arith, many, below)) c.index-news-number.is c.deref.ensures refl in
    let all : flat_map f (take c.loop-change.change-index changes) ≡ flat_map keys_of_one (keys (news_of c.args.number news)) =
    ap (flat_map f) (take_all c.loop-change.change-index changes c.loop-change-test.false) ∙ flat_map-keys keys_of_one changes c.deref.result.now c.changes-change-items.ensures.entries ∙ ap (λ (d : Changes). flat_map keys_of_one (keys d)) is in
    notes-same j held news (flat_map f (take c.loop-change.change-index changes)) (flat_map keys_of_one (keys (news_of c.args.number news))) c.args.draft.now c.loop-change.draft all c.loop-change.invariant.noted

pub returns-clause-steps : goal.returns-clause-steps
returns-clause-steps g c =
    let j : JoinOn = c.args.plan.now in
    let held : List Holding = c.args.held.now in
    let news : List Changes = map arc_value c.args.news.now in
    let changes : List Change = c.changes-change-items.result.now in
    let cost : Change → ℕ = λ d. part_steps (held_for j held c.args.number) d.key in
    let many = c.requires.news in
    let below = c.requires.number in
    let is : c.deref.result.now ≡ news_of c.args.number news = news-at c.args.news.now c.args.number c.args.number c.index-news-number.result c.deref.result.now (omega (arith, many, below)) c.index-news-number.is c.deref.ensures refl in
    let all : sum_by cost (take c.loop-change.change-index changes) ≡ walk_steps (held_for j held c.args.number) (keys (news_of c.args.number news)) =
    ap (λ (ds : List Change). sum_by cost ds) (take_all c.loop-change.change-index changes c.loop-change-test.false) ∙ sum_by-changes (part_steps (held_for j held c.args.number)) changes c.deref.result.now c.changes-change-items.ensures.entries
    ∙ ap (λ (d : Changes). walk_steps (held_for j held c.args.number) (keys d)) is in
    subst (λ s. c.loop-change.steps ≤ c.args.steps.now + (length j.operands + 1) * s) all c.loop-change.invariant.steps

pub returns-in_err-note_partner_change-clause-steps : goal.returns-in_err-note_partner_change-clause-steps
returns-in_err-note_partner_change-clause-steps g c =
    let j : JoinOn = c.args.plan.now in
    let held : List Holding = c.args.held.now in
    let news : List Changes = map arc_value c.args.news.now in
    let changes : List Change = c.changes-change-items.result.now in
    let i = c.loop-change.change-index in
    let item = c.change-item.result in
    let cost : Change → ℕ = λ d. part_steps (held_for j held c.args.number) d.key in
    let many = c.requires.news in
    let below = c.requires.number in
    let is : c.deref.result.now ≡ news_of c.args.number news = news-at c.args.news.now c.args.number c.args.number c.index-news-number.result c.deref.result.now (omega (arith, many, below)) c.index-news-number.is c.deref.ensures refl in
    let all : sum_by cost changes ≡ walk_steps (held_for j held c.args.number) (keys (news_of c.args.number news)) =
    sum_by-changes (part_steps (held_for j held c.args.number)) changes c.deref.result.now c.changes-change-items.ensures.entries ∙ ap (λ (d : Changes). walk_steps (held_for j held c.args.number) (keys d)) is in
    let most = sum_by_more_le cost changes i item c.loop-change-test.true in
    let here = ap cost c.change-item.is in
    part-more (length j.operands) (sum_by cost (take i changes)) (cost item) (walk_steps (held_for j held c.args.number) (keys (news_of c.args.number news))) c.args.steps.now c.loop-change.steps c.note_partner_change.new.steps
    (omega (arith, most, here, all)) c.loop-change.invariant.steps c.in_err-note_partner_change.ensures.steps
