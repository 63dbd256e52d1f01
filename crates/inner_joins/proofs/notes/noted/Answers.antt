-- No operand, one operand more, and all.
use Rattle.std.proofs.Common.{◌≡◌, ℕ, ◌<◌, ◌≤◌, ◌+◌, List, length, map, take, sym, ap, subst, ◌∙◌, zero-add, arith}
use Rattle.std.specs.Arc.{arc_value}
use Rattle.std.specs.List.{flat_map, range_with_len, sum_by}
use Rattle.std.proofs.lemmas.List.{take_all}
use Rattle.std.proofs.lemmas.List.FromFn.{get_or-range_with_len, length-range_with_len}
use Rattle.std.proofs.lemmas.List.Sums.{sum_by_more, sum_by_more_le}
use Rattle.data_model.specs.Drafts.{nothing}
use Rattle.point_sets.specs.Changes.{Changes}
use Rattle.held_index.specs.Holdings.{Holding}
use Rattle.operator_meaning.specs.joins.Joins.{JoinOn}
use Rattle.inner_joins.specs.Noted.{all_keys, keys_of}
use Rattle.inner_joins.specs.Reach.{steps_for}
use Rattle.inner_joins.proofs.Folded.{notes-keys, notes-none, notes-same}
use Rattle.inner_joins.proofs.notes.noted.Goals as goal

pub loop-number-init : goal.loop-number-init
loop-number-init g c = record { noted = notes-none c.args.plan.now c.args.held.now (map arc_value c.args.news.now) nothing c.new-draft.result c.new-draft.ensures; steps = omega arith }

pub loop-number-preserved : goal.loop-number-preserved
loop-number-preserved g c =
    let j : JoinOn = c.args.plan.now in
    let held : List Holding = c.args.held.now in
    let news : List Changes = map arc_value c.args.news.now in
    let i = c.loop-number.number in
    let n : ℕ = length j.operands in
    let numbers : List ℕ = range_with_len 0 n in
    let test = c.loop-number-test.true in
    let many = c.requires.news in
    let below : i < n = omega (arith, test, many) in
    let within : i < length numbers = omega (arith, below, length-range_with_len 0 n) in
    let at = get_or-range_with_len 0 n i i below ∙ zero-add i in
    let more = sum_by_more (steps_for j held news) numbers i i within ∙ ap (λ k. sum_by (steps_for j held news) (take i numbers) + steps_for j held news k) at in
    let before = c.loop-number.invariant.steps in
    let one = c.in_ok-note_changes.ensures.steps in
    record {
      noted = notes-keys j held news numbers i i within (sym at) (keys_of j held news) nothing c.loop-number.draft c.note_changes.new.draft c.loop-number.invariant.noted c.in_ok-note_changes.ensures.noted;
      steps = omega (arith, before, one, more);
    }

pub returns-clause-noted : goal.returns-clause-noted
returns-clause-noted g c =
    let j : JoinOn = c.args.plan.now in
    let held : List Holding = c.args.held.now in
    let news : List Changes = map arc_value c.args.news.now in
    let numbers : List ℕ = range_with_len 0 (length j.operands) in
    let past = c.loop-number-test.false in
    let many = c.requires.news in
    let all : take c.loop-number.number numbers ≡ numbers = take_all c.loop-number.number numbers (omega (arith, past, many, length-range_with_len 0 (length j.operands))) in
    notes-same j held news (flat_map (keys_of j held news) (take c.loop-number.number numbers)) (all_keys j held news) nothing c.loop-number.draft (ap (flat_map (keys_of j held news)) all) c.loop-number.invariant.noted

pub returns-clause-steps : goal.returns-clause-steps
returns-clause-steps g c =
    let j : JoinOn = c.args.plan.now in
    let held : List Holding = c.args.held.now in
    let news : List Changes = map arc_value c.args.news.now in
    let numbers : List ℕ = range_with_len 0 (length j.operands) in
    let past = c.loop-number-test.false in
    let many = c.requires.news in
    let all : take c.loop-number.number numbers ≡ numbers = take_all c.loop-number.number numbers (omega (arith, past, many, length-range_with_len 0 (length j.operands))) in
    subst (λ (ks : List ℕ). c.loop-number.steps ≤ c.args.steps.now + sum_by (steps_for j held news) ks) all c.loop-number.invariant.steps

pub returns-in_err-note_changes-clause-steps : goal.returns-in_err-note_changes-clause-steps
returns-in_err-note_changes-clause-steps g c =
    let j : JoinOn = c.args.plan.now in
    let held : List Holding = c.args.held.now in
    let news : List Changes = map arc_value c.args.news.now in
    let i = c.loop-number.number in
    let n : ℕ = length j.operands in
    let numbers : List ℕ = range_with_len 0 n in
    let test = c.loop-number-test.true in
    let many = c.requires.news in
    let below : i < n = omega (arith, test, many) in
    let within : i < length numbers = omega (arith, below, length-range_with_len 0 n) in
    let at = ap (steps_for j held news) (get_or-range_with_len 0 n i i below ∙ zero-add i) in
    let most = sum_by_more_le (steps_for j held news) numbers i i within in
    let before = c.loop-number.invariant.steps in
    let one = c.in_err-note_changes.ensures.steps in
    omega (arith, before, one, most, at)
