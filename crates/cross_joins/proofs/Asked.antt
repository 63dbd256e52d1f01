-- The operands for which the rule is asked are those that are held.
use Rattle.std.proofs.Common.{◌≡◌, ◌≢◌, ℕ, ◌+◌, ◌*◌, ◌<◌, ◌≤◌, List, [], ◌∷◌, map, length, Bool, true, false, Result, nat_eq, if◌then◌else◌, refl, sym, ap, subst, ◌∙◌, arith}
use Rattle.std.specs.Prelude.{fold}
use Rattle.std.specs.List.{AllByRecursion, AllZip, sum_by}
use Rattle.std.specs.Option.{IfSome}
use Rattle.std.specs.FinMap.{empty_of_len, len}
use Rattle.std.proofs.lemmas.Bool.Decides.{nat_tests}
use Rattle.std.proofs.lemmas.List.{length-map}
use Rattle.std.proofs.lemmas.List.Elements.{All-head, All-tail}
use Rattle.std.proofs.lemmas.List.Sums.{sum_by-cons}
use Rattle.std.proofs.lemmas.Slice.Zip.{AllZip-long}
use Rattle.vtl_values.specs.declared.structure.Component.{Component}
use Rattle.vtl_values.specs.declared.value.Value.{Value}
use Rattle.vtl_values.proofs.Values.{key_cmp-IsTotalOrder, key_cmp-IsAntisymmetric}
use Rattle.data_model.specs.Answers.{IsRight}
use Rattle.data_model.specs.Deltas.{BeginsAt, apply}
use Rattle.data_model.specs.Drafts.{finished, nothing}
use Rattle.data_model.specs.Outcomes.{Answer, TooMany}
use Rattle.data_model.specs.declared.TheConstants.{POINT_LIMIT}
use Rattle.data_model.proofs.DeltaLemmas.{Leads-empty}
use Rattle.data_model.proofs.DraftLemmas.{IsDraft-nothing}
use Rattle.point_sets.specs.Changes.{Changes}
use Rattle.point_sets.specs.DataSets.{DataSet}
use Rattle.structured_sets.specs.Fitting.{IsBoundedSetOf, IsSetOf}
use Rattle.held_index.specs.Holdings.{AllPlain, Holding, IsPlain, contents}
use Rattle.held_index.specs.Reach.{changes_in}
use Rattle.held_index.specs.Rules.{AreAsked, IsRightAnswer, SetOutcome, after_news, answer_of}
use Rattle.held_index.specs.Wants.{all_whole}
use Rattle.held_index.specs.declared.stop.Stop.{Stop}
use Rattle.held_index.proofs.Rules.{IfSome-weaker}
use Rattle.held_index.proofs.WantLemmas.{all_whole-plain, contents-all_whole, length-all_whole}
use Rattle.clause_meaning.proofs.Picked.{AllZip-weaker}
use Rattle.data_set_trees.specs.declared.tree.DataSetOperator.TheVariants.{Join}
use Rattle.vtl_syntax.specs.declared.words.JoinFunction.TheVariants.{Cross}
use Rattle.data_set_trees.specs.checked.Operators.{Operator, an_operator}
use Rattle.operator_meaning.specs.joins.Joins.{JoinOn, join_working, points_product}
use Rattle.operator_meaning.specs.joins.Typed.{IsTypedJoinOn}
use Rattle.operator_meaning.proofs.joins.Counted.{too-many}
use Rattle.operator_meaning.specs.Operators.{AreOperands, meaning_of}
use Rattle.cross_joins.specs.Counts.{combinations_after, count_after_news}
use Rattle.cross_joins.specs.Noted.{all_combinations, noted_combination}
use Rattle.cross_joins.specs.Reach.{cross_reach, points_in, walk_steps}
use Rattle.cross_joins.specs.Rows.{RowValues, all_rows}
use Rattle.cross_joins.specs.Rules.{IsCrossOn}
use Rattle.cross_joins.proofs.CombinationLemmas.{changed_both, rows_all}
use Rattle.cross_joins.proofs.Right.{right-answer, right-drafted}
use Rattle.cross_joins.proofs.Whole.{count-whole, held-plain, rows-whole, walked-whole}

fit-all : (ss : List (List Component)) (xs : List DataSet) → AllZip IsBoundedSetOf ss xs → AllZip IsSetOf ss xs
fit-all ss xs h = AllZip-weaker IsBoundedSetOf IsSetOf (λ s x bounded. bounded.fits) ss xs h

few-all : (ss : List (List Component)) (xs : List DataSet) → AllZip IsBoundedSetOf ss xs → AllByRecursion (λ (a : DataSet). len a ≤ POINT_LIMIT) xs
few-all [] [] h = tt
few-all [] (a ∷ xs) h = absurd h
few-all (s ∷ ss) [] h = absurd h
few-all (s ∷ ss) (a ∷ xs) h = (h.0.few, few-all ss xs h.1)

-- without a change the operands stay as they are
after-nothing : (news : List Changes) (xs : List DataSet) → changes_in news ≡ 0 → AllZip BeginsAt news xs → after_news news xs ≡ xs
after-nothing [] [] none begins = refl
after-nothing [] (a ∷ xs) none begins = absurd begins
after-nothing (d ∷ news) [] none begins = absurd begins
after-nothing (d ∷ news) (a ∷ xs) none begins =
    let all = sum_by-cons len d news in
    let own : apply d a ≡ a = ap (λ (e : Changes). apply e a) (empty_of_len d (omega (arith, none, all))) ∙ (Leads-empty key_cmp-IsTotalOrder key_cmp-IsAntisymmetric a).ends in
    λ i. own i ∷ after-nothing news xs (omega (arith, none, all)) begins.1 i

-- the combinations of points after the news
product-whole : (held : List Holding) (news : List Changes) → AllPlain held → AllByRecursion (λ (a : DataSet). len a ≤ POINT_LIMIT) (contents held) → AllZip BeginsAt news (contents held) → combinations_after held news ≡ points_product (after_news news (contents held))
product-whole [] [] plain few begins = refl
product-whole [] (d ∷ news) plain few begins = absurd begins
product-whole (h ∷ held) [] plain few begins = absurd begins
product-whole (h ∷ held) (d ∷ news) plain few begins =
    let own : count_after_news h d ≡ len (apply d h.content) = count-whole h d (All-head (λ (k : Holding). IsPlain k.want) h held plain) few.0 begins.0 in
    let later = product-whole held news (All-tail (λ (k : Holding). IsPlain k.want) h held plain) few.1 begins.1 in
    λ i. own i * later i

-- the operator that is this join
abbrev operator_of : JoinOn → Operator
operator_of j = an_operator (Join j.function) j.operands j.structure

module _ (j : JoinOn) (typed : IsTypedJoinOn j) (cross : j.function ≡ Cross) (held : List Holding) (news : List Changes) (before : ℕ) where
  abbrev Asked : List DataSet → DataSet → Type 0
  Asked xs x = AreAsked (AreOperands j.operands) (meaning_of (operator_of j)) (all_whole (length j.operands)) held news before xs x

  module _ (xs : List DataSet) (x : DataSet) (asked : Asked xs x) where
    plain : AllPlain held
    plain = subst AllPlain asked.held_is (all_whole-plain xs (length j.operands))

    same : contents held ≡ xs
    same = ap contents (sym asked.held_is) ∙ contents-all_whole xs (length j.operands) (AllZip-long IsBoundedSetOf j.operands xs asked.admitted)

    fit : AllZip IsSetOf j.operands xs
    fit = fit-all j.operands xs asked.admitted

    fit_after : AllZip IsSetOf j.operands (after_news news xs)
    fit_after = fit-all j.operands (after_news news xs) asked.admitted_after

    noted-right : IsRight (meaning_of (operator_of j) (after_news news xs)) x (finished before (fold (noted_combination j) nothing (all_combinations held news)))
    noted-right =
        let rows : all_rows held news ≡ rows_all xs news = rows-whole held news plain ∙ ap (λ (ys : List DataSet). rows_all ys news) same in
        subst (λ (rs : List (List RowValues)). IsRight (meaning_of (operator_of j) (after_news news xs)) x (finished before (fold (noted_combination j) nothing (changed_both rs)))) (sym rows)
        (right-answer j typed cross xs news asked.begins fit fit_after x before asked.result_is asked.count)

    nothing-right : changes_in news ≡ 0 → IsRight (meaning_of (operator_of j) (after_news news xs)) x (finished before nothing)
    nothing-right none =
        right-drafted j typed cross xs news asked.begins fit fit_after [] nothing
        (IsDraft-nothing key_cmp-IsTotalOrder key_cmp-IsAntisymmetric (λ key. false) (join_working j xs).value (join_working j (after_news news xs)).value)
        (λ key unlisted. ap (λ (sets : List DataSet). (join_working j sets).value key) (after-nothing news xs none asked.begins)) x before asked.result_is asked.count

    many-right : POINT_LIMIT < combinations_after held news → IsRight (meaning_of (operator_of j) (after_news news xs)) x TooMany
    many-right above =
        let few : AllByRecursion (λ (a : DataSet). len a ≤ POINT_LIMIT) (contents held) = subst (AllByRecursion (λ (a : DataSet). len a ≤ POINT_LIMIT)) (sym same) (few-all j.operands xs asked.admitted) in
        let begins : AllZip BeginsAt news (contents held) = subst (AllZip BeginsAt news) (sym same) asked.begins in
        let product : combinations_after held news ≡ points_product (after_news news xs) = product-whole held news plain few begins ∙ ap (λ (ys : List DataSet). points_product (after_news news ys)) same in
        subst (λ (o : SetOutcome). IsRight o x TooMany) (sym (too-many j (after_news news xs) typed fit_after cross (subst (λ n. POINT_LIMIT < n) product above))) tt

-- ---- the answer, whichever operands the rule is asked for

module _ (o : Operator) (j : JoinOn) (on : IsCrossOn o j) (held : List Holding) (news : List Changes) (before : ℕ) (answer : Result Changes Stop) where
  abbrev Right : Operator → Type 0
  Right p = IsRightAnswer (AreOperands p.operands) (meaning_of p) (all_whole (length p.operands)) held news before answer

  right-by : (a : Answer (List Value) Changes) → IfSome (answer_of answer) (λ b. b ≡ a) → ((xs : List DataSet) (x : DataSet) → Asked j on.typed on.cross held news before xs x → IsRight (meaning_of (operator_of j) (after_news news xs)) x a) → Right o
  right-by a ends right =
      subst Right (sym on.is)
      (λ xs x asked. IfSome-weaker (answer_of answer) (λ b. b ≡ a) (IsRight (meaning_of (operator_of j) (after_news news xs)) x) (λ b e. subst (IsRight (meaning_of (operator_of j) (after_news news xs)) x) (sym e) (right xs x asked)) ends)

  pub right-noted : IfSome (answer_of answer) (λ b. b ≡ finished before (fold (noted_combination j) nothing (all_combinations held news))) → Right o
  right-noted ends = right-by (finished before (fold (noted_combination j) nothing (all_combinations held news))) ends (noted-right j on.typed on.cross held news before)

  pub right-nothing : changes_in news ≡ 0 → IfSome (answer_of answer) (λ b. b ≡ finished before nothing) → Right o
  right-nothing none ends = right-by (finished before nothing) ends (λ xs x asked. nothing-right j on.typed on.cross held news before xs x asked none)

  pub right-many : POINT_LIMIT < combinations_after held news → IfSome (answer_of answer) (λ b. b ≡ TooMany) → Right o
  right-many above ends = right-by TooMany ends (λ xs x asked. many-right j on.typed on.cross held news before xs x asked above)

-- the join has the operands of the operator
pub as-many : (o : Operator) (j : JoinOn) → IsCrossOn o j → length o.operands ≡ length j.operands
as-many o j on = ap (λ (p : Operator). length p.operands) on.is

-- ---- steps

pub as-held : (n : ℕ) (held : List Holding) → map (λ (h : Holding). h.want) held ≡ all_whole n → length held ≡ n
as-held n held wants = sym (length-map held (λ (h : Holding). h.want)) ∙ ap length wants ∙ length-all_whole n

pub reached : (n : ℕ) (held : List Holding) (news : List Changes) → changes_in news ≢ 0 → cross_reach n held news ≡ 2 * points_in held + 3 * n
reached n held news some = ap (λ b. if b then 0 else 2 * points_in held + 3 * n) (by_test (nat_eq (changes_in news) 0) refl)
  where
    by_test : (b : Bool) → nat_eq (changes_in news) 0 ≡ b → b ≡ false
    by_test true e = absurd (some (grind (arith, nat_tests, e)))
    by_test false e = refl

-- each operand is counted and gone through
pub few-steps : (n : ℕ) (held : List Holding) (news : List Changes) (before counted now : ℕ) → map (λ (h : Holding). h.want) held ≡ all_whole n → changes_in news ≢ 0 → counted ≡ before + length held → now ≤ counted + sum_by walk_steps held → now ≤ before + cross_reach n held news
few-steps n held news before counted now wants some count walk =
    let most = reached n held news some in
    let steps = walked-whole held (held-plain held n wants) in
    let long = as-held n held wants in
    omega (arith, most, steps, long, count, walk)

pub few-counted : (n : ℕ) (held : List Holding) (news : List Changes) (before counted : ℕ) → map (λ (h : Holding). h.want) held ≡ all_whole n → changes_in news ≢ 0 → counted ≡ before + length held → counted ≤ before + cross_reach n held news
few-counted n held news before counted wants some count = few-steps n held news before counted counted wants some count (omega arith)
