-- The operands for which the rule is asked are those that are held.
use Rattle.std.proofs.Common.{◌≡◌, ℕ, ◌+◌, ◌*◌, ◌≤◌, List, [], length, Result, true, false, sym, ap, subst, ◌∙◌, arith}
use Rattle.std.specs.List.{All, AllZip}
use Rattle.std.specs.Option.{IfSome}
use Rattle.vtl_values.specs.declared.structure.Component.{Component}
use Rattle.vtl_values.specs.Order.{key_cmp}
use Rattle.data_model.specs.Answers.{IsRight}
use Rattle.data_model.specs.Deltas.{Differs}
use Rattle.data_model.specs.Drafts.{finished, IsDraft}
use Rattle.point_sets.specs.Changes.{Changes}
use Rattle.point_sets.specs.DataSets.{DataSet}
use Rattle.structured_sets.specs.Fitting.{IsSetOf, IsBoundedSetOf}
use Rattle.held_index.specs.Drafts.{SetDraft}
use Rattle.held_index.specs.Holdings.{AllPlain, Holding, contents}
use Rattle.held_index.specs.Rules.{answer_of, after_news, AreAsked, IsRightAnswer}
use Rattle.held_index.specs.Wants.{all_whole}
use Rattle.held_index.specs.declared.stop.Stop.{Stop}
use Rattle.held_index.proofs.Rules.{IsRightAnswer-finished}
use Rattle.held_index.proofs.WantLemmas.{all_whole-plain, contents-all_whole}
use Rattle.clause_meaning.proofs.Picked.{AllZip-weaker}
use Rattle.data_set_trees.specs.checked.Operators.{Operator, IsTyped}
use Rattle.operator_meaning.specs.Operators.{meaning_of, AreOperands}
use Rattle.operator_meaning.specs.joins.Joins.{JoinOn}
use Rattle.operator_meaning.specs.joins.Typed.{IsTypedJoinOn}
use Rattle.outer_joins.specs.Noted.{value_at, IsNoted, all_keys_of}
use Rattle.outer_joins.specs.Rules.{is_outer, operator_of, wanted_of}
use Rattle.outer_joins.proofs.Right.{AllZip-length, right-answer}

fit-all : (ss : List (List Component)) (xs : List DataSet) → AllZip IsBoundedSetOf ss xs → AllZip IsSetOf ss xs
fit-all ss xs h = AllZip-weaker IsBoundedSetOf IsSetOf (λ s x bounded. bounded.fits) ss xs h

-- an operator that is a join is well typed as one
pub typed-join : (j : JoinOn) → IsTyped (operator_of j) → IsTypedJoinOn j
typed-join j typed = record { structures = typed.structures; structure_is = typed.result; join = typed.takes }

module _ (j : JoinOn) (typed : IsTypedJoinOn j) (outer : is_outer j.function ≡ true) (held : List Holding) (news : List Changes) (before : ℕ) (n : SetDraft) where
  asked-right : All Differs news → (AllPlain held → IsNoted j held news (all_keys_of j j.operands news) n) → (xs : List DataSet) (x : DataSet)
      → AreAsked (AreOperands j.operands) (meaning_of (operator_of j)) (all_whole (length j.operands)) held news before xs x → IsRight (meaning_of (operator_of j) (after_news news xs)) x (finished before n)
  asked-right differ noted xs x asked =
      let ks = all_keys_of j j.operands news in
      let many : length xs ≡ length j.operands = AllZip-length IsBoundedSetOf j.operands xs asked.admitted in
      let plain : AllPlain held = subst AllPlain asked.held_is (all_whole-plain xs (length j.operands)) in
      let same : contents held ≡ xs = ap contents (sym asked.held_is) ∙ contents-all_whole xs (length j.operands) many in
      right-answer j typed outer news xs x before n differ asked.begins (fit-all j.operands xs asked.admitted) (fit-all j.operands (after_news news xs) asked.admitted_after)
      (subst (λ (ys : List DataSet). IsDraft {R = key_cmp} (λ key. false) [] (value_at j ys) (value_at j (after_news news ys)) ks n) same (noted plain))
      asked.result_is asked.count

-- the draft in which the keys of all changes are noted ends in the right answer
pub right-for-all : (o : Operator) (j : JoinOn) → o ≡ operator_of j → IsTyped (operator_of j) → is_outer j.function ≡ true → (held : List Holding) (news : List Changes) (before : ℕ) (n : SetDraft) (answer : Result Changes Stop) → IfSome (answer_of answer) (λ a. a ≡ finished before n)
    → All Differs news → (AllPlain held → IsNoted j held news (all_keys_of j j.operands news) n) → IsRightAnswer (AreOperands o.operands) (meaning_of o) (wanted_of o) held news before answer
right-for-all o j is typed outer held news before n answer ends differ noted =
    subst (λ (p : Operator). IsRightAnswer (AreOperands p.operands) (meaning_of p) (wanted_of p) held news before answer) (sym is)
    (IsRightAnswer-finished (AreOperands j.operands) (meaning_of (operator_of j)) (all_whole (length j.operands)) held news before answer n ends (asked-right j (typed-join j typed) outer held news before n differ noted))

-- the join has the operands of the operator
pub as-many : (o : Operator) (j : JoinOn) → o ≡ operator_of j → length o.operands ≡ length j.operands
as-many o j is = ap (λ (p : Operator). length p.operands) is

-- ---- steps

pub few-steps : (m n c before now : ℕ) → m ≡ n → now ≤ before + 2 * m * c → now ≤ before + 4 * n * c
few-steps m n c before now same h = let own : now ≤ before + 2 * n * c = subst (λ k. now ≤ before + 2 * k * c) same h in omega (arith, own)
