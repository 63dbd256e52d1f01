-- The operands for which the rule is asked are those that are held.
use Rattle.std.proofs.Common.{◌≡◌, ℕ, ◌+◌, ◌*◌, ◌≤◌, List, [], length, Result, sym, ap, subst, ◌∙◌, false, arith}
use Rattle.std.specs.List.{All, AllZip}
use Rattle.std.specs.Option.{IfSome}
use Rattle.std.proofs.lemmas.Slice.Zip.{AllZip-long}
use Rattle.vtl_values.specs.declared.structure.Component.{Component}
use Rattle.vtl_values.specs.Order.{key_cmp}
use Rattle.data_model.specs.Answers.{IsRight}
use Rattle.data_model.specs.Deltas.{Differs}
use Rattle.data_model.specs.Drafts.{finished, IsDraft}
use Rattle.point_sets.specs.Changes.{Changes}
use Rattle.point_sets.specs.DataSets.{DataSet}
use Rattle.structured_sets.specs.Fitting.{IsSetOf, IsBoundedSetOf}
use Rattle.held_index.specs.Drafts.{SetDraft}
use Rattle.held_index.specs.Holdings.{AllPlain, Holding, contents}
use Rattle.held_index.specs.Rules.{answer_of, after_news, AreAsked, IsRightAnswer}
use Rattle.held_index.specs.declared.stop.Stop.{Stop}
use Rattle.held_index.specs.Wants.{all_whole}
use Rattle.held_index.proofs.Rules.{IsRightAnswer-finished}
use Rattle.held_index.proofs.WantLemmas.{all_whole-plain, contents-all_whole}
use Rattle.clause_meaning.proofs.Picked.{AllZip-weaker}
use Rattle.data_set_trees.specs.declared.tree.DataSetOperator.{DataSetOperator}
use Rattle.data_set_trees.specs.declared.tree.DataSetOperator.TheVariants.{Set}
use Rattle.data_set_trees.specs.declared.tree.SetOperation.{SetOperation}
use Rattle.data_set_trees.specs.checked.Operators.{an_operator, Operator, IsTyped, TakesOperands}
use Rattle.operator_meaning.specs.Operators.{meaning_of, AreOperands}
use Rattle.operator_meaning.specs.sets.Sets.{set_on}
use Rattle.operator_meaning.specs.sets.Typed.{IsTypedSet}
use Rattle.set_ops.specs.Noted.{read_value, IsNoted, all_keys_read}
use Rattle.set_ops.specs.Readings.{readings_of}
use Rattle.set_ops.specs.Rules.{wanted_of}
use Rattle.set_ops.proofs.Right.{right-answer}

fit-all : (ss : List (List Component)) (xs : List DataSet) → AllZip IsBoundedSetOf ss xs → AllZip IsSetOf ss xs
fit-all ss xs h = AllZip-weaker IsBoundedSetOf IsSetOf (λ s x bounded. bounded.fits) ss xs h

-- the operator of a set operation on operands of these structures
abbrev operator_on : SetOperation → List (List Component) → List Component → Operator
operator_on operation operands structure = an_operator (Set operation) operands structure

module _ (operation : SetOperation) (operands : List (List Component)) (structure : List Component) (typed : IsTypedSet (set_on operation operands structure)) (held : List Holding) (news : List Changes) (before : ℕ) (n : SetDraft) where
  asked-right : All Differs news → (AllPlain held → IsNoted operation (readings_of operands structure) held news (all_keys_read (readings_of operands structure) news) n) → (xs : List DataSet) (x : DataSet)
      → AreAsked (AreOperands operands) (meaning_of (operator_on operation operands structure)) (all_whole (length operands)) held news before xs x → IsRight (meaning_of (operator_on operation operands structure) (after_news news xs)) x (finished before n)
  asked-right differ noted xs x asked =
      let rs = readings_of operands structure in
      let ks = all_keys_read rs news in
      let plain : AllPlain held = subst AllPlain asked.held_is (all_whole-plain xs (length operands)) in
      let same : contents held ≡ xs = ap contents (sym asked.held_is) ∙ contents-all_whole xs (length operands) (AllZip-long IsBoundedSetOf operands xs asked.admitted) in
      right-answer (set_on operation operands structure) typed news xs x before n differ asked.begins (fit-all operands xs asked.admitted) (fit-all operands (after_news news xs) asked.admitted_after)
      (subst (λ (ys : List DataSet). IsDraft {R = key_cmp} (λ key. false) [] (read_value operation rs ys) (read_value operation rs (after_news news ys)) ks n) same (noted plain))
      asked.result_is asked.count

-- an operator that is a set operator is well typed as one
typed-set : (o : Operator) → IsTyped o → (operation : SetOperation) → o.operator ≡ Set operation → IsTypedSet (set_on operation o.operands o.structure)
typed-set o typed operation is = record {
  structures = typed.structures;
  structure_is = typed.result;
  set = subst (λ (operator : DataSetOperator). TakesOperands (an_operator operator o.operands o.structure)) is typed.takes;
}

-- the draft in which the keys of all changes are noted ends in the right answer
pub right-for-all : (o : Operator) → IsTyped o → (operation : SetOperation) → o.operator ≡ Set operation → (held : List Holding) (news : List Changes) (before : ℕ) (n : SetDraft) (answer : Result Changes Stop) → IfSome (answer_of answer) (λ a. a ≡ finished before n)
    → All Differs news → (AllPlain held → IsNoted operation (readings_of o.operands o.structure) held news (all_keys_read (readings_of o.operands o.structure) news) n)
    → IsRightAnswer (AreOperands o.operands) (meaning_of o) (wanted_of o) held news before answer
right-for-all o typed operation is held news before n answer ends differ noted =
    subst (λ (operator : DataSetOperator). IsRightAnswer (AreOperands o.operands) (meaning_of (an_operator operator o.operands o.structure)) (wanted_of o) held news before answer) (sym is)
    (IsRightAnswer-finished (AreOperands o.operands) (meaning_of (operator_on operation o.operands o.structure)) (wanted_of o) held news before answer n ends (asked-right operation o.operands o.structure (typed-set o typed operation is) held news before n differ noted))

-- ---- steps

pub few-steps : (m n c before now : ℕ) → m ≡ n → now ≤ before + 2 * m * c → now ≤ before + 4 * n * c
few-steps m n c before now same h = let own : now ≤ before + 2 * n * c = subst (λ k. now ≤ before + 2 * k * c) same h in omega (arith, own)
