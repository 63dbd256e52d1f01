-- The answer of a rule is right, whichever operands it is asked for.
use Rattle.std.proofs.Common.{◌≡◌, ℕ, List, [], ◌∷◌, ◌++◌, ◌+◌, ◌≤◌, map, length, get_or, Result, sym, ap, subst, ◌∙◌, arith}
use Rattle.std.specs.Prelude.{filter_map}
use Rattle.std.specs.Option.{IfSome}
use Rattle.std.specs.List.{All}
use Rattle.std.specs.BTreeMap.{BTreeMap}
use Rattle.std.specs.FinMap.{entries, keys, len}
use Rattle.std.proofs.lemmas.List.Elements.{All-head, All-tail}
use Rattle.vtl_values.specs.Structures.{IsStructure}
use Rattle.vtl_values.specs.declared.kind.Role.TheVariants.{Viral}
use Rattle.vtl_values.specs.declared.structure.Component.{Component}
use Rattle.vtl_values.specs.declared.value.Value.{Value}
use Rattle.vtl_syntax.specs.declared.words.ExistsRows.{ExistsRows}
use Rattle.data_model.specs.Answers.{IsRight}
use Rattle.data_model.specs.Deltas.{BeginsAt, apply}
use Rattle.data_model.specs.Drafts.{finished}
use Rattle.point_sets.specs.DataSets.{DataSet}
use Rattle.point_sets.specs.Changes.{Changes}
use Rattle.structured_sets.specs.Fitting.{IsSetOf}
use Rattle.data_set_trees.specs.clauses.Frames.{numbers_of}
use Rattle.data_set_trees.specs.Exists.{common_agree, exists_structure}
use Rattle.data_set_trees.specs.declared.tree.DataSetOperator.{DataSetOperator}
use Rattle.data_set_trees.specs.declared.tree.DataSetOperator.TheVariants.{ExistsIn}
use Rattle.data_set_trees.specs.checked.Operators.{Operator, IsTyped, IsTypedExists, TakesOperands, an_operator}
use Rattle.operator_meaning.specs.Operators.{meaning_of, AreOperands}
use Rattle.held_index.specs.Drafts.{SetDraft}
use Rattle.held_index.specs.Holdings.{Holding}
use Rattle.held_index.specs.Rules.{answer_of, after_news, AreAsked, IsRightAnswer}
use Rattle.held_index.specs.declared.stop.Stop.{Stop}
use Rattle.held_index.specs.declared.want.Want.{Want}
use Rattle.held_index.proofs.Rules.{IsRightAnswer-finished}
use Rattle.held_index.specs.Wants.{in_parts}
use Rattle.operator_meaning.specs.exists.Exists.{ExistsOn, exists_on, exists_meaning}
use Rattle.operator_meaning.specs.exists.Typed.{IsTypedExistsOn}
use Rattle.exists_ops.specs.Parts.{AreShifts, left_want, right_numbers, right_want, shared_number}
use Rattle.exists_ops.specs.Noted.{IsFor, IsNoted}
use Rattle.exists_ops.specs.Rules.{both, operator_of, wanted_of, IsExists}
use Rattle.pair_ops.specs.Reach.{matching_reach}
use Rattle.exists_ops.specs.Walked.{walked, cost}
use Rattle.exists_ops.specs.declared.parts.Shift.{Shift}
use Rattle.exists_ops.specs.declared.told.Told.{Told}
use Rattle.exists_ops.proofs.Noting.{right-answer}
use Rattle.exists_ops.proofs.NumberLemmas.{shared-numbers}
use Rattle.exists_ops.proofs.ReachLemmas.{cost-within}

-- ---- two of each

pub two-in : {X : Type 0} (xs : List X) (p q : X) → length xs ≡ 2 → p ≡ get_or xs 0 p → q ≡ get_or xs 1 q → p ∷ q ∷ [] ≡ xs
two-in [] p q l e f = absurd (omega arith)
two-in (x ∷ []) p q l e f = absurd (omega arith)
two-in (x ∷ y ∷ []) p q l e f = λ i. e i ∷ f i ∷ []
two-in (x ∷ y ∷ z ∷ zs) p q l e f = absurd (omega arith)

-- the two that are held, with their wants
pub held-two : (hs : List Holding) (h k : Holding) (v w : Want) → map (λ (t : Holding). t.want) hs ≡ v ∷ w ∷ [] → h ≡ get_or hs 0 h → k ≡ get_or hs 1 k → (h ∷ k ∷ [] ≡ hs) × (h.want ≡ v) × (k.want ≡ w)
held-two [] h k v w all e f = cc
held-two (x ∷ []) h k v w all e f = cc
held-two (x ∷ y ∷ []) h k v w all e f =
    let first : x.want ≡ v = cc in
    let second : y.want ≡ w = cc in
    ((λ i. e i ∷ f i ∷ []), ap (λ (t : Holding). t.want) e ∙ first, ap (λ (t : Holding). t.want) f ∙ second)
held-two (x ∷ y ∷ z ∷ zs) h k v w all e f = cc

heads : {X : Type 0} (a b c d : X) → a ∷ b ∷ [] ≡ c ∷ d ∷ [] → (a ≡ c) × (b ≡ d)
heads a b c d e = (cc, cc)

-- ---- what the rule keeps

-- an operator `exists_in` that is well typed takes two operands
pub takes-two : (o : Operator) → IsTyped o → IsExists o.operator → IsTypedExists o.operands o.structure
takes-two o typed exists = subst (λ (operator : DataSetOperator). TakesOperands (an_operator operator o.operands o.structure)) exists.1 typed.takes

-- and is well typed on them, in the form in which the rule keeps it
pub typed-on : (o : Operator) → IsTyped o → (rows : ExistsRows) (l r s : List Component) → o.operator ≡ ExistsIn rows → l ∷ r ∷ [] ≡ o.operands → s ≡ o.structure → IsTyped (operator_of (exists_on rows l r s))
typed-on o typed rows l r s is operands structure = subst (λ (q : Operator). IsTyped q) (λ i. an_operator (is i) (sym operands i) (sym structure i)) typed

pub typed-two : (e : ExistsOn) → IsTyped (operator_of e) → IsTypedExistsOn e
typed-two e typed =
    let takes : IsTypedExists (e.left ∷ e.right ∷ []) e.structure = typed.takes in
    let same = heads e.left e.right takes.left takes.right takes.two in
    record {
      left_is = All-head IsStructure e.left (e.right ∷ []) typed.structures;
      right_is = All-head IsStructure e.right [] (All-tail IsStructure e.left (e.right ∷ []) typed.structures);
      structure_is = typed.result;
      kinds_agree = (λ i. common_agree (same.0 i) (same.1 i)) ∙ takes.kinds_match;
      is_first = takes.gives ∙ ap exists_structure (sym same.0);
    }

pub wants-built : (rows : ExistsRows) (l r s ours theirs : List Component) (n m : List ℕ) → ours ≡ l → theirs ≡ r → n ≡ filter_map (shared_number ours ours) theirs → m ≡ filter_map (shared_number theirs ours) theirs → in_parts 0 n ∷ in_parts 1 m ∷ [] ≡ both (exists_on rows l r s)
wants-built rows l r s ours theirs n m own its first second =
    let e = exists_on rows l r s in
    let one = first ∙ (λ i. filter_map (shared_number (own i) (own i)) (its i)) ∙ shared-numbers e l in
    let two = second ∙ (λ i. filter_map (shared_number (its i) (own i)) (its i)) ∙ shared-numbers e r in
    λ i. in_parts 0 (one i) ∷ in_parts 1 (two i) ∷ []

-- ---- the steps

pub within-reach : (e : ExistsOn) (o : Operator) → operator_of e ≡ o → IsTypedExistsOn e → (hs : List Holding) (h k : Holding) → map (λ (t : Holding). t.want) hs ≡ wanted_of o → h ≡ get_or hs 0 h → k ≡ get_or hs 1 k → (ds : List Changes) (d f : Changes) → d ∷ f ∷ [] ≡ ds
    → (shifts : BTreeMap (List Value) Shift) → AreShifts (right_numbers e) (entries f) shifts → len d + cost h shifts.entries ≤ matching_reach o.operands 0 hs ds
within-reach e o view typed hs h k wants first second ds d f news shifts kept =
    let held = held-two hs h k (left_want e) (right_want e) (wants ∙ sym (ap wanted_of view)) first second in
    let within = cost-within e typed h k d f held.1 shifts kept in
    let reach : matching_reach (operator_of e).operands 0 (h ∷ k ∷ []) (d ∷ f ∷ []) ≡ matching_reach o.operands 0 hs ds = λ i. matching_reach (view i).operands 0 (held.0 i) (news i) in
    omega (arith, within, reach)

-- ---- the answer

module _ (e : ExistsOn) (told : Told) (h k : Holding) (d f : Changes) (shifts : BTreeMap (List Value) Shift) (before : ℕ) (n : SetDraft)
    (typed : IsTypedExistsOn e) (rows_are : told.rows ≡ e.rows) (virals_are : told.virals ≡ numbers_of Viral e.left) (left_held : h.want ≡ left_want e) (right_held : k.want ≡ right_want e)
    (kept : AreShifts (right_numbers e) (entries f) shifts) (noted : IsFor e told h k d f → IsNoted e h.content k.content d f (keys d ++ walked h k shifts.entries) n) where
  asked-right : (xs : List DataSet) (x : DataSet) → AreAsked (AreOperands (operator_of e).operands) (meaning_of (operator_of e)) (both e) (h ∷ k ∷ []) (d ∷ f ∷ []) before xs x → IsRight (meaning_of (operator_of e) (after_news (d ∷ f ∷ []) xs)) x (finished before n)
  asked-right [] x asked = absurd asked.admitted
  asked-right (a ∷ []) x asked = absurd asked.admitted.1
  asked-right (a ∷ b ∷ c ∷ xs) x asked = absurd asked.admitted.1.1
  asked-right (a ∷ b ∷ []) x asked =
      let first : record { want = left_want e; content = a } ≡ h = (heads _ _ h k asked.held_is).0 in
      let second : record { want = right_want e; content = b } ≡ k = (heads _ _ h k asked.held_is).1 in
      let left : a ≡ h.content = ap (λ (t : Holding). t.content) first in
      let right : b ≡ k.content = ap (λ (t : Holding). t.content) second in
      let for : IsFor e told h k d f = record {
        typed = typed;
        rows_are = rows_are;
        virals_are = virals_are;
        left_held = left_held;
        right_held = right_held;
        left_fits = subst (IsSetOf e.left) left asked.admitted.0.fits;
        left_fits_after = subst (λ (m : DataSet). IsSetOf e.left (apply d m)) left asked.admitted_after.0.fits;
        right_fits = subst (IsSetOf e.right) right asked.admitted.1.0.fits;
        right_fits_after = subst (λ (m : DataSet). IsSetOf e.right (apply f m)) right asked.admitted_after.1.0.fits;
        left_begins = subst (BeginsAt d) left asked.begins.0;
        right_begins = subst (BeginsAt f) right asked.begins.1.0;
      } in
      let made = (λ i. exists_meaning e (sym left i) (sym right i)) ∙ asked.result_is in
      let answer = right-answer e told h k d f for shifts kept x before n (noted for) made asked.count in
      subst (λ (m : DataSet). IsRight (exists_meaning e (apply d m) (apply f b)) x (finished before n)) (sym left)
      (subst (λ (m : DataSet). IsRight (exists_meaning e (apply d h.content) (apply f m)) x (finished before n)) (sym right) answer)

  pub right-for-all : (answer : Result Changes Stop) → IfSome (answer_of answer) (λ a. a ≡ finished before n) → IsRightAnswer (AreOperands (operator_of e).operands) (meaning_of (operator_of e)) (both e) (h ∷ k ∷ []) (d ∷ f ∷ []) before answer
  right-for-all answer ends = IsRightAnswer-finished (AreOperands (operator_of e).operands) (meaning_of (operator_of e)) (both e) (h ∷ k ∷ []) (d ∷ f ∷ []) before answer n ends asked-right
