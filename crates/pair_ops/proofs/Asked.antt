-- The finished draft is the right answer, whichever operands the rule is asked for.
use Rattle.std.proofs.Common.{◌≡◌, ℕ, List, [], ◌∷◌, map, length, get_or, Bool, true, false, if◌then◌else◌, Result, refl, sym, ap, subst, ◌∙◌}
use Rattle.std.specs.Prelude.{fold}
use Rattle.std.specs.List.{All}
use Rattle.std.specs.Option.{IfSome}
use Rattle.std.specs.FinMap.{entries}
use Rattle.std.proofs.lemmas.List.Elements.{All-head, All-tail}
use Rattle.vtl_values.specs.Structures.{IsStructure}
use Rattle.vtl_values.specs.declared.structure.Component.{Component}
use Rattle.data_model.specs.Answers.{IsRight}
use Rattle.data_model.specs.Deltas.{apply, BeginsAt, Differs}
use Rattle.data_model.specs.Drafts.{nothing, finished}
use Rattle.data_set_trees.specs.declared.clauses.clause.CheckedMeasure.{CheckedMeasure}
use Rattle.data_set_trees.specs.declared.tree.DataSetOperator.{DataSetOperator}
use Rattle.data_set_trees.specs.declared.tree.DataSetOperator.TheVariants.{Pair}
use Rattle.data_set_trees.specs.checked.Operators as checked
use Rattle.data_set_trees.specs.checked.Operators.{an_operator, Operator, IsTyped, TakesOperands}
use Rattle.operator_meaning.specs.Operators.{meaning_of, AreOperands}
use Rattle.point_sets.specs.Changes.{Changes}
use Rattle.point_sets.specs.DataSets.{DataSet}
use Rattle.structured_sets.specs.Fitting.{IsSetOf}
use Rattle.held_index.specs.Drafts.{SetDraft}
use Rattle.held_index.specs.Holdings.{Holding, holding_of}
use Rattle.held_index.specs.Rules.{SetOutcome, answer_of, after_news, AreAsked, IsRightAnswer}
use Rattle.held_index.specs.declared.stop.Stop.{Stop}
use Rattle.held_index.specs.Wants.{in_parts, whole}
use Rattle.held_index.specs.declared.want.Want.{Want}
use Rattle.held_index.proofs.Rules.{IsRightAnswer-finished}
use Rattle.operator_meaning.specs.pairs.Pairs.{PairOn, is_left_main, main, main_set, pair_meaning, partner_set}
use Rattle.operator_meaning.specs.pairs.Typed.{IsTypedPair, pair_on}
use Rattle.pair_eval.specs.Plans.{partner_numbers}
use Rattle.pair_ops.specs.Noted.{noted_main, noted_partner}
use Rattle.pair_ops.specs.Rules.{IsPair, main_number, pair_in, partner_number, wanted_of, wants_on}
use Rattle.pair_ops.proofs.Meetings.{left_of, right_of, right-draft}

-- ---- an operator on two operands

pub record IsOfTwo (o : Operator) : Type 0 where
  pub items : List CheckedMeasure
  pub left : List Component
  pub right : List Component
  pub is : o ≡ an_operator (Pair items) (left ∷ right ∷ []) o.structure
  pub typed : IsTypedPair (pair_on items left right o.structure)

-- an operator on a pair that is well typed is one
pub of_two : (o : Operator) → IsTyped o → IsPair o.operator → IsOfTwo o
of_two o typed pair =
    let takes : checked.IsTypedPair pair.0 o.operands o.structure = subst (λ (operator : DataSetOperator). TakesOperands (an_operator operator o.operands o.structure)) pair.1 typed.takes in
    let structures : All IsStructure (takes.left ∷ takes.right ∷ []) = subst (λ (ss : List (List Component)). All IsStructure ss) takes.two typed.structures in
    record {
      items = pair.0;
      left = takes.left;
      right = takes.right;
      is = λ i. an_operator (pair.1 i) (takes.two i) o.structure;
      typed = record {
        left_is = All-head IsStructure takes.left (takes.right ∷ []) structures;
        right_is = All-head IsStructure takes.right [] (All-tail IsStructure takes.left (takes.right ∷ []) structures);
        structure_is = typed.result;
        pair = takes.pair;
      };
    }

pub typed_in : (o : Operator) → IsOfTwo o → IsTypedPair (pair_in o)
typed_in o two = subst (λ (q : Operator). IsTypedPair (pair_in q)) (sym two.is) two.typed

pub two_operands : (o : Operator) → IsOfTwo o → length o.operands ≡ 2
two_operands o two = ap (λ (q : Operator). length q.operands) two.is

pub wanted-pair : (o : Operator) → IsOfTwo o → wanted_of o ≡ wants_on (pair_in o)
wanted-pair o two = ap wanted_of two.is ∙ ap (λ (q : Operator). wants_on (pair_in q)) (sym two.is)

-- ---- what is held and the news, by side

-- what a rule notes
abbrev pub drafted : PairOn → Holding → DataSet → Changes → Changes → SetDraft
drafted p h q d e = fold (noted_partner p h d) (fold (noted_main p q e) nothing (entries d)) (entries e)

module _ (numbers : List ℕ) (a b : DataSet) where
  abbrev wants_by : Bool → List Want
  wants_by t = if t then in_parts 0 numbers ∷ whole 1 ∷ [] else whole 0 ∷ in_parts 1 numbers ∷ []

  main_held : (t : Bool) (held : List Holding) (h : Holding) → map (holding_of (a ∷ b ∷ [])) (wants_by t) ≡ held → h ≡ get_or held (if t then 0 else 1) h → h ≡ record { want = in_parts (if t then 0 else 1) numbers; content = if t then a else b }
  main_held true held h is at = at ∙ ap (λ (hs : List Holding). get_or hs 0 h) (sym is)
  main_held false held h is at = at ∙ ap (λ (hs : List Holding). get_or hs 1 h) (sym is)

  partner_held : (t : Bool) (held : List Holding) (h : Holding) → map (holding_of (a ∷ b ∷ [])) (wants_by t) ≡ held → h ≡ get_or held (if t then 1 else 0) h → h.content ≡ (if t then b else a)
  partner_held true held h is at = ap (λ (x : Holding). x.content) (at ∙ ap (λ (hs : List Holding). get_or hs 1 h) (sym is))
  partner_held false held h is at = ap (λ (x : Holding). x.content) (at ∙ ap (λ (hs : List Holding). get_or hs 0 h) (sym is))

main_news : (t : Bool) (d e c : Changes) → c ≡ get_or (d ∷ e ∷ []) (if t then 0 else 1) c → c ≡ (if t then d else e)
main_news true d e c at = at
main_news false d e c at = at

partner_news : (t : Bool) (d e c : Changes) → c ≡ get_or (d ∷ e ∷ []) (if t then 1 else 0) c → c ≡ (if t then e else d)
partner_news true d e c at = at
partner_news false d e c at = at

left_back : (t : Bool) (a b : DataSet) → (if t then (if t then a else b) else (if t then b else a)) ≡ a
left_back true a b = refl
left_back false a b = refl

right_back : (t : Bool) (a b : DataSet) → (if t then (if t then b else a) else (if t then a else b)) ≡ b
right_back true a b = refl
right_back false a b = refl

left_after : (t : Bool) (d e : Changes) (a b : DataSet) → (if t then apply (if t then d else e) (if t then a else b) else apply (if t then e else d) (if t then b else a)) ≡ apply d a
left_after true d e a b = refl
left_after false d e a b = refl

right_after : (t : Bool) (d e : Changes) (a b : DataSet) → (if t then apply (if t then e else d) (if t then b else a) else apply (if t then d else e) (if t then a else b)) ≡ apply e b
right_after true d e a b = refl
right_after false d e a b = refl

-- ---- the answer

module _ (items : List CheckedMeasure) (l r structure : List Component) (typed : IsTypedPair (pair_on items l r structure)) (held : List Holding) (before : ℕ) (h g : Holding) (c k : Changes) (differs : Differs c) where
  abbrev p : PairOn
  p = pair_on items l r structure

  abbrev o : Operator
  o = an_operator (Pair items) (l ∷ r ∷ []) structure

  abbrev t : Bool
  t = is_left_main p

  abbrev Asked : List Changes → List DataSet → DataSet → Type 0
  Asked news xs x = AreAsked (AreOperands (l ∷ r ∷ [])) (meaning_of o) (wants_on p) held news before xs x

  on_two : (d e : Changes) (a b x : DataSet) → h ≡ get_or held (main_number p) h → g ≡ get_or held (partner_number p) g → c ≡ get_or (d ∷ e ∷ []) (main_number p) c → k ≡ get_or (d ∷ e ∷ []) (partner_number p) k
      → Asked (d ∷ e ∷ []) (a ∷ b ∷ []) x → IsRight (meaning_of o (after_news (d ∷ e ∷ []) (a ∷ b ∷ []))) x (finished before (drafted p h g.content c k))
  on_two d e a b x h_is g_is c_is k_is asked =
      let m : DataSet = main_set p a b in
      let q : DataSet = partner_set p a b in
      let own : Changes = if t then d else e in
      let other : Changes = if t then e else d in
      let w : Want = in_parts (main_number p) (partner_numbers p) in
      let c_own : c ≡ own = main_news t d e c c_is in
      let fit : IsSetOf (main p) m = elim t as (λ s. IsSetOf (if s then l else r) (if s then a else b)) [ true ↦ asked.admitted.0.fits | false ↦ asked.admitted.1.0.fits ] in
      let fit_after : IsSetOf (main p) (apply own m) = elim t as (λ s. IsSetOf (if s then l else r) (apply (if s then d else e) (if s then a else b))) [ true ↦ asked.admitted_after.0.fits | false ↦ asked.admitted_after.1.0.fits ] in
      let begins : BeginsAt own m = elim t as (λ s. BeginsAt (if s then d else e) (if s then a else b)) [ true ↦ asked.begins.0 | false ↦ asked.begins.1.0 ] in
      let partner_begins : BeginsAt other q = elim t as (λ s. BeginsAt (if s then e else d) (if s then b else a)) [ true ↦ asked.begins.1.0 | false ↦ asked.begins.0 ] in
      let drafts : drafted p h g.content c k ≡ drafted p (record { want = w; content = m }) q own other =
      λ i. drafted p (main_held (partner_numbers p) a b t held h asked.held_is h_is i) (partner_held (partner_numbers p) a b t held g asked.held_is g_is i) (c_own i) (partner_news t d e k k_is i) in
      let was : (let made : SetOutcome = pair_meaning p (left_of p m q) (right_of p m q) in made) ≡ pair_meaning p a b = λ i. pair_meaning p (left_back t a b i) (right_back t a b i) in
      let right = right-draft p m q own other typed fit fit_after begins partner_begins (subst (λ (n : Changes). Differs n) c_own differs) w refl x before (was ∙ asked.result_is) asked.count in
      subst (λ (n : SetDraft). IsRight (pair_meaning p (apply d a) (apply e b)) x (finished before n)) (sym drafts)
      (subst (λ (made : SetOutcome). IsRight made x (finished before (drafted p (record { want = w; content = m }) q own other))) (λ i. pair_meaning p (left_after t d e a b i) (right_after t d e a b i)) right)

  asked_right : (news : List Changes) → h ≡ get_or held (main_number p) h → g ≡ get_or held (partner_number p) g → c ≡ get_or news (main_number p) c → k ≡ get_or news (partner_number p) k
      → (xs : List DataSet) (x : DataSet) → Asked news xs x → IsRight (meaning_of o (after_news news xs)) x (finished before (drafted p h g.content c k))
  asked_right news h_is g_is c_is k_is [] x asked = absurd asked.admitted
  asked_right news h_is g_is c_is k_is (a ∷ []) x asked = absurd asked.admitted.1
  asked_right news h_is g_is c_is k_is (a ∷ b ∷ y ∷ ys) x asked = absurd asked.admitted.1.1
  asked_right [] h_is g_is c_is k_is (a ∷ b ∷ []) x asked = absurd asked.begins
  asked_right (d ∷ []) h_is g_is c_is k_is (a ∷ b ∷ []) x asked = absurd asked.begins.1
  asked_right (d ∷ e ∷ y ∷ ys) h_is g_is c_is k_is (a ∷ b ∷ []) x asked = absurd asked.begins.1.1
  asked_right (d ∷ e ∷ []) h_is g_is c_is k_is (a ∷ b ∷ []) x asked = on_two d e a b x h_is g_is c_is k_is asked

-- what finishes the draft of both operands' changes answers right
pub right_answer : (o : Operator) → IsOfTwo o → (held : List Holding) (news : List Changes) (before : ℕ) (h g : Holding) (c k : Changes) → Differs c
    → h ≡ get_or held (main_number (pair_in o)) h → g ≡ get_or held (partner_number (pair_in o)) g → c ≡ get_or news (main_number (pair_in o)) c → k ≡ get_or news (partner_number (pair_in o)) k
    → (answer : Result Changes Stop) → IfSome (answer_of answer) (λ a. a ≡ finished before (drafted (pair_in o) h g.content c k)) → IsRightAnswer (AreOperands o.operands) (meaning_of o) (wanted_of o) held news before answer
right_answer o two held news before h g c k differs h_is g_is c_is k_is answer ends =
    subst (λ (q : Operator). Right q) (sym two.is) by_structures h_is g_is c_is k_is ends
  where
    Right : Operator → Type 0
    Right q =
        h ≡ get_or held (main_number (pair_in q)) h → g ≡ get_or held (partner_number (pair_in q)) g → c ≡ get_or news (main_number (pair_in q)) c → k ≡ get_or news (partner_number (pair_in q)) k
        → IfSome (answer_of answer) (λ a. a ≡ finished before (drafted (pair_in q) h g.content c k)) → IsRightAnswer (AreOperands q.operands) (meaning_of q) (wanted_of q) held news before answer

    by_structures : Right (an_operator (Pair two.items) (two.left ∷ two.right ∷ []) o.structure)
    by_structures is_h is_g is_c is_k finishes =
        let q : Operator = an_operator (Pair two.items) (two.left ∷ two.right ∷ []) o.structure in
        IsRightAnswer-finished (AreOperands q.operands) (meaning_of q) (wanted_of q) held news before answer (drafted (pair_in q) h g.content c k) finishes
        (asked_right two.items two.left two.right o.structure two.typed held before h g c k differs news is_h is_g is_c is_k)
