-- What the changes of both operands come to, as the rule finds them by their numbers.
use Rattle.std.proofs.Common.{◌≡◌, ℕ, List, [], ◌∷◌, map, length, get_or, Bool, true, false, if◌then◌else◌, Result, sym, ap, subst, ◌∙◌}
use Rattle.std.specs.Arc.{arc_value}
use Rattle.std.specs.Option.{IfSome}
use Rattle.std.specs.declared.sync.Arc.{Arc}
use Rattle.std.specs.declared.alloc.Global.{Global}
use Rattle.std.proofs.lemmas.List.{length-map}
use Rattle.std.proofs.Math.ListN.{get_or-map}
use Rattle.data_model.specs.Deltas.{Differs}
use Rattle.data_model.specs.Drafts.{finished}
use Rattle.data_set_trees.specs.checked.Operators.{Operator}
use Rattle.operator_meaning.specs.Operators.{meaning_of, AreOperands}
use Rattle.point_sets.specs.Changes.{Changes}
use Rattle.point_sets.specs.declared.delta.Delta.{Delta}
use Rattle.held_index.specs.Holdings.{Holding, IsPlain}
use Rattle.held_index.specs.Rules.{answer_of, IsRightAnswer}
use Rattle.held_index.specs.declared.stop.Stop.{Stop}
use Rattle.held_index.specs.Wants.{in_parts, whole}
use Rattle.held_index.specs.declared.want.Want.{Want}
use Rattle.held_index.proofs.WantLemmas.{whole-plain}
use Rattle.operator_meaning.specs.pairs.Pairs.{PairOn, is_left_main}
use Rattle.pair_eval.specs.Plans.{partner_numbers}
use Rattle.pair_ops.specs.Rules.{main_number, pair_in, partner_number, wanted_of, wants_on}
use Rattle.pair_ops.proofs.Asked.{IsOfTwo, drafted, right_answer, wanted-pair}
use Rattle.pair_ops.proofs.ReachLemmas.{Within, all_within}

plain_other : (t : Bool) (numbers : List ℕ) (w : Want) → w ≡ get_or (if t then in_parts 0 numbers ∷ whole 1 ∷ [] else whole 0 ∷ in_parts 1 numbers ∷ []) (if t then 1 else 0) w → IsPlain w
plain_other true numbers w is = subst IsPlain (sym is) (whole-plain 1)
plain_other false numbers w is = subst IsPlain (sym is) (whole-plain 0)

-- h is held of the main operand and g of the other one, and a and b are their news
module _ (o : Operator) (two : IsOfTwo o) (plan : PairOn) (planned : plan ≡ pair_in o) (held : List Holding) (wants : map (λ (x : Holding). x.want) held ≡ wanted_of o) (news : List (Arc Delta Global))
    (h g : Holding) (a b : Arc Delta Global) (m k : ℕ) (m_is : m ≡ main_number plan) (k_is : k ≡ partner_number plan)
    (h_is : h ≡ get_or held m h) (g_is : g ≡ get_or held k g) (a_is : a ≡ get_or news m a) (b_is : b ≡ get_or news k b) where
  main_is : m ≡ main_number (pair_in o)
  main_is = m_is ∙ ap main_number planned

  partner_is : k ≡ partner_number (pair_in o)
  partner_is = k_is ∙ ap partner_number planned

  all_wanted : map (λ (x : Holding). x.want) held ≡ wants_on (pair_in o)
  all_wanted = wants ∙ wanted-pair o two

  main_held : h ≡ get_or held (main_number (pair_in o)) h
  main_held = h_is ∙ ap (λ n. get_or held n h) main_is

  partner_held : g ≡ get_or held (partner_number (pair_in o)) g
  partner_held = g_is ∙ ap (λ n. get_or held n g) partner_is

  news-at : (i j : ℕ) (c : Arc Delta Global) → i ≡ j → c ≡ get_or news i c → arc_value c ≡ get_or (map arc_value news) j (arc_value c)
  news-at i j c at is = ap arc_value is ∙ sym (get_or-map arc_value news i c) ∙ ap (λ n. get_or (map arc_value news) n (arc_value c)) at

  -- the other operand is held whole
  pub plain : IsPlain g.want
  plain =
      plain_other (is_left_main (pair_in o)) (partner_numbers (pair_in o)) g.want
      (ap (λ (x : Holding). x.want) partner_held ∙ sym (get_or-map (λ (x : Holding). x.want) held (partner_number (pair_in o)) g) ∙ ap (λ (ws : List Want). get_or ws (partner_number (pair_in o)) g.want) all_wanted)

  pub within : length news ≡ 2 → Within o.operands (main_number (pair_in o)) held (map arc_value news) h (arc_value a) (arc_value b)
  within long =
      all_within o two held (map arc_value news) h (arc_value a) (arc_value b) all_wanted (length-map news arc_value ∙ long) main_held
      (news-at m (main_number (pair_in o)) a main_is a_is) (news-at k (partner_number (pair_in o)) b partner_is b_is)

  pub answers : (before : ℕ) → Differs (arc_value a) → (answer : Result Changes Stop) → IfSome (answer_of answer) (λ x. x ≡ finished before (drafted plan h g.content (arc_value a) (arc_value b))) → IsRightAnswer (AreOperands o.operands) (meaning_of o) (wanted_of o) held (map arc_value news) before answer
  answers before differs answer ends =
      right_answer o two held (map arc_value news) before h g (arc_value a) (arc_value b) differs main_held partner_held
      (news-at m (main_number (pair_in o)) a main_is a_is) (news-at k (partner_number (pair_in o)) b partner_is b_is)
      answer (subst (λ (p : PairOn). IfSome (answer_of answer) (λ x. x ≡ finished before (drafted p h g.content (arc_value a) (arc_value b)))) planned ends)
