-- There is one outcome, and `outcome` computes it.
use Rattle.std.proofs.Common.{◌≡◌, ◌≢◌, ◌<◌, ◌≤◌, ℕ, List, [], ◌∷◌, Option, Some, None, Bool, true, false, sym, ◌∙◌, ap, refl, subst, inl, inr, ◌||◌, arith, nat_le}
use Rattle.std.proofs.lemmas.Bool.{cases_Bool}
use Rattle.std.proofs.lemmas.Bool.Decides.{nat_tests}
use Rattle.std.specs.declared.cmp.Ordering.{Ordering}
use Rattle.std.specs.declared.cmp.Ordering.TheVariants.{Less, Equal, Greater}
use Rattle.std.specs.Ordering.{is_lt, eq_by_cmp, ordering_reverse}
use Rattle.std.specs.Cmp.{IsTotalOrder, tied_itself}
use Rattle.std.specs.FinMap.{empty, len-empty, FinMap, get, len, IsAntisymmetric, same_map}
use Rattle.data_model.specs.Maps.{is_listed, made_at}
use Rattle.data_model.specs.Outcomes.{Made, Range, TooMany, Outcome, settled, lesser, least, IsLeast, IsLeastListed, Covers, made, range_at, outcome, IsResult, IsOutcome}
use Rattle.data_model.proofs.MapLemmas.{made_at-nothing, tied, get-made_at_all}
use Rattle.data_model.proofs.DeltaLemmas.{contradicted}
use Rattle.data_model.specs.declared.TheConstants.{POINT_LIMIT}

less : (r : Ordering) → is_lt r ≡ true → r ≡ Less
less Less p = refl
less Equal p = cc
less Greater p = cc

in_rest : (b c : Bool) → b ≡ false → (b || c) ≡ true → c ≡ true
in_rest true c s t = cc
in_rest false c s t = t

-- ---- the least key

pub IsLeastListed-along : {K : Type 0} (R : K → K → Ordering) (p p' : K → Bool) (ks : List K) (r : Option K) → ((k : K) → p' k ≡ p k) → IsLeastListed R p ks r → IsLeastListed R p' ks r
IsLeastListed-along R p p' ks None e h = λ j i. e j ∙ h j i
IsLeastListed-along R p p' ks (Some k) e h = (e k ∙ h.0, λ j i t. h.1 j i (sym (e j) ∙ t))

module _ {K : Type 0} {R : K → K → Ordering} (o : IsTotalOrder R) (exact : IsAntisymmetric R) where
  -- no key is below one that it ties with
  pub not_below_tied : (j k : K) → j ≡ k → R j k ≢ Less
  not_below_tied j k e h = let t : R j k ≡ Equal = subst (λ i. R j i ≡ Equal) e (tied_itself o j) in cc

  -- of two keys one at most is below the other
  pub not_both_below : (j k : K) → R j k ≡ Less → R k j ≢ Less
  not_both_below j k e f = not_below_tied j j refl (o.trans j k j e f)

  -- what isn't below i isn't below k, where i isn't below k
  pub not_below : (j k i : K) → R j i ≢ Less → R i k ≢ Less → R j k ≢ Less
  not_below j k i f g e = elim (R i k) as (λ r. R i k ≡ r → ⊥) [
    | Less ↦ λ p. g p
    | Equal ↦ λ p. f (subst (λ t. R j t ≡ Less) (sym (exact i k p)) e)
    | Greater ↦ λ p. f (o.trans j k i e (o.antisymm k i ∙ ap ordering_reverse p))
  ] refl

  -- two keys neither of which is below the other are equal
  pub neither_below : (j k : K) → R j k ≢ Less → R k j ≢ Less → j ≡ k
  neither_below j k f g = elim (R j k) as (λ r. R j k ≡ r → j ≡ k) [
    | Less ↦ λ p. absurd (f p)
    | Equal ↦ λ p. exact j k p
    | Greater ↦ λ p. absurd (g (o.antisymm k j ∙ ap ordering_reverse p))
  ] refl

  -- there is one least key
  pub IsLeast-unique : (p : K → Bool) (j k : K) → IsLeast R p j → IsLeast R p k → j ≡ k
  IsLeast-unique p j k h g = neither_below j k (g.lowest j h.passes) (h.lowest k g.passes)

  -- the list js has the key k, and the keys of ks
  abbrev pub HasOneMore : List K → K → List K → Type 0
  HasOneMore ks k js = (q : K) → is_listed R js q ≡ (eq_by_cmp R q k || is_listed R ks q)

  -- one key more that doesn't pass
  pub IsLeastListed-fails : (p : K → Bool) (k : K) (ks js : List K) (r : Option K) → HasOneMore ks k js → p k ≡ false → IsLeastListed R p ks r → IsLeastListed R p js r
  IsLeastListed-fails p k ks js None more pk h = λ j i. elim (cases_Bool (eq_by_cmp R j k)) [
    | inl yes' ↦ ap p (tied o exact j k yes') ∙ pk
    | inr no' ↦ h j (in_rest _ _ no' (sym (more j) ∙ i))
  ]
  IsLeastListed-fails p k ks js (Some l) more pk h = (
    h.0,
    λ j i pj. elim (cases_Bool (eq_by_cmp R j k)) [
      | inl yes' ↦ contradicted (p j) pj (ap p (tied o exact j k yes') ∙ pk)
      | inr no' ↦ h.1 j (in_rest _ _ no' (sym (more j) ∙ i)) pj
    ],
  )

  -- one key more that passes
  pub IsLeastListed-passes : (p : K → Bool) (k : K) (ks js : List K) (r : Option K) → HasOneMore ks k js → p k ≡ true → IsLeastListed R p ks r → IsLeastListed R p js (Some (lesser R k r))
  IsLeastListed-passes p k ks js None more pk h = (
    pk,
    λ j i pj. elim (cases_Bool (eq_by_cmp R j k)) [
      | inl yes' ↦ not_below_tied j k (tied o exact j k yes')
      | inr no' ↦ contradicted (p j) pj (h j (in_rest _ _ no' (sym (more j) ∙ i)))
    ],
  )
  IsLeastListed-passes p k ks js (Some l) more pk h = elim (cases_Bool (is_lt (R l k))) [
    | inl low ↦ rw low (
      h.0,
      λ j i pj. elim (cases_Bool (eq_by_cmp R j k)) [
        | inl yes' ↦ subst (λ t. R t l ≢ Less) (sym (tied o exact j k yes')) (not_both_below l k (less _ low))
        | inr no' ↦ h.1 j (in_rest _ _ no' (sym (more j) ∙ i)) pj
      ],
    )
    | inr high ↦ rw high (
      pk,
      λ j i pj. elim (cases_Bool (eq_by_cmp R j k)) [
        | inl yes' ↦ not_below_tied j k (tied o exact j k yes')
        | inr no' ↦ not_below j k l (h.1 j (in_rest _ _ no' (sym (more j) ∙ i)) pj) (λ e. contradicted (is_lt (R l k)) (ap is_lt e) high)
      ],
    )
  ]

  -- `least` is the least of the listed keys that pass
  pub least-is : (p : K → Bool) (ks : List K) → IsLeastListed R p ks (least R p ks)
  least-is p [] = λ j i. cc
  least-is p (k ∷ ks) = elim (cases_Bool (p k)) [
    | inl yes' ↦ rw yes' (IsLeastListed-passes p k ks (k ∷ ks) _ (λ q. refl) yes' (least-is p ks))
    | inr no' ↦ rw no' (IsLeastListed-fails p k ks (k ∷ ks) _ (λ q. refl) no' (least-is p ks))
  ]

  -- and of all keys, where no other passes
  pub IsLeast-listed : (p : K → Bool) (ks : List K) (k : K) → ((j : K) → is_listed R ks j ≡ false → p j ≡ false) → IsLeastListed R p ks (Some k) → IsLeast R p k
  IsLeast-listed p ks k covers h = record {
    passes = h.0;
    lowest = λ j pj. elim (cases_Bool (is_listed R ks j)) [
      | inl yes' ↦ h.1 j yes' pj
      | inr no' ↦ contradicted (p j) pj (covers j no')
    ];
  }

  pub none_passes-listed : (p : K → Bool) (ks : List K) → ((j : K) → is_listed R ks j ≡ false → p j ≡ false) → IsLeastListed R p ks None → (j : K) → p j ≡ false
  none_passes-listed p ks covers h j = elim (cases_Bool (is_listed R ks j)) [
    | inl yes' ↦ h j yes'
    | inr no' ↦ covers j no'
  ]

-- ---- the outcome

module _ {K X : Type 0} {R : K → K → Ordering} (o : IsTotalOrder R) (exact : IsAntisymmetric R) where
  -- a result is the outcome, or has too many points
  pub IsOutcome-result : (beyond : K → Bool) (value : K → Option X) (m : FinMap R X) (points : ℕ) → points ≡ len m → IsResult beyond value m → IsOutcome beyond value (settled None points m)
  IsOutcome-result beyond value m points e h = elim (cases_Bool (nat_le points POINT_LIMIT)) [
    | inl yes' ↦ rw yes' (h, grind (arith, nat_tests, yes', e))
    | inr no' ↦ rw no' (m, h, grind (arith, nat_tests, no', e))
  ]

  settled-is : (evaluated : List K) (beyond : K → Bool) (keys : List K) (value : K → Option X) → Covers R evaluated beyond keys value → (r : Option K) → IsLeastListed R beyond evaluated r → (m : FinMap R X) → ((k : K) → get m k ≡ value k) → IsOutcome beyond value (settled r (len m) m)
  settled-is evaluated beyond keys value covers None h m has = IsOutcome-result beyond value m (len m) refl record { in_range = none_passes-listed o exact beyond evaluated covers.evaluations h; values = has }
  settled-is evaluated beyond keys value covers (Some k) h m has = IsLeast-listed o exact beyond evaluated k covers.evaluations h

  -- `outcome` is the outcome
  pub outcome-is : (evaluated : List K) (beyond : K → Bool) (keys : List K) (value : K → Option X) → Covers R evaluated beyond keys value → IsOutcome {R = R} beyond value (outcome evaluated beyond keys value)
  unfolding outcome
  outcome-is evaluated beyond keys value covers = settled-is evaluated beyond keys value covers (least R beyond evaluated) (least-is o exact beyond evaluated) (made_at keys value) (get-made_at_all o exact keys value covers.points)

  IsResult-unique : (beyond : K → Bool) (value : K → Option X) (m n : FinMap R X) → IsResult beyond value m → IsResult beyond value n → m ≡ n
  IsResult-unique beyond value m n h g = same_map o exact m n (λ q. h.values q ∙ sym (g.values q))

  not_in_range : {A : Type 0} (beyond : K → Bool) (value : K → Option X) (m : FinMap R X) (k : K) → IsResult beyond value m → IsLeast R beyond k → A
  not_in_range beyond value m k h g = contradicted (beyond k) g.passes (h.in_range k)

  few_and_many : {A : Type 0} (beyond : K → Bool) (value : K → Option X) (m n : FinMap R X) → IsResult beyond value m → IsResult beyond value n → len m ≤ POINT_LIMIT → POINT_LIMIT < len n → A
  few_and_many beyond value m n h g few many = let e = ap len (IsResult-unique beyond value m n h g) in absurd (omega (arith, few, many))

  -- there is one outcome
  pub IsOutcome-unique : (beyond : K → Bool) (value : K → Option X) (p q : Outcome R X) → IsOutcome beyond value p → IsOutcome beyond value q → p ≡ q
  IsOutcome-unique beyond value (Made m) (Made n) h g = ap Made (IsResult-unique beyond value m n h.0 g.0)
  IsOutcome-unique beyond value (Made m) (Range j) h g = not_in_range beyond value m j h.0 g
  IsOutcome-unique beyond value (Made m) TooMany h g = few_and_many beyond value m g.0 h.0 g.1 h.1 g.2
  IsOutcome-unique beyond value (Range j) (Made n) h g = not_in_range beyond value n j g.0 h
  IsOutcome-unique beyond value (Range j) (Range k) h g = ap range_at (IsLeast-unique o exact beyond j k h g)
  IsOutcome-unique beyond value (Range j) TooMany h g = not_in_range beyond value g.0 j g.1 h
  IsOutcome-unique beyond value TooMany (Made n) h g = few_and_many beyond value n h.0 g.0 h.1 g.1 h.2
  IsOutcome-unique beyond value TooMany (Range k) h g = not_in_range beyond value h.0 k h.1 g
  IsOutcome-unique beyond value TooMany TooMany h g = refl

  -- the outcome depends on the evaluations and the values alone
  pub IsOutcome-along : (beyond beyond' : K → Bool) (value value' : K → Option X) (p : Outcome R X) → ((k : K) → beyond' k ≡ beyond k) → ((k : K) → value' k ≡ value k) → IsOutcome beyond value p → IsOutcome beyond' value' p
  IsOutcome-along beyond beyond' value value' (Made m) e f h = (record { in_range = λ k. e k ∙ h.0.in_range k; values = λ k. h.0.values k ∙ sym (f k) }, h.1)
  IsOutcome-along beyond beyond' value value' (Range k) e f h = record { passes = e k ∙ h.passes; lowest = λ j t. h.lowest j (sym (e j) ∙ t) }
  IsOutcome-along beyond beyond' value value' TooMany e f h = (h.0, record { in_range = λ k. e k ∙ h.1.in_range k; values = λ k. h.1.values k ∙ sym (f k) }, h.2)

  -- what is the outcome in words is what `outcome` gives
  pub outcome-of : (evaluated : List K) (beyond : K → Bool) (keys : List K) (value : K → Option X) (p : Outcome R X) → Covers R evaluated beyond keys value → IsOutcome beyond value p → outcome evaluated beyond keys value ≡ p
  outcome-of evaluated beyond keys value p covers h = IsOutcome-unique beyond value _ p (outcome-is evaluated beyond keys value covers) h

  -- an operator that is evaluated nowhere and has no keys has an empty result
  pub outcome-nothing : (beyond : K → Bool) (value : K → Option X) → outcome {R = R} [] beyond [] value ≡ made empty
  unfolding outcome
  outcome-nothing beyond value = rw (made_at-nothing R value, len-empty R X) refl
