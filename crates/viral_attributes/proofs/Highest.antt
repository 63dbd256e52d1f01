-- The first place of a value with the highest rank, and how it is found from the left.
use Rattle.std.proofs.Common.{◌≡◌, ℕ, zero, suc, ◌+◌, ◌<◌, ◌≤◌, Bool, true, false, ◌&&◌, if◌then◌else◌, List, [], ◌∷◌, length, Option, Some, None, get_or, take, MatchOption, ◌++◌, ◌⊎◌, ◌↔◌, All, Contains, IsNone, nat_eq, true≢false, nat_lt, nat_le, slice_index_or, refl, sym, ap, subst, ◌∙◌, add-one, inl, inr, ⊎_elim, cond, arith}
use Rattle.std.proofs.Math.Bool.{and-false}
use Rattle.std.proofs.lemmas.Bool.{cases_lt, lt-ltb}
use Rattle.std.proofs.lemmas.Bool.Decides.{nat_tests}
use Rattle.std.proofs.lemmas.List.Sums.{position_or_len_is, list_all-from_AllPass, fold_more, fold-append, fails_before_first}
use Rattle.std.proofs.lemmas.List.Folds.{list_all_at}
use Rattle.std.proofs.lemmas.List.{get_or_default, take_all}
use Rattle.std.specs.List.{list_all, fold, position_or_len}
use Rattle.std.specs.Cmp.Lexicographic.{pointwise, nat_list_eq_equiv}
use Rattle.std.specs.Option.{option_map_or}
use Rattle.vtl_values.specs.declared.value.Value.{Value}
use Rattle.vtl_values.specs.declared.value.Value.TheVariants.{Null, Truth, Integer, Number, Text}
use Rattle.viral_attributes.specs.Combination.{IsCodeOrNull, rank, is_highest, place_of_highest, combined, IsTheHighest, CombinesInParts}

-- among the first n values, the first place of the highest rank above null, and that rank
pub record IsBest (codes : List (List ℕ)) (values : List Value) (n : ℕ) (place : Option ℕ) (top : ℕ) : Type 0 where
  pub below : (k : ℕ) → k < n → rank codes (get_or values k Null) ≤ top
  pub first : MatchOption place (top ≡ 0) (λ i. (i < n) × (0 < top) × (rank codes (get_or values i Null) ≡ top) × ((k : ℕ) → k < i → rank codes (get_or values k Null) < top))

pub best_none : (codes : List (List ℕ)) (values : List Value) → IsBest codes values 0 None 0
best_none codes values = record { below = λ k h. absurd (omega arith); first = refl }

-- what holds of each place below n, and of n, holds of each below n + 1
below_next : (P : ℕ → Type 0) (n : ℕ) → ((k : ℕ) → k < n → P k) → P n → (k : ℕ) → k < n + 1 → P k
below_next P n below here k h = ⊎_elim (λ (l : k < n). below k l) (λ (l : n ≤ k). let e : n ≡ k = omega arith in subst P e here) (cases_lt k n)

still_first : (codes : List (List ℕ)) (values : List Value) (n : ℕ) (place : Option ℕ) (top : ℕ)
    → MatchOption place (top ≡ 0) (λ i. (i < n) × (0 < top) × (rank codes (get_or values i Null) ≡ top) × ((k : ℕ) → k < i → rank codes (get_or values k Null) < top))
    → MatchOption place (top ≡ 0) (λ i. (i < n + 1) × (0 < top) × (rank codes (get_or values i Null) ≡ top) × ((k : ℕ) → k < i → rank codes (get_or values k Null) < top))
still_first codes values n None top h = h
still_first codes values n (Some i) top h = (omega (arith, h.0), h.1, h.2, h.3)

-- a value of no higher rank changes nothing
pub best_passed : (codes : List (List ℕ)) (values : List Value) (n : ℕ) (place : Option ℕ) (top : ℕ) → rank codes (get_or values n Null) ≤ top → IsBest codes values n place top → IsBest codes values (n + 1) place top
best_passed codes values n place top passed best = record {
  below = below_next (λ k. rank codes (get_or values k Null) ≤ top) n best.below passed;
  first = still_first codes values n place top best.first;
}

-- a value of a higher rank is the best from there on
pub best_more : (codes : List (List ℕ)) (values : List Value) (n : ℕ) (place : Option ℕ) (top more : ℕ) → more ≡ rank codes (get_or values n Null) → top < more → IsBest codes values n place top → IsBest codes values (n + 1) (Some n) more
best_more codes values n place top more here above best = record {
  below = below_next (λ k. rank codes (get_or values k Null) ≤ more) n (λ k h. omega (arith, best.below k h)) (omega arith);
  first = (omega arith, omega arith, sym here, λ k h. omega (arith, best.below k h));
}

-- a value that another passes isn't the highest
passed_by : (codes : List (List ℕ)) (values : List Value) (i : ℕ) (value : Value) → i < length values → rank codes value < rank codes (get_or values i Null) → is_highest codes values value ≡ false
passed_by codes values i value within lower =
    let passed : nat_le (rank codes (get_or values i Null)) (rank codes value) ≡ false = grind (arith, nat_tests) in
    ap (λ b. nat_lt 0 (rank codes value) && b) (list_all_at (λ other. nat_le (rank codes other) (rank codes value)) values i Null within passed)
    ∙ and-false (nat_lt 0 (rank codes value))

-- a value above null that none passes is
passed_by_none : (codes : List (List ℕ)) (values : List Value) (value : Value) → 0 < rank codes value → ((k : ℕ) → k < length values → rank codes (get_or values k Null) ≤ rank codes value) → is_highest codes values value ≡ true
passed_by_none codes values value above none =
    let all : list_all (λ other. nat_le (rank codes other) (rank codes value)) values ≡ true = list_all-from_AllPass (λ other. nat_le (rank codes other) (rank codes value)) values (λ k d within.
    let lower : rank codes (get_or values k d) ≤ rank codes value = rw (get_or_default values k d Null within) (none k within) in
    grind (arith, nat_tests)) in
    ap (λ b. b && list_all (λ other. nat_le (rank codes other) (rank codes value)) values) (lt-ltb 0 (rank codes value) above) ∙ all

-- nor is a null
null_is_not : (codes : List (List ℕ)) (values : List Value) (value : Value) → rank codes value ≤ 0 → is_highest codes values value ≡ false
null_is_not codes values value low =
    let off : nat_lt 0 (rank codes value) ≡ false = grind (arith, nat_tests) in
    ap (λ b. b && list_all (λ other. nat_le (rank codes other) (rank codes value)) values) off

place_at : (codes : List (List ℕ)) (values : List Value) (i : ℕ) → i ≤ length values → ((k : ℕ) → k < i → is_highest codes values (get_or values k Null) ≡ false) → (i < length values → is_highest codes values (get_or values i Null) ≡ true) → place_of_highest codes values ≡ cond (nat_lt i (length values)) (Some i) None
place_at codes values i within before here = ap (λ n. cond (nat_lt n (length values)) (Some n) None) (position_or_len_is (is_highest codes values) values i Null within before here)

-- what is best among all values stands where the highest does
pub best_is : (codes : List (List ℕ)) (values : List Value) (place : Option ℕ) (top : ℕ) → IsBest codes values (length values) place top → place ≡ place_of_highest codes values
best_is codes values None top best =
    let end : nat_lt (length values) (length values) ≡ false = grind (arith, nat_tests) in
    sym (place_at codes values (length values) (omega arith) (λ k h. null_is_not codes values (get_or values k Null) (omega (arith, best.below k h, best.first))) (λ h. absurd (omega arith))
    ∙ ap (λ b. cond b (Some (length values)) None) end)
best_is codes values (Some i) top best =
    sym (place_at codes values i (omega (arith, best.first.0))
    (λ k h. passed_by codes values i (get_or values k Null) best.first.0 (omega (arith, best.first.3 k h, best.first.2)))
    (λ _. passed_by_none codes values (get_or values i Null) (omega (arith, best.first.1, best.first.2)) (λ k h. omega (arith, best.below k h, best.first.2)))
    ∙ ap (λ b. cond b (Some i) None) (lt-ltb i (length values) best.first.0))

-- of two values the one of higher rank, the first where they have equal ranks
abbrev pub higher : List (List ℕ) → Value → Value → Value
higher codes a b = if nat_lt (rank codes a) (rank codes b) then b else a

-- the best that stand at a place
abbrev value_at : List Value → Option ℕ → Value
value_at values place = option_map_or (λ i. slice_index_or values i Null) place Null

-- some value is best, and it is the values' highest one after another
pub record HasBest (codes : List (List ℕ)) (values : List Value) (n : ℕ) : Type 0 where
  pub place : Option ℕ
  pub best : IsBest codes values n place (rank codes (value_at values place))
  pub folded : value_at values place ≡ fold (higher codes) Null (take n values)

has_best_more : (codes : List (List ℕ)) (values : List Value) (n : ℕ) → n < length values → HasBest codes values n → HasBest codes values (n + 1)
has_best_more codes values n within had =
    let folded : fold (higher codes) Null (take (n + 1) values) ≡ higher codes (value_at values had.place) (get_or values n Null) =
    fold_more (higher codes) Null values n Null within ∙ ap (λ v. higher codes v (get_or values n Null)) (sym had.folded) in
    ⊎_elim
    (λ (above : rank codes (value_at values had.place) < rank codes (get_or values n Null)). record {
      place = Some n;
      best = best_more codes values n had.place (rank codes (value_at values had.place)) (rank codes (get_or values n Null)) refl above had.best;
      folded = sym (folded ∙ ap (λ b. cond b (get_or values n Null) (value_at values had.place)) (lt-ltb (rank codes (value_at values had.place)) (rank codes (get_or values n Null)) above));
    })
    (λ (passed : rank codes (get_or values n Null) ≤ rank codes (value_at values had.place)). record {
      place = had.place;
      best = best_passed codes values n had.place (rank codes (value_at values had.place)) passed had.best;
      folded = sym (folded ∙ let stays : nat_lt (rank codes (value_at values had.place)) (rank codes (get_or values n Null)) ≡ false = grind (arith, nat_tests) in ap (λ b. cond b (get_or values n Null) (value_at values had.place)) stays);
    })
    (cases_lt (rank codes (value_at values had.place)) (rank codes (get_or values n Null)))

has_best_upto : (codes : List (List ℕ)) (values : List Value) (n : ℕ) → n ≤ length values → HasBest codes values n
has_best_upto codes values zero within = record { place = None; best = best_none codes values; folded = refl }
has_best_upto codes values (suc n) within = subst (HasBest codes values) (add-one n) (has_best_more codes values n (omega arith) (has_best_upto codes values n (omega arith)))

-- the combination is the values' highest one after another
pub combined-fold : (codes : List (List ℕ)) (values : List Value) → combined codes values ≡ fold (higher codes) Null values
combined-fold codes values =
    let had = has_best_upto codes values (length values) (omega arith) in
    ap (value_at values) (sym (best_is codes values had.place (rank codes (value_at values had.place)) had.best))
    ∙ had.folded ∙ ap (fold (higher codes) Null) (take_all (length values) values (omega arith))

best_among : (codes : List (List ℕ)) (values : List Value) (place : Option ℕ) (top : ℕ) → IsBest codes values (length values) place top → (value_at values place ≡ Null) ⊎ Contains values (value_at values place)
best_among codes values None top best = inl refl
best_among codes values (Some i) top best = inr (i, best.first.0, get_or_default values i (get_or values i Null) Null best.first.0)

-- the combination is null or one of the values, and none of them is higher
pub combined-IsTheHighest : (codes : List (List ℕ)) (values : List Value) → IsTheHighest codes values (combined codes values)
combined-IsTheHighest codes values =
    let had = has_best_upto codes values (length values) (omega arith) in
    let same : value_at values had.place ≡ combined codes values = ap (value_at values) (best_is codes values had.place (rank codes (value_at values had.place)) had.best) in
    subst (IsTheHighest codes values) same (record {
      among = best_among codes values had.place (rank codes (value_at values had.place)) had.best;
      none_higher = λ k d within. rw (get_or_default values k d Null within) (had.best.below k within);
    })

higher_lt : (codes : List (List ℕ)) (a b : Value) → rank codes a < rank codes b → higher codes a b ≡ b
higher_lt codes a b h = ap (λ t. cond t b a) (lt-ltb (rank codes a) (rank codes b) h)

higher_le : (codes : List (List ℕ)) (a b : Value) → rank codes b ≤ rank codes a → higher codes a b ≡ a
higher_le codes a b h = let off : nat_lt (rank codes a) (rank codes b) ≡ false = grind (arith, nat_tests) in ap (λ t. cond t b a) off

higher_assoc : (codes : List (List ℕ)) (a b c : Value) → higher codes (higher codes a b) c ≡ higher codes a (higher codes b c)
higher_assoc codes a b c = ⊎_elim
    (λ (l : rank codes a < rank codes b). ap (λ v. higher codes v c) (higher_lt codes a b l) ∙ ⊎_elim
    (λ (m : rank codes b < rank codes c). higher_lt codes b c m ∙ sym (ap (higher codes a) (higher_lt codes b c m) ∙ higher_lt codes a c (omega arith)))
    (λ (m : rank codes c ≤ rank codes b). higher_le codes b c m ∙ sym (ap (higher codes a) (higher_le codes b c m) ∙ higher_lt codes a b l))
    (cases_lt (rank codes b) (rank codes c)))
    (λ (l : rank codes b ≤ rank codes a). ap (λ v. higher codes v c) (higher_le codes a b l) ∙ ⊎_elim
    (λ (m : rank codes b < rank codes c). sym (ap (higher codes a) (higher_lt codes b c m)))
    (λ (m : rank codes c ≤ rank codes b). higher_le codes a c (omega arith) ∙ sym (ap (higher codes a) (higher_le codes b c m) ∙ higher_le codes a b l))
    (cases_lt (rank codes b) (rank codes c)))
    (cases_lt (rank codes a) (rank codes b))

higher_from : (codes : List (List ℕ)) (a : Value) (values : List Value) → fold (higher codes) a values ≡ higher codes a (fold (higher codes) Null values)
higher_from codes a [] = sym (higher_le codes a Null (omega arith))
higher_from codes a (v ∷ values) =
    let rest : Value = fold (higher codes) Null values in
    higher_from codes (higher codes a v) values
    ∙ ap (λ w. higher codes (higher codes w v) rest) (sym (higher_le codes a Null (omega arith)))
    ∙ ap (λ w. higher codes w rest) (higher_assoc codes a Null v)
    ∙ higher_assoc codes a (higher codes Null v) rest
    ∙ ap (higher codes a) (sym (higher_from codes (higher codes Null v) values))

-- values combine to the same in parts
pub combined-append : (codes : List (List ℕ)) → CombinesInParts codes
combined-append codes xs ys =
    combined-fold codes (xs ++ ys)
    ∙ fold-append (higher codes) Null xs ys
    ∙ higher_from codes (fold (higher codes) Null xs) ys
    ∙ ap (λ v. higher codes v (fold (higher codes) Null ys)) (higher_from codes Null xs)
    ∙ (λ i. higher codes (higher codes Null (sym (combined-fold codes xs) i)) (sym (combined-fold codes ys) i))
    ∙ sym (combined-fold codes (combined codes xs ∷ combined codes ys ∷ []))

-- a listed code stands above null
listed_above : (codes : List (List ℕ)) (code : List ℕ) → Contains codes code → rank codes (Text code) ≤ 0 → ⊥
listed_above codes code listed low =
    let p : List ℕ → Bool = λ x. pointwise nat_eq x code in ⊎_elim
    (λ (h : position_or_len p codes < length codes).
    let is : rank codes (Text code) ≡ suc (position_or_len p codes) = ap (λ b. option_map_or suc (cond b (Some (position_or_len p codes)) None) 0) (lt-ltb (position_or_len p codes) (length codes) h) in
    absurd (omega arith))
    (λ (h : length codes ≤ position_or_len p codes).
    let fails : p (get_or codes listed.0 code) ≡ false = fails_before_first p codes listed.0 code (omega (arith, listed.1)) in
    true≢false (sym (nat_list_eq_equiv.refl code) ∙ ap p (sym listed.2) ∙ fails))
    (cases_lt (position_or_len p codes) (length codes))

-- so null alone has null's rank
null_from_rank : (codes : List (List ℕ)) (value : Value) → IsCodeOrNull codes value → rank codes value ≤ 0 → value ≡ Null
null_from_rank codes Null is low = refl
null_from_rank codes (Truth b) is low = absurd is
null_from_rank codes (Integer n) is low = absurd is
null_from_rank codes (Number d) is low = absurd is
null_from_rank codes (Text code) is low = absurd (listed_above codes code is low)

-- there is no best exactly where all are null
pub none_exactly : (codes : List (List ℕ)) (values : List Value) (place : Option ℕ) (top : ℕ) → All (IsCodeOrNull codes) values → IsBest codes values (length values) place top → IsNone place ↔ All (λ value. value ≡ Null) values
none_exactly codes values None top are best = (λ _ k d within. null_from_rank codes (get_or values k d) (are k d within) (rw (get_or_default values k d Null within) (omega (arith, best.below k within, best.first))), λ _. refl)
none_exactly codes values (Some i) top are best = (λ (h : IsNone (Some i)). cc, λ nulls. absurd (let low : rank codes (get_or values i Null) ≡ 0 = ap (rank codes) (nulls i Null best.first.0) in omega (arith, best.first.1, best.first.2)))
