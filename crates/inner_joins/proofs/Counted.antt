-- The steps of all operands' changes are within the reach, which for what is held of data sets is that of matching.
use Rattle.std.proofs.Common.{◌≡◌, ℕ, zero, suc, ◌+◌, ◌-◌, ◌*◌, ◌<◌, ◌≤◌, ◌++◌, ◌⊎◌, List, [], ◌∷◌, map, zip, length, get_or, Bool, true, false, cond, Option, Some, option_map, unwrap_or, refl, sym, ap, subst, ◌∙◌, inl, inr, add-one, nat_eq, nat_lt, arith}
use Rattle.std.specs.Prelude.{find}
use Rattle.std.specs.List.{All, range_with_len, sum_by}
use Rattle.std.specs.FinMap.{empty, keys, len}
use Rattle.std.proofs.Math.Nat.{mul-le-mul_left}
use Rattle.std.proofs.lemmas.Bool.{cases_eq, cases_lt, eq-eqb, ltb-true, ne_eqb}
use Rattle.std.proofs.lemmas.List.{map-append, nil_from_length}
use Rattle.std.proofs.lemmas.List.Elements.{All-head, All-map, All-tail}
use Rattle.std.proofs.lemmas.List.Sums.{sum_by-cons}
use Rattle.vtl_values.specs.declared.structure.Component.{Component}
use Rattle.point_sets.specs.Changes.{Changes}
use Rattle.point_sets.specs.DataSets.{DataSet}
use Rattle.held_index.specs.Holdings.{Holding, contents, holding_of, operand}
use Rattle.held_index.specs.Reach.{changes_in}
use Rattle.held_index.specs.Wants.{whole}
use Rattle.operator_meaning.specs.joins.Joins.{JoinOn}
use Rattle.join_eval.specs.Plans.{structure_of}
use Rattle.pair_ops.specs.Noted.{walk_steps}
use Rattle.pair_ops.specs.Reach.{NamedValue, held_of, main_points, matching_reach, met_keys, named_values, pairs_with}
use Rattle.pair_ops.proofs.Agree.{walk-within}
use Rattle.inner_joins.specs.Noted.{held_for, news_of}
use Rattle.inner_joins.specs.Reach.{inner_reach, pairs_of, steps_for}
use Rattle.inner_joins.specs.Rules.{main_number, number_at, others_of, parts_for, place_of, wants_on, IsInnerOn}
use Rattle.inner_joins.proofs.Keys.{main-apart, main-includes, main-within}
use Rattle.inner_joins.proofs.Places.{length-others, number-other, others-each, parts-content, place-below}

-- ---- the steps of an operand's changes

walk-few : (n w l p : ℕ) → w ≤ l + 2 * p → (n + 1) * w ≤ (2 * n + 2) * (l + p)
walk-few n w l p h = let most : (n + 1) * w ≤ (n + 1) * (l + 2 * p) = mul-le-mul_left (n + 1) h in omega (arith, most)

pub partner-steps : (j : JoinOn) → IsInnerOn j → (held : List Holding) (news : List Changes) (number : ℕ) → number < length j.operands → (before now : ℕ)
    → now ≤ before + (length j.operands + 1) * walk_steps (held_for j held number) (keys (news_of number news)) → now ≤ before + steps_for j held news number
partner-steps j on held news number within before now h =
    let walk = walk-within (structure_of j (main_number j)) (structure_of j number) (held_for j held number) (news_of (main_number j) news) (main-apart j on) (main-includes j on number within) refl (news_of number news) in
    let few = walk-few (length j.operands) (walk_steps (held_for j held number) (keys (news_of number news))) (len (news_of number news)) (pairs_of j held news number) walk in
    omega (arith, h, few)

-- one point more in a part, and one part more
pub point-more : (n k c before now next : ℕ) → k < c → now ≤ before + (1 + (2 * n + 2) * k) → next ≤ now + (2 * n + 2) → next ≤ before + (n + 1) * (1 + 2 * c)
point-more n k c before now next within h g =
    let more : (2 * n + 2) * (k + 1) ≤ (2 * n + 2) * c = mul-le-mul_left (2 * n + 2) (let le : k + 1 ≤ c = omega (arith, within) in le) in
    omega (arith, more, h, g)

-- all points of a part
pub point-end : (n k c before now : ℕ) → k ≤ c → now ≤ before + (1 + (2 * n + 2) * k) → now ≤ before + (n + 1) * (1 + 2 * c)
point-end n k c before now within h = let more : (2 * n + 2) * k ≤ (2 * n + 2) * c = mul-le-mul_left (2 * n + 2) within in omega (arith, more, h)

pub part-more : (n done cost whole before now next : ℕ) → done + cost ≤ whole → now ≤ before + (n + 1) * done → next ≤ now + (n + 1) * cost → next ≤ before + (n + 1) * whole
part-more n done cost whole before now next within h g =
    let more : (n + 1) * (done + cost) ≤ (n + 1) * whole = mul-le-mul_left (n + 1) within in
    omega (arith, more, h, g)

-- ---- sums over numbers

sum-same : (f g : ℕ → ℕ) (a n : ℕ) → ((k : ℕ) → k < a + n → f k ≡ g k) → sum_by f (range_with_len a n) ≡ sum_by g (range_with_len a n)
sum-same f g a zero same = refl
sum-same f g a (suc n) same =
    let here = same a (omega arith) in
    let later = sum-same f g (a + 1) n (λ k below. same k (omega (arith, below))) in
    sum_by-cons f a (range_with_len (a + 1) n) ∙ (λ i. here i + later i) ∙ sym (sum_by-cons g a (range_with_len (a + 1) n))

sum-later : (f : ℕ → ℕ) (a n : ℕ) → sum_by f (range_with_len (a + 1) n) ≡ sum_by (λ k. f (suc k)) (range_with_len a n)
sum-later f a zero = refl
sum-later f a (suc n) =
    sum_by-cons f (a + 1) (range_with_len (a + 1 + 1) n)
    ∙ (λ i. f (add-one a i) + sum-later f (a + 1) n i)
    ∙ sym (sum_by-cons (λ k. f (suc k)) a (range_with_len (a + 1) n))

module _ (c : ℕ) (g : List Component → Changes → ℕ) where
  abbrev cost : List (List Component) → List Changes → ℕ → ℕ
  cost ss ds number = c * (len (get_or ds number empty) + g (get_or ss number []) (get_or ds number empty))

  both-more : (l m p q all : ℕ) → all ≡ c * (m + q) → c * (l + p) + all ≡ c * ((l + m) + (p + q))
  both-more l m p q all e = rw e (omega arith)

  -- number by number is list by list
  sum-zipped : (ss : List (List Component)) (ds : List Changes) → length ds ≡ length ss → sum_by (cost ss ds) (range_with_len 0 (length ss)) ≡ c * (changes_in ds + sum_by (λ p. g p.0 p.1) (zip ss ds))
  sum-zipped [] [] long = omega arith
  sum-zipped [] (d ∷ ds) long = absurd (omega (arith, long))
  sum-zipped (s ∷ ss) [] long = absurd (omega (arith, long))
  sum-zipped (s ∷ ss) (d ∷ ds) long =
      let rest = sum-zipped ss ds (omega (arith, long)) in
      let lens = sum_by-cons len d ds in
      let pairs = sum_by-cons (λ (p : List Component × Changes). g p.0 p.1) (s, d) (zip ss ds) in
      sum_by-cons (cost (s ∷ ss) (d ∷ ds)) 0 (range_with_len (0 + 1) (length ss))
      ∙ ap (λ n. c * (len d + g s d) + n) (sum-later (cost (s ∷ ss) (d ∷ ds)) 0 (length ss))
      ∙ both-more (len d) (changes_in ds) (g s d) (sum_by (λ p. g p.0 p.1) (zip ss ds)) (sum_by (cost ss ds) (range_with_len 0 (length ss))) rest
      ∙ (λ i. c * (sym lens i + sym pairs i))

-- ---- the main operand, as it is held

found-after : {A : Type 0} (p : A → Bool) (xs ys : List A) → All (λ x. p x ≡ false) xs → find p (xs ++ ys) ≡ find p ys
found-after p [] ys all = refl
found-after p (x ∷ xs) ys all = ap (λ b. cond b (Some x) (find p (xs ++ ys))) (All-head (λ x. p x ≡ false) x xs all) ∙ found-after p xs ys (All-tail (λ x. p x ≡ false) x xs all)

abbrev content_of : Option Holding → DataSet
content_of found = unwrap_or (option_map (λ h. h.content) found) empty

module _ (j : JoinOn) (there : main_number j < length j.operands) (xs : List DataSet) where
  abbrev held : List Holding
  held = map (holding_of xs) (wants_on j)

  abbrev is_main : Holding → Bool
  is_main h = nat_eq h.want.operand (main_number j)

  main-first : (os : List ℕ) → 0 < length os → content_of (find is_main (map (holding_of xs) (map (parts_for j) os))) ≡ operand (main_number j) xs
  main-first [] some = absurd (omega (arith, some))
  main-first (o ∷ os) some =
      ap (λ b. content_of (cond b (Some (holding_of xs (parts_for j o))) (find is_main (map (holding_of xs) (map (parts_for j) os))))) (eq-eqb (main_number j) (main_number j) refl)

  others-fail : All (λ h. is_main h ≡ false) (map (holding_of xs) (map whole (others_of j)))
  others-fail =
      All-map (λ h. is_main h ≡ false) (holding_of xs) (map whole (others_of j))
      (All-map (λ w. nat_eq w.operand (main_number j) ≡ false) whole (others_of j)
      (others-each j (λ number. nat_eq number (main_number j) ≡ false) (λ place within. ne_eqb (number_at (main_number j) place) (main_number j) (number-other (main_number j) place))))

  -- where there are others
  found-main : 0 < length j.operands - 1 → held_of (main_number j) held ≡ operand (main_number j) xs
  found-main some =
      ap (λ (hs : List Holding). content_of (find is_main hs)) (map-append (holding_of xs) (map whole (others_of j)) (map (parts_for j) (others_of j)))
      ∙ ap content_of (found-after is_main (map (holding_of xs) (map whole (others_of j))) (map (holding_of xs) (map (parts_for j) (others_of j))) others-fail)
      ∙ main-first (others_of j) (let many = length-others j in omega (arith, some, many))

  -- for itself it is held where there are others
  main-place : 0 < length j.operands - 1 → place_of (main_number j) (main_number j) < length j.operands - 1
  main-place some = by_test (nat_lt (main_number j) (main_number j)) refl
    where
      by_test : (b : Bool) → nat_lt (main_number j) (main_number j) ≡ b → cond b (main_number j) (main_number j - 1) < length j.operands - 1
      by_test true e = let never = ltb-true (main_number j) (main_number j) e in absurd (omega (arith, never))
      by_test false e = omega (arith, there, some)

  held-main : (number : ℕ) → number < length j.operands → 0 < length j.operands - 1 → (held_for j held number).content ≡ operand (main_number j) xs
  held-main number within some = by_number (cases_eq number (main_number j))
    where
      by_number : (number ≡ main_number j) ⊎ (number ≡ main_number j → ⊥) → (held_for j held number).content ≡ operand (main_number j) xs
      by_number (inl same) = parts-content j held xs refl (place_of (main_number j) number) (subst (λ n. place_of (main_number j) n < length j.operands - 1) (sym same) (main-place some))
      by_number (inr other) = parts-content j held xs refl (place_of (main_number j) number) (place-below (main_number j) number (length j.operands) there within other)

  -- nothing is held where there are none
  none-held : length j.operands - 1 ≡ 0 → held ≡ []
  none-held none =
      let no_other : others_of j ≡ [] = nil_from_length (others_of j) (length-others j ∙ none) in
      ap (λ (os : List ℕ). map (holding_of xs) (map whole os ++ map (parts_for j) os)) no_other

  -- however it is held, it is the same
  pub same-main : (number : ℕ) → number < length j.operands → (held_for j held number).content ≡ held_of (main_number j) held
  same-main number within = by_count (cases_lt 0 (length j.operands - 1))
    where
      by_count : (0 < length j.operands - 1) ⊎ (length j.operands - 1 ≤ 0) → (held_for j held number).content ≡ held_of (main_number j) held
      by_count (inl some) = held-main number within some ∙ sym (found-main some)
      by_count (inr few) =
          let none : held ≡ [] = none-held (omega (arith, few)) in
          ap (λ (hs : List Holding). operand ((length j.operands - 1) + place_of (main_number j) number) (contents hs)) none
          ∙ sym (ap (λ (hs : List Holding). content_of (find is_main hs)) none)

-- ---- the reach

pub matching : (j : JoinOn) (xs : List DataSet) (news : List Changes) → IsInnerOn j → length news ≡ length j.operands
    → inner_reach j (map (holding_of xs) (wants_on j)) news ≡ matching_reach j.operands (main_number j) (map (holding_of xs) (wants_on j)) news
matching j xs news on long =
    let held : List Holding = map (holding_of xs) (wants_on j) in
    let n : ℕ = length j.operands in
    let points : List (List NamedValue) = main_points j.operands (main_number j) held news in
    let same : (number : ℕ) → number < 0 + n → steps_for j held news number ≡ cost (2 * n + 2) (pairs_with points) j.operands news number =
    λ number below. let within : number < n = omega (arith, below) in
    ap (λ (m : DataSet). (2 * n + 2) * (len (news_of number news) + pairs_with (map (named_values (structure_of j (main_number j))) (met_keys m (news_of (main_number j) news))) (structure_of j number) (news_of number news)))
    (same-main j (main-within j on) xs number within) in
    sum-same (steps_for j held news) (cost (2 * n + 2) (pairs_with points) j.operands news) 0 n same
    ∙ sum-zipped (2 * n + 2) (pairs_with points) j.operands news long
