-- The definitions worked on small maps.
use Rattle.std.proofs.Common.{T, map, ◌≡◌, ℕ, ◌+◌, List, [], ◌∷◌, Some, None, false, sym, ◌∙◌, ap, refl, subst, inl, inr, option_and_then}
use Rattle.std.specs.Prelude.{count_by, nat_eq, nat_lt}
use Rattle.std.proofs.lemmas.Bool.{cases_Bool}
use Rattle.std.specs.Ordering.{nat_cmp, eq_by_cmp}
use Rattle.std.specs.Cmp.{nat_cmp_total}
use Rattle.data_model.proofs.EntryLemmas.{entries-from_entries}
use Rattle.std.specs.FinMap.{is_sorted, values, FinMap, get, nat_cmp-IsAntisymmetric, same_map, find, get-from_entries, len, gets}
use Rattle.std.specs.Option.{option_or, option_zip}
use Rattle.data_model.specs.Maps.{union, matched, made_at}
use Rattle.data_model.specs.Deltas.{Pair, DeltaOf, Leads, LeadsAt, after, composed_change, apply, composed, gained, lost, is_gain, is_loss}
use Rattle.data_model.specs.Outcomes.{made, range_at, outcome}
use Rattle.data_model.specs.Examples.{points, changes, sum_of}
use Rattle.data_model.proofs.MapLemmas.{get-matched, get-key_by_key, get-union, tied}
use Rattle.data_model.proofs.DeltaLemmas.{get-apply, get-composed, Leads-by_key}

get-points : (es : List (ℕ × ℕ)) (q : ℕ) → get (points es) q ≡ find nat_cmp q es
get-points es q = get-from_entries nat_cmp_total es q

get-changes : (es : List (ℕ × Pair ℕ)) (q : ℕ) → get (changes es) q ≡ find nat_cmp q es
get-changes es q = get-from_entries nat_cmp_total es q

get-sum_of : (m n : FinMap nat_cmp ℕ) (q : ℕ) → get (sum_of m n) q ≡ option_and_then (λ p. Some (p.0 + p.1)) (option_zip (get m q) (get n q))
get-sum_of m n q = get-key_by_key nat_cmp_total nat_cmp-IsAntisymmetric (λ k p. Some (p.0 + p.1)) (matched m n) q ∙ ap (option_and_then (λ p. Some (p.0 + p.1))) (get-matched nat_cmp_total nat_cmp-IsAntisymmetric m n q)

get-union_of : (m n : FinMap nat_cmp ℕ) (q : ℕ) → get (union m n) q ≡ option_or (get m q) (get n q)
get-union_of = get-union nat_cmp_total nat_cmp-IsAntisymmetric

get-applied : (d : DeltaOf nat_cmp ℕ) (m : FinMap nat_cmp ℕ) (q : ℕ) → get (apply d m) q ≡ after (get d q) (get m q)
get-applied = get-apply nat_cmp_total nat_cmp-IsAntisymmetric

get-composed_of : (d e : DeltaOf nat_cmp ℕ) (q : ℕ) → get (composed nat_eq d e) q ≡ composed_change nat_eq (get d q) (get e q)
get-composed_of = get-composed nat_cmp_total nat_cmp-IsAntisymmetric nat_eq

ruleset looks = (get-points, get-changes, get-sum_of, get-union_of, get-applied, get-composed_of)

-- what holds at three keys and at each other one
at_three : (a b c : ℕ) (P : ℕ → Type 0) → P a → P b → P c → ((q : ℕ) → eq_by_cmp nat_cmp q a ≡ false → eq_by_cmp nat_cmp q b ≡ false → eq_by_cmp nat_cmp q c ≡ false → P q) → (q : ℕ) → P q
at_three a b c P at_a at_b at_c others q = elim (cases_Bool (eq_by_cmp nat_cmp q a)) [
  | inl is_a ↦ subst P (sym (tied nat_cmp_total nat_cmp-IsAntisymmetric q a is_a)) at_a
  | inr not_a ↦ elim (cases_Bool (eq_by_cmp nat_cmp q b)) [
    | inl is_b ↦ subst P (sym (tied nat_cmp_total nat_cmp-IsAntisymmetric q b is_b)) at_b
    | inr not_b ↦ elim (cases_Bool (eq_by_cmp nat_cmp q c)) [
      | inl is_c ↦ subst P (sym (tied nat_cmp_total nat_cmp-IsAntisymmetric q c is_c)) at_c
      | inr not_c ↦ others q not_a not_b not_c
    ]
  ]
]

abbrev SameAt : {X : Type 0} → FinMap nat_cmp X → FinMap nat_cmp X → ℕ → Type 0
SameAt m n q = get m q ≡ get n q

-- maps that have the same at three keys and at each other one
same_by_three : {X : Type 0} (a b c : ℕ) (m n : FinMap nat_cmp X) → SameAt m n a → SameAt m n b → SameAt m n c → ((q : ℕ) → eq_by_cmp nat_cmp q a ≡ false → eq_by_cmp nat_cmp q b ≡ false → eq_by_cmp nat_cmp q c ≡ false → SameAt m n q) → m ≡ n
same_by_three a b c m n at_a at_b at_c others = same_map nat_cmp_total nat_cmp-IsAntisymmetric m n (at_three a b c (SameAt m n) at_a at_b at_c others)

-- one key of two is common
pub sum_of-points : sum_of (points ((1, 10) ∷ (2, 20) ∷ [])) (points ((2, 5) ∷ (3, 7) ∷ [])) ≡ points ((2, 25) ∷ [])
sum_of-points = same_by_three 1 2 3 _ _ (simp looks) (simp looks) (simp looks) (λ q a b c. simp looks (rw (a, b) refl))

-- at a common key the point of the left one
pub union-points : union (points ((1, 10) ∷ (2, 20) ∷ [])) (points ((2, 5) ∷ (3, 7) ∷ [])) ≡ points ((1, 10) ∷ (2, 20) ∷ (3, 7) ∷ [])
union-points = same_by_three 1 2 3 _ _ (simp looks) (simp looks) (simp looks) (λ q a b c. simp looks (rw (a, b, c) refl))

-- one point changes, one goes, one comes
pub apply-changes : apply (changes ((1, (Some 10, Some 11)) ∷ (2, (Some 20, None)) ∷ (3, (None, Some 30)) ∷ [])) (points ((1, 10) ∷ (2, 20) ∷ [])) ≡ points ((1, 11) ∷ (3, 30) ∷ [])
apply-changes = same_by_three 1 2 3 _ _ (simp looks) (simp looks) (simp looks) (λ q a b c. simp looks (rw (a, b, c) refl))

pub Leads-changes : Leads (changes ((1, (Some 10, Some 11)) ∷ (2, (Some 20, None)) ∷ (3, (None, Some 30)) ∷ [])) (points ((1, 10) ∷ (2, 20) ∷ [])) (points ((1, 11) ∷ (3, 30) ∷ []))
Leads-changes = Leads-by_key nat_cmp_total nat_cmp-IsAntisymmetric _ _ _ (at_three 1 2 3 (λ q. LeadsAt (get (changes ((1, (Some 10, Some 11)) ∷ (2, (Some 20, None)) ∷ (3, (None, Some 30)) ∷ [])) q) (get (points ((1, 10) ∷ (2, 20) ∷ [])) q) (get (points ((1, 11) ∷ (3, 30) ∷ [])) q))
    (simp looks (refl, refl, λ e. cc)) (simp looks (refl, refl, λ e. cc)) (simp looks (refl, refl, λ e. cc)) (λ q a b c. simp looks (rw (a, b, c) refl)))

-- the first key comes back to its point, and isn't in the delta
pub composed-changes : composed nat_eq (changes ((1, (Some 10, Some 11)) ∷ (2, (None, Some 20)) ∷ [])) (changes ((1, (Some 11, Some 10)) ∷ (2, (Some 20, Some 21)) ∷ (3, (Some 30, None)) ∷ [])) ≡ changes ((2, (None, Some 21)) ∷ (3, (Some 30, None)) ∷ [])
composed-changes = same_by_three 1 2 3 _ _ (simp looks) (simp looks) (simp looks) (λ q a b c. simp looks (rw (a, b, c) refl))

values-changes : (cs : List (ℕ × Pair ℕ)) → T (is_sorted nat_cmp cs) → values (changes cs) ≡ map (λ c. c.1) cs
values-changes cs sorted = ap (map (λ c. c.1)) (entries-from_entries nat_cmp_total nat_cmp-IsAntisymmetric cs sorted)

-- two points come, one goes
pub gained-changes : gained (changes ((1, (Some 10, Some 11)) ∷ (2, (Some 20, None)) ∷ (3, (None, Some 30)) ∷ (4, (None, Some 40)) ∷ [])) ≡ 2
gained-changes = ap (count_by is_gain) (values-changes ((1, (Some 10, Some 11)) ∷ (2, (Some 20, None)) ∷ (3, (None, Some 30)) ∷ (4, (None, Some 40)) ∷ []) tt)

pub lost-changes : lost (changes ((1, (Some 10, Some 11)) ∷ (2, (Some 20, None)) ∷ (3, (None, Some 30)) ∷ (4, (None, Some 40)) ∷ [])) ≡ 1
lost-changes = ap (count_by is_loss) (values-changes ((1, (Some 10, Some 11)) ∷ (2, (Some 20, None)) ∷ (3, (None, Some 30)) ∷ (4, (None, Some 40)) ∷ []) tt)

-- of two evaluations out of range the one at the lesser key counts
pub outcome-range : outcome {R = nat_cmp} (1 ∷ 3 ∷ 2 ∷ []) (λ k. nat_lt 1 k) (1 ∷ 3 ∷ 2 ∷ []) (λ k. Some k) ≡ range_at 2
unfolding outcome
outcome-range = refl

len-points : len (points ((1, 1) ∷ (2, 2) ∷ [])) ≡ 2
len-points = simp gets

-- and if none is, the map
pub outcome-made : outcome {R = nat_cmp} (1 ∷ 3 ∷ 2 ∷ []) (λ k. nat_lt 3 k) (1 ∷ 2 ∷ []) (λ k. Some k) ≡ made (points ((1, 1) ∷ (2, 2) ∷ []))
unfolding outcome made_at
outcome-made = rw len-points refl
