-- What changes make of parts, one change after the other.
use Rattle.std.proofs.Common.{◌≡◌, ◌+◌, ◌<◌, ◌≤◌, ℕ, List, [], ◌∷◌, ◌++◌, map, take, length, get_or, Bool, true, false, cond, Option, Some, refl, sym, ap, subst, ◌∙◌, arith}
use Rattle.std.specs.Prelude.{filter, unwrap_or}
use Rattle.std.specs.List.{count_by, sum_by}
use Rattle.std.specs.Ordering.{eq_by_cmp, match_ordering}
use Rattle.std.specs.declared.cmp.Ordering.TheVariants.{Less, Equal, Greater}
use Rattle.std.specs.BTreeMap.{BTreeMap, get, insert_entry}
use Rattle.std.proofs.lemmas.List.{map-append, length-map, take_more}
use Rattle.std.proofs.lemmas.List.Elements.{filter-append}
use Rattle.std.proofs.lemmas.List.Sums.{sum_by-append, sum_by-cons}
use Rattle.std.proofs.Math.ListN.{get_or-map}
use Rattle.vtl_values.specs.declared.value.Value.{Value}
use Rattle.vtl_values.specs.Order.{key_cmp}
use Rattle.vtl_values.proofs.Values.{key_cmp-IsTotalOrder, key_cmp-IsAntisymmetric}
use Rattle.data_model.specs.Deltas.{Pair, is_gain, is_loss}
use Rattle.data_model.proofs.MapLemmas.{tied}
use Rattle.point_sets.specs.declared.delta.Change.{Change}
use Rattle.point_sets.specs.Changes.{change_entry}
use Rattle.exists_ops.specs.Parts.{Entries, key_part, is_in, changes_in, shift_in, no_shift, shift_at, AreShifts}
use Rattle.exists_ops.specs.declared.parts.Shift.{Shift}

abbrev Entry : Type 0
Entry = List Value × Pair (List Value)

-- ---- counts

one_more : {A : Type 0} (p : A → Bool) (xs : List A) (x : A) → count_by p (xs ++ x ∷ []) ≡ count_by p xs + cond (p x) 1 0
one_more p xs x =
    let one = sum_by-cons (λ y. cond (p y) 1 0) x [] in
    let all = sum_by-append (λ y. cond (p y) 1 0) xs (x ∷ []) in
    omega (arith, one, all)

-- the changes in a part, with one more
in-more : (numbers : List ℕ) (es : Entries) (c : Entry) (part : List Value) → changes_in numbers (es ++ c ∷ []) part ≡ cond (is_in numbers part c.0) (changes_in numbers es part ++ c.1 ∷ []) (changes_in numbers es part)
in-more numbers es c part =
    ap (map (λ (d : Entry). d.1)) (filter-append (λ (d : Entry). is_in numbers part d.0) es (c ∷ []))
    ∙ by_test (is_in numbers part c.0)
  where
    kept : Entries
    kept = filter (λ d. is_in numbers part d.0) es

    none : {A : Type 0} (xs : List A) → xs ++ [] ≡ xs
    none [] = refl
    none {A = A} (x ∷ xs) = ap (λ (ys : List A). x ∷ ys) (none xs)

    by_test : (b : Bool) → map (λ (d : Entry). d.1) (kept ++ cond b (c ∷ []) []) ≡ cond b (map (λ (d : Entry). d.1) kept ++ c.1 ∷ []) (map (λ (d : Entry). d.1) kept)
    by_test true = map-append (λ (d : Entry). d.1) kept (c ∷ [])
    by_test false = ap (map (λ (d : Entry). d.1)) (none kept)

-- what a change adds to its part
abbrev pub with_change : Shift → Entry → Shift
with_change s c = record { come = s.come + cond (is_gain c.1) 1 0; gone = s.gone + cond (is_loss c.1) 1 0 }

same-shift : (s t : Shift) → s.come ≡ t.come → s.gone ≡ t.gone → s ≡ t
same-shift s t e f = λ i. record { come = e i; gone = f i }

shift-more : (numbers : List ℕ) (es : Entries) (c : Entry) (part : List Value) → shift_in numbers (es ++ c ∷ []) part ≡ cond (is_in numbers part c.0) (with_change (shift_in numbers es part) c) (shift_in numbers es part)
shift-more numbers es c part = ap counts (in-more numbers es c part) ∙ by_test (is_in numbers part c.0)
  where
    counts : List (Pair (List Value)) → Shift
    counts cs = record { come = count_by is_gain cs; gone = count_by is_loss cs }

    by_test : (b : Bool) → counts (cond b (changes_in numbers es part ++ c.1 ∷ []) (changes_in numbers es part)) ≡ cond b (with_change (shift_in numbers es part) c) (shift_in numbers es part)
    by_test true = same-shift _ _ (one_more is_gain (changes_in numbers es part) c.1) (one_more is_loss (changes_in numbers es part) c.1)
    by_test false = refl

-- ---- weights

weight-more : (weight : Entry → ℕ) (es : Entries) (c : Entry) → sum_by weight (es ++ c ∷ []) ≡ sum_by weight es + weight c
weight-more weight es c =
    let one = sum_by-cons weight c [] in
    let all = sum_by-append weight es (c ∷ []) in
    omega (arith, one, all)

weight-insert : (weight : List Value → ℕ) (part : List Value) (s : Shift) (ss : List (List Value × Shift)) → sum_by (λ (t : List Value × Shift). weight t.0) (insert_entry key_cmp ss part s) ≤ sum_by (λ (t : List Value × Shift). weight t.0) ss + weight part
weight-insert weight part s [] = let one = sum_by-cons (λ (t : List Value × Shift). weight t.0) (part, s) [] in omega (arith, one)
weight-insert weight part s (t ∷ ts) =
    let w : List Value × Shift → ℕ = λ u. weight u.0 in
    let own = sum_by-cons w t ts in
    let later = weight-insert weight part s ts in
    elim (key_cmp part t.0) as (λ r. sum_by w (match_ordering r ((part, s) ∷ t ∷ ts) ((t.0, s) ∷ ts) (t ∷ insert_entry key_cmp ts part s)) ≤ sum_by w (t ∷ ts) + weight part) [
      | Less ↦ let one = sum_by-cons w (part, s) (t ∷ ts) in omega (arith, one)
      | Equal ↦ let one = sum_by-cons w (t.0, s) ts in omega (arith, one, own)
      | Greater ↦ let one = sum_by-cons w t (insert_entry key_cmp ts part s) in omega (arith, one, own, later)
    ]

-- ---- one change more

nothing-more : (n : ℕ) (b : Bool) → b ≡ false → n + cond b 1 0 ≡ n
nothing-more n true h = cc
nothing-more n false h = omega arith

module _ (numbers : List ℕ) (es : Entries) (c : Entry) (m : BTreeMap (List Value) Shift) (h : AreShifts numbers es m) where
  abbrev pub its_part : List Value
  its_part = key_part numbers c.0

  -- a change that neither brings a point nor takes one away
  pub no-shift : is_gain c.1 ≡ false → is_loss c.1 ≡ false → AreShifts numbers (es ++ c ∷ []) m
  no-shift gain loss = record {
    kept = λ part. h.kept part ∙ sym (shift-more numbers es c part ∙ by_test part (is_in numbers part c.0));
    few = λ weight. let all = weight-more (λ d. weight (key_part numbers d.0)) es c in let before = h.few weight in omega (arith, all, before);
  }
    where
      none : (s : Shift) → with_change s c ≡ s
      none s = same-shift (with_change s c) s (nothing-more s.come (is_gain c.1) gain) (nothing-more s.gone (is_loss c.1) loss)

      by_test : (part : List Value) (b : Bool) → cond b (with_change (shift_in numbers es part) c) (shift_in numbers es part) ≡ shift_in numbers es part
      by_test part true = none (shift_in numbers es part)
      by_test part false = refl

  -- or one that is added to its part
  pub one-shift : (n : BTreeMap (List Value) Shift) (s : Shift) → s ≡ with_change (shift_at m its_part) c → ((q : List Value) → get key_cmp n q ≡ cond (eq_by_cmp key_cmp its_part q) (Some s) (get key_cmp m q)) → n.entries ≡ insert_entry key_cmp m.entries its_part s → AreShifts numbers (es ++ c ∷ []) n
  one-shift n s is gets all = record {
    kept = λ part. ap (λ (o : Option Shift). unwrap_or o no_shift) (gets part) ∙ by_test part (is_in numbers part c.0) refl ∙ sym (shift-more numbers es c part);
    few = λ weight.
        let inserted : sum_by (λ t. weight t.0) n.entries ≤ sum_by (λ t. weight t.0) m.entries + weight its_part = subst (λ (ss : List (List Value × Shift)). sum_by (λ t. weight t.0) ss ≤ sum_by (λ t. weight t.0) m.entries + weight its_part) (sym all) (weight-insert weight its_part s m.entries) in
        let more = weight-more (λ d. weight (key_part numbers d.0)) es c in
        let before = h.few weight in
        omega (arith, inserted, more, before);
  }
    where
      by_test : (part : List Value) (b : Bool) → is_in numbers part c.0 ≡ b → unwrap_or (cond b (Some s) (get key_cmp m part)) no_shift ≡ cond b (with_change (shift_in numbers es part) c) (shift_in numbers es part)
      by_test part true e =
          let same : its_part ≡ part = tied key_cmp-IsTotalOrder key_cmp-IsAntisymmetric its_part part e in
          is ∙ ap (λ (t : Shift). with_change t c) (h.kept its_part ∙ ap (shift_in numbers es) same)
      by_test part false e = h.kept part

module _ (numbers : List ℕ) (es : Entries) (c : Entry) (m n : BTreeMap (List Value) Shift) (h : AreShifts numbers es m) where
  pub added : (part : List Value) → part ≡ key_part numbers c.0 → (come gone : ℕ) → come ≡ (shift_at m part).come + cond (is_gain c.1) 1 0 → gone ≡ (shift_at m part).gone + cond (is_loss c.1) 1 0
      → ((q : List Value) → get key_cmp n q ≡ cond (eq_by_cmp key_cmp part q) (Some (record { come = come; gone = gone })) (get key_cmp m q)) → n.entries ≡ insert_entry key_cmp m.entries part (record { come = come; gone = gone }) → AreShifts numbers (es ++ c ∷ []) n
  added part is come gone comes goes gets all =
      let s : Shift = record { come = come; gone = gone } in
      one-shift numbers es c m h n s
      (same-shift s (with_change (shift_at m (key_part numbers c.0)) c) (comes ∙ ap (λ (q : List Value). (shift_at m q).come + cond (is_gain c.1) 1 0) is) (goes ∙ ap (λ (q : List Value). (shift_at m q).gone + cond (is_loss c.1) 1 0) is))
      (λ q. gets q ∙ ap (λ (p : List Value). cond (eq_by_cmp key_cmp p q) (Some s) (get key_cmp m q)) is)
      (all ∙ ap (λ (p : List Value). insert_entry key_cmp m.entries p s) is)

-- ---- few enough

count-few : {A : Type 0} (p : A → Bool) (xs : List A) → count_by p xs ≤ length xs
count-few p [] = omega arith
count-few p (x ∷ xs) =
    let later = count-few p xs in
    let one = sum_by-cons (λ y. cond (p y) 1 0) x xs in
    elim (p x) as (λ b. sum_by (λ y. cond (p y) 1 0) (x ∷ xs) ≡ cond b 1 0 + sum_by (λ y. cond (p y) 1 0) xs → sum_by (λ y. cond (p y) 1 0) (x ∷ xs) ≤ length (x ∷ xs)) [ true ↦ λ e. omega (arith, e, later) | false ↦ λ e. omega (arith, e, later) ] one

filter-few : {A : Type 0} (p : A → Bool) (xs : List A) → length (filter p xs) ≤ length xs
filter-few p [] = omega arith
filter-few p (x ∷ xs) = let later = filter-few p xs in elim (p x) as (λ b. length (cond b (x ∷ filter p xs) (filter p xs)) ≤ length (x ∷ xs)) [ true ↦ omega (arith, later) | false ↦ omega (arith, later) ]

in-few : (numbers : List ℕ) (es : Entries) (part : List Value) → length (changes_in numbers es part) ≤ length es
in-few numbers es part =
    let same = length-map (filter (λ (c : Entry). is_in numbers part c.0) es) (λ (c : Entry). c.1) in
    let few = filter-few (λ (c : Entry). is_in numbers part c.0) es in
    omega (arith, same, few)

pub few-kept : (numbers : List ℕ) (es : Entries) (m : BTreeMap (List Value) Shift) (n : ℕ) → AreShifts numbers es m → length es < n → (part : List Value) → ((shift_at m part).come < n) × ((shift_at m part).gone < n)
few-kept numbers es m n h few part =
    let come : (shift_at m part).come ≡ count_by is_gain (changes_in numbers es part) = ap (λ (s : Shift). s.come) (h.kept part) in
    let gone : (shift_at m part).gone ≡ count_by is_loss (changes_in numbers es part) = ap (λ (s : Shift). s.gone) (h.kept part) in
    let gains = count-few is_gain (changes_in numbers es part) in
    let losses = count-few is_loss (changes_in numbers es part) in
    let all = in-few numbers es part in
    (omega (arith, come, gains, all, few), omega (arith, gone, losses, all, few))

-- ---- in a loop

pub first-more : (cs : List Change) (i : ℕ) (c : Change) → i < length cs → c ≡ get_or cs i c → take (i + 1) (map change_entry cs) ≡ take i (map change_entry cs) ++ change_entry c ∷ []
first-more cs i c within at =
    let es : List Entry = map change_entry cs in
    let here : get_or es i (change_entry c) ≡ change_entry c = get_or-map change_entry cs i c ∙ ap change_entry (sym at) in
    let inside : i < length es = omega (arith, within, length-map cs change_entry) in
    take_more es i (change_entry c) inside ∙ ap (λ (d : Entry). take i es ++ d ∷ []) here
