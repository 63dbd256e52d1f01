-- Other operands by their places, and what is held of them and of the main one.
use Rattle.std.proofs.Common.{◌≡◌, ◌≢◌, ℕ, ◌+◌, ◌-◌, ◌<◌, List, map, length, get_or, Bool, true, false, if◌then◌else◌, refl, sym, ap, subst, ◌∙◌, nat_lt, zero-add, arith}
use Rattle.std.specs.List.{All, range_with_len}
use Rattle.std.specs.FinMap.{empty}
use Rattle.std.proofs.Math.ListN.{get_or-map as read-map}
use Rattle.std.proofs.lemmas.Bool.{ltb-true, ltb-false}
use Rattle.std.proofs.lemmas.List.{get_or-map, get_or_default, get_or_append_left, get_or-append-add, length-append, length-map}
use Rattle.std.proofs.lemmas.List.Elements.{All-append, All-map}
use Rattle.std.proofs.lemmas.List.FromFn.{length-range_with_len, get_or-range_with_len, length-map-range_with_len, get_or-map-range_with_len}
use Rattle.std.proofs.lemmas.Option.{unwrap_or-slice_get}
use Rattle.point_sets.specs.DataSets.{DataSet}
use Rattle.held_index.specs.Holdings.{Holding, contents, holding_of, operand, IsPlain}
use Rattle.held_index.specs.Wants.{whole}
use Rattle.held_index.specs.declared.want.Want.{Want}
use Rattle.held_index.proofs.WantLemmas.{whole-plain}
use Rattle.operator_meaning.specs.joins.Joins.{JoinOn}
use Rattle.inner_joins.specs.Noted.{held_for}
use Rattle.inner_joins.specs.Rules.{main_number, number_at, others_of, parts_for, place_of, wants_on}

-- ---- places

pub place-below : (main number n : ℕ) → main < n → number < n → number ≢ main → place_of main number < n - 1
place-below main number n there within other = by_test (nat_lt number main) refl
  where
    by_test : (b : Bool) → nat_lt number main ≡ b → (if b then number else number - 1) < n - 1
    by_test true e = let before = ltb-true number main e in omega (arith, before, there)
    by_test false e = let after = ltb-false number main e in omega (arith, after, within, other)

pub number-back : (main number : ℕ) → number ≢ main → number_at main (place_of main number) ≡ number
number-back main number other = by_test (nat_lt number main) refl
  where
    here : (place : ℕ) (b : Bool) → nat_lt place main ≡ b → (if b then place else place + 1) ≡ number_at main place
    here place b e = ap (λ (t : Bool). if t then place else place + 1) (sym e)

    later : (b : Bool) → nat_lt (number - 1) main ≡ b → main < number → (if b then number - 1 else number - 1 + 1) ≡ number
    later true e above = let below = ltb-true (number - 1) main e in absurd (omega (arith, below, above))
    later false e above = omega (arith, above)

    by_test : (b : Bool) → nat_lt number main ≡ b → number_at main (if b then number else number - 1) ≡ number
    by_test true e = sym (here number true e)
    by_test false e =
        let from = ltb-false number main e in
        sym (here (number - 1) (nat_lt (number - 1) main) refl) ∙ later (nat_lt (number - 1) main) refl (omega (arith, from, other))

pub number-other : (main place : ℕ) → number_at main place ≢ main
number-other main place = by_test (nat_lt place main) refl
  where
    by_test : (b : Bool) → nat_lt place main ≡ b → (if b then place else place + 1) ≢ main
    by_test true e = λ same. let below = ltb-true place main e in absurd (omega (arith, below, same))
    by_test false e = λ same. let above = ltb-false place main e in absurd (omega (arith, above, same))

pub number-below : (main place n : ℕ) → place < n - 1 → number_at main place < n
number-below main place n within = by_test (nat_lt place main)
  where
    by_test : (b : Bool) → (if b then place else place + 1) < n
    by_test true = omega (arith, within)
    by_test false = omega (arith, within)

-- ---- the other operands

module _ (j : JoinOn) where
  abbrev count : ℕ
  count = length j.operands - 1

  pub length-others : length (others_of j) ≡ count
  length-others = length-map-range_with_len (number_at (main_number j)) 0 count

  other-at : (place d : ℕ) → place < count → get_or (others_of j) place d ≡ number_at (main_number j) place
  other-at place d within = get_or-map-range_with_len (number_at (main_number j)) 0 count place place d within (zero-add place)

  -- what is so of the number at each place is so of all
  pub others-each : (Q : ℕ → Type 0) → ((place : ℕ) → place < count → Q (number_at (main_number j) place)) → All Q (others_of j)
  others-each Q each =
      All-map Q (number_at (main_number j)) (range_with_len 0 count)
      (λ k d within.
      let below : k < count = omega (arith, within, length-range_with_len 0 count) in
      subst (λ (place : ℕ). Q (number_at (main_number j) place)) (sym (get_or-range_with_len 0 count k d below ∙ zero-add k)) (each k below))

  -- what is so of each want is so of all
  pub wants-each : (P : Want → Type 0) → ((number : ℕ) → number < length j.operands → P (whole number)) → ((number : ℕ) → number < length j.operands → P (parts_for j number)) → All P (wants_on j)
  wants-each P own parts =
      All-append P (map whole (others_of j)) (map (parts_for j) (others_of j))
      (All-map P whole (others_of j) (others-each (λ number. P (whole number)) (λ place within. own (number_at (main_number j) place) (number-below (main_number j) place (length j.operands) within))))
      (All-map P (parts_for j) (others_of j) (others-each (λ number. P (parts_for j number)) (λ place within. parts (number_at (main_number j) place) (number-below (main_number j) place (length j.operands) within))))

  length-wants : length (wants_on j) ≡ count + count
  length-wants =
      let both = length-append (map whole (others_of j)) (map (parts_for j) (others_of j)) in
      let first = length-map (others_of j) whole in
      let second = length-map (others_of j) (parts_for j) in
      omega (arith, both, first, second, length-others)

  module _ (place : ℕ) (within : place < count) (d : Want) where
    inside : place < length (others_of j)
    inside = omega (arith, within, length-others)

    whole-at : get_or (wants_on j) place d ≡ whole (number_at (main_number j) place)
    whole-at =
        let long = length-map (others_of j) whole in
        get_or_append_left (map whole (others_of j)) (map (parts_for j) (others_of j)) d place (omega (arith, long, inside))
        ∙ get_or-map whole (others_of j) place 0 d inside ∙ ap whole (other-at place 0 within)

    parts-at : get_or (wants_on j) (count + place) d ≡ parts_for j (number_at (main_number j) place)
    parts-at =
        let long : length (map whole (others_of j)) ≡ count = length-map (others_of j) whole ∙ length-others in
        ap (λ n. get_or (wants_on j) (n + place) d) (sym long)
        ∙ get_or-append-add (map whole (others_of j)) (map (parts_for j) (others_of j)) place d
        ∙ get_or-map (parts_for j) (others_of j) place 0 d inside ∙ ap (parts_for j) (other-at place 0 within)

  -- ---- what is held, by what is wanted

  module _ (held : List Holding) (wanted : map (λ h. h.want) held ≡ wants_on j) where
    pub length-held : length held ≡ count + count
    length-held = sym (length-map held (λ h. h.want)) ∙ ap (λ (ws : List Want). length ws) wanted ∙ length-wants

    want-at : (i : ℕ) (h : Holding) → h ≡ get_or held i h → h.want ≡ get_or (wants_on j) i h.want
    want-at i h at = ap (λ (g : Holding). g.want) at ∙ sym (read-map (λ (g : Holding). g.want) held i h) ∙ ap (λ (ws : List Want). get_or ws i h.want) wanted

    module _ (number : ℕ) (there : main_number j < length j.operands) (within : number < length j.operands) (other : number ≢ main_number j) where
      abbrev place : ℕ
      place = place_of (main_number j) number

      pub place-there : place < count
      place-there = place-below (main_number j) number (length j.operands) there within other

      -- both are within what is held
      pub place-held : (p : ℕ) → p ≡ place → p < length held
      place-held p is = let inside = place-there in omega (arith, inside, is, length-held)

      pub parts-place-held : (o p : ℕ) → o ≡ count → p ≡ place → o + p < length held
      parts-place-held o p all is = let inside = place-there in omega (arith, inside, all, is, length-held)

      -- another operand is held whole
      pub other-plain : (h : Holding) → h ≡ get_or held place h → IsPlain h.want
      other-plain h at =
          subst IsPlain (sym (want-at place h at ∙ whole-at place place-there h.want)) (whole-plain (number_at (main_number j) place))

      -- and for it the main one in parts
      pub parts-held : (h : Holding) → h ≡ get_or held (count + place) h → h ≡ held_for j held number
      parts-held h at =
          let is_want : h.want ≡ parts_for j number = want-at (count + place) h at ∙ parts-at place place-there h.want ∙ ap (parts_for j) (number-back (main_number j) number other) in
          let long : length (contents held) ≡ count + count = length-map held (λ g. g.content) ∙ length-held in
          let its : h.content ≡ get_or (contents held) (count + place) h.content = sym (read-map (λ (g : Holding). g.content) held (count + place) h ∙ ap (λ (g : Holding). g.content) (sym at)) in
          let is_content : h.content ≡ operand (count + place) (contents held) =
          its ∙ get_or_default (contents held) (count + place) h.content empty (let below = place-there in omega (arith, below, long)) ∙ sym (unwrap_or-slice_get (contents held) (count + place) empty) in
          λ i. record { want = is_want i; content = is_content i }

  -- ---- what is held of data sets

  module _ (held : List Holding) (xs : List DataSet) (held_is : map (holding_of xs) (wants_on j) ≡ held) where
    content-at : (i : ℕ) (w : Want) → i < length (wants_on j) → ((d : Want) → get_or (wants_on j) i d ≡ w) → operand i (contents held) ≡ operand w.operand xs
    content-at i w within is =
        let long = length-map (wants_on j) (holding_of xs) in
        unwrap_or-slice_get (contents held) i empty
        ∙ ap (λ (hs : List Holding). get_or (contents hs) i empty) (sym held_is)
        ∙ get_or-map (λ (h : Holding). h.content) (map (holding_of xs) (wants_on j)) i (holding_of xs w) empty (omega (arith, long, within))
        ∙ ap (λ (h : Holding). h.content) (get_or-map (holding_of xs) (wants_on j) i w (holding_of xs w) within)
        ∙ ap (λ (v : Want). operand v.operand xs) (is w)

    module _ (place : ℕ) (within : place < count) where
      pub whole-content : operand place (contents held) ≡ operand (number_at (main_number j) place) xs
      whole-content = content-at place (whole (number_at (main_number j) place)) (let long = length-wants in omega (arith, within, long)) (λ d. whole-at place within d)

      pub parts-content : operand (count + place) (contents held) ≡ operand (main_number j) xs
      parts-content = content-at (count + place) (parts_for j (number_at (main_number j) place)) (let long = length-wants in omega (arith, within, long)) (λ d. parts-at place within d)
