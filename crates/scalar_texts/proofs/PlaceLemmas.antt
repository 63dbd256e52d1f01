-- Places of characters: what a test of places picks, and where a part stands.
use Rattle.std.proofs.Common.{◌≡◌, ◌≢◌, ℕ, zero, suc, ◌+◌, ◌<◌, ◌≤◌, Bool, true, false, ◌&&◌, nat_lt, nat_le, nat_eq, Some, None, List, [], ◌∷◌, ◌++◌, map, length, take, drop, refl, sym, ap, ◌∙◌, subst, ⊎_elim, arith, ℤ, pos, ◌+ℤ◌, ◌<ℤ◌, ◌↔◌, length-append}
use Rattle.std.specs.Prelude.{chars, IsUtf8, encode_utf8_all, int_lt, int_le, filter}
use Rattle.std.specs.List.{enumerate_from, starts_with}
use Rattle.std.specs.Str.Pattern.{FindsText}
use Rattle.std.proofs.lemmas.Bool.{cases_Bool, cases_lt}
use Rattle.std.proofs.lemmas.Bool.Decides.{nat_tests, Decides-eqb}
use Rattle.std.proofs.lemmas.Int.{ints}
use Rattle.std.proofs.lemmas.List.{take_at, drop_at, take-append-drop, take-append-le, length-take}
use Rattle.std.proofs.lemmas.Slice.Eq.{starts_is}
use Rattle.std.proofs.lemmas.Str.{encodes-append, encodes-chars, chars-append, length-le-encodes}
use Rattle.scalar_texts.specs.Places.{is_in_reach, substring, place_from}

-- ---- the elements at the places that pass a test
picked : (ℕ → Bool) → ℕ → List ℕ → List ℕ
picked t at cs = map (λ e. e.1) (filter (λ e. t e.0) (enumerate_from at cs))

none_picked : (t : ℕ → Bool) (at : ℕ) (cs : List ℕ) → ((q : ℕ) → at ≤ q → t q ≡ false) → picked t at cs ≡ []
unfolding picked
none_picked t at [] h = refl
none_picked t at (c ∷ cs) h = rw (h at (omega arith)) (none_picked t (at + 1) cs (λ q le. h q (omega (arith, le))))

drop-nil : (n : ℕ) → drop n (let none : List ℕ = [] in none) ≡ []
drop-nil zero = refl
drop-nil (suc n) = refl

take-nil : (n : ℕ) → take n (let none : List ℕ = [] in none) ≡ []
take-nil zero = refl
take-nil (suc n) = refl

-- the places from `at + passed` on
picked_from : (t : ℕ → Bool) (passed at : ℕ) (cs : List ℕ) →
    ((q : ℕ) → at ≤ q → t q ≡ nat_le (at + passed) q) → picked t at cs ≡ drop passed cs
unfolding picked
picked_from t passed at [] h = sym (drop-nil passed)
picked_from t zero at (c ∷ cs) h =
    let here : t at ≡ true = h at (omega arith) ∙ grind (arith, nat_tests) in
    rw here (ap (λ l. c ∷ l) (picked_from t zero (at + 1) cs (λ q le. h q (omega (arith, le)) ∙ grind (arith, nat_tests, le))))
picked_from t (suc passed) at (c ∷ cs) h =
    let here : t at ≡ false = h at (omega arith) ∙ grind (arith, nat_tests) in
    rw here (picked_from t passed (at + 1) cs (λ q le. h q (omega (arith, le)) ∙ grind (arith, nat_tests, le)))

-- the same, before `at + seen`
picked_between : (t : ℕ → Bool) (passed seen at : ℕ) (cs : List ℕ) →
    ((q : ℕ) → at ≤ q → t q ≡ (nat_le (at + passed) q && nat_lt q (at + seen))) → picked t at cs ≡ drop passed (take seen cs)
unfolding picked
picked_between t passed seen at [] h = sym (ap (drop passed) (take-nil seen) ∙ drop-nil passed)
picked_between t passed zero at (c ∷ cs) h =
    none_picked t at (c ∷ cs) (λ q le. h q le ∙ grind (arith, nat_tests, le)) ∙ sym (drop-nil passed)
picked_between t zero (suc seen) at (c ∷ cs) h =
    let here : t at ≡ true = h at (omega arith) ∙ grind (arith, nat_tests) in
    rw here (ap (λ l. c ∷ l) (picked_between t zero seen (at + 1) cs (λ q le. h q (omega (arith, le)) ∙ grind (arith, nat_tests, le))))
picked_between t (suc passed) (suc seen) at (c ∷ cs) h =
    let here : t at ≡ false = h at (omega arith) ∙ grind (arith, nat_tests) in
    rw here (picked_between t passed seen (at + 1) cs (λ q le. h q (omega (arith, le)) ∙ grind (arith, nat_tests, le)))

-- ---- `substr`, where so many places lie below the start, and below the end
abbrev pub LiesBelow : ℤ → ℕ → Type 0
LiesBelow bound n = (place : ℕ) → 0 < place → (place ≤ n) ↔ (pos place <ℤ bound)

below_test : (bound : ℤ) (n q : ℕ) → ((q ≤ n) ↔ (pos q <ℤ bound)) → int_lt (pos q) bound ≡ nat_lt q (1 + n)
below_test bound n q h = grind (arith, nat_tests, ints, h.0, h.1)

above_test : (bound : ℤ) (n q : ℕ) → ((q ≤ n) ↔ (pos q <ℤ bound)) → int_le bound (pos q) ≡ nat_le (1 + n) q
above_test bound n q h = grind (arith, nat_tests, ints, h.0, h.1)

pub substring-from : (cs : List ℕ) (start : ℤ) (passed : ℕ) → LiesBelow start passed → substring cs start None ≡ drop passed cs
unfolding picked
substring-from cs start passed low =
    picked_from (is_in_reach start None) passed 1 cs (λ q le. above_test start passed q (low q (omega (arith, le))))

pub substring-between : (cs : List ℕ) (start count : ℤ) (passed seen : ℕ) → LiesBelow start passed → LiesBelow (start +ℤ count) seen →
    substring cs start (Some count) ≡ drop passed (take seen cs)
unfolding picked
substring-between cs start count passed seen low high =
    picked_between (is_in_reach start (Some count)) passed seen 1 cs
    (λ q le. ap (λ b. b && int_lt (pos q) (start +ℤ count)) (above_test start passed q (low q (omega (arith, le))))
    ∙ ap (λ b. nat_le (1 + passed) q && b) (below_test (start +ℤ count) seen q (high q (omega (arith, le)))))

-- ---- where a part stands
pub starts_true : (cs part rest : List ℕ) → cs ≡ part ++ rest → starts_with nat_eq cs part ≡ true
starts_true cs part rest e = (starts_is Decides-eqb cs part (starts_with nat_eq cs part) refl).1 rest e

pub starts_false : (cs part : List ℕ) → ((rest : List ℕ) → cs ≢ part ++ rest) → starts_with nat_eq cs part ≡ false
starts_false cs part never =
    ⊎_elim (λ (t : starts_with nat_eq cs part ≡ true). absurd (never (drop (length part) cs) ((starts_is Decides-eqb cs part (starts_with nat_eq cs part) refl).0 t)))
    (λ (f : starts_with nat_eq cs part ≡ false). f) (cases_Bool (starts_with nat_eq cs part))

-- the part comes after `before` in cs, and no earlier
pub record IsFirstAfter (cs part before after : List ℕ) : Type 0 where
  pub splits : cs ≡ before ++ (part ++ after)
  pub first : (sooner rest : List ℕ) → cs ≡ sooner ++ (part ++ rest) → length before ≤ length sooner

-- the same after the first character
first_behind : (c : ℕ) (cs part before after : List ℕ) →
    IsFirstAfter (c ∷ cs) part (c ∷ before) after → IsFirstAfter cs part before after
first_behind c cs part before after h = record {
  splits = cc (h.splits);
  first = λ sooner rest e. let longer : suc (length before) ≤ suc (length sooner) = h.first (c ∷ sooner) rest (ap (λ t. c ∷ t) e) in omega (arith, longer);
}

pub place_from-first : (at : ℕ) (cs part before after : List ℕ) → IsFirstAfter cs part before after →
    place_from at cs part ≡ at + length before
place_from-first at [] part [] after h = rw (starts_true [] part after h.splits) (omega arith)
place_from-first at [] part (b ∷ before) after h = absurd (cc (h.splits))
place_from-first at (c ∷ cs) part [] after h = rw (starts_true (c ∷ cs) part after h.splits) (omega arith)
place_from-first at (c ∷ cs) part (b ∷ before) after h =
    let same : c ≡ b = cc (h.splits) in
    let here : IsFirstAfter (c ∷ cs) part (c ∷ before) after = subst (λ d. IsFirstAfter (c ∷ cs) part (d ∷ before) after) (sym same) h in
    let later : starts_with nat_eq (c ∷ cs) part ≡ false = starts_false (c ∷ cs) part (λ rest e. absurd (omega (arith, h.first [] rest e))) in
    rw later (place_from-first (at + 1) cs part before after (first_behind c cs part before after here) ∙ omega arith)

pub place_from-none : (at : ℕ) (cs part : List ℕ) → ((before after : List ℕ) → cs ≢ before ++ (part ++ after)) → place_from at cs part ≡ 0
place_from-none at [] part never = rw (starts_false [] part (never [])) refl
place_from-none at (c ∷ cs) part never =
    rw (starts_false (c ∷ cs) part (never []))
    (place_from-none (at + 1) cs part (λ before after e. never (c ∷ before) after (ap (λ t. c ∷ t) e)))

-- ---- what std's search says of a text's bytes, and of its characters
pub encodes-splits : (before part after : List ℕ) →
    encode_utf8_all (before ++ (part ++ after)) ≡ encode_utf8_all before ++ (encode_utf8_all part ++ encode_utf8_all after)
encodes-splits before part after =
    encodes-append before (part ++ after) ∙ ap (λ t. encode_utf8_all before ++ t) (encodes-append part after)

-- the bytes of the part stand where its characters do
bytes_stand : (s part before after : List ℕ) → IsUtf8 s → IsUtf8 part → chars s ≡ before ++ (chars part ++ after) →
    s ≡ encode_utf8_all before ++ (part ++ encode_utf8_all after)
bytes_stand s part before after text is_text e =
    sym (encodes-chars s text) ∙ ap encode_utf8_all e ∙ encodes-splits before (chars part) after
    ∙ ap (λ t. encode_utf8_all before ++ (t ++ encode_utf8_all after)) (encodes-chars part is_text)

pub never_stands : (s part : List ℕ) → IsUtf8 s → IsUtf8 part → FindsText part s None →
    (before after : List ℕ) → chars s ≢ before ++ (chars part ++ after)
never_stands s part text is_text lacks before after e =
    let front = encode_utf8_all before in
    let bytes : s ≡ front ++ (part ++ encode_utf8_all after) = bytes_stand s part before after text is_text e in
    let fits : length front ≤ length s = omega (arith, ap length bytes, length-append front (part ++ encode_utf8_all after)) in
    lacks (length front) fits (encode_utf8_all after) (ap (drop (length front)) bytes ∙ drop_at front (part ++ encode_utf8_all after) (length front) refl)

-- a front that is longer in characters is longer in bytes
longer_in_bytes : (cs front behind before rest : List ℕ) → cs ≡ front ++ behind → cs ≡ before ++ rest →
    length before < length front → length (encode_utf8_all before) < length (encode_utf8_all front)
longer_in_bytes cs front behind before rest e f lt =
    let n = length before in
    let more = drop n front in
    let start : before ≡ take n front =
    sym (take_at before rest n refl) ∙ ap (take n) (sym f ∙ e) ∙ take-append-le n front behind (omega (arith, lt)) in
    let whole : front ≡ before ++ more = sym (take-append-drop n front) ∙ ap (λ t. t ++ more) (sym start) in
    omega (
      arith,
      ap length (ap encode_utf8_all whole ∙ encodes-append before more),
      length-append (encode_utf8_all before) (encode_utf8_all more),
      length-le-encodes more,
      ap length whole,
      length-append before more,
    )

pub first_match : (s part : List ℕ) (i j : ℕ) → IsUtf8 s → IsUtf8 part → FindsText part s (Some (i, j)) → i ≤ length s → IsUtf8 (drop i s) →
    IsUtf8 (take i s) → IsFirstAfter (chars s) (chars part) (chars (take i s)) (chars (drop j s))
first_match s part i j text is_text found fits back front = record {
  splits = in_two ∙ ap (λ t. chars (take i s) ++ t) (ap chars found.1.split ∙ chars-append part (drop j s) is_text);
  first = λ sooner rest e.
      ⊎_elim
      (λ (lt : length sooner < length (chars (take i s))).
      let here = encode_utf8_all sooner in
      let bytes : s ≡ here ++ (part ++ encode_utf8_all rest) = bytes_stand s part sooner rest text is_text e in
      let shorter : length here < length (encode_utf8_all (chars (take i s))) =
      longer_in_bytes (chars s) (chars (take i s)) (chars (drop i s)) sooner (chars part ++ rest) in_two e lt in
      let below : length here < i = omega (arith, shorter, ap length (encodes-chars (take i s) front), length-take i s, fits) in
      absurd (found.0 (length here) below (encode_utf8_all rest) (ap (drop (length here)) bytes ∙ drop_at here (part ++ encode_utf8_all rest) (length here) refl)))
      (λ (le : length (chars (take i s)) ≤ length sooner). le)
      (cases_lt (length sooner) (length (chars (take i s))));
} where
  in_two : chars s ≡ chars (take i s) ++ chars (drop i s)
  in_two = ap chars (sym (take-append-drop i s)) ∙ chars-append (take i s) (drop i s) front
