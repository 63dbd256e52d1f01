-- What tests find in the UTF-8 of a text they find in its characters.
use Rattle.std.proofs.Common.{◌≡◌, ◌==◌, ◌&&◌, ℕ, suc, ◌-◌, ◌<◌, ◌≤◌, Bool, true, false, ◌||◌, List, [], ◌∷◌, ◌++◌, length, get_or, inl, inr, refl, sym, ap, ◌∙◌, arith, append-nil}
use Rattle.std.proofs.Math.Utf8.{encodes, encode}
use Rattle.std.proofs.lemmas.Bool.{cases_lt, ne_eqb}
use Rattle.std.proofs.lemmas.List.Elements.{All-from_get_or, All-head, All-tail}
use Rattle.std.proofs.lemmas.List.Folds.{list_any-append}
use Rattle.std.proofs.lemmas.Str.{encode_ascii, inside_one, length-le-encodes}
use Rattle.std.specs.List.{All, list_any}
use Rattle.revision_files.specs.Blocks.{AT_SIGN, LINE_FEED}
use Rattle.feed_laws.specs.Written.{begins, ends, starts_block}

abbrev IsHigh : ℕ → Type 0
IsHigh b = 128 ≤ b

-- the bytes of a character beyond ASCII
high_bytes : (c : ℕ) → 128 ≤ c → All IsHigh (encode c)
high_bytes c high = All-from_get_or IsHigh (encode c) 0 (λ k inside. elim (cases_lt (get_or (encode c) k 0) 128) [
  | inl low ↦ absurd (let same : c ≡ get_or (encode c) k 0 = inside_one c [] (encode c) k (sym (append-nil (encode c))) inside low in omega arith)
  | inr top ↦ top
])

some_bytes : (c : ℕ) → 0 < length (encode c)
some_bytes c = let e = length-le-encodes (c ∷ []) in let n = ap length (append-nil (encode c)) in omega (arith, e, n)

some-encodes : (d : ℕ) (cs : List ℕ) → 0 < length (encodes (d ∷ cs))
some-encodes d cs = let e = length-le-encodes (d ∷ cs) in omega (arith, e)

-- ---- tests that pass ASCII alone

abbrev pub PassesAscii : (ℕ → Bool) → Type 0
PassesAscii p = (b : ℕ) → 128 ≤ b → p b ≡ false

pub is-PassesAscii : (a : ℕ) → a < 128 → PassesAscii (λ b. b == a)
is-PassesAscii a low b high = ne_eqb b a (λ e. omega (arith, e, low, high))

module _ (p : ℕ → Bool) (ascii : PassesAscii p) where
  none-high : (xs : List ℕ) → All IsHigh xs → list_any p xs ≡ false
  none-high [] h = refl
  none-high (x ∷ xs) h = (λ i. ascii x (All-head IsHigh x xs h) i || none-high xs (All-tail IsHigh x xs h) i)

  or_false : (b : Bool) → (b || false) ≡ b
  or_false true = refl
  or_false false = refl

  any-encode : (c : ℕ) → list_any p (encode c) ≡ p c
  any-encode c = elim (cases_lt c 128) [
    | inl low ↦ ap (list_any p) (encode_ascii c low) ∙ or_false (p c)
    | inr high ↦ none-high (encode c) (high_bytes c high) ∙ sym (ascii c high)
  ]

  pub any-encodes : (cs : List ℕ) → list_any p (encodes cs) ≡ list_any p cs
  any-encodes [] = refl
  any-encodes (c ∷ cs) = list_any-append p (encode c) (encodes cs) ∙ (λ i. any-encode c i || any-encodes cs i)

  begins-high : (xs ys : List ℕ) → All IsHigh xs → 0 < length xs → begins p (xs ++ ys) ≡ false
  begins-high [] ys h some = absurd (omega arith)
  begins-high (x ∷ xs) ys h some = ascii x (All-head IsHigh x xs h)

  pub begins-encodes : (cs : List ℕ) → begins p (encodes cs) ≡ begins p cs
  begins-encodes [] = refl
  begins-encodes (c ∷ cs) = elim (cases_lt c 128) [
    | inl low ↦ ap (λ (bs : List ℕ). begins p (bs ++ encodes cs)) (encode_ascii c low)
    | inr high ↦ begins-high (encode c) (encodes cs) (high_bytes c high) (some_bytes c) ∙ sym (ascii c high)
  ]

  ends-high : (xs : List ℕ) → All IsHigh xs → ends p xs ≡ false
  ends-high [] h = refl
  ends-high (x ∷ []) h = ascii x (All-head IsHigh x [] h)
  ends-high (x ∷ y ∷ xs) h = ends-high (y ∷ xs) (All-tail IsHigh x (y ∷ xs) h)

  pub ends-append : (xs ys : List ℕ) → 0 < length ys → ends p (xs ++ ys) ≡ ends p ys
  ends-append [] ys some = refl
  ends-append (x ∷ []) [] some = absurd (omega arith)
  ends-append (x ∷ []) (y ∷ ys) some = refl
  ends-append (x ∷ z ∷ xs) ys some = ends-append (z ∷ xs) ys some

  -- two texts, one after the other
  pub begins-both : (xs ys : List ℕ) → begins p xs ≡ false → begins p ys ≡ false → begins p (xs ++ ys) ≡ false
  begins-both [] ys h k = k
  begins-both (x ∷ xs) ys h k = h

  pub begins-first : (xs ys : List ℕ) → 0 < length xs → begins p (xs ++ ys) ≡ begins p xs
  begins-first [] ys some = absurd (omega arith)
  begins-first (x ∷ xs) ys some = refl

  pub ends-both : (xs ys : List ℕ) → ends p xs ≡ false → ends p ys ≡ false → ends p (xs ++ ys) ≡ false
  ends-both [] ys h k = k
  ends-both (x ∷ []) [] h k = h
  ends-both (x ∷ []) (y ∷ ys) h k = k
  ends-both (x ∷ z ∷ xs) ys h k = ends-both (z ∷ xs) ys h k

  -- what ends so isn't empty
  pub ends-some : (xs : List ℕ) → ends p xs ≡ true → 0 < length xs
  ends-some [] h = cc
  ends-some (x ∷ xs) h = omega arith

  ends-encode : (c : ℕ) → ends p (encode c) ≡ p c
  ends-encode c = elim (cases_lt c 128) [
    | inl low ↦ ap (ends p) (encode_ascii c low)
    | inr high ↦ ends-high (encode c) (high_bytes c high) ∙ sym (ascii c high)
  ]

  pub ends-encodes : (cs : List ℕ) → ends p (encodes cs) ≡ ends p cs
  ends-encodes [] = refl
  ends-encodes (c ∷ []) = ap (ends p) (append-nil (encode c)) ∙ ends-encode c
  ends-encodes (c ∷ d ∷ cs) = ends-append (encode c) (encodes (d ∷ cs)) (some-encodes d cs) ∙ ends-encodes (d ∷ cs)

  -- the first byte and the last one, by their places
  pub begins-at : (xs : List ℕ) → begins p xs ≡ false → 0 < length xs → p (get_or xs 0 0) ≡ false
  begins-at [] h some = absurd (omega arith)
  begins-at (x ∷ xs) h some = h

  pub ends-at : (xs : List ℕ) → ends p xs ≡ false → 0 < length xs → p (get_or xs (length xs - 1) 0) ≡ false
  ends-at [] h some = absurd (omega arith)
  ends-at (x ∷ []) h some = h
  ends-at (x ∷ y ∷ xs) h some =
      let at : length (x ∷ y ∷ xs) - 1 ≡ suc (length (y ∷ xs) - 1) = omega arith in
      ap (λ k. p (get_or (x ∷ y ∷ xs) k 0)) at ∙ ends-at (y ∷ xs) h (omega arith)

-- ---- lines that begin with `@`

pub none : (fresh b : Bool) → ((fresh && false) || b) ≡ b
none true b = refl
none false b = refl

starts-past : (fresh : Bool) (x : ℕ) (rest : List ℕ) → 128 ≤ x → starts_block fresh (x ∷ rest) ≡ starts_block false rest
starts-past fresh x rest high =
    (λ i. (fresh && is-PassesAscii AT_SIGN (omega arith) x high i) || starts_block (is-PassesAscii LINE_FEED (omega arith) x high i) rest)
    ∙ none fresh (starts_block false rest)

starts-high : (xs : List ℕ) (fresh : Bool) (rest : List ℕ) → All IsHigh xs → 0 < length xs → starts_block fresh (xs ++ rest) ≡ starts_block false rest
starts-high [] fresh rest h some = absurd (omega arith)
starts-high (x ∷ []) fresh rest h some = starts-past fresh x rest (All-head IsHigh x [] h)
starts-high (x ∷ y ∷ xs) fresh rest h some = starts-past fresh x ((y ∷ xs) ++ rest) (All-head IsHigh x (y ∷ xs) h) ∙ starts-high (y ∷ xs) false rest (All-tail IsHigh x (y ∷ xs) h) (omega arith)

starts-encode : (fresh : Bool) (c : ℕ) (rest : List ℕ) → starts_block fresh (encode c ++ rest) ≡ starts_block fresh (c ∷ rest)
starts-encode fresh c rest = elim (cases_lt c 128) [
  | inl low ↦ ap (λ (bs : List ℕ). starts_block fresh (bs ++ rest)) (encode_ascii c low)
  | inr high ↦ starts-high (encode c) fresh rest (high_bytes c high) (some_bytes c) ∙ sym (starts-past fresh c rest high)
]

pub starts-encodes : (fresh : Bool) (cs : List ℕ) → starts_block fresh (encodes cs) ≡ starts_block fresh cs
starts-encodes fresh [] = refl
starts-encodes fresh (c ∷ cs) = starts-encode fresh c (encodes cs) ∙ ap (λ b. (fresh && (c == AT_SIGN)) || b) (starts-encodes (c == LINE_FEED) cs)
