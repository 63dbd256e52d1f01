-- The order of two texts by their bytes is the order by their characters.
use Rattle.std.proofs.Common.{◌≡◌, ℕ, ◌+◌, ◌/◌, ◌%◌, ◌<◌, ◌≤◌, List, [], ◌∷◌, ◌++◌, Bool, true, false, ◌&&◌, ◌⊎◌, inl, inr, ⊎_elim, refl, sym, ap, ◌∙◌, subst, arith, nat_eq, nat_lt, IsUtf8, chars}
use Rattle.std.proofs.lemmas.Bool.{cases_lt}
use Rattle.std.proofs.lemmas.Bool.Decides.{nat_tests}
use Rattle.std.proofs.lemmas.Str.{encodes-chars, scalars-chars}
use Rattle.std.specs.declared.cmp.Ordering.TheVariants.{Less, Equal, Greater}
use Rattle.std.specs.Ordering.{nat_cmp, ordering_then, ordering_reverse, is_eq}
use Rattle.std.specs.Cmp.Lexicographic.{slice_cmp, nat_list_cmp_total, pointwise, texts_ties}
use Rattle.std.proofs.Math.Utf8.{encodes, encode, scalar, scalars}

-- how many bytes a character takes
data Width (c : ℕ) : Type 0 where
  One : c < 128 → Width c
  Two : 128 ≤ c → c < 2048 → Width c
  Three : 2048 ≤ c → c < 65536 → Width c
  Four : 65536 ≤ c → Width c

width : (c : ℕ) → Width c
width c = ⊎_elim (λ a. One a) (λ a. ⊎_elim (λ b. Two a b) (λ b. ⊎_elim (λ d. Three b d) (λ d. Four d) (cases_lt c 65536)) (cases_lt c 2048)) (cases_lt c 128)

holds : (a b : ℕ) → a < b → nat_lt a b ≡ true
holds a b h = grind (arith, nat_tests)

fails : (a b : ℕ) → b ≤ a → nat_lt a b ≡ false
fails a b h = grind (arith, nat_tests)

encode-one : (c : ℕ) → c < 128 → encode c ≡ c ∷ []
unfolding encode
encode-one c h = rw (holds c 128 h) refl

encode-two : (c : ℕ) → 128 ≤ c → c < 2048 → encode c ≡ (192 + c / 64) ∷ (128 + c % 64) ∷ []
unfolding encode
encode-two c h k = rw (fails c 128 h, holds c 2048 k) refl

encode-three : (c : ℕ) → 2048 ≤ c → c < 65536 → encode c ≡ (224 + c / 4096) ∷ (128 + c / 64 % 64) ∷ (128 + c % 64) ∷ []
unfolding encode
encode-three c h k = rw (fails c 128 (omega arith), fails c 2048 h, holds c 65536 k) refl

encode-four : (c : ℕ) → 65536 ≤ c → encode c ≡ (240 + c / 262144) ∷ (128 + c / 4096 % 64) ∷ (128 + c / 64 % 64) ∷ (128 + c % 64) ∷ []
unfolding encode
encode-four c h = rw (fails c 128 (omega arith), fails c 2048 (omega arith), fails c 65536 h) refl

less : (a b : ℕ) → a < b → nat_cmp a b ≡ Less
less a b h = grind (arith, nat_tests)

equal : (a b : ℕ) → a ≡ b → nat_cmp a b ≡ Equal
equal a b h = grind (arith, nat_tests)

record Below (xs ys : List ℕ) : Type 0 where
  is : slice_cmp nat_cmp xs ys ≡ Less

-- the first pair decides, or ties and leaves it to the next
at_once : (a b : ℕ) (xs ys : List ℕ) → a < b → Below (a ∷ xs) (b ∷ ys)
at_once a b xs ys h = record { is = rw (less a b h) refl }

later : (a b : ℕ) (xs ys : List ℕ) → a ≡ b → Below xs ys → Below (a ∷ xs) (b ∷ ys)
later a b xs ys h e = record { is = rw (equal a b h) e.is }

-- the digits to the base 64, from the first that differs
digit : (c d : ℕ) → c < d → (c / 64 < d / 64) ⊎ ((c / 64 ≡ d / 64) × (c % 64 < d % 64))
digit c d lt = ⊎_elim (λ h. inl h) (λ h. inr (omega (arith, lt, h), omega (arith, lt, h))) (cases_lt (c / 64) (d / 64))

-- a list of trailing bytes, of which the last holds the lowest digit
trailing : (c d : ℕ) (xs ys : List ℕ) → c % 64 < d % 64 → Below ((128 + c % 64) ∷ xs) ((128 + d % 64) ∷ ys)
trailing c d xs ys h = at_once (128 + c % 64) (128 + d % 64) xs ys (omega (arith, h))

same : (c d : ℕ) (xs ys : List ℕ) → c ≡ d → Below xs ys → Below ((128 + c % 64) ∷ xs) ((128 + d % 64) ∷ ys)
same c d xs ys h e = later (128 + c % 64) (128 + d % 64) xs ys (omega (arith, h)) e

two : (c d : ℕ) (xs ys : List ℕ) → c < d → Below ((192 + c / 64) ∷ (128 + c % 64) ∷ xs) ((192 + d / 64) ∷ (128 + d % 64) ∷ ys)
two c d xs ys lt = ⊎_elim
    (λ (h : c / 64 < d / 64). at_once (192 + c / 64) (192 + d / 64) _ _ (omega (arith, h)))
    (λ (h : (c / 64 ≡ d / 64) × (c % 64 < d % 64)). later (192 + c / 64) (192 + d / 64) _ _ (omega (arith, h.0)) (trailing c d xs ys h.1))
    (digit c d lt)

three : (c d : ℕ) (xs ys : List ℕ) → c < d → Below ((224 + c / 4096) ∷ (128 + c / 64 % 64) ∷ (128 + c % 64) ∷ xs) ((224 + d / 4096) ∷ (128 + d / 64 % 64) ∷ (128 + d % 64) ∷ ys)
three c d xs ys lt = ⊎_elim
    (λ (h : c / 64 < d / 64). ⊎_elim
    (λ (k : c / 64 / 64 < d / 64 / 64). at_once (224 + c / 4096) (224 + d / 4096) _ _ (omega (arith, k)))
    (λ (k : (c / 64 / 64 ≡ d / 64 / 64) × (c / 64 % 64 < d / 64 % 64)). later (224 + c / 4096) (224 + d / 4096) _ _ (omega (arith, k.0)) (trailing (c / 64) (d / 64) _ _ k.1))
    (digit (c / 64) (d / 64) h))
    (λ (h : (c / 64 ≡ d / 64) × (c % 64 < d % 64)). later (224 + c / 4096) (224 + d / 4096) _ _ (omega (arith, h.0)) (same (c / 64) (d / 64) _ _ h.0 (trailing c d xs ys h.1)))
    (digit c d lt)

four : (c d : ℕ) (xs ys : List ℕ) → c < d → Below ((240 + c / 262144) ∷ (128 + c / 4096 % 64) ∷ (128 + c / 64 % 64) ∷ (128 + c % 64) ∷ xs) ((240 + d / 262144) ∷ (128 + d / 4096 % 64) ∷ (128 + d / 64 % 64) ∷ (128 + d % 64) ∷ ys)
four c d xs ys lt = ⊎_elim
    (λ (h : c / 64 < d / 64). ⊎_elim
    (λ (k : c / 64 / 64 < d / 64 / 64). ⊎_elim
    (λ (m : c / 64 / 64 / 64 < d / 64 / 64 / 64). at_once (240 + c / 262144) (240 + d / 262144) _ _ (omega (arith, m)))
    (λ (m : (c / 64 / 64 / 64 ≡ d / 64 / 64 / 64) × (c / 64 / 64 % 64 < d / 64 / 64 % 64)). later (240 + c / 262144) (240 + d / 262144) _ _ (omega (arith, m.0)) (at_once (128 + c / 4096 % 64) (128 + d / 4096 % 64) _ _ (omega (arith, m.1))))
    (digit (c / 64 / 64) (d / 64 / 64) k))
    (λ (k : (c / 64 / 64 ≡ d / 64 / 64) × (c / 64 % 64 < d / 64 % 64)). later (240 + c / 262144) (240 + d / 262144) _ _ (omega (arith, k.0)) (later (128 + c / 4096 % 64) (128 + d / 4096 % 64) _ _ (omega (arith, k.0)) (trailing (c / 64) (d / 64) _ _ k.1)))
    (digit (c / 64) (d / 64) h))
    (λ (h : (c / 64 ≡ d / 64) × (c % 64 < d % 64)). later (240 + c / 262144) (240 + d / 262144) _ _ (omega (arith, h.0)) (later (128 + c / 4096 % 64) (128 + d / 4096 % 64) _ _ (omega (arith, h.0)) (same (c / 64) (d / 64) _ _ h.0 (trailing c d xs ys h.1))))
    (digit c d lt)

-- the bytes of a lower character come first
below : (c d : ℕ) (xs ys : List ℕ) → Width c → Width d → d < 1114112 → c < d → Below (encode c ++ xs) (encode d ++ ys)
below c d xs ys (One p) (One q) top lt = rw (encode-one c p, encode-one d q) (at_once c d _ _ (omega arith))
below c d xs ys (One p) (Two q r) top lt = rw (encode-one c p, encode-two d q r) (at_once c (192 + d / 64) _ _ (omega arith))
below c d xs ys (One p) (Three q r) top lt = rw (encode-one c p, encode-three d q r) (at_once c (224 + d / 4096) _ _ (omega arith))
below c d xs ys (One p) (Four q) top lt = rw (encode-one c p, encode-four d q) (at_once c (240 + d / 262144) _ _ (omega arith))
below c d xs ys (Two p o) (One q) top lt = absurd (omega arith)
below c d xs ys (Two p o) (Two q r) top lt = rw (encode-two c p o, encode-two d q r) (two c d xs ys lt)
below c d xs ys (Two p o) (Three q r) top lt = rw (encode-two c p o, encode-three d q r) (at_once (192 + c / 64) (224 + d / 4096) _ _ (omega arith))
below c d xs ys (Two p o) (Four q) top lt = rw (encode-two c p o, encode-four d q) (at_once (192 + c / 64) (240 + d / 262144) _ _ (omega arith))
below c d xs ys (Three p o) (One q) top lt = absurd (omega arith)
below c d xs ys (Three p o) (Two q r) top lt = absurd (omega arith)
below c d xs ys (Three p o) (Three q r) top lt = rw (encode-three c p o, encode-three d q r) (three c d xs ys lt)
below c d xs ys (Three p o) (Four q) top lt = rw (encode-three c p o, encode-four d q) (at_once (224 + c / 4096) (240 + d / 262144) _ _ (omega arith))
below c d xs ys (Four p) (One q) top lt = absurd (omega arith)
below c d xs ys (Four p) (Two q r) top lt = absurd (omega arith)
below c d xs ys (Four p) (Three q r) top lt = absurd (omega arith)
below c d xs ys (Four p) (Four q) top lt = rw (encode-four c p, encode-four d q) (four c d xs ys lt)

-- what two lists begin with alike doesn't count
slice_cmp-same : (ws xs ys : List ℕ) → slice_cmp nat_cmp (ws ++ xs) (ws ++ ys) ≡ slice_cmp nat_cmp xs ys
slice_cmp-same [] xs ys = refl
slice_cmp-same (w ∷ ws) xs ys = rw (equal w w refl) (slice_cmp-same ws xs ys)

starts : (c : ℕ) (xs : List ℕ) → Width c → Below [] (encode c ++ xs)
starts c xs (One p) = record { is = rw (encode-one c p) refl }
starts c xs (Two p o) = record { is = rw (encode-two c p o) refl }
starts c xs (Three p o) = record { is = rw (encode-three c p o) refl }
starts c xs (Four p) = record { is = rw (encode-four c p) refl }

after : (xs ys : List ℕ) → Below ys xs → slice_cmp nat_cmp xs ys ≡ Greater
after xs ys h = nat_list_cmp_total.antisymm xs ys ∙ ap ordering_reverse h.is

greater : (a b : ℕ) → b < a → nat_cmp a b ≡ Greater
greater a b h = grind (arith, nat_tests)

both : (a b : Bool) → (a && b) ≡ true → (a ≡ true) × (b ≡ true)
both true b h = (refl, h)
both false b h = cc

top_of : (c : ℕ) → scalar c ≡ true → c < 1114112
unfolding scalar
top_of c h = grind (arith, nat_tests)

-- by cases of the first character of each
slice_cmp-encodes : (cs ds : List ℕ) → scalars cs ≡ true → scalars ds ≡ true → slice_cmp nat_cmp (encodes cs) (encodes ds) ≡ slice_cmp nat_cmp cs ds
slice_cmp-encodes [] [] s t = refl
slice_cmp-encodes [] (d ∷ ds) s t = (starts d (encodes ds) (width d)).is
slice_cmp-encodes (c ∷ cs) [] s t = after (encode c ++ encodes cs) [] (starts c (encodes cs) (width c))
slice_cmp-encodes (c ∷ cs) (d ∷ ds) s t =
    let p = both (scalar c) (scalars cs) s in
    let q = both (scalar d) (scalars ds) t in
    ⊎_elim
    (λ (lt : c < d). (below c d (encodes cs) (encodes ds) (width c) (width d) (top_of d q.0) lt).is ∙ sym (at_once c d cs ds lt).is)
    (λ (le : d ≤ c). ⊎_elim
    (λ (gt : d < c). after _ _ (below d c (encodes ds) (encodes cs) (width d) (width c) (top_of c p.0) gt) ∙ sym (rw (greater c d gt) refl))
    (λ (ge : c ≤ d).
    let e : c ≡ d = omega arith in
    subst (λ x. slice_cmp nat_cmp (encode c ++ encodes cs) (encode x ++ encodes ds) ≡ ordering_then (nat_cmp c x) (slice_cmp nat_cmp cs ds)) e
    (slice_cmp-same (encode c) (encodes cs) (encodes ds) ∙ slice_cmp-encodes cs ds p.1 q.1 ∙ sym (rw (equal c c refl) refl)))
    (cases_lt d c))
    (cases_lt c d)

-- the order of two texts by their bytes is that by their characters
pub slice_cmp-chars : (bs ds : List ℕ) → IsUtf8 bs → IsUtf8 ds → slice_cmp nat_cmp bs ds ≡ slice_cmp nat_cmp (chars bs) (chars ds)
slice_cmp-chars bs ds u v =
    sym (λ i. slice_cmp nat_cmp (encodes-chars bs u i) (encodes-chars ds v i))
    ∙ slice_cmp-encodes (chars bs) (chars ds) (scalars-chars bs u) (scalars-chars ds v)

-- two texts have the same bytes where they have the same characters
pub pointwise-chars : (bs ds : List ℕ) → IsUtf8 bs → IsUtf8 ds → pointwise nat_eq bs ds ≡ pointwise nat_eq (chars bs) (chars ds)
pointwise-chars bs ds u v = texts_ties bs ds ∙ ap is_eq (slice_cmp-chars bs ds u v) ∙ sym (texts_ties (chars bs) (chars ds))
