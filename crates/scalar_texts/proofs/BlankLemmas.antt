-- What is left of a text without the blanks at its ends.
use Rattle.std.proofs.Common.{◌≡◌, ℕ, zero, suc, ◌-◌, true, false, Option, Some, None, List, [], ◌∷◌, ◌++◌, length, replicate, take, drop, reverse, eqb, refl, sym, ap, ◌∙◌, ⊎_elim, arith, length-append, append_assoc, lit<}
use Rattle.std.specs.Prelude.{chars, IsUtf8, encode_utf8_all, IfSome}
use Rattle.std.specs.Str.{IsAscii}
use Rattle.std.specs.List.{prefix_len}
use Rattle.std.specs.Str.Pattern.{IsTrimStartMatches, IsTrimEndMatches, FindsCharPrefix, FindsCharSuffix, CutsPrefixes, CutsSuffixes}
use Rattle.std.proofs.lemmas.Bool.{cases_Bool, eqb-true}
use Rattle.std.proofs.lemmas.List.{length-replicate, reverse-append, reverse-reverse, take_at, drop_at, append-nil, take-append-drop}
use Rattle.std.proofs.lemmas.Str.{encode_ascii, encodes-append, encodes-chars, chars-append, chars-IsAscii, IsUtf8-from_ascii}
use Rattle.std.proofs.lemmas.Str.Ascii.{IsAscii-nil, IsAscii-cons}
use Rattle.std.proofs.lemmas.Str.Pattern.{drop_at_char}
use Rattle.std.proofs.Math.Utf8.{encode}
use Rattle.std.proofs.Math.Seq.{drop-length}
use Rattle.scalar_texts.specs.Blanks.{is_blank, ltrimmed, rtrimmed, trimmed, IsLeftTrimmed, IsRightTrimmed, IsTrimmed, BeginsWithNoBlank, EndsWithNoBlank}

-- ---- the laws fix what is left
no_leading : (cs : List ℕ) → BeginsWithNoBlank cs → prefix_len is_blank cs ≡ 0
no_leading [] stops = refl
no_leading (c ∷ cs) stops =
    ⊎_elim (λ (e : eqb c 32 ≡ true). absurd (stops cs (ap (λ d. d ∷ cs) (eqb-true c 32 e)))) (λ (e : eqb c 32 ≡ false). rw e) (cases_Bool (eqb c 32))

prefix_len-blanks : (n : ℕ) (cs : List ℕ) → BeginsWithNoBlank cs → prefix_len is_blank (replicate n 32 ++ cs) ≡ n
prefix_len-blanks zero cs stops = no_leading cs stops
prefix_len-blanks (suc n) cs stops = omega (arith, prefix_len-blanks n cs stops)

blank_first : (n : ℕ) (cs : List ℕ) → replicate n 32 ++ (32 ∷ cs) ≡ replicate (suc n) 32 ++ cs
blank_first zero cs = refl
blank_first (suc n) cs = ap (λ t. 32 ∷ t) (blank_first n cs)

blank_last : (n : ℕ) → ◌++◌ {A = ℕ} (replicate n 32) (32 ∷ []) ≡ replicate (suc n) 32
blank_last n = blank_first n [] ∙ append-nil (replicate (suc n) 32)

reverse-blanks : (n : ℕ) → reverse {A = ℕ} (replicate n 32) ≡ replicate n 32
reverse-blanks zero = refl
reverse-blanks (suc n) =
    let one : List ℕ = 32 ∷ [] in
    reverse-append one (replicate n 32) ∙ ap (λ t. t ++ one) (reverse-blanks n) ∙ blank_last n

begins_reversed : (cs : List ℕ) → EndsWithNoBlank cs → BeginsWithNoBlank (reverse cs)
begins_reversed cs stops rest e =
    stops (reverse rest) (sym (reverse-reverse cs) ∙ ap reverse e ∙ reverse-append (32 ∷ []) rest)

pub ltrimmed_is : (cs middle : List ℕ) → IsLeftTrimmed cs middle → ltrimmed cs ≡ middle
ltrimmed_is cs middle law =
    let n = law.0.0 in
    let e : cs ≡ replicate n 32 ++ middle = law.0.1 in
    ap ltrimmed e ∙ ap (λ k. drop k (replicate n 32 ++ middle)) (prefix_len-blanks n middle law.1)
    ∙ drop_at (replicate n 32) middle n (length-replicate n 32)

suffix-blanks : (n : ℕ) (middle : List ℕ) → EndsWithNoBlank middle → prefix_len is_blank (reverse (middle ++ replicate n 32)) ≡ n
suffix-blanks n middle stops =
    ap (prefix_len is_blank) (reverse-append middle (replicate n 32) ∙ ap (λ t. t ++ reverse middle) (reverse-blanks n))
    ∙ prefix_len-blanks n (reverse middle) (begins_reversed middle stops)

pub rtrimmed_is : (cs middle : List ℕ) → IsRightTrimmed cs middle → rtrimmed cs ≡ middle
rtrimmed_is cs middle law =
    let n = law.0.0 in
    let e : cs ≡ middle ++ replicate n 32 = law.0.1 in
    ap rtrimmed e ∙ ap (λ k. take (length (middle ++ replicate n 32) - k) (middle ++ replicate n 32)) (suffix-blanks n middle law.1)
    ∙ take_at middle (replicate n 32) _ (omega (arith, length-append middle (replicate n 32), length-replicate {A = ℕ} n 32))

pub trimmed_is : (cs left middle : List ℕ) → IsLeftTrimmed cs left → IsRightTrimmed left middle → trimmed cs ≡ middle
trimmed_is cs left middle l r = ap rtrimmed (ltrimmed_is cs left l) ∙ rtrimmed_is left middle r

pub IsTrimmed_both : (cs left middle : List ℕ) → IsLeftTrimmed cs left → IsRightTrimmed left middle → IsTrimmed cs middle
IsTrimmed_both cs left middle l r = (
  (l.0.0, r.0.0, l.0.1 ∙ ap (λ t. replicate l.0.0 32 ++ t) r.0.1),
  (λ rest e. l.1 (rest ++ replicate r.0.0 32) (r.0.1 ∙ ap (λ t. t ++ replicate r.0.0 32) e)),
  r.1,
)

-- ---- what std's trims say of a text's bytes
cut_left : (ns s r : List ℕ) → CutsPrefixes (FindsCharPrefix 32) s ns r → s ≡ replicate (length ns) 32 ++ r
cut_left [] s r h = sym h
cut_left (n ∷ ns) s r h =
    cut_left ns s h.0 h.1
    ∙ ap (λ t. replicate (length ns) 32 ++ t) (drop_at_char 32 h.0 0 n h.2 (lit< tt) ∙ ap (λ t. 32 ∷ t) (sym h.3))
    ∙ blank_first (length ns) r

stops_left : (r : List ℕ) (o : Option ℕ) → FindsCharPrefix 32 r o → IfSome o (λ n. n ≡ 0) → BeginsWithNoBlank r
stops_left r None none z rest e = none rest (e ∙ ap (λ t. t ++ rest) (sym (encode_ascii 32 (lit< tt))))
stops_left r (Some n) at z rest e = absurd (omega (arith, at.ends, z))

cut_right : (ns s r : List ℕ) → CutsSuffixes (FindsCharSuffix 32) s ns r → s ≡ r ++ replicate (length ns) 32
cut_right [] s r h = sym h ∙ sym (append-nil r)
cut_right (n ∷ ns) s r h =
    let m = h.0 in
    let last : drop (length m - n) m ≡ 32 ∷ [] = drop_at_char 32 m (length m - n) (length m) h.2.1 (lit< tt) ∙ ap (λ t. 32 ∷ t) (drop-length m) in
    let whole : m ≡ r ++ (32 ∷ []) = sym (take-append-drop (length m - n) m) ∙ ap (λ t. take (length m - n) m ++ t) last ∙ ap (λ t. t ++ (32 ∷ [])) (sym h.3) in
    cut_right ns s m h.1 ∙ ap (λ t. t ++ replicate (length ns) 32) whole ∙ append_assoc r (32 ∷ []) (replicate (length ns) 32)

stops_right : (r : List ℕ) (o : Option ℕ) → FindsCharSuffix 32 r o → IfSome o (λ n. n ≡ 0) → EndsWithNoBlank r
stops_right r None none z front e = none front (e ∙ ap (λ t. front ++ t) (sym (encode_ascii 32 (lit< tt))))
stops_right r (Some n) at z front e = absurd (omega (arith, at.0, z))

-- ---- and of its characters
blanks_ascii : (n : ℕ) → IsAscii (replicate n 32)
blanks_ascii zero = IsAscii-nil
blanks_ascii (suc n) = IsAscii-cons 32 (replicate n 32) (lit< tt) (blanks_ascii n)

blanks_text : (n : ℕ) → IsUtf8 (replicate n 32)
blanks_text n = IsUtf8-from_ascii (replicate n 32) (blanks_ascii n)

chars-blanks : (n : ℕ) → chars (replicate n 32) ≡ replicate n 32
chars-blanks n = chars-IsAscii (replicate n 32) (blanks_ascii n)

pub IsLeftTrimmed-chars : (s r : List ℕ) → IsUtf8 r → IsTrimStartMatches (FindsCharPrefix 32) s r → IsLeftTrimmed (chars s) (chars r)
IsLeftTrimmed-chars s r text h =
    let n = length h.0.0 in (
      (n, ap chars (cut_left h.0.0 s r h.0.1) ∙ chars-append (replicate n 32) r (blanks_text n) ∙ ap (λ t. t ++ chars r) (chars-blanks n)),
      (λ rest e. stops_left r h.1.0 h.1.1 h.1.2 (encode_utf8_all rest)
          (sym (encodes-chars r text) ∙ ap encode_utf8_all e ∙ ap (λ t. t ++ encode_utf8_all rest) (encode_ascii 32 (lit< tt)))),
    )

pub IsRightTrimmed-chars : (s r : List ℕ) → IsUtf8 r → IsTrimEndMatches (FindsCharSuffix 32) s r → IsRightTrimmed (chars s) (chars r)
IsRightTrimmed-chars s r text h =
    let n = length h.0.0 in (
      (n, ap chars (cut_right h.0.0 s r h.0.1) ∙ chars-append r (replicate n 32) text ∙ ap (λ t. chars r ++ t) (chars-blanks n)),
      (λ front e. stops_right r h.1.0 h.1.1 h.1.2 (encode_utf8_all front)
          (sym (encodes-chars r text) ∙ ap encode_utf8_all e ∙ encodes-append front (32 ∷ [])
          ∙ ap (λ t. encode_utf8_all front ++ t) (append-nil (encode 32) ∙ encode_ascii 32 (lit< tt)))),
    )
