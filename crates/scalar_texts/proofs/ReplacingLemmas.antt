-- What std's `replace` says of a text's bytes, of its characters, and what they become.
use Rattle.std.proofs.Common.{◌≡◌, ◌≢◌, ℕ, zero, suc, ◌+◌, ◌<◌, ◌≤◌, Bor, Result, String, string_bytes, IfOk, Some, None, List, [], ◌∷◌, ◌++◌, length, take, drop, refl, sym, ap, ◌∙◌, subst, ⊎_elim, arith, length-append}
use Rattle.std.specs.Prelude.{chars, IsUtf8, encode_utf8_all}
use Rattle.std.specs.Str.Pattern.{FindsText}
use Rattle.std.specs.Str.Replace.{ReplacesMatches}
use Rattle.std.proofs.lemmas.List.{length-drop}
use Rattle.std.proofs.lemmas.Result.{IfOk-weaker}
use Rattle.std.proofs.lemmas.Str.{chars_from_encodes, encodes-chars, IsUtf8-string_bytes, IsUtf8-append, IsUtf8-take, IsUtf8-drop, IsCharBoundary-from_drop}
use Rattle.scalar_texts.specs.Replacing.{Replaces, stays, replaces, replaced_from, replaced}
use Rattle.scalar_texts.proofs.PlaceLemmas.{starts_true, starts_false, never_stands, first_match, encodes-splits}

-- ---- the law fixes what comes of the text
module _ (o : ℕ) (os new : List ℕ) where
  -- where the part stands nowhere
  from-none : (cs : List ℕ) → ((before after : List ℕ) → cs ≢ before ++ ((o ∷ os) ++ after)) → replaced_from (o ∷ os) new 0 cs ≡ cs
  from-none [] never = refl
  from-none (c ∷ cs) never =
      rw (starts_false (c ∷ cs) (o ∷ os) (never []))
      (ap (λ t. c ∷ t) (from-none cs (λ before after e. never (c ∷ before) after (ap (λ t. c ∷ t) e))))

  -- over the characters of an occurrence
  from-passed : (xs cs : List ℕ) → replaced_from (o ∷ os) new (length xs) (xs ++ cs) ≡ replaced_from (o ∷ os) new 0 cs
  from-passed [] cs = refl
  from-passed (x ∷ xs) cs = from-passed xs cs

  -- up to the first occurrence, and over it
  from-first : (before after : List ℕ) →
      ((sooner rest : List ℕ) → before ++ ((o ∷ os) ++ after) ≡ sooner ++ ((o ∷ os) ++ rest) → length before ≤ length sooner) →
      replaced_from (o ∷ os) new 0 (before ++ ((o ∷ os) ++ after)) ≡ before ++ (new ++ replaced_from (o ∷ os) new 0 after)
  from-first [] after first =
      rw (starts_true ((o ∷ os) ++ after) (o ∷ os) after refl)
      (ap (λ t. new ++ t) (ap (λ k. replaced_from (o ∷ os) new k (os ++ after)) (omega arith) ∙ from-passed os after))
  from-first (b ∷ before) after first =
      rw (starts_false (b ∷ (before ++ ((o ∷ os) ++ after))) (o ∷ os) (λ rest e. absurd (omega (arith, first [] rest e))))
      (ap (λ t. b ∷ t) (from-first before after (λ sooner rest e.
      let longer : suc (length before) ≤ suc (length sooner) = first (b ∷ sooner) rest (ap (λ t. b ∷ t) e) in omega (arith, longer))))

  by_law : {cs out : List ℕ} → Replaces (o ∷ os) new cs out → out ≡ replaced_from (o ∷ os) new 0 cs
  by_law (stays cs never) =
      sym (from-none cs (λ before after e. never (length before + 1) (before, after, e, refl)))
  by_law (replaces before after rest first behind) =
      ap (λ t. before ++ (new ++ t)) (by_law behind)
      ∙ sym (from-first before after (λ sooner more e. let h = first (length sooner + 1) (sooner, more, e, refl) in omega (arith, h)))

pub replaced_is : (old new cs out : List ℕ) → 0 < length old → Replaces old new cs out → out ≡ replaced cs old new
replaced_is [] new cs out some law = absurd (omega (arith, some))
replaced_is (o ∷ os) new cs out some law = by_law o os new law

-- ---- what std's `replace` makes of the bytes
pub record IsMadeOf (old new s out : List ℕ) : Type 0 where
  pub characters : List ℕ
  pub spell : encode_utf8_all characters ≡ out
  pub law : Replaces old new (chars s) characters

module _ (old new : List ℕ) (some : 0 < length old) (is_text : IsUtf8 old) (new_text : IsUtf8 new) where
  -- one occurrence, at the bytes from a to b, where the rest of the text is made so
  made_step : (s : List ℕ) (a b : ℕ) (rest out : List ℕ) → IsUtf8 s → FindsText old s (Some (a, b)) → out ≡ take a s ++ (new ++ rest) →
      (IsUtf8 (drop b s) → IsMadeOf (chars old) (chars new) (drop b s) rest) → IsMadeOf (chars old) (chars new) s out
  made_step s a b rest out text found is next =
      let behind : IsUtf8 (drop b s) = subst (λ k. IsUtf8 (drop k s)) (sym found.1.ends) (IsUtf8-drop s (a + length old) text found.1.after) in
      let fits : a ≤ length s = omega (arith, some, length-drop a s, ap length found.1.split, length-append old (drop b s)) in
      let back : IsUtf8 (drop a s) = subst (λ t. IsUtf8 t) (sym found.1.split) (IsUtf8-append old (drop b s) is_text behind) in
      let front : IsUtf8 (take a s) = IsUtf8-take s a text (IsCharBoundary-from_drop s a fits back) in
      let first = first_match s old a b text is_text found fits back front in
      let made = next behind in
      let before = chars (take a s) in
      let after = chars (drop b s) in
      record {
        characters = before ++ (chars new ++ made.characters);
        spell =
            encodes-splits before (chars new) made.characters
            ∙ ap (λ t. t ++ (encode_utf8_all (chars new) ++ encode_utf8_all made.characters)) (encodes-chars (take a s) front)
            ∙ ap (λ t. take a s ++ (t ++ encode_utf8_all made.characters)) (encodes-chars new new_text)
            ∙ ap (λ t. take a s ++ (new ++ t)) made.spell ∙ sym is;
        law = subst (λ cs. Replaces (chars old) (chars new) cs (before ++ (chars new ++ made.characters))) (sym first.splits)
            (replaces before after made.characters
            (λ place stands. omega (arith, stands.3, first.first stands.0 stands.1 (first.splits ∙ stands.2))) made.law);
      }

  pub made_of : (n : ℕ) (p : Bor (List ℕ)) (s out : List ℕ) → p.now ≡ old → IsUtf8 s →
      ReplacesMatches (λ (q : Bor (List ℕ)). FindsText q.now) (λ q r. r.now ≡ q.now) new n p s out →
      IsMadeOf (chars old) (chars new) s out
  made_of zero p s out same text h = record {
    characters = chars s;
    spell = encodes-chars s text ∙ sym h.1;
    law = stays (chars s) (λ place stands. never_stands s old text is_text (subst (λ t. FindsText t s None) same h.0) stands.0 stands.1 stands.2);
  }
  made_of (suc n) p s out same text h =
      let a = h.0 in
      let b = h.1 in
      let found : FindsText old s (Some (a, b)) = subst (λ t. FindsText t s (Some (a, b))) same h.4 in
      made_step s a b h.3 out text found h.7 (λ behind. ⊎_elim
      (λ more. made_of n h.2 (drop b s) h.3 (h.5 ∙ same) behind more.1)
      (λ stuck. absurd (omega (arith, stuck.0, found.1.ends, some)))
      h.6)

  pub made_law : {Z E : Type 0} (r : Result (String Z) E) (p : Bor (List ℕ)) (s : List ℕ) → p.now ≡ old → IsUtf8 s →
      IfOk r (λ t. (n : ℕ) × ReplacesMatches (λ (q : Bor (List ℕ)). FindsText q.now) (λ q r. r.now ≡ q.now) new n p s (string_bytes t)) →
      IfOk r (λ t. Replaces (chars old) (chars new) (chars s) (chars (string_bytes t)))
  made_law r p s same text = IfOk-weaker r
      (λ t. (n : ℕ) × ReplacesMatches (λ (q : Bor (List ℕ)). FindsText q.now) (λ q r. r.now ≡ q.now) new n p s (string_bytes t))
      (λ t. Replaces (chars old) (chars new) (chars s) (chars (string_bytes t)))
      (λ t h. let made = made_of h.0 p s (string_bytes t) same text h.1 in
      subst (Replaces (chars old) (chars new) (chars s)) (chars_from_encodes made.characters (string_bytes t) (IsUtf8-string_bytes t) made.spell) made.law)
