-- What reading by a rule answers is explained.
use Rattle.std.proofs.Common.{◌≡◌, ℕ, zero, suc, pred, ◌+◌, ◌-◌, ◌≤◌, max, length, List, [], ◌∷◌, ◌++◌, Bool, true, false, cond, Option, Some, None, Ok, Err, ◌⊎◌, inl, inr, refl, sym, ap, subst, ◌∙◌, arith}
use Rattle.std.proofs.lemmas.Bool.{eqb-true}
use Rattle.std.proofs.lemmas.List.{length-append, append-nil}
use Rattle.std.specs.Prelude.{nat_eq, ◌&&◌}
use Rattle.vtl_values.specs.declared.place.Place.{Place}
use Rattle.vtl_tokens.specs.declared.token.Token.{Token}
use Rattle.vtl_tokens.specs.declared.token.TokenKind.{TokenKind}
use Rattle.vtl_tokens.specs.declared.token.TokenKind.TheVariants as what
use Rattle.vtl_tokens.specs.declared.keyword.Keyword.TheVariants as words
use Rattle.vtl_tokens.specs.declared.sign.Sign.TheVariants as signs
use Rattle.vtl_grammar.specs.Marks.{Mark, key, sign, Tokens, at, of_mark, sort_of}
use Rattle.vtl_grammar.specs.Rules.{Counts, Limit, lists, Rule, mark, name, integer, number, text, part, ◌▸◌, option, suffix, either, repeated, prefixed, here, Prefix, label, component, Of, At, Text, first_place, prefix_tokens, SpellsMore}
use Rattle.vtl_grammar.specs.Reading.{Kind, Expected, TooMany, Got, Halt, Read, Reader, halt, got, ◌>>=◌, mapped, both, cons, some, maybe, member, starts, firsts, first_sort, read_mark, read_name, read_integer, read_number, read_text, read_more, has_prefix, with_some, with_none, read_prefixed}
use Rattle.vtl_grammar.proofs.Sorts.{is_mark, is_name, not_eq, member-one, member-split}
use Rattle.vtl_grammar.proofs.Explained.{SameHead, Spelling, IsMore, Beyond, IsRead, Explains, IsGrowing, HasSample, SpellsBoth, both-explained, mapped-explained, choice-explained, got-explained, taken, refused, refuses_head, refuses_end, goes-map, beyond-map, same_levels, same_rises}
use Rattle.vtl_grammar.proofs.Spellings.{more-wider, SpellsRule, and-true, has_sample, rule-sample, rule-no_tokens, some_tokens}

-- ---- one token

module _ (L : Counts) (limit b : ℕ) (m : Mark) where
  by_sort : (t : Token) (ts : Tokens) (c : Bool) → nat_eq (sort_of t.what) (of_mark m) ≡ c → Explains (read_mark m) (SpellsRule (mark m)) L limit b (t ∷ ts) (cond c (got t.place 0 ts) (halt Expected (t ∷ ts)))
  by_sort t ts true e = taken (read_mark m) (SpellsRule (mark m)) L limit b t ts t.place (ap (λ (x : TokenKind). at x t.place ∷ []) (is_mark m t.what e)) (λ rest. rw e refl)
  by_sort t ts false e = refused (read_mark m) (SpellsRule (mark m)) L limit b (t ∷ ts) (λ rest s. refuses_head Expected (read_mark m) t ts rest s (λ us. rw e refl))

  pub mark-explained : (ts : Tokens) → Explains (read_mark m) (SpellsRule (mark m)) L limit b ts (read_mark m ts)
  mark-explained [] = refused (read_mark m) (SpellsRule (mark m)) L limit b [] (λ rest s. refuses_end (read_mark m) rest s refl)
  mark-explained (t ∷ ts) = by_sort t ts (nat_eq (sort_of t.what) (of_mark m)) refl

module _ (L : Counts) (limit b : ℕ) where
  pub name-explained : (ts : Tokens) → Explains read_name (SpellsRule name) L limit b ts (read_name ts)
  name-explained [] = refused read_name (SpellsRule name) L limit b [] (λ rest s. refuses_end read_name rest s refl)
  name-explained (t ∷ ts) = by_kind t.what t.place
    where
      by_kind : (w : TokenKind) (p : Place) → Explains read_name (SpellsRule name) L limit b (at w p ∷ ts) (read_name (at w p ∷ ts))
      by_kind (what.Name n) p = taken read_name (SpellsRule name) L limit b (at (what.Name n) p) ts (record { value = n; place = p }) refl (λ rest. refl)
      by_kind (what.Integer n) p = refused read_name (SpellsRule name) L limit b (at (what.Integer n) p ∷ ts) (λ rest s. refuses_head Expected read_name (at (what.Integer n) p) ts rest s (λ us. refl))
      by_kind (what.Number n) p = refused read_name (SpellsRule name) L limit b (at (what.Number n) p ∷ ts) (λ rest s. refuses_head Expected read_name (at (what.Number n) p) ts rest s (λ us. refl))
      by_kind (what.Text n) p = refused read_name (SpellsRule name) L limit b (at (what.Text n) p ∷ ts) (λ rest s. refuses_head Expected read_name (at (what.Text n) p) ts rest s (λ us. refl))
      by_kind (what.Sign n) p = refused read_name (SpellsRule name) L limit b (at (what.Sign n) p ∷ ts) (λ rest s. refuses_head Expected read_name (at (what.Sign n) p) ts rest s (λ us. refl))
      by_kind (what.Reserved n) p = refused read_name (SpellsRule name) L limit b (at (what.Reserved n) p ∷ ts) (λ rest s. refuses_head Expected read_name (at (what.Reserved n) p) ts rest s (λ us. refl))
      by_kind what.End p = refused read_name (SpellsRule name) L limit b (at what.End p ∷ ts) (λ rest s. refuses_head Expected read_name (at what.End p) ts rest s (λ us. refl))

  pub integer-explained : (ts : Tokens) → Explains read_integer (SpellsRule integer) L limit b ts (read_integer ts)
  integer-explained [] = refused read_integer (SpellsRule integer) L limit b [] (λ rest s. refuses_end read_integer rest s refl)
  integer-explained (t ∷ ts) = by_kind t.what t.place
    where
      by_kind : (w : TokenKind) (p : Place) → Explains read_integer (SpellsRule integer) L limit b (at w p ∷ ts) (read_integer (at w p ∷ ts))
      by_kind (what.Name n) p = refused read_integer (SpellsRule integer) L limit b (at (what.Name n) p ∷ ts) (λ rest s. refuses_head Expected read_integer (at (what.Name n) p) ts rest s (λ us. refl))
      by_kind (what.Integer n) p = taken read_integer (SpellsRule integer) L limit b (at (what.Integer n) p) ts (record { value = n; place = p }) refl (λ rest. refl)
      by_kind (what.Number n) p = refused read_integer (SpellsRule integer) L limit b (at (what.Number n) p ∷ ts) (λ rest s. refuses_head Expected read_integer (at (what.Number n) p) ts rest s (λ us. refl))
      by_kind (what.Text n) p = refused read_integer (SpellsRule integer) L limit b (at (what.Text n) p ∷ ts) (λ rest s. refuses_head Expected read_integer (at (what.Text n) p) ts rest s (λ us. refl))
      by_kind (what.Sign n) p = refused read_integer (SpellsRule integer) L limit b (at (what.Sign n) p ∷ ts) (λ rest s. refuses_head Expected read_integer (at (what.Sign n) p) ts rest s (λ us. refl))
      by_kind (what.Reserved n) p = refused read_integer (SpellsRule integer) L limit b (at (what.Reserved n) p ∷ ts) (λ rest s. refuses_head Expected read_integer (at (what.Reserved n) p) ts rest s (λ us. refl))
      by_kind what.End p = refused read_integer (SpellsRule integer) L limit b (at what.End p ∷ ts) (λ rest s. refuses_head Expected read_integer (at what.End p) ts rest s (λ us. refl))

  pub number-explained : (ts : Tokens) → Explains read_number (SpellsRule number) L limit b ts (read_number ts)
  number-explained [] = refused read_number (SpellsRule number) L limit b [] (λ rest s. refuses_end read_number rest s refl)
  number-explained (t ∷ ts) = by_kind t.what t.place
    where
      by_kind : (w : TokenKind) (p : Place) → Explains read_number (SpellsRule number) L limit b (at w p ∷ ts) (read_number (at w p ∷ ts))
      by_kind (what.Name n) p = refused read_number (SpellsRule number) L limit b (at (what.Name n) p ∷ ts) (λ rest s. refuses_head Expected read_number (at (what.Name n) p) ts rest s (λ us. refl))
      by_kind (what.Integer n) p = refused read_number (SpellsRule number) L limit b (at (what.Integer n) p ∷ ts) (λ rest s. refuses_head Expected read_number (at (what.Integer n) p) ts rest s (λ us. refl))
      by_kind (what.Number n) p = taken read_number (SpellsRule number) L limit b (at (what.Number n) p) ts (record { value = n; place = p }) refl (λ rest. refl)
      by_kind (what.Text n) p = refused read_number (SpellsRule number) L limit b (at (what.Text n) p ∷ ts) (λ rest s. refuses_head Expected read_number (at (what.Text n) p) ts rest s (λ us. refl))
      by_kind (what.Sign n) p = refused read_number (SpellsRule number) L limit b (at (what.Sign n) p ∷ ts) (λ rest s. refuses_head Expected read_number (at (what.Sign n) p) ts rest s (λ us. refl))
      by_kind (what.Reserved n) p = refused read_number (SpellsRule number) L limit b (at (what.Reserved n) p ∷ ts) (λ rest s. refuses_head Expected read_number (at (what.Reserved n) p) ts rest s (λ us. refl))
      by_kind what.End p = refused read_number (SpellsRule number) L limit b (at what.End p ∷ ts) (λ rest s. refuses_head Expected read_number (at what.End p) ts rest s (λ us. refl))

  pub text-explained : (ts : Tokens) → Explains read_text (SpellsRule text) L limit b ts (read_text ts)
  text-explained [] = refused read_text (SpellsRule text) L limit b [] (λ rest s. refuses_end read_text rest s refl)
  text-explained (t ∷ ts) = by_kind t.what t.place
    where
      by_kind : (w : TokenKind) (p : Place) → Explains read_text (SpellsRule text) L limit b (at w p ∷ ts) (read_text (at w p ∷ ts))
      by_kind (what.Name n) p = refused read_text (SpellsRule text) L limit b (at (what.Name n) p ∷ ts) (λ rest s. refuses_head Expected read_text (at (what.Name n) p) ts rest s (λ us. refl))
      by_kind (what.Integer n) p = refused read_text (SpellsRule text) L limit b (at (what.Integer n) p ∷ ts) (λ rest s. refuses_head Expected read_text (at (what.Integer n) p) ts rest s (λ us. refl))
      by_kind (what.Number n) p = refused read_text (SpellsRule text) L limit b (at (what.Number n) p ∷ ts) (λ rest s. refuses_head Expected read_text (at (what.Number n) p) ts rest s (λ us. refl))
      by_kind (what.Text n) p = taken read_text (SpellsRule text) L limit b (at (what.Text n) p) ts (record { value = n; place = p }) refl (λ rest. refl)
      by_kind (what.Sign n) p = refused read_text (SpellsRule text) L limit b (at (what.Sign n) p ∷ ts) (λ rest s. refuses_head Expected read_text (at (what.Sign n) p) ts rest s (λ us. refl))
      by_kind (what.Reserved n) p = refused read_text (SpellsRule text) L limit b (at (what.Reserved n) p ∷ ts) (λ rest s. refuses_head Expected read_text (at (what.Reserved n) p) ts rest s (λ us. refl))
      by_kind what.End p = refused read_text (SpellsRule text) L limit b (at what.End p ∷ ts) (λ rest s. refuses_head Expected read_text (at what.End p) ts rest s (λ us. refl))

-- ---- rules that a token opens

-- it can go on with each token with which it begins
abbrev pub is_open : Rule → Bool
is_open (mark m) = true
is_open name = true
is_open integer = false
is_open number = false
is_open text = false
is_open (part q) = false
is_open (g ▸ h) = is_open g && has_sample h
is_open (option g h) = false
is_open (suffix g h) = false
is_open (either g h) = is_open g && is_open h
is_open (repeated l g h) = false
is_open (prefixed p g) = false
is_open (here g) = false

pub rule-opens : (g : Rule) → is_open g ≡ true → (L : Counts) (h : ℕ) (t : Token) → member (sort_of t.what) (firsts g) ≡ true → (v : Of g) × (more : Tokens) × SpellsRule g L h v (t ∷ more)
rule-opens (mark m) o L h t e = (t.place, [], ap (λ (x : TokenKind). at x t.place ∷ []) (is_mark m t.what (member-one (sort_of t.what) (of_mark m) e)))
rule-opens name o L h t e =
    let n = is_name t.what (eqb-true (sort_of t.what) 0 (member-one (sort_of t.what) 0 e)) in
    (record { value = n.0; place = t.place }, [], ap (λ (x : TokenKind). at x t.place ∷ []) n.1)
rule-opens integer o L h t e = absurd cc
rule-opens number o L h t e = absurd cc
rule-opens text o L h t e = absurd cc
rule-opens (part q) o L h t e = absurd cc
rule-opens (g ▸ q) o L h t e =
    let os = and-true (is_open g) (has_sample q) o in
    let one = rule-opens g os.0 L h t e in
    let two = rule-sample q os.1 in
    ((one.0, two.value), one.1 ++ two.tokens, (t ∷ one.1, two.tokens, refl, one.2, two.spelled L h))
rule-opens (option g q) o L h t e = absurd cc
rule-opens (suffix g q) o L h t e = absurd cc
rule-opens (either g q) o L h t e =
    let os = and-true (is_open g) (is_open q) o in
    elim (member-split (sort_of t.what) (firsts g) (firsts q) e) as (λ _. (v : Of g ⊎ Of q) × (more : Tokens) × SpellsRule (either g q) L h v (t ∷ more)) [
      | inl a ↦ (let one = rule-opens g os.0 L h t a in (inl one.0, one.1, one.2))
      | inr a ↦ (let one = rule-opens q os.1 L h t a in (inr one.0, one.1, one.2))
    ]
rule-opens (repeated l g q) o L h t e = absurd cc
rule-opens (prefixed p g) o L h t e = absurd cc
rule-opens (here g) o L h t e = absurd cc

-- ---- lists

-- what comes after c items
abbrev pub SpellsRest : {A : Type 0} → Limit → Spelling A → ℕ → Spelling (List A)
SpellsRest l S c L h xs us = (n : ℕ) × (n ≤ L l - c) × SpellsMore (S L h) n xs us

module _ {A : Type 0} (ks : List ℕ) (l : Limit) (r : Reader A) (S : Spelling A) (L : Counts) (limit : ℕ) (S-grows : IsGrowing S) (nonempty : (L' : Counts) (h : ℕ) (x : A) → S L' h x [] → ⊥)
    (opens : (L' : Counts) (h : ℕ) (t : Token) → member (sort_of t.what) ks ≡ true → (v : A) × (more : Tokens) × S L' h v (t ∷ more)) (law : (ts : Tokens) → Explains r S L limit (L lists) ts (r ts)) where
  pub more-grows : (c : ℕ) → IsGrowing (SpellsRest l S c)
  more-grows c = record { grows = λ L L' h k xs us more le s. (s.0, (let m = more l in let n = s.1 in omega arith), more-wider (S L h) (S L' k) (λ x vs q. S-grows.grows L L' h k x vs more le q) s.0 s.0 xs us (omega arith) s.2) }

  pub more-sample : (c : ℕ) → HasSample (SpellsRest l S c)
  more-sample c = record { value = []; tokens = []; spelled = λ L h. (0, omega arith, refl) }

  one_too_many : (c : ℕ) → c ≡ L l → (ts : Tokens) → starts ks ts ≡ true → Beyond (SpellsRest l S c) L limit (TooMany l) [] ts
  one_too_many c full [] e = absurd cc
  one_too_many c full (t ∷ ts) e =
      let o = opens (λ j. suc (L j)) limit t e in
      inr (record {
        counts = λ j. suc (L j);
        levels = limit;
        counts_more = λ j. omega arith;
        levels_more = omega arith;
        only = refl;
        value = o.0 ∷ [];
        more = o.1;
        spelled = (1, omega arith, (t ∷ o.1, [], sym (append-nil (t ∷ o.1)), o.2, refl));
      })

  only_lists : (b : ℕ) → (l ≡ lists → b ≤ 0) → TooMany l ≡ TooMany lists → b ≤ 0
  only_lists b none e = let same : l ≡ lists = cc in none same

  pub more-explained : (n c : ℕ) → c + n ≡ L l → (b : ℕ) → (l ≡ lists → b ≤ n) → b ≤ L lists → (ts : Tokens) → Explains (read_more ks l r n) (SpellsRest l S c) L limit b ts (read_more ks l r n ts)
  more-explained zero c full b few low ts = choice-explained ks (halt (TooMany l)) (got [] 0) (SpellsRest l S c) L limit b ts
      (λ is. record { front = []; parts = refl; goes_on = inl refl; beyond = one_too_many c (omega arith) ts is; long = λ e. only_lists b few e; again = λ (rest : Tokens) same. refl })
      (λ is. got-explained [] (SpellsRest l S c) L limit b ts (0, omega arith, refl))
  more-explained (suc n) c full b few low ts = choice-explained ks (λ us. mapped cons (both r (read_more ks l r n) us)) (got [] 0) (SpellsRest l S c) L limit b ts
      (λ is. mapped-explained cons (both r (read_more ks l r n)) (SpellsBoth S (SpellsRest l S (suc c))) (SpellsRest l S c) L limit b ts
      (λ L' h v us more s. (suc s.4.0, (let m = more l in let k = s.4.1 in omega arith), (s.0, s.1, s.2, s.3, s.4.2)))
      (both r (read_more ks l r n) ts)
      (both-explained r (read_more ks l r n) S (SpellsRest l S (suc c)) L limit (L lists) (pred b) b ts S-grows (more-grows (suc c)) (more-sample (suc c)) low
      (λ h x us s. let some = some_tokens (S L h) (nonempty L h) x us s in omega arith) (law ts)
      (λ us. more-explained n (suc c) (omega arith) (pred b) (λ is. let f = few is in omega arith) (omega arith) us)))
      (λ is. got-explained [] (SpellsRest l S c) L limit b ts (0, omega arith, refl))

-- ---- an end that may be left out

abbrev pub SpellsMaybe : {A : Type 0} → Spelling A → Spelling (Option A)
SpellsMaybe S L h None us = us ≡ []
SpellsMaybe S L h (Some x) us = S L h x us

pub maybe-grows : {A : Type 0} (S : Spelling A) → IsGrowing S → IsGrowing (SpellsMaybe S)
maybe-grows S g = record { grows = grown }
  where
    grown : (L L' : Counts) (h k : ℕ) (x : Option _) (us : Tokens) → IsMore L L' → h ≤ k → SpellsMaybe S L h x us → SpellsMaybe S L' k x us
    grown L L' h k None us more le s = s
    grown L L' h k (Some x) us more le s = g.grows L L' h k x us more le s

pub maybe-explained : {A : Type 0} (ks : List ℕ) (r : Reader A) (S : Spelling A) (L : Counts) (limit b : ℕ) (ts : Tokens) → Explains r S L limit b ts (r ts) → Explains (maybe ks r) (SpellsMaybe S) L limit b ts (maybe ks r ts)
maybe-explained ks r S L limit b ts e = choice-explained ks (λ us. mapped some (r us)) (got None 0) (SpellsMaybe S) L limit b ts
    (λ is. mapped-explained some r S (SpellsMaybe S) L limit b ts (λ L' h x us more s. s) (r ts) e)
    (λ is. got-explained None (SpellsMaybe S) L limit b ts refl)

-- ---- a reader that doesn't stop at a token of that sort

abbrev pub PassesSort : {A : Type 0} → ℕ → Reader A → Type 0
PassesSort k r = (t : Token) (ts : Tokens) (kind : Kind) → sort_of t.what ≡ k → r (t ∷ ts) ≡ halt kind (t ∷ ts) → ⊥

pub longer : (a b ts : Tokens) (t : Token) → t ∷ ts ≡ a ++ (b ++ t ∷ ts) → a ≡ []
longer [] b ts t parts = refl
longer (x ∷ a) b ts t parts =
    let len : length (t ∷ ts) ≡ length ((x ∷ a) ++ (b ++ t ∷ ts)) = ap length parts in
    absurd (omega (arith, len, length-append (x ∷ a) (b ++ t ∷ ts), length-append b (t ∷ ts)))

pub mapped-halts : {A B : Type 0} (f : A → B) (x : Read A) (k : Kind) (ts : Tokens) → mapped f x ≡ halt k ts → x ≡ halt k ts
mapped-halts f (Ok a) k ts e = absurd cc
mapped-halts f (Err b) k ts e = let d : b ≡ record { kind = k; rest = ts } = cc in ap Err d

abbrev paired : {A B : Type 0} → Got A → Got B → Read (A × B)
paired a b = got (a.value, b.value) (max a.levels b.levels) b.rest

module _ {A B : Type 0} (r : Reader A) (q : Reader B) (S : Spelling A) (Q : Spelling B) (L : Counts) (limit b c : ℕ) (law : (ts : Tokens) → Explains r S L limit b ts (r ts)) (law' : (ts : Tokens) → Explains q Q L limit c ts (q ts))
    (nonempty : (h : ℕ) (x : A) → S L h x [] → ⊥) (sort : ℕ) (passes : PassesSort sort r) where
  second_halts : (t : Token) (ts : Tokens) (k : Kind) (a : Got A) → IsRead r S L limit b (t ∷ ts) a → (y : Read B) → Explains q Q L limit c a.rest y → (y >>= λ b. paired a b) ≡ halt k (t ∷ ts) → ⊥
  second_halts t ts k a e (Ok b) g is = cc
  second_halts t ts k a e (Err d) g is =
      let d-is : d ≡ record { kind = k; rest = t ∷ ts } = cc in
      let rest-is : d.rest ≡ t ∷ ts = ap (λ (x : Halt). x.rest) d-is in
      let parts : t ∷ ts ≡ e.front ++ (g.front ++ t ∷ ts) = e.parts ∙ ap (λ (us : Tokens). e.front ++ us) (g.parts ∙ ap (λ (us : Tokens). g.front ++ us) rest-is) in
      nonempty a.levels a.value (subst (λ (us : Tokens). S L a.levels a.value us) (longer e.front g.front ts t parts) e.spelled)

  first_halts : (t : Token) (ts : Tokens) (k : Kind) → sort_of t.what ≡ sort → (x : Read A) → r (t ∷ ts) ≡ x → Explains r S L limit b (t ∷ ts) x
      → (x >>= λ a. q a.rest >>= λ b. paired a b) ≡ halt k (t ∷ ts) → ⊥
  first_halts t ts k s (Ok a) is e h = second_halts t ts k a e (q a.rest) (law' a.rest) h
  first_halts t ts k s (Err d) is e h = let d-is : d ≡ record { kind = k; rest = t ∷ ts } = cc in passes t ts k s (is ∙ ap Err d-is)

  pub both-passes : PassesSort sort (both r q)
  both-passes t ts k s h = first_halts t ts k s (r (t ∷ ts)) refl (law (t ∷ ts)) h

-- ---- where something begins

abbrev placed : {A : Type 0} → Reader A → Reader (Place × A)
placed r ts = mapped (λ v. (first_place ts, v)) (r ts)

abbrev SpellsPlaced : {A : Type 0} → Spelling A → Spelling (Place × A)
SpellsPlaced S L h v us = (v.0 ≡ first_place us) × S L h v.1 us

module _ {A : Type 0} (r : Reader A) (S : Spelling A) (L : Counts) (limit b : ℕ) (nonempty : (L' : Counts) (h : ℕ) (x : A) → S L' h x [] → ⊥) where
  placed_read : (ts : Tokens) (a : Got A) (front : Tokens) → ts ≡ front ++ a.rest → a.levels ≤ limit → S L a.levels a.value front → ((rest : Tokens) → SameHead a.rest rest → r (front ++ rest) ≡ got a.value a.levels rest)
      → Explains (placed r) (SpellsPlaced S) L limit b ts (got (first_place ts, a.value) a.levels a.rest)
  placed_read ts a [] parts low s again = absurd (nonempty L a.levels a.value s)
  placed_read ts a (t ∷ front) parts low s again =
      let first : first_place ts ≡ t.place = ap first_place parts in
      record { front = t ∷ front; parts = parts; low = low; spelled = (first, s); again = λ (rest : Tokens) same. let one = again rest same in rw (one, first) refl }

  pub placed-explained : (ts : Tokens) (x : Read A) → Explains r S L limit b ts x → Explains (placed r) (SpellsPlaced S) L limit b ts (mapped (λ v. (first_place ts, v)) x)
  placed-explained ts (Ok a) e = placed_read ts a e.front e.parts e.low e.spelled e.again
  placed-explained ts (Err d) e =
      let step : (L' : Counts) (l : ℕ) → IsMore L L' → limit ≤ l → (x : A) (us : Tokens) → S L' l x (e.front ++ us) → (y : Place × A) × (vs extra : Tokens) × (vs ≡ us ++ extra) × SpellsPlaced S L' l y (e.front ++ vs) =
      λ L' l more le x us spelled. ((first_place (e.front ++ us), x), us, [], sym (append-nil us), (refl, spelled)) in
      record {
        front = e.front;
        parts = e.parts;
        goes_on = goes-map S (SpellsPlaced S) same_levels same_rises L limit e.front e.front step (λ none. inl none) e.goes_on;
        beyond = beyond-map S (SpellsPlaced S) same_levels same_rises L limit e.front e.front step d.kind d.rest e.beyond;
        long = e.long;
        again = λ (rest : Tokens) same. let one = e.again rest same in rw one refl;
      }

-- ---- two tokens, and then what another reader reads

module _ {A B : Type 0} (t u : Token) (f : A → B) (r : Reader A) (q : Reader B) (S : Spelling A) (Q : Spelling B) (L : Counts) (limit b : ℕ) (sample : HasSample S) (ts : Tokens)
    (seen : (L' : Counts) (h : ℕ) (x : A) (us : Tokens) → S L' h x us → Q L' h (f x) (t ∷ u ∷ us))
    (opens : (us : Tokens) → q (t ∷ u ∷ us) ≡ mapped f (r us)) where
  after_two : (x : Read A) → Explains r S L limit b ts x → Explains q Q L limit b (t ∷ u ∷ ts) (mapped f x)
  after_two (Ok a) e = record {
    front = t ∷ u ∷ e.front;
    parts = ap (λ (us : Tokens). t ∷ u ∷ us) e.parts;
    low = e.low;
    spelled = seen L a.levels a.value e.front e.spelled;
    again = λ (rest : Tokens) same. let one = e.again rest same in opens (e.front ++ rest) ∙ rw one refl;
  }
  after_two (Err d) e =
      let step : (L' : Counts) (l : ℕ) → IsMore L L' → limit ≤ l → (x : A) (us : Tokens) → S L' l x (e.front ++ us) → (y : B) × (vs extra : Tokens) × (vs ≡ us ++ extra) × Q L' l y ((t ∷ u ∷ e.front) ++ vs) =
      λ L' l more le x us spelled. (f x, us, [], sym (append-nil us), seen L' l x (e.front ++ us) spelled) in
      record {
        front = t ∷ u ∷ e.front;
        parts = ap (λ (us : Tokens). t ∷ u ∷ us) e.parts;
        goes_on = goes-map S Q same_levels same_rises L limit e.front (t ∷ u ∷ e.front) step
            (λ none. inr (sample.tokens, f sample.value, subst (λ (vs : Tokens). Q L limit (f sample.value) ((t ∷ u ∷ vs) ++ sample.tokens)) (sym none) (seen L limit sample.value sample.tokens (sample.spelled L limit)))) e.goes_on;
        beyond = beyond-map S Q same_levels same_rises L limit e.front (t ∷ u ∷ e.front) step d.kind d.rest e.beyond;
        long = λ is. let l = e.long is in omega arith;
        again = λ (rest : Tokens) same. let one = e.again rest same in opens (e.front ++ rest) ∙ rw one refl;
      }

-- ---- a prefix

has_prefix-same : (p : Prefix) (t : Token) (front rest rest' : Tokens) → SameHead rest rest' → has_prefix p (t ∷ (front ++ rest)) ≡ has_prefix p (t ∷ (front ++ rest'))
has_prefix-same p t [] [] [] s = refl
has_prefix-same p t [] [] (v ∷ vs) s = absurd s
has_prefix-same p t [] (u ∷ us) [] s = absurd s
has_prefix-same p t [] (u ∷ us) (v ∷ vs) s = ap (λ (x : Token). has_prefix p (t ∷ x ∷ [])) s
has_prefix-same p t (u ∷ front) rest rest' s = refl

abbrev pub labelled_as : {A : Type 0} → At Text → A → Option (At Text) × A
labelled_as l v = (Some l, v)

seen_prefix : {A : Type 0} (l : At Text) (x : Read A) → mapped with_some (x >>= λ b. got (l, b.value) (max 0 b.levels) b.rest) ≡ mapped (labelled_as l) x
seen_prefix l (Ok a) = let levels : max 0 a.levels ≡ a.levels = omega arith in rw levels refl
seen_prefix l (Err d) = refl

pub prefix_opens : {A : Type 0} (r : Reader A) (p : Prefix) (l : At Text) (q : Place) (us : Tokens) → read_prefixed p r (prefix_tokens p l q us) ≡ mapped (labelled_as l) (r us)
prefix_opens r label l q us = seen_prefix l (r us)
prefix_opens r component l q us = seen_prefix l (r us)

of_prefix : (p : Prefix) (ts : Tokens) → has_prefix p ts ≡ true → (l : At Text) × (q : Place) × (us : Tokens) × (ts ≡ prefix_tokens p l q us)
of_prefix p [] e = absurd cc
of_prefix p (t ∷ []) e = absurd cc
of_prefix label (t ∷ u ∷ us) e =
    let es = and-true (nat_eq (sort_of t.what) 0) (nat_eq (sort_of u.what) (of_mark (sign signs.Colon))) e in
    let n = is_name t.what (eqb-true _ _ es.0) in
    let c = is_mark (sign signs.Colon) u.what es.1 in
    (record { value = n.0; place = t.place }, u.place, us, ap (λ (x : TokenKind). at x t.place ∷ u ∷ us) n.1 ∙ ap (λ (x : TokenKind). at (what.Name n.0) t.place ∷ at x u.place ∷ us) c)
of_prefix component (t ∷ u ∷ us) e =
    let es = and-true (nat_eq (sort_of t.what) (of_mark (key words.Rule))) (nat_eq (sort_of u.what) 0) e in
    let n = is_name u.what (eqb-true _ _ es.1) in
    let c = is_mark (key words.Rule) t.what es.0 in
    (record { value = n.0; place = u.place }, t.place, us, ap (λ (x : TokenKind). at x t.place ∷ u ∷ us) c ∙ ap (λ (x : TokenKind). at (what.Reserved words.Rule) t.place ∷ at x u.place ∷ us) n.1)

-- no prefix begins with another sort of token
other_sort : (p : Prefix) (t : Token) (us : Tokens) → (sort_of t.what ≡ first_sort p → ⊥) → has_prefix p (t ∷ us) ≡ false
other_sort p t [] h = refl
other_sort p t (u ∷ us) h = let e : nat_eq (sort_of t.what) (first_sort p) ≡ false = not_eq (sort_of t.what) (first_sort p) h in rw e refl

module _ (g : Rule) (r : Reader (Of g)) (p : Prefix) (L : Counts) (limit b : ℕ) (sample : HasSample (SpellsRule g)) (law : (ts : Tokens) → Explains r (SpellsRule g) L limit b ts (r ts)) (passes : PassesSort (first_sort p) r) where
  abbrev with_prefix : Reader (Option (At Text) × Of g)
  with_prefix = read_prefixed p r

  no_prefix : (t : Token) (front rest rest' ts : Tokens) → has_prefix p ts ≡ false → ts ≡ t ∷ (front ++ rest) → SameHead rest rest' → has_prefix p (t ∷ (front ++ rest')) ≡ false
  no_prefix t front rest rest' ts none parts same = sym (has_prefix-same p t front rest rest' same) ∙ sym (ap (has_prefix p) parts) ∙ none

  plain_read : (ts : Tokens) (a : Got (Of g)) (front : Tokens) → has_prefix p ts ≡ false → ts ≡ front ++ a.rest → a.levels ≤ limit → SpellsRule g L a.levels a.value front → ((rest : Tokens) → SameHead a.rest rest → r (front ++ rest) ≡ got a.value a.levels rest)
      → Explains with_prefix (SpellsRule (prefixed p g)) L limit b ts (got (with_none a.value) a.levels a.rest)
  plain_read ts a [] none parts low s again = absurd (rule-no_tokens g L a.levels a.value s)
  plain_read ts a (t ∷ front) none parts low s again = record {
    front = t ∷ front;
    parts = parts;
    low = low;
    spelled = s;
    again = λ (rest : Tokens) same. let not = no_prefix t front a.rest rest ts none parts same in let one = again rest same in rw not (rw one refl);
  }

  at_once : (ts rest : Tokens) (k : Kind) → SameHead ts rest → r rest ≡ halt k rest → with_prefix rest ≡ halt k rest
  at_once ts [] k same h = rw h refl
  at_once ts (u ∷ us) k same h = let not = other_sort p u us (λ s. passes u us k s h) in rw not (rw h refl)

  plain_again : (ts : Tokens) (k : Kind) (front end : Tokens) → has_prefix p ts ≡ false → ts ≡ front ++ end → ((rest : Tokens) → SameHead end rest → r (front ++ rest) ≡ halt k rest) → (rest : Tokens) → SameHead end rest → with_prefix (front ++ rest) ≡ halt k rest
  plain_again ts k [] end none parts again rest same = at_once end rest k same (again rest same)
  plain_again ts k (t ∷ front) end none parts again rest same = let not = no_prefix t front end rest ts none parts same in let one = again rest same in rw not (rw one refl)

  plain : (ts : Tokens) → has_prefix p ts ≡ false → (x : Read (Of g)) → Explains r (SpellsRule g) L limit b ts x → Explains with_prefix (SpellsRule (prefixed p g)) L limit b ts (mapped with_none x)
  plain ts none (Ok a) e = plain_read ts a e.front none e.parts e.low e.spelled e.again
  plain ts none (Err d) e =
      let step : (L' : Counts) (l : ℕ) → IsMore L L' → limit ≤ l → (x : Of g) (us : Tokens) → SpellsRule g L' l x (e.front ++ us) → (y : Option (At Text) × Of g) × (vs extra : Tokens) × (vs ≡ us ++ extra) × SpellsRule (prefixed p g) L' l y (e.front ++ vs) =
      λ L' l more le x us spelled. ((None, x), us, [], sym (append-nil us), spelled) in
      record {
        front = e.front;
        parts = e.parts;
        goes_on = goes-map (SpellsRule g) (SpellsRule (prefixed p g)) same_levels same_rises L limit e.front e.front step (λ none. inl none) e.goes_on;
        beyond = beyond-map (SpellsRule g) (SpellsRule (prefixed p g)) same_levels same_rises L limit e.front e.front step d.kind d.rest e.beyond;
        long = e.long;
        again = λ (rest : Tokens) same. plain_again ts d.kind e.front d.rest none e.parts e.again rest same;
      }

  after_prefix : (o : Prefix) → o ≡ p → (l : At Text) (q : Place) (us : Tokens) → Explains (read_prefixed o r) (SpellsRule (prefixed o g)) L limit b (prefix_tokens o l q us) (read_prefixed o r (prefix_tokens o l q us))
  after_prefix label is l q us = subst (λ (x : Read (Option (At Text) × Of g)). Explains (read_prefixed label r) (SpellsRule (prefixed label g)) L limit b (prefix_tokens label l q us) x) (sym (prefix_opens r label l q us))
      (after_two (at (what.Name l.value) l.place) (at (what.Sign signs.Colon) q) (labelled_as l) r (read_prefixed label r) (SpellsRule g) (SpellsRule (prefixed label g)) L limit b sample us (λ L' h x vs s. (q, vs, refl, s)) (prefix_opens r label l q) (r us) (law us))
  after_prefix component is l q us = subst (λ (x : Read (Option (At Text) × Of g)). Explains (read_prefixed component r) (SpellsRule (prefixed component g)) L limit b (prefix_tokens component l q us) x) (sym (prefix_opens r component l q us))
      (after_two (at (what.Reserved words.Rule) q) (at (what.Name l.value) l.place) (labelled_as l) r (read_prefixed component r) (SpellsRule g) (SpellsRule (prefixed component g)) L limit b sample us (λ L' h x vs s. (q, vs, refl, s)) (prefix_opens r component l q) (r us) (law us))

  by_prefix : (ts : Tokens) (c : Bool) → has_prefix p ts ≡ c → Explains with_prefix (SpellsRule (prefixed p g)) L limit b ts (with_prefix ts)
  by_prefix ts true e =
      let o = of_prefix p ts e in
      subst (λ (us : Tokens). Explains with_prefix (SpellsRule (prefixed p g)) L limit b us (with_prefix us)) (sym o.3) (after_prefix p refl o.0 o.1 o.2)
  by_prefix ts false e = let is : with_prefix ts ≡ mapped with_none (r ts) = rw e refl in subst (λ (x : Read (Option (At Text) × Of g)). Explains with_prefix (SpellsRule (prefixed p g)) L limit b ts x) (sym is) (plain ts e (r ts) (law ts))

  pub prefixed-explained : (ts : Tokens) → Explains with_prefix (SpellsRule (prefixed p g)) L limit b ts (with_prefix ts)
  prefixed-explained ts = by_prefix ts (has_prefix p ts) refl
