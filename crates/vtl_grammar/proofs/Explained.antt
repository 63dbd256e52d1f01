-- What a reader's answer says of the tokens before the place where it stands.
use Rattle.std.proofs.Common.{◌≡◌, ℕ, suc, ◌+◌, ◌≤◌, max, List, [], ◌∷◌, ◌++◌, length, Bool, true, false, cond, Ok, Err, ◌⊎◌, inl, inr, refl, sym, ap, subst, ◌∙◌, append_assoc, arith}
use Rattle.std.proofs.lemmas.List.{append-nil, length-append}
use Rattle.vtl_tokens.specs.declared.token.Token.{Token}
use Rattle.vtl_grammar.specs.Marks.{Tokens}
use Rattle.vtl_grammar.specs.Rules.{Counts, Limit, lists}
use Rattle.vtl_grammar.specs.Reading.{Kind, Expected, TooDeep, TooMany, Got, Halt, Read, Reader, halt, got, ◌>>=◌, mapped, both, choice, starts}

-- both end here, or both go on with this token
abbrev pub SameHead : Tokens → Tokens → Type 0
SameHead [] [] = Unit {0}
SameHead [] (u ∷ us) = ⊥
SameHead (t ∷ ts) [] = ⊥
SameHead (t ∷ ts) (u ∷ us) = t ≡ u

pub SameHead-refl : (ts : Tokens) → SameHead ts ts
SameHead-refl [] = tt
SameHead-refl (t ∷ ts) = refl

pub SameHead-append : (us rest rest' : Tokens) → SameHead rest rest' → SameHead (us ++ rest) (us ++ rest')
SameHead-append [] rest rest' s = s
SameHead-append (u ∷ us) rest rest' s = refl

pub starts-same : (ks : List ℕ) (ts us : Tokens) → SameHead ts us → starts ks ts ≡ starts ks us
starts-same ks [] [] s = refl
starts-same ks [] (u ∷ us) s = absurd s
starts-same ks (t ∷ ts) [] s = absurd s
starts-same ks (t ∷ ts) (u ∷ us) s = ap (λ (x : Token). starts ks (x ∷ [])) s

-- what is spelled so within these counts, with at most so many levels
abbrev pub Spelling : Type 0 → Type 1
Spelling A = Counts → ℕ → A → Tokens → Type 0

abbrev pub IsMore : Counts → Counts → Type 0
IsMore L L' = (j : Limit) → L j ≤ L' j

-- only the limit that the kind names is another
abbrev pub IsOnly : Kind → Counts → ℕ → Counts → ℕ → Type 0
IsOnly Expected L l L' l' = ⊥
IsOnly TooDeep L l L' l' = L' ≡ L
IsOnly (TooMany j) L l L' l' = l' ≡ l

module _ {A : Type 0} (S : Spelling A) (L : Counts) (limit : ℕ) where
  -- where the limit that the kind names is raised, the front and the token go on
  pub record Further (k : Kind) (front : Tokens) (t : Token) : Type 0 where
    pub counts : Counts
    pub levels : ℕ
    pub counts_more : IsMore L counts
    pub levels_more : limit ≤ levels
    pub only : IsOnly k L limit counts levels
    pub value : A
    pub more : Tokens
    pub spelled : S counts levels value (front ++ t ∷ more)

  abbrev pub Beyond : Kind → Tokens → Tokens → Type 0
  Beyond k front [] = k ≡ Expected
  Beyond k front (t ∷ ts) = (k ≡ Expected) ⊎ Further k front t

  -- the front goes on to something that is spelled so, or nothing was read
  abbrev pub Goes : Tokens → Type 0
  Goes front = (front ≡ []) ⊎ ((more : Tokens) × (value : A) × S L limit value (front ++ more))

module _ {A : Type 0} (r : Reader A) (S : Spelling A) (L : Counts) (limit b : ℕ) (ts : Tokens) where
  -- the front is spelled so, and is read so whatever comes after the next token
  pub record IsRead (g : Got A) : Type 0 where
    pub front : Tokens
    pub parts : ts ≡ front ++ g.rest
    pub low : g.levels ≤ limit
    pub spelled : S L g.levels g.value front
    pub again : (rest : Tokens) → SameHead g.rest rest → r (front ++ rest) ≡ got g.value g.levels rest

  -- the front goes on, and is refused at the next token whatever comes after that; a list without a limit of its own
  -- has b items at least where there are too many
  pub record IsHalted (e : Halt) : Type 0 where
    pub front : Tokens
    pub parts : ts ≡ front ++ e.rest
    pub goes_on : Goes S L limit front
    pub beyond : Beyond S L limit e.kind front e.rest
    pub long : e.kind ≡ TooMany lists → b ≤ length front
    pub again : (rest : Tokens) → SameHead e.rest rest → r (front ++ rest) ≡ halt e.kind rest

  abbrev pub Explains : Read A → Type 0
  Explains (Ok g) = IsRead g
  Explains (Err e) = IsHalted e

-- what a limit allows a higher limit allows
pub record IsGrowing {A : Type 0} (S : Spelling A) : Type 0 where
  pub grows : (L L' : Counts) (h k : ℕ) (x : A) (us : Tokens) → IsMore L L' → h ≤ k → S L h x us → S L' k x us

-- something is spelled so, whatever the limits are
pub record HasSample {A : Type 0} (S : Spelling A) : Type 0 where
  pub value : A
  pub tokens : Tokens
  pub spelled : (L : Counts) (h : ℕ) → S L h value tokens

pub no_more : (L : Counts) → IsMore L L
no_more L j = omega arith

-- ---- what goes on with one goes on with another

module _ {A B : Type 0} (S : Spelling A) (Q : Spelling B) (u : ℕ → ℕ) (rises : (a b : ℕ) → a ≤ b → u a ≤ u b) (L : Counts) (limit : ℕ) (front front' : Tokens)
    (step : (L' : Counts) (l : ℕ) → IsMore L L' → limit ≤ l → (x : A) (us : Tokens) → S L' l x (front ++ us) → (y : B) × (vs extra : Tokens) × (vs ≡ us ++ extra) × Q L' (u l) y (front' ++ vs)) where
  only-map : (k : Kind) (L' : Counts) (l : ℕ) → IsOnly k L limit L' l → IsOnly k L (u limit) L' (u l)
  only-map Expected L' l e = e
  only-map TooDeep L' l e = e
  only-map (TooMany j) L' l e = ap u e

  further-map : (k : Kind) (t : Token) → Further S L limit k front t → Further Q L (u limit) k front' t
  further-map k t f =
      let s = step f.counts f.levels f.counts_more f.levels_more f.value (t ∷ f.more) f.spelled in
      record {
        counts = f.counts;
        levels = u f.levels;
        counts_more = f.counts_more;
        levels_more = rises limit f.levels f.levels_more;
        only = only-map k f.counts f.levels f.only;
        value = s.0;
        more = f.more ++ s.2;
        spelled = subst (λ (us : Tokens). Q f.counts (u f.levels) s.0 (front' ++ us)) s.3 s.4;
      }

  pub beyond-map : (k : Kind) (rest : Tokens) → Beyond S L limit k front rest → Beyond Q L (u limit) k front' rest
  beyond-map k [] e = e
  beyond-map k (t ∷ ts) (inl e) = inl e
  beyond-map k (t ∷ ts) (inr f) = inr (further-map k t f)

  pub goes-map : (front ≡ [] → Goes Q L (u limit) front') → Goes S L limit front → Goes Q L (u limit) front'
  goes-map none (inl e) = none e
  goes-map none (inr g) = let s = step L limit (no_more L) (omega arith) g.1 g.0 g.2 in inr (s.1, s.0, s.4)

-- levels that stay
abbrev pub same_levels : ℕ → ℕ
same_levels l = l

pub same_rises : (a b : ℕ) → a ≤ b → same_levels a ≤ same_levels b
same_rises a b le = le

pub suc_rises : (a b : ℕ) → a ≤ b → suc a ≤ suc b
suc_rises a b le = omega arith

-- ---- one after the other

abbrev pub SpellsBoth : {A B : Type 0} → Spelling A → Spelling B → Spelling (A × B)
SpellsBoth S Q L h v us = (a b : Tokens) × (us ≡ a ++ b) × S L h v.0 a × Q L h v.1 b

module _ {A B : Type 0} (r : Reader A) (q : Reader B) (S : Spelling A) (Q : Spelling B) (L : Counts) (limit b₁ b₂ b : ℕ) (ts : Tokens) (S-grows : IsGrowing S) (Q-grows : IsGrowing Q) (Q-sample : HasSample Q)
    (first-long : b ≤ b₁) (second-long : (h : ℕ) (x : A) (us : Tokens) → S L h x us → b ≤ b₂ + length us) where
  after_second : (a : Got A) → IsRead r S L limit b₁ ts a → (x : Read B) → Explains q Q L limit b₂ a.rest x → Explains (both r q) (SpellsBoth S Q) L limit b ts (x >>= λ b. got (a.value, b.value) (max a.levels b.levels) b.rest)
  after_second a f (Ok b) s = record {
    front = f.front ++ s.front;
    parts = f.parts ∙ ap (λ (us : Tokens). f.front ++ us) s.parts ∙ sym (append_assoc f.front s.front b.rest);
    low = let x = f.low in let y = s.low in omega arith;
    spelled = (f.front, s.front, refl, S-grows.grows L L a.levels (max a.levels b.levels) a.value f.front (no_more L) (omega arith) f.spelled, Q-grows.grows L L b.levels (max a.levels b.levels) b.value s.front (no_more L) (omega arith) s.spelled);
    again = λ (rest : Tokens) same.
        let head : SameHead a.rest (s.front ++ rest) = subst (λ (us : Tokens). SameHead us (s.front ++ rest)) (sym s.parts) (SameHead-append s.front b.rest rest same) in
        let one = f.again (s.front ++ rest) head in
        let two = s.again rest same in
        ap (both r q) (append_assoc f.front s.front rest) ∙ rw (one, two) refl;
  }
  after_second a f (Err e) s =
      let step : (L' : Counts) (l : ℕ) → IsMore L L' → limit ≤ l → (x : B) (us : Tokens) → Q L' l x (s.front ++ us) → (y : A × B) × (vs extra : Tokens) × (vs ≡ us ++ extra) × SpellsBoth S Q L' l y ((f.front ++ s.front) ++ vs) =
      λ L' l more le x us spelled. ((a.value, x), us, [], sym (append-nil us), (f.front, s.front ++ us, append_assoc f.front s.front us, S-grows.grows L L' a.levels l a.value f.front more (let low = f.low in omega arith) f.spelled, spelled)) in
      record {
        front = f.front ++ s.front;
        parts = f.parts ∙ ap (λ (us : Tokens). f.front ++ us) s.parts ∙ sym (append_assoc f.front s.front e.rest);
        goes_on = goes-map Q (SpellsBoth S Q) same_levels same_rises L limit s.front (f.front ++ s.front) step
            (λ none. inr (
              Q-sample.tokens,
              (a.value, Q-sample.value),
              (
                f.front,
                Q-sample.tokens,
                ap (λ (us : Tokens). (f.front ++ us) ++ Q-sample.tokens) none ∙ ap (λ (us : Tokens). us ++ Q-sample.tokens) (append-nil f.front),
                S-grows.grows L L a.levels limit a.value f.front (no_more L) f.low f.spelled,
                Q-sample.spelled L limit,
              ),
            )) s.goes_on;
        beyond = beyond-map Q (SpellsBoth S Q) same_levels same_rises L limit s.front (f.front ++ s.front) step e.kind e.rest s.beyond;
        long = λ is. let l = s.long is in let m = second-long a.levels a.value f.front f.spelled in let n = length-append f.front s.front in omega (arith, l, m, n);
        again = λ (rest : Tokens) same.
            let head : SameHead a.rest (s.front ++ rest) = subst (λ (us : Tokens). SameHead us (s.front ++ rest)) (sym s.parts) (SameHead-append s.front e.rest rest same) in
            let one = f.again (s.front ++ rest) head in
            let two = s.again rest same in
            ap (both r q) (append_assoc f.front s.front rest) ∙ rw (one, two) refl;
      }

  after_first : (x : Read A) → Explains r S L limit b₁ ts x → ((us : Tokens) → Explains q Q L limit b₂ us (q us)) → Explains (both r q) (SpellsBoth S Q) L limit b ts (x >>= λ a. q a.rest >>= λ b. got (a.value, b.value) (max a.levels b.levels) b.rest)
  after_first (Ok a) f law = after_second a f (q a.rest) (law a.rest)
  after_first (Err e) f law =
      let step : (L' : Counts) (l : ℕ) → IsMore L L' → limit ≤ l → (x : A) (us : Tokens) → S L' l x (f.front ++ us) → (y : A × B) × (vs extra : Tokens) × (vs ≡ us ++ extra) × SpellsBoth S Q L' l y (f.front ++ vs) =
      λ L' l more le x us spelled. ((x, Q-sample.value), us ++ Q-sample.tokens, Q-sample.tokens, refl, (f.front ++ us, Q-sample.tokens, sym (append_assoc f.front us Q-sample.tokens), spelled, Q-sample.spelled L' l)) in
      record {
        front = f.front;
        parts = f.parts;
        goes_on = goes-map S (SpellsBoth S Q) same_levels same_rises L limit f.front f.front step (λ none. inl none) f.goes_on;
        beyond = beyond-map S (SpellsBoth S Q) same_levels same_rises L limit f.front f.front step e.kind e.rest f.beyond;
        long = λ is. let l = f.long is in omega (arith, l, first-long);
        again = λ (rest : Tokens) same. let one = f.again rest same in rw one refl;
      }

  pub both-explained : Explains r S L limit b₁ ts (r ts) → ((us : Tokens) → Explains q Q L limit b₂ us (q us)) → Explains (both r q) (SpellsBoth S Q) L limit b ts (both r q ts)
  both-explained f law = after_first (r ts) f law

-- the same seen by f
module _ {A B : Type 0} (f : A → B) (r : Reader A) (S : Spelling A) (Q : Spelling B) (L : Counts) (limit b : ℕ) (ts : Tokens) (seen : (L' : Counts) (h : ℕ) (x : A) (us : Tokens) → IsMore L L' → S L' h x us → Q L' h (f x) us) where
  seen_step : (front : Tokens) (L' : Counts) (l : ℕ) → IsMore L L' → limit ≤ l → (x : A) (us : Tokens) → S L' l x (front ++ us) → (y : B) × (vs extra : Tokens) × (vs ≡ us ++ extra) × Q L' l y (front ++ vs)
  seen_step front L' l more le x us spelled = (f x, us, [], sym (append-nil us), seen L' l x (front ++ us) more spelled)

  pub mapped-explained : (x : Read A) → Explains r S L limit b ts x → Explains (λ (us : Tokens). mapped f (r us)) Q L limit b ts (mapped f x)
  mapped-explained (Ok a) e = record {
    front = e.front;
    parts = e.parts;
    low = e.low;
    spelled = seen L a.levels a.value e.front (no_more L) e.spelled;
    again = λ (rest : Tokens) same. let one = e.again rest same in rw one refl;
  }
  mapped-explained (Err d) e = record {
    front = e.front;
    parts = e.parts;
    goes_on = goes-map S Q same_levels same_rises L limit e.front e.front (seen_step e.front) (λ none. inl none) e.goes_on;
    beyond = beyond-map S Q same_levels same_rises L limit e.front e.front (seen_step e.front) d.kind d.rest e.beyond;
    long = e.long;
    again = λ (rest : Tokens) same. let one = e.again rest same in rw one refl;
  }

-- the same spelled in other words
module _ {A : Type 0} (r : Reader A) (S Q : Spelling A) (L : Counts) (limit b : ℕ) (ts : Tokens) (seen : (L' : Counts) (h : ℕ) (x : A) (us : Tokens) → IsMore L L' → S L' h x us → Q L' h x us) where
  said_step : (front : Tokens) (L' : Counts) (l : ℕ) → IsMore L L' → limit ≤ l → (x : A) (us : Tokens) → S L' l x (front ++ us) → (y : A) × (vs extra : Tokens) × (vs ≡ us ++ extra) × Q L' l y (front ++ vs)
  said_step front L' l more le x us spelled = (x, us, [], sym (append-nil us), seen L' l x (front ++ us) more spelled)

  pub said-explained : (x : Read A) → Explains r S L limit b ts x → Explains r Q L limit b ts x
  said-explained (Ok a) e = record { front = e.front; parts = e.parts; low = e.low; spelled = seen L a.levels a.value e.front (no_more L) e.spelled; again = e.again }
  said-explained (Err d) e = record {
    front = e.front;
    parts = e.parts;
    goes_on = goes-map S Q same_levels same_rises L limit e.front e.front (said_step e.front) (λ none. inl none) e.goes_on;
    beyond = beyond-map S Q same_levels same_rises L limit e.front e.front (said_step e.front) d.kind d.rest e.beyond;
    long = e.long;
    again = e.again;
  }

-- a list has fewer items too
pub shorter : {A : Type 0} (r : Reader A) (S : Spelling A) (L : Counts) (limit b c : ℕ) (ts : Tokens) → c ≤ b → (x : Read A) → Explains r S L limit b ts x → Explains r S L limit c ts x
shorter r S L limit b c ts le (Ok a) e = record { front = e.front; parts = e.parts; low = e.low; spelled = e.spelled; again = e.again }
shorter r S L limit b c ts le (Err d) e = record { front = e.front; parts = e.parts; goes_on = e.goes_on; beyond = e.beyond; long = λ is. let l = e.long is in omega arith; again = e.again }

-- ---- a choice

module _ {A : Type 0} (ks : List ℕ) (r q : Reader A) (S : Spelling A) (L : Counts) (limit b : ℕ) (ts : Tokens) where
  prefix_form_of : (front rest rest' : Tokens) → ts ≡ front ++ rest → SameHead rest rest' → starts ks (front ++ rest') ≡ starts ks ts
  prefix_form_of front rest rest' parts same =
      let one : SameHead (front ++ rest) (front ++ rest') = SameHead-append front rest rest' same in
      let two : starts ks (front ++ rest) ≡ starts ks (front ++ rest') = starts-same ks (front ++ rest) (front ++ rest') one in
      sym two ∙ sym (ap (starts ks) parts)

  pub left_explained : starts ks ts ≡ true → (x : Read A) → Explains r S L limit b ts x → Explains (choice ks r q) S L limit b ts x
  left_explained is_so (Ok a) e = record {
    front = e.front;
    parts = e.parts;
    low = e.low;
    spelled = e.spelled;
    again = λ (rest : Tokens) same. let h = prefix_form_of e.front a.rest rest e.parts same ∙ is_so in rw h (e.again rest same);
  }
  left_explained is_so (Err d) e = record {
    front = e.front;
    parts = e.parts;
    goes_on = e.goes_on;
    beyond = e.beyond;
    long = e.long;
    again = λ (rest : Tokens) same. let h = prefix_form_of e.front d.rest rest e.parts same ∙ is_so in rw h (e.again rest same);
  }

  pub right_explained : starts ks ts ≡ false → (x : Read A) → Explains q S L limit b ts x → Explains (choice ks r q) S L limit b ts x
  right_explained is_not (Ok a) e = record {
    front = e.front;
    parts = e.parts;
    low = e.low;
    spelled = e.spelled;
    again = λ (rest : Tokens) same. let h = prefix_form_of e.front a.rest rest e.parts same ∙ is_not in rw h (e.again rest same);
  }
  right_explained is_not (Err d) e = record {
    front = e.front;
    parts = e.parts;
    goes_on = e.goes_on;
    beyond = e.beyond;
    long = e.long;
    again = λ (rest : Tokens) same. let h = prefix_form_of e.front d.rest rest e.parts same ∙ is_not in rw h (e.again rest same);
  }

  either_way : (c : Bool) → starts ks ts ≡ c → (starts ks ts ≡ true → Explains r S L limit b ts (r ts)) → (starts ks ts ≡ false → Explains q S L limit b ts (q ts)) → Explains (choice ks r q) S L limit b ts (cond c (r ts) (q ts))
  either_way true is e f = left_explained is (r ts) (e is)
  either_way false is e f = right_explained is (q ts) (f is)

  pub choice-explained : (starts ks ts ≡ true → Explains r S L limit b ts (r ts)) → (starts ks ts ≡ false → Explains q S L limit b ts (q ts)) → Explains (choice ks r q) S L limit b ts (choice ks r q ts)
  choice-explained e f = either_way (starts ks ts) refl e f

-- ---- one token, or none

-- nothing is read
pub got-explained : {A : Type 0} (x : A) (S : Spelling A) (L : Counts) (limit b : ℕ) (ts : Tokens) → S L 0 x [] → Explains (got x 0) S L limit b ts (got x 0 ts)
got-explained x S L limit b ts s = record { front = []; parts = refl; low = omega arith; spelled = s; again = λ (rest : Tokens) same. refl }

-- a reader that looks at one token
module _ {A : Type 0} (r : Reader A) (S : Spelling A) (L : Counts) (limit b : ℕ) where
  expected-beyond : (ts : Tokens) → Beyond S L limit Expected [] ts
  expected-beyond [] = refl
  expected-beyond (t ∷ ts) = inl refl

  pub refused : (ts : Tokens) → ((rest : Tokens) → SameHead ts rest → r rest ≡ halt Expected rest) → Explains r S L limit b ts (halt Expected ts)
  refused ts same = record { front = []; parts = refl; goes_on = inl refl; beyond = expected-beyond ts; long = λ e. absurd cc; again = same }

  pub taken : (t : Token) (ts : Tokens) (x : A) → S L 0 x (t ∷ []) → ((rest : Tokens) → r (t ∷ rest) ≡ got x 0 rest) → Explains r S L limit b (t ∷ ts) (got x 0 ts)
  taken t ts x s again = record { front = t ∷ []; parts = refl; low = omega arith; spelled = s; again = λ (rest : Tokens) same. again rest }

-- a reader that refuses this token refuses each list that begins with it
pub refuses_head : {A : Type 0} (k : Kind) (r : Reader A) (t : Token) (ts rest : Tokens) → SameHead (t ∷ ts) rest → ((us : Tokens) → r (t ∷ us) ≡ halt k (t ∷ us)) → r rest ≡ halt k rest
refuses_head k r t ts [] s h = absurd s
refuses_head k r t ts (u ∷ us) s h = subst (λ (x : Token). r (x ∷ us) ≡ halt k (x ∷ us)) s (h us)

pub refuses_end : {A : Type 0} (r : Reader A) (rest : Tokens) → SameHead [] rest → r [] ≡ halt Expected [] → r rest ≡ halt Expected rest
refuses_end r [] s h = h
refuses_end r (u ∷ us) s h = absurd s
