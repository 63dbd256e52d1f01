-- Reading a list in a loop.
use Rattle.std.proofs.Common.{◌≡◌, ℕ, zero, suc, ◌+◌, ◌<◌, max, List, [], ◌∷◌, ◌++◌, map, Bool, true, false, cond, Result, Ok, Err, refl, sym, ap, ◌∙◌, append_assoc, arith}
use Rattle.std.proofs.lemmas.List.{append-nil}
use Rattle.std.specs.Prelude.{nat_eq}
use Rattle.vtl_values.specs.declared.place.Place.{Place}
use Rattle.vtl_tokens.specs.declared.sign.Sign.{Sign}
use Rattle.vtl_grammar.specs.Marks.{Tokens, sign, of_mark, sort_of}
use Rattle.vtl_grammar.specs.Rules.{Limit, Rule, ◌▸◌, repeated, Part, OfPart, Of, sig, listed}
use Rattle.vtl_grammar.specs.Reading.{Kind, Expected, TooMany, Got, Read, Reader, halt, got, ◌>>=◌, mapped, both, cons, starts, firsts, read_mark, read_more}
use Rattle.vtl_cursor.specs.Limits.{limits}
use Rattle.vtl_cursor.specs.Plain.{read_plain}
use Rattle.vtl_grammar.proofs.RuleLaws.{mapped-halts}
use Rattle.vtl_cursor.specs.declared.stop.Stop.{Stop}
use Rattle.vtl_cursor.specs.declared.stop.Stop.TheVariants as stops
use Rattle.vtl_cursor.specs.Views.{IsShown, IsShownDeep, GivesDeep, ShowsDeep, joined, kind_of}
use Rattle.vtl_cursor.proofs.Shown.{shown_deep}
use Rattle.vtl_cursor.specs.Lists.{after, next_item, others}

module _ {A : Type 0} (ks : List ℕ) (l : Limit) (r : Reader A) where
  -- ---- one step of a loop

  module _ (front : List A) (h : ℕ) where
    one_more : (n : ℕ) (ts vs : Tokens) (x : A) (h' : ℕ) → starts ks ts ≡ true → r ts ≡ got x h' vs → joined front h (read_more ks l r (suc n) ts) ≡ joined (front ++ x ∷ []) (max h h') (read_more ks l r n vs)
    one_more n ts vs x h' some is = rw (some, is) (peel (read_more ks l r n vs))
      where
        peel : (b : Read (List A)) → joined front h (mapped cons (b >>= λ c. got (x, c.value) (max h' c.levels) c.rest)) ≡ joined (front ++ x ∷ []) (max h h') b
        peel (Ok b) =
            let values : front ++ (x ∷ b.value) ≡ (front ++ x ∷ []) ++ b.value = sym (append_assoc front (x ∷ []) b.value) in
            let levels : max h (max h' b.levels) ≡ max (max h h') b.levels = omega arith in
            rw (values, levels) refl
        peel (Err e) = refl

    -- one more stands there
    pub goes_on : (left next : ℕ) (ts vs : Tokens) (x : A) (h' : ℕ) (total : Read (List A)) → joined front h (read_more ks l r left ts) ≡ total → next + 1 ≡ left → starts ks ts ≡ true → r ts ≡ got x h' vs
        → joined (front ++ x ∷ []) (max h h') (read_more ks l r next vs) ≡ total
    goes_on left next ts vs x h' total so_far is_next some is =
        let e : left ≡ suc next = omega arith in
        sym (one_more next ts vs x h' some is) ∙ ap (λ (n : ℕ). joined front h (read_more ks l r n ts)) (sym e) ∙ so_far

    -- the one that stands there is no item
    pub item_halts : (left : ℕ) (ts vs : Tokens) (k : Kind) (total : Read (List A)) → joined front h (read_more ks l r left ts) ≡ total → 0 < left → starts ks ts ≡ true → r ts ≡ halt k vs → total ≡ halt k vs
    item_halts zero ts vs k total so_far lt some is = absurd (omega arith)
    item_halts (suc n) ts vs k total so_far lt some is = let e : joined front h (read_more ks l r (suc n) ts) ≡ halt k vs = rw (some, is) refl in sym so_far ∙ e

    -- one stands there that is one too many
    pub is_full : (left : ℕ) (ts : Tokens) (total : Read (List A)) → joined front h (read_more ks l r left ts) ≡ total → left ≡ 0 → starts ks ts ≡ true → total ≡ halt (TooMany l) ts
    is_full left ts total so_far full some = let e : joined front h (read_more ks l r left ts) ≡ halt (TooMany l) ts = rw (full, some) refl in sym so_far ∙ e

    ended : (n : ℕ) (ts : Tokens) → starts ks ts ≡ false → joined front h (read_more ks l r n ts) ≡ got front h ts
    ended zero ts none = let values : front ++ [] ≡ front = append-nil front in let levels : max h 0 ≡ h = omega arith in rw none (rw (values, levels) refl)
    ended (suc n) ts none = let values : front ++ [] ≡ front = append-nil front in let levels : max h 0 ≡ h = omega arith in rw none (rw (values, levels) refl)

    -- none stands there
    pub is_whole : (left : ℕ) (ts : Tokens) (total : Read (List A)) → joined front h (read_more ks l r left ts) ≡ total → starts ks ts ≡ false → total ≡ got front h ts
    is_whole left ts total so_far none = sym so_far ∙ ended left ts none

-- nothing was read before
pub joined-nil : {A : Type 0} (x : Read (List A)) → joined [] 0 x ≡ x
joined-nil (Ok b) = let levels : max 0 b.levels ≡ b.levels = omega arith in rw levels refl
joined-nil (Err e) = refl

-- ---- the items seen by f

module _ {A B : Type 0} (ks : List ℕ) (l : Limit) (r : Reader A) (f : A → B) where
  abbrev seen : Reader B
  seen us = mapped f (r us)

  by_rest : (a : Got A) (x : Read (List A)) (y : Read (List B)) → mapped (map f) x ≡ y → mapped (map f) (mapped cons (x >>= λ b. got (a.value, b.value) (max a.levels b.levels) b.rest)) ≡ mapped cons (y >>= λ b. got (f a.value, b.value) (max a.levels b.levels) b.rest)
  by_rest a (Ok b) y e = rw (← e) refl
  by_rest a (Err d) y e = rw (← e) refl

  module _ (n : ℕ) (more : (us : Tokens) → mapped (map f) (read_more ks l r n us) ≡ read_more ks l seen n us) where
    by_item : (x : Read A) → mapped (map f) (mapped cons (x >>= λ a. read_more ks l r n a.rest >>= λ b. got (a.value, b.value) (max a.levels b.levels) b.rest))
        ≡ mapped cons (mapped f x >>= λ a. read_more ks l seen n a.rest >>= λ b. got (a.value, b.value) (max a.levels b.levels) b.rest)
    by_item (Ok a) = by_rest a (read_more ks l r n a.rest) (read_more ks l seen n a.rest) (more a.rest)
    by_item (Err d) = refl

    by_start : (ts : Tokens) (c : Bool) → mapped (map f) (cond c (mapped cons (both r (read_more ks l r n) ts)) (got [] 0 ts)) ≡ cond c (mapped cons (both seen (read_more ks l seen n) ts)) (got [] 0 ts)
    by_start ts true = by_item (r ts)
    by_start ts false = refl

  too_many : (ts : Tokens) (c : Bool) → mapped (map f) (cond c (halt (TooMany l) ts) (got [] 0 ts)) ≡ cond c (halt (TooMany l) ts) (got [] 0 ts)
  too_many ts true = refl
  too_many ts false = refl

  pub more-map : (n : ℕ) (ts : Tokens) → mapped (map f) (read_more ks l r n ts) ≡ read_more ks l seen n ts
  more-map zero ts = too_many ts (starts ks ts)
  more-map (suc n) ts = by_start n (more-map n) ts (starts ks ts)

-- ---- items with a sign before each

module _ {A B : Type 0} (f : A → B) where
  pub listed-is : (v : A) (ws : List (Place × A)) → listed f (v, ws) ≡ f v ∷ map (after f) ws
  listed-is v [] = refl
  listed-is v (w ∷ ws) = ap (λ (xs : List B). f v ∷ xs) (listed-is w.1 ws)

  -- a first item with its levels, and what comes after it
  pub listed-joined : (v : A) (h : ℕ) (x : Read (List (Place × A))) → mapped (listed f) (x >>= λ b. got (v, b.value) (max h b.levels) b.rest) ≡ joined (f v ∷ []) h (mapped (map (after f)) x)
  listed-joined v h (Ok b) = rw (listed-is v b.value) refl
  listed-joined v h (Err e) = refl

-- what has no levels
pub shallow : {V X : Type 0} (of : V → X) (x : X) (rest : Tokens) (r : Read V) → IsShown of x rest r → IsShownDeep of x 0 rest r
shallow of x rest r s = record { value = s.value; reads = s.reads; shows = s.shows }

-- what was returned of what was read by rules, where that is seen by `of`
pub shown-along : {V X : Type 0} (of : V → X) (rest : Tokens) (result : Result (X × ℕ) Stop) (r : Read V) (q : Read X) → q ≡ mapped of r → GivesDeep rest result q → ShowsDeep of rest result r
shown-along of rest (Ok x) r q e is = shown_deep of rest x.0 x.1 r (sym e ∙ is)
shown-along of rest (Err stops.Memory) r q e is = tt
shown-along of rest (Err (stops.At k)) r q e is = mapped-halts of r (kind_of k) rest (sym e ∙ is)

module _ {X : Type 0} (inner : (q : Part) → Reader (OfPart q)) (s : Sign) (g : Rule) (of : Of g → X) where
  next-is : (ts us vs : Tokens) (p : Place) (x : X) (h : ℕ) → read_mark (sign s) ts ≡ got p 0 us → IsShownDeep of x h vs (read_plain limits inner g us) → next_item inner s g of ts ≡ got x h vs
  next-is ts us vs p x h is w = let levels : max 0 h ≡ h = omega arith in rw (is, w.reads, levels, ← w.shows) refl

  next-halts : (ts us vs : Tokens) (p : Place) (k : Kind) → read_mark (sign s) ts ≡ got p 0 us → read_plain limits inner g us ≡ halt k vs → next_item inner s g of ts ≡ halt k vs
  next-halts ts us vs p k is halts = rw (is, halts) refl

  started : (ts us : Tokens) (p : Place) → read_mark (sign s) ts ≡ got p 0 us → starts (firsts (sig s)) ts ≡ true
  started [] us p is = absurd cc
  started (t ∷ ts) us p is = by_sort (nat_eq (sort_of t.what) (of_mark (sign s))) is
    where
      by_sort : (c : Bool) → cond c (got t.place 0 ts) (halt Expected (t ∷ ts)) ≡ got p 0 us → cond c true false ≡ true
      by_sort true is = refl
      by_sort false is = absurd cc

  module _ (l : Limit) where
    -- so many of them at most
    abbrev pub some_others : ℕ → Reader (List X)
    some_others n = read_more (firsts (sig s)) l (next_item inner s g of) n

    module _ (front : List X) (h left : ℕ) (ts : Tokens) (total : Read (List X)) (so_far : joined front h (some_others left ts) ≡ total) where
      -- one more
      pub others-go_on : (next : ℕ) (us vs : Tokens) (p : Place) (x : X) (h' : ℕ) → next + 1 ≡ left → read_mark (sign s) ts ≡ got p 0 us → IsShownDeep of x h' vs (read_plain limits inner g us) → joined (front ++ x ∷ []) (max h h') (some_others next vs) ≡ total
      others-go_on next us vs p x h' is_next is w = goes_on (firsts (sig s)) l (next_item inner s g of) front h left next ts vs x h' total so_far is_next (started ts us p is) (next-is ts us vs p x h' is w)

      -- after the sign stands no item
      pub others-halt : (us vs : Tokens) (p : Place) (k : Kind) → 0 < left → read_mark (sign s) ts ≡ got p 0 us → read_plain limits inner g us ≡ halt k vs → total ≡ halt k vs
      others-halt us vs p k some is halts = item_halts (firsts (sig s)) l (next_item inner s g of) front h left ts vs k total so_far some (started ts us p is) (next-halts ts us vs p k is halts)

      -- a sign comes that is one too many
      pub others-full : left ≡ 0 → starts (firsts (sig s)) ts ≡ true → total ≡ halt (TooMany l) ts
      others-full full some = is_full (firsts (sig s)) l (next_item inner s g of) front h left ts total so_far full some

      -- no sign comes
      pub others-end : starts (firsts (sig s)) ts ≡ false → total ≡ got front h ts
      others-end none = is_whole (firsts (sig s)) l (next_item inner s g of) front h left ts total so_far none

    -- the others without the first
    pub others-seen : (ts : Tokens) → joined [] 0 (others inner s l g of ts) ≡ mapped (map (after of)) (read_more (firsts (sig s)) l (read_plain limits inner (sig s ▸ g)) (limits l) ts)
    others-seen ts = joined-nil (others inner s l g of ts) ∙ sym (more-map (firsts (sig s)) l (read_plain limits inner (sig s ▸ g)) (after of) (limits l) ts)

    -- a first item and the others are the list
    pub list-is : (x : X) (h : ℕ) (ts us : Tokens) → IsShownDeep of x h us (read_plain limits inner g ts) → joined (x ∷ []) h (others inner s l g of us) ≡ mapped (listed of) (read_plain limits inner (repeated l g (sig s ▸ g)) ts)
    list-is x h ts us w =
        let v : Of g = w.value in
        let item = read_plain limits inner (sig s ▸ g) in
        ap (λ (y : X). joined (y ∷ []) h (others inner s l g of us)) (sym w.shows) ∙ ap (joined (of v ∷ []) h) (sym (more-map (firsts (sig s)) l item (after of) (limits l) us)) ∙ sym (listed-joined of v h (read_more (firsts (sig s)) l item (limits l) us)) ∙ rw w.reads refl

    -- no first item
    pub list-halts : (k : Kind) (ts us : Tokens) → read_plain limits inner g ts ≡ halt k us → read_plain limits inner (repeated l g (sig s ▸ g)) ts ≡ halt k us
    list-halts k ts us e = rw e refl
