-- Reading part by part answers as the grammar's reader does.
use Rattle.std.proofs.Common.{◌≡◌, ℕ, zero, suc, max, List, [], Bool, true, false, cond, Option, None, Ok, Err, inl, inr, refl, ap, ◌∙◌, arith}
use Rattle.vtl_grammar.specs.Marks.{Tokens}
use Rattle.vtl_grammar.specs.Rules.{Counts, Limit, Rule, mark, name, integer, number, text, part, ◌▸◌, option, suffix, either, repeated, prefixed, here, Part, OfPart, Of, first_place}
use Rattle.vtl_grammar.specs.Reading.{Got, Read, Reader, got, ◌>>=◌, mapped, both, choice, cons, some, maybe, starts, firsts, read_more, has_prefix, read_prefix, with_some, with_none, read}
use Rattle.vtl_cursor.specs.Plain.{read_plain, maybe_prefix}

-- the two read the same
abbrev Same : {A : Type 0} → Reader A → Reader A → Type 0
Same r q = (ts : Tokens) → r ts ≡ q ts

module _ {A B : Type 0} where
  abbrev paired : Reader B → Got A → Read (A × B)
  paired q a = q a.rest >>= λ b. got (a.value, b.value) (max a.levels b.levels) b.rest

  abbrev with_second : Got A → Read B → Read (A × B)
  with_second a y = y >>= λ b. got (a.value, b.value) (max a.levels b.levels) b.rest

  by_first : (q q' : Reader B) → Same q q' → (x : Read A) → (x >>= paired q) ≡ (x >>= paired q')
  by_first q q' two (Ok a) = ap (with_second a) (two a.rest)
  by_first q q' two (Err e) = refl

  both-same : (r r' : Reader A) (q q' : Reader B) → Same r r' → Same q q' → Same (both r q) (both r' q')
  both-same r r' q q' one two ts = by_first q q' two (r ts) ∙ ap (λ (x : Read A). x >>= paired q') (one ts)

mapped-same : {A B : Type 0} (f : A → B) (r r' : Reader A) → Same r r' → Same (λ ts. mapped f (r ts)) (λ ts. mapped f (r' ts))
mapped-same f r r' one ts = ap (mapped f) (one ts)

choice-same : {A : Type 0} (ks : List ℕ) (r r' q q' : Reader A) → Same r r' → Same q q' → Same (choice ks r q) (choice ks r' q')
choice-same ks r r' q q' one two ts = by_start (starts ks ts)
  where
    by_start : (c : Bool) → cond c (r ts) (q ts) ≡ cond c (r' ts) (q' ts)
    by_start true = one ts
    by_start false = two ts

maybe-same : {A : Type 0} (ks : List ℕ) (r r' : Reader A) → Same r r' → Same (maybe ks r) (maybe ks r')
maybe-same ks r r' one = choice-same ks (λ ts. mapped some (r ts)) (λ ts. mapped some (r' ts)) (got None 0) (got None 0) (mapped-same some r r' one) (λ ts. refl)

more-same : {A : Type 0} (ks : List ℕ) (l : Limit) (r r' : Reader A) → Same r r' → (n : ℕ) → Same (read_more ks l r n) (read_more ks l r' n)
more-same ks l r r' one zero = λ ts. refl
more-same ks l r r' one (suc n) = choice-same ks (λ ts. mapped cons (both r (read_more ks l r n) ts)) (λ ts. mapped cons (both r' (read_more ks l r' n) ts)) (got [] 0) (got [] 0)
    (mapped-same cons (both r (read_more ks l r n)) (both r' (read_more ks l r' n)) (both-same r r' (read_more ks l r n) (read_more ks l r' n) one (more-same ks l r r' one n)))
    (λ ts. refl)

-- what may be left out, by a test of whether it is there
module _ {A B : Type 0} (q : Reader B) where
  abbrev none : Option A
  none = None

  abbrev nothing : B → Option A × B
  nothing = with_none

  left_out : (ts : Tokens) (y : Read B) → (y >>= λ b. got (none, b.value) (max 0 b.levels) b.rest) ≡ mapped nothing y
  left_out ts (Ok b) = let levels : max 0 b.levels ≡ b.levels = omega arith in rw levels refl
  left_out ts (Err e) = refl

  put_in : (x : Read A) → (mapped some x >>= λ a. q a.rest >>= λ b. got (a.value, b.value) (max a.levels b.levels) b.rest) ≡ mapped with_some (x >>= λ a. q a.rest >>= λ b. got (a.value, b.value) (max a.levels b.levels) b.rest)
  put_in (Ok a) = by_second (q a.rest)
    where
      by_second : (y : Read B) → (y >>= λ b. got (some a.value, b.value) (max a.levels b.levels) b.rest) ≡ mapped with_some (y >>= λ b. got (a.value, b.value) (max a.levels b.levels) b.rest)
      by_second (Ok b) = refl
      by_second (Err e) = refl
  put_in (Err e) = refl

  pub by_test : (c : Bool) (r : Reader A) (ts : Tokens) → (cond c (mapped some (r ts)) (got None 0 ts) >>= λ a. q a.rest >>= λ b. got (a.value, b.value) (max a.levels b.levels) b.rest) ≡ cond c (mapped with_some (both r q ts)) (mapped with_none (q ts))
  by_test true r ts = put_in (r ts)
  by_test false r ts = left_out ts (q ts)

module _ (L : Counts) (inner : (q : Part) → Reader (OfPart q)) where
  abbrev plain_of : (g : Rule) → Reader (Of g)
  plain_of g = read_plain L inner g

  abbrev read_of : (g : Rule) → Reader (Of g)
  read_of g = read L inner g

  pub read_plain-is : (g : Rule) (ts : Tokens) → read_plain L inner g ts ≡ read L inner g ts
  read_plain-is (mark m) ts = refl
  read_plain-is name ts = refl
  read_plain-is integer ts = refl
  read_plain-is number ts = refl
  read_plain-is text ts = refl
  read_plain-is (part q) ts = refl
  read_plain-is (g ▸ h) ts = both-same (plain_of g) (read_of g) (plain_of h) (read_of h) (read_plain-is g) (read_plain-is h) ts
  read_plain-is (option g h) ts = both-same (maybe (firsts g) (plain_of g)) (maybe (firsts g) (read_of g)) (plain_of h) (read_of h) (maybe-same (firsts g) (plain_of g) (read_of g) (read_plain-is g)) (read_plain-is h) ts
      ∙ by_test (read_of h) (starts (firsts g) ts) (read_of g) ts
  read_plain-is (suffix g h) ts = both-same (plain_of g) (read_of g) (maybe (firsts h) (plain_of h)) (maybe (firsts h) (read_of h)) (read_plain-is g) (maybe-same (firsts h) (plain_of h) (read_of h) (read_plain-is h)) ts
  read_plain-is (either g h) ts = choice-same (firsts g) (λ us. mapped inl (plain_of g us)) (λ us. mapped inl (read_of g us)) (λ us. mapped inr (plain_of h us)) (λ us. mapped inr (read_of h us))
      (mapped-same inl (plain_of g) (read_of g) (read_plain-is g)) (mapped-same inr (plain_of h) (read_of h) (read_plain-is h)) ts
  read_plain-is (repeated l g h) ts = both-same (plain_of g) (read_of g) (read_more (firsts h) l (plain_of h) (L l)) (read_more (firsts h) l (read_of h) (L l)) (read_plain-is g) (more-same (firsts h) l (plain_of h) (read_of h) (read_plain-is h) (L l)) ts
  read_plain-is (prefixed p g) ts = both-same (maybe_prefix p) (maybe_prefix p) (plain_of g) (read_of g) (λ us. refl) (read_plain-is g) ts ∙ by_test (read_of g) (has_prefix p ts) (read_prefix p) ts
  read_plain-is (here g) ts = ap (mapped (λ v. (first_place ts, v))) (read_plain-is g ts)
