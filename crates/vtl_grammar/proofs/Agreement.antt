-- Reading within higher limits answers the same, unless a limit is passed that is higher there.
use Rattle.std.proofs.Common.{◌≡◌, ℕ, zero, suc, ◌+◌, ◌≤◌, ◌<◌, max, List, [], ◌∷◌, Bool, true, false, cond, Option, Some, None, Ok, Err, inl, inr, refl, sym, subst, arith}
use Rattle.std.proofs.lemmas.Bool.{ltb-true, lt-ltb}
use Rattle.std.specs.Prelude.{nat_lt, nat_le, ◌&&◌}
use Rattle.vtl_tokens.specs.declared.token.Token.{Token}
use Rattle.vtl_syntax.specs.declared.expr.Expr.{Expr}
use Rattle.vtl_grammar.specs.Marks.{Mark, Tokens, mark_in}
use Rattle.vtl_grammar.specs.Rules.{Counts, Limit, Rule, mark, name, integer, number, text, part, ◌▸◌, option, suffix, either, repeated, prefixed, here, Part, OfPart, expression, clause, JoinPart, Of, first_place}
use Rattle.vtl_grammar.specs.Clauses.{join_part_rule, join_part_tree}
use Rattle.vtl_grammar.specs.Calls.{Form}
use Rattle.vtl_grammar.specs.Forms.{Tail, tail_of, leaf_in, leaf_precedence}
use Rattle.vtl_grammar.specs.Scripts.{PieceKind, limit_of}
use Rattle.vtl_grammar.specs.Reading.{Kind, Expected, TooDeep, TooMany, Got, Read, Reader, halt, got, ◌>>=◌, mapped, both, cons, some, maybe, starts, firsts, join_part_firsts, read_more, has_prefix, read_prefix, with_some, with_none, read, Front, form_at, tail_at, between, front_by, read_front, tail_by, read_tails, read_expr, read_join_part, read_part, no_part, part_at}
use Rattle.vtl_grammar.proofs.Explained.{IsMore}
use Rattle.vtl_grammar.proofs.PartLaws.{tail-low, front-low, front-low-none}

-- there may be as many pieces of each kind
abbrev pub SamePieces : Counts → Counts → Type 0
SamePieces L L' = (k : PieceKind) → L (limit_of k) ≡ L' (limit_of k)

module _ (L L' : Counts) (more : IsMore L L') (D : Type 0) where
  -- the limit that is passed is the same, and those of pieces; D says that of levels
  abbrev pub IsSame : Kind → Type 0
  IsSame Expected = Unit {0}
  IsSame TooDeep = D
  IsSame (TooMany j) = (L j ≡ L' j) × SamePieces L L'

  -- the second answers as the first, unless the first passes a limit that is higher for the second
  abbrev pub Agrees : {A : Type 0} → Read A → Read A → Type 0
  Agrees (Ok a) y = y ≡ Ok a
  Agrees (Err e) y = IsSame e.kind → y ≡ Err e

  pub Agrees-refl : {A : Type 0} (x : Read A) → Agrees x x
  Agrees-refl (Ok a) = refl
  Agrees-refl (Err e) = λ s. refl

  -- what is done with what was read agrees too
  pub then-agrees : {A B : Type 0} (f f' : Got A → Read B) (x y : Read A) → ((a : Got A) → x ≡ Ok a → Agrees (f a) (f' a)) → Agrees x y → Agrees (x >>= f) (y >>= f')
  then-agrees f f' (Ok a) y h is = subst (λ (z : Read _). Agrees (f a) (z >>= f')) (sym is) (h a refl)
  then-agrees f f' (Err e) y h is = λ s. let same = is s in rw same refl

  pub mapped-agrees : {A B : Type 0} (f : A → B) (x y : Read A) → Agrees x y → Agrees (mapped f x) (mapped f y)
  mapped-agrees f (Ok a) y is = rw is refl
  mapped-agrees f (Err e) y is = λ s. let same = is s in rw same refl

  pub both-agrees : {A B : Type 0} (r r' : Reader A) (q q' : Reader B) (ts : Tokens) → Agrees (r ts) (r' ts) → ((us : Tokens) → Agrees (q us) (q' us)) → Agrees (both r q ts) (both r' q' ts)
  both-agrees r r' q q' ts one two = then-agrees (λ a. q a.rest >>= λ b. got (a.value, b.value) (max a.levels b.levels) b.rest) (λ a. q' a.rest >>= λ b. got (a.value, b.value) (max a.levels b.levels) b.rest) (r ts) (r' ts)
      (λ a is. then-agrees (λ b. got (a.value, b.value) (max a.levels b.levels) b.rest) (λ b. got (a.value, b.value) (max a.levels b.levels) b.rest) (q a.rest) (q' a.rest) (λ b is'. refl) (two a.rest)) one

  pub cond-agrees : {A : Type 0} (c : Bool) (x x' y y' : Read A) → Agrees x x' → Agrees y y' → Agrees (cond c x y) (cond c x' y')
  cond-agrees true x x' y y' one two = one
  cond-agrees false x x' y y' one two = two

  more-agrees : {A : Type 0} (ks : List ℕ) (l : Limit) (r r' : Reader A) → ((ts : Tokens) → Agrees (r ts) (r' ts)) → (n n' : ℕ) → n ≤ n' → (L l ≡ L' l → n ≡ n') → (ts : Tokens) → Agrees (read_more ks l r n ts) (read_more ks l r' n' ts)
  more-agrees ks l r r' law zero zero le same ts = cond-agrees (starts ks ts) (halt (TooMany l) ts) (halt (TooMany l) ts) (got [] 0 ts) (got [] 0 ts) (λ s. refl) refl
  more-agrees ks l r r' law zero (suc n') le same ts = cond-agrees (starts ks ts) (halt (TooMany l) ts) (mapped cons (both r' (read_more ks l r' n') ts)) (got [] 0 ts) (got [] 0 ts) (λ s. let e : 0 ≡ suc n' = same s.0 in absurd (omega arith)) refl
  more-agrees ks l r r' law (suc n) zero le same ts = absurd (omega arith)
  more-agrees ks l r r' law (suc n) (suc n') le same ts = cond-agrees (starts ks ts) (mapped cons (both r (read_more ks l r n) ts)) (mapped cons (both r' (read_more ks l r' n') ts)) (got [] 0 ts) (got [] 0 ts)
      (mapped-agrees cons (both r (read_more ks l r n) ts) (both r' (read_more ks l r' n') ts) (both-agrees r r' (read_more ks l r n) (read_more ks l r' n') ts (law ts) (λ us. more-agrees ks l r r' law n n' (omega arith) (λ e. let f = same e in omega arith) us)))
      refl

  -- ---- rules

  module _ (inner inner' : (q : Part) → Reader (OfPart q)) (inner-agrees : (q : Part) (ts : Tokens) → Agrees (inner q ts) (inner' q ts)) where
    pub rule-agrees : (g : Rule) (ts : Tokens) → Agrees (read L inner g ts) (read L' inner' g ts)
    rule-agrees (mark m) ts = Agrees-refl (read L inner (mark m) ts)
    rule-agrees name ts = Agrees-refl (read L inner name ts)
    rule-agrees integer ts = Agrees-refl (read L inner integer ts)
    rule-agrees number ts = Agrees-refl (read L inner number ts)
    rule-agrees text ts = Agrees-refl (read L inner text ts)
    rule-agrees (part q) ts = inner-agrees q ts
    rule-agrees (g ▸ h) ts = both-agrees (read L inner g) (read L' inner' g) (read L inner h) (read L' inner' h) ts (rule-agrees g ts) (λ us. rule-agrees h us)
    rule-agrees (option g h) ts = cond-agrees (starts (firsts g) ts) (mapped with_some (both (read L inner g) (read L inner h) ts)) (mapped with_some (both (read L' inner' g) (read L' inner' h) ts)) (mapped with_none (read L inner h ts)) (mapped with_none (read L' inner' h ts))
        (mapped-agrees with_some (both (read L inner g) (read L inner h) ts) (both (read L' inner' g) (read L' inner' h) ts) (both-agrees (read L inner g) (read L' inner' g) (read L inner h) (read L' inner' h) ts (rule-agrees g ts) (λ us. rule-agrees h us)))
        (mapped-agrees with_none (read L inner h ts) (read L' inner' h ts) (rule-agrees h ts))
    rule-agrees (suffix g h) ts = both-agrees (read L inner g) (read L' inner' g) (maybe (firsts h) (read L inner h)) (maybe (firsts h) (read L' inner' h)) ts (rule-agrees g ts)
        (λ us. cond-agrees (starts (firsts h) us) (mapped some (read L inner h us)) (mapped some (read L' inner' h us)) (got None 0 us) (got None 0 us) (mapped-agrees some (read L inner h us) (read L' inner' h us) (rule-agrees h us)) refl)
    rule-agrees (either g h) ts = cond-agrees (starts (firsts g) ts) (mapped inl (read L inner g ts)) (mapped inl (read L' inner' g ts)) (mapped inr (read L inner h ts)) (mapped inr (read L' inner' h ts))
        (mapped-agrees inl (read L inner g ts) (read L' inner' g ts) (rule-agrees g ts)) (mapped-agrees inr (read L inner h ts) (read L' inner' h ts) (rule-agrees h ts))
    rule-agrees (repeated l g h) ts = both-agrees (read L inner g) (read L' inner' g) (read_more (firsts h) l (read L inner h) (L l)) (read_more (firsts h) l (read L' inner' h) (L' l)) ts (rule-agrees g ts)
        (λ us. more-agrees (firsts h) l (read L inner h) (read L' inner' h) (λ vs. rule-agrees h vs) (L l) (L' l) (more l) (λ e. e) us)
    rule-agrees (prefixed p g) ts = cond-agrees (has_prefix p ts) (mapped with_some (both (read_prefix p) (read L inner g) ts)) (mapped with_some (both (read_prefix p) (read L' inner' g) ts)) (mapped with_none (read L inner g ts)) (mapped with_none (read L' inner' g ts))
        (mapped-agrees with_some (both (read_prefix p) (read L inner g) ts) (both (read_prefix p) (read L' inner' g) ts) (both-agrees (read_prefix p) (read_prefix p) (read L inner g) (read L' inner' g) ts (Agrees-refl (read_prefix p ts)) (λ us. rule-agrees g us)))
        (mapped-agrees with_none (read L inner g ts) (read L' inner' g ts) (rule-agrees g ts))
    rule-agrees (here g) ts = mapped-agrees (λ v. (first_place ts, v)) (read L inner g ts) (read L' inner' g ts) (rule-agrees g ts)

  -- ---- parts

  -- there is room, or none for either
  room-agrees : {A : Type 0} (h d d' : ℕ) → d ≤ d' → (D → d ≡ d') → (x x' : Read A) (ts : Tokens) → (h < d → Agrees x x') → (b b' : Bool) → nat_lt h d ≡ b → nat_lt h d' ≡ b' → Agrees (cond b x (halt TooDeep ts)) (cond b' x' (halt TooDeep ts))
  room-agrees h d d' le same x x' ts one true true is is' = one (ltb-true _ _ is)
  room-agrees h d d' le same x x' ts one true false is is' = let lt : h < d = ltb-true _ _ is in let full : nat_lt h d' ≡ true = lt-ltb h d' (omega arith) in absurd cc
  room-agrees h d d' le same x x' ts one false true is is' = λ s. let e : d ≡ d' = same s in let full : nat_lt h d' ≡ false = subst (λ (n : ℕ). nat_lt h n ≡ false) e is in absurd cc
  room-agrees h d d' le same x x' ts one false false is is' = λ s. refl

  module _ (inner inner' : (q : Part) → Reader (OfPart q)) (d d' : ℕ) (le : d ≤ d') (same : D → d ≡ d') (rules : 0 < d → (g : Rule) (ts : Tokens) → Agrees (read L inner g ts) (read L' inner' g ts))
      (low : 0 < d → (m : Mark) (tail : Tail) → tail_of m ≡ Some tail → (ts : Tokens) (v : Got (Of tail.rule)) → read L inner tail.rule ts ≡ Ok v → v.levels < d) where
    front-agrees : (m : ℕ) (t : Token) (ts : Tokens) (o : Option Expr) (f : Option Form) → Agrees (front_by L inner d m t ts o f) (front_by L' inner' d' m t ts o f)
    front-agrees m t ts (Some e) f = cond-agrees (nat_le m (leaf_precedence t.what)) (got (record { expr = e; precedence = leaf_precedence t.what }) 0 ts) (got (record { expr = e; precedence = leaf_precedence t.what }) 0 ts) (halt Expected (t ∷ ts)) (halt Expected (t ∷ ts)) refl (λ s. refl)
    front-agrees m t ts None None = λ s. refl
    front-agrees m t ts None (Some form) = cond-agrees (nat_le m form.precedence) _ _ (halt Expected (t ∷ ts)) (halt Expected (t ∷ ts))
        (room-agrees 0 d d' le same (read L inner form.rule ts >>= λ v. got (record { expr = form.tree v.value t.place; precedence = form.precedence }) (suc v.levels) v.rest) (read L' inner' form.rule ts >>= λ v. got (record { expr = form.tree v.value t.place; precedence = form.precedence }) (suc v.levels) v.rest) (t ∷ ts)
        (λ lt. then-agrees (λ v. got (record { expr = form.tree v.value t.place; precedence = form.precedence }) (suc v.levels) v.rest) (λ v. got (record { expr = form.tree v.value t.place; precedence = form.precedence }) (suc v.levels) v.rest) (read L inner form.rule ts) (read L' inner' form.rule ts) (λ a is. refl) (rules lt form.rule ts))
        (nat_lt 0 d) (nat_lt 0 d') refl refl)
        (λ s. refl)

    read_front-agrees : (m : ℕ) (ts : Tokens) → Agrees (read_front L inner d m ts) (read_front L' inner' d' m ts)
    read_front-agrees m [] = λ s. refl
    read_front-agrees m (t ∷ ts) = front-agrees m t ts (leaf_in t.what t.place) (form_at (mark_in t.what))

    -- what goes on is in the table
    abbrev InTable : Option Tail → Type 0
    InTable None = Unit {0}
    InTable (Some tail) = (m : Mark) × (tail_of m ≡ Some tail)

    in_table : (m : Mark) (o : Option Tail) → tail_of m ≡ o → InTable o
    in_table m None is = tt
    in_table m (Some tail) is = (m, is)

    at_table : (m level : ℕ) (o : Option Tail) → InTable o → InTable (between m level o)
    at_table m level None i = tt
    at_table m level (Some tail) i = by_fit (nat_le m tail.precedence && nat_le tail.operand level)
      where
        by_fit : (b : Bool) → InTable (cond b (Some tail) None)
        by_fit true = i
        by_fit false = tt

    of_mark_in : (o : Option Mark) → InTable (tail_at o)
    of_mark_in None = tt
    of_mark_in (Some m) = in_table m (tail_of m) refl

    abbrev TailsAgree : ℕ → ℕ → ℕ → Type 0
    TailsAgree m n n' = (f : Front) (h : ℕ) (ts : Tokens) → h ≤ d → d < n + h → d' < n' + h → Agrees (read_tails L inner d m n f h ts) (read_tails L' inner' d' m n' f h ts)

    tail-agrees : (m n n' : ℕ) → TailsAgree m n n' → (f : Front) (h : ℕ) (t : Token) (ts : Tokens) → h ≤ d → d < suc n + h → d' < suc n' + h → (o : Option Tail) → InTable o
        → Agrees (tail_by L inner d (read_tails L inner d m n) f h t ts o) (tail_by L' inner' d' (read_tails L' inner' d' m n') f h t ts o)
    tail-agrees m n n' rest f h t ts top a b None i = refl
    tail-agrees m n n' rest f h t ts top a b (Some tail) i =
        room-agrees h d d' le same _ _ (t ∷ ts)
        (λ lt. then-agrees (λ v. read_tails L inner d m n (record { expr = tail.tree f.expr v.value t.place; precedence = tail.precedence }) (suc (max h v.levels)) v.rest) (λ v. read_tails L' inner' d' m n' (record { expr = tail.tree f.expr v.value t.place; precedence = tail.precedence }) (suc (max h v.levels)) v.rest) (read L inner tail.rule ts) (read L' inner' tail.rule ts)
        (λ v is. let few : v.levels < d = low (omega arith) i.0 tail i.1 ts v is in rest (record { expr = tail.tree f.expr v.value t.place; precedence = tail.precedence }) (suc (max h v.levels)) v.rest (omega arith) (omega arith) (omega arith))
        (rules (omega arith) tail.rule ts))
        (nat_lt h d) (nat_lt h d') refl refl

    tails-agree : (m n n' : ℕ) → TailsAgree m n n'
    tails-agree m zero n' f h ts top a b = absurd (omega arith)
    tails-agree m (suc n) zero f h ts top a b = absurd (omega arith)
    tails-agree m (suc n) (suc n') f h [] top a b = refl
    tails-agree m (suc n) (suc n') f h (t ∷ ts) top a b = tail-agrees m n n' (λ g k us x y z. tails-agree m n n' g k us x y z) f h t ts top a b (between m f.precedence (tail_at (mark_in t.what))) (at_table m f.precedence (tail_at (mark_in t.what)) (of_mark_in (mark_in t.what)))

    -- a front has no more levels than there may be
    abbrev IsLow : Read Front → Type 0
    IsLow (Ok f) = f.levels ≤ d
    IsLow (Err e) = Unit {0}

    expr-agrees : (m : ℕ) (ts : Tokens) → IsLow (read_front L inner d m ts) → Agrees (read_expr L inner d m ts) (read_expr L' inner' d' m ts)
    expr-agrees m ts low_front = then-agrees (λ f. read_tails L inner d m (suc d) f.value f.levels f.rest) (λ f. read_tails L' inner' d' m (suc d') f.value f.levels f.rest) (read_front L inner d m ts) (read_front L' inner' d' m ts)
        (λ f is. let few : f.levels ≤ d = subst IsLow is low_front in tails-agree m (suc d) (suc d') f.value f.levels f.rest few (omega arith) (omega arith)) (read_front-agrees m ts)

    join_part-agrees : (k : JoinPart) (ts : Tokens) → Agrees (read_join_part L inner d k ts) (read_join_part L' inner' d' k ts)
    join_part-agrees k ts = cond-agrees (starts (join_part_firsts k) ts) _ _ (halt Expected ts) (halt Expected ts)
        (room-agrees 0 d d' le same (read L inner (join_part_rule k) ts >>= λ v. got (join_part_tree k v.value) (suc v.levels) v.rest) (read L' inner' (join_part_rule k) ts >>= λ v. got (join_part_tree k v.value) (suc v.levels) v.rest) ts
        (λ lt. then-agrees (λ v. got (join_part_tree k v.value) (suc v.levels) v.rest) (λ v. got (join_part_tree k v.value) (suc v.levels) v.rest) (read L inner (join_part_rule k) ts) (read L' inner' (join_part_rule k) ts) (λ a is. refl) (rules lt (join_part_rule k) ts))
        (nat_lt 0 d) (nat_lt 0 d') refl refl)
        (λ s. refl)

    is_low : (x : Read Front) → ((f : Got Front) → x ≡ Ok f → f.levels ≤ d) → IsLow x
    is_low (Ok f) h = h f refl
    is_low (Err e) h = tt

    part-agree : ((m : ℕ) (ts : Tokens) (f : Got Front) → read_front L inner d m ts ≡ Ok f → f.levels ≤ d) → (q : Part) (ts : Tokens) → Agrees (read_part L inner d q ts) (read_part L' inner' d' q ts)
    part-agree fronts (expression m) ts = expr-agrees m ts (is_low (read_front L inner d m ts) (fronts m ts))
    part-agree fronts (clause k) ts = join_part-agrees k ts

  pub parts-agree : (d d' : ℕ) → d ≤ d' → (D → d ≡ d') → (q : Part) (ts : Tokens) → Agrees (part_at L d q ts) (part_at L' d' q ts)
  parts-agree zero zero le same q ts = part-agree no_part no_part 0 0 le same (λ lt. absurd (omega arith)) (λ lt. absurd (omega arith)) (front-low-none L) q ts
  parts-agree zero (suc d') le same q ts = part-agree no_part (part_at L' d') 0 (suc d') le same (λ lt. absurd (omega arith)) (λ lt. absurd (omega arith)) (front-low-none L) q ts
  parts-agree (suc d) zero le same q ts = absurd (omega arith)
  parts-agree (suc d) (suc d') le same q ts = part-agree (part_at L d) (part_at L' d') (suc d) (suc d') le same
      (λ lt g us. rule-agrees (part_at L d) (part_at L' d') (λ p vs. parts-agree d d' (omega arith) (λ x. let e = same x in omega arith) p vs) g us)
      (λ lt m tail is us v e. let low = tail-low L d m tail is us v e in omega arith) (front-low L d) q ts

  -- reading by a rule
  pub rules-agree : (d d' : ℕ) → d ≤ d' → (D → d ≡ d') → (g : Rule) (ts : Tokens) → Agrees (read L (part_at L d) g ts) (read L' (part_at L' d') g ts)
  rules-agree d d' le same g ts = rule-agrees (part_at L d) (part_at L' d') (parts-agree d d' le same) g ts
