-- What is read has no more levels than there may be.
use Rattle.std.proofs.Common.{◌≡◌, ℕ, zero, suc, ◌-◌, ◌≤◌, ◌<◌, max, List, [], ◌∷◌, Bool, true, false, cond, Option, Some, None, Ok, Err, inl, inr, refl, subst, arith}
use Rattle.std.proofs.lemmas.Bool.{ltb-true}
use Rattle.std.specs.Prelude.{nat_eq, nat_lt, nat_le}
use Rattle.vtl_tokens.specs.declared.token.TokenKind.{TokenKind}
use Rattle.vtl_tokens.specs.declared.token.TokenKind.TheVariants as what
use Rattle.vtl_tokens.specs.declared.token.Token.{Token}
use Rattle.vtl_tokens.specs.declared.keyword.Keyword.TheVariants as words
use Rattle.vtl_tokens.specs.declared.sign.Sign.TheVariants as signs
use Rattle.vtl_syntax.specs.declared.expr.Expr.{Expr}
use Rattle.vtl_grammar.specs.Marks.{Mark, key, sign, Tokens, at, of_mark, sort_of, mark_in}
use Rattle.vtl_grammar.specs.Rules.{Counts, Limit, Rule, mark, name, integer, number, text, part, ◌▸◌, option, suffix, either, repeated, prefixed, here, Prefix, label, component, Part, OfPart, expression, clause, JoinPart, Of, first_place}
use Rattle.vtl_grammar.specs.Clauses.{join_part_rule, join_part_tree}
use Rattle.vtl_grammar.specs.Calls.{Form}
use Rattle.vtl_grammar.specs.Forms.{Tail, leaf_in, leaf_precedence}
use Rattle.vtl_grammar.specs.Reading.{Kind, Expected, TooDeep, TooMany, Got, Read, Reader, halt, got, ◌>>=◌, mapped, both, cons, some, maybe, starts, firsts, join_part_firsts, read_mark, read_name, read_integer, read_number, read_text, read_more, has_prefix, read_prefix, with_some, with_none, read, Front, form_at, tail_at, between, front_by, read_front, tail_by, read_tails, read_expr, read_join_part, read_part, no_part, part_at}

abbrev pub IsLow : {A : Type 0} → ℕ → Read A → Type 0
IsLow k (Ok a) = a.levels ≤ k
IsLow k (Err e) = Unit {0}

-- what was read is low
pub low-is : {A : Type 0} (k : ℕ) (x : Read A) (a : Got A) → IsLow k x → x ≡ Ok a → a.levels ≤ k
low-is k x a low is = subst (IsLow k) is low

then-low : {A B : Type 0} (j k : ℕ) (f : Got A → Read B) (x : Read A) → IsLow j x → ((a : Got A) → a.levels ≤ j → IsLow k (f a)) → IsLow k (x >>= f)
then-low j k f (Ok a) low next = next a low
then-low j k f (Err e) low next = tt

mapped-low : {A B : Type 0} (k : ℕ) (f : A → B) (x : Read A) → IsLow k x → IsLow k (mapped f x)
mapped-low k f (Ok a) low = low
mapped-low k f (Err e) low = tt

cond-low : {A : Type 0} (k : ℕ) (c : Bool) (x y : Read A) → IsLow k x → IsLow k y → IsLow k (cond c x y)
cond-low k true x y one two = one
cond-low k false x y one two = two

both-low : {A B : Type 0} (k : ℕ) (r : Reader A) (q : Reader B) (ts : Tokens) → IsLow k (r ts) → ((us : Tokens) → IsLow k (q us)) → IsLow k (both r q ts)
both-low k r q ts one two = then-low k k (λ a. q a.rest >>= λ b. got (a.value, b.value) (max a.levels b.levels) b.rest) (r ts) one
    (λ a low. then-low k k (λ b. got (a.value, b.value) (max a.levels b.levels) b.rest) (q a.rest) (two a.rest) (λ b low'. omega arith))

more-low : {A : Type 0} (k : ℕ) (ks : List ℕ) (l : Limit) (r : Reader A) → ((ts : Tokens) → IsLow k (r ts)) → (n : ℕ) (ts : Tokens) → IsLow k (read_more ks l r n ts)
more-low k ks l r law zero ts = cond-low k (starts ks ts) (halt (TooMany l) ts) (got [] 0 ts) tt (omega arith)
more-low k ks l r law (suc n) ts = cond-low k (starts ks ts) (mapped cons (both r (read_more ks l r n) ts)) (got [] 0 ts) (mapped-low k cons (both r (read_more ks l r n) ts) (both-low k r (read_more ks l r n) ts (law ts) (λ us. more-low k ks l r law n us))) (omega arith)

mark-low : (k : ℕ) (m : Mark) (ts : Tokens) → IsLow k (read_mark m ts)
mark-low k m [] = tt
mark-low k m (t ∷ ts) = cond-low k (nat_eq (sort_of t.what) (of_mark m)) (got t.place 0 ts) (halt Expected (t ∷ ts)) (omega arith) tt

name-low : (k : ℕ) (ts : Tokens) → IsLow k (read_name ts)
name-low k [] = tt
name-low k (t ∷ ts) = by_kind t.what
  where
    by_kind : (w : TokenKind) → IsLow k (read_name (at w t.place ∷ ts))
    by_kind (what.Name n) = omega arith
    by_kind _ = tt

integer-low : (k : ℕ) (ts : Tokens) → IsLow k (read_integer ts)
integer-low k [] = tt
integer-low k (t ∷ ts) = by_kind t.what
  where
    by_kind : (w : TokenKind) → IsLow k (read_integer (at w t.place ∷ ts))
    by_kind (what.Integer n) = omega arith
    by_kind _ = tt

number-low : (k : ℕ) (ts : Tokens) → IsLow k (read_number ts)
number-low k [] = tt
number-low k (t ∷ ts) = by_kind t.what
  where
    by_kind : (w : TokenKind) → IsLow k (read_number (at w t.place ∷ ts))
    by_kind (what.Number n) = omega arith
    by_kind _ = tt

text-low : (k : ℕ) (ts : Tokens) → IsLow k (read_text ts)
text-low k [] = tt
text-low k (t ∷ ts) = by_kind t.what
  where
    by_kind : (w : TokenKind) → IsLow k (read_text (at w t.place ∷ ts))
    by_kind (what.Text n) = omega arith
    by_kind _ = tt

prefix-low : (k : ℕ) (p : Prefix) (ts : Tokens) → IsLow k (read_prefix p ts)
prefix-low k label ts = mapped-low k (λ v. v.0) (both read_name (read_mark (sign signs.Colon)) ts) (both-low k read_name (read_mark (sign signs.Colon)) ts (name-low k ts) (λ us. mark-low k (sign signs.Colon) us))
prefix-low k component ts = mapped-low k (λ v. v.1) (both (read_mark (key words.Rule)) read_name ts) (both-low k (read_mark (key words.Rule)) read_name ts (mark-low k (key words.Rule) ts) (λ us. name-low k us))

module _ (L : Counts) (inner : (q : Part) → Reader (OfPart q)) (k : ℕ) (inner-low : (q : Part) (ts : Tokens) → IsLow k (inner q ts)) where
  rule-low : (g : Rule) (ts : Tokens) → IsLow k (read L inner g ts)
  rule-low (mark m) ts = mark-low k m ts
  rule-low name ts = name-low k ts
  rule-low integer ts = integer-low k ts
  rule-low number ts = number-low k ts
  rule-low text ts = text-low k ts
  rule-low (part q) ts = inner-low q ts
  rule-low (g ▸ h) ts = both-low k (read L inner g) (read L inner h) ts (rule-low g ts) (λ us. rule-low h us)
  rule-low (option g h) ts = cond-low k (starts (firsts g) ts) (mapped with_some (both (read L inner g) (read L inner h) ts)) (mapped with_none (read L inner h ts))
      (mapped-low k with_some (both (read L inner g) (read L inner h) ts) (both-low k (read L inner g) (read L inner h) ts (rule-low g ts) (λ us. rule-low h us)))
      (mapped-low k with_none (read L inner h ts) (rule-low h ts))
  rule-low (suffix g h) ts = both-low k (read L inner g) (maybe (firsts h) (read L inner h)) ts (rule-low g ts)
      (λ us. cond-low k (starts (firsts h) us) (mapped some (read L inner h us)) (got None 0 us) (mapped-low k some (read L inner h us) (rule-low h us)) (omega arith))
  rule-low (either g h) ts = cond-low k (starts (firsts g) ts) (mapped inl (read L inner g ts)) (mapped inr (read L inner h ts)) (mapped-low k inl (read L inner g ts) (rule-low g ts)) (mapped-low k inr (read L inner h ts) (rule-low h ts))
  rule-low (repeated l g h) ts = both-low k (read L inner g) (read_more (firsts h) l (read L inner h) (L l)) ts (rule-low g ts) (λ us. more-low k (firsts h) l (read L inner h) (λ vs. rule-low h vs) (L l) us)
  rule-low (prefixed p g) ts = cond-low k (has_prefix p ts) (mapped with_some (both (read_prefix p) (read L inner g) ts)) (mapped with_none (read L inner g ts))
      (mapped-low k with_some (both (read_prefix p) (read L inner g) ts) (both-low k (read_prefix p) (read L inner g) ts (prefix-low k p ts) (λ us. rule-low g us)))
      (mapped-low k with_none (read L inner g ts) (rule-low g ts))
  rule-low (here g) ts = mapped-low k (λ v. (first_place ts, v)) (read L inner g ts) (rule-low g ts)

-- where there is room
room-low : {A : Type 0} (k h d : ℕ) (x : Read A) (ts : Tokens) → (h < d → IsLow k x) → (b : Bool) → nat_lt h d ≡ b → IsLow k (cond b x (halt TooDeep ts))
room-low k h d x ts low true is = low (ltb-true h d is)
room-low k h d x ts low false is = tt

module _ (L : Counts) (inner : (q : Part) → Reader (OfPart q)) (d : ℕ) (rules : 0 < d → (g : Rule) (ts : Tokens) → IsLow (d - 1) (read L inner g ts)) where
  by_front : (m : ℕ) (t : Token) (ts : Tokens) (o : Option Expr) (f : Option Form) → IsLow d (front_by L inner d m t ts o f)
  by_front m t ts (Some e) f = cond-low d (nat_le m (leaf_precedence t.what)) (got (record { expr = e; precedence = leaf_precedence t.what }) 0 ts) (halt Expected (t ∷ ts)) (omega arith) tt
  by_front m t ts None None = tt
  by_front m t ts None (Some form) = cond-low d (nat_le m form.precedence) _ (halt Expected (t ∷ ts))
      (room-low d 0 d _ (t ∷ ts) (λ lt. then-low (d - 1) d (λ v. got (record { expr = form.tree v.value t.place; precedence = form.precedence }) (suc v.levels) v.rest) (read L inner form.rule ts) (rules lt form.rule ts) (λ v low. omega arith)) (nat_lt 0 d) refl) tt

  pub front-low : (m : ℕ) (ts : Tokens) → IsLow d (read_front L inner d m ts)
  front-low m [] = tt
  front-low m (t ∷ ts) = by_front m t ts (leaf_in t.what t.place) (form_at (mark_in t.what))

  tails-low : (m n : ℕ) (f : Front) (h : ℕ) (ts : Tokens) → h ≤ d → IsLow d (read_tails L inner d m n f h ts)
  tails-low m zero f h ts low = low
  tails-low m (suc n) f h [] low = low
  tails-low m (suc n) f h (t ∷ ts) low = by_tail (between m f.precedence (tail_at (mark_in t.what))) (λ f' h' us low'. tails-low m n f' h' us low')
    where
      by_tail : (o : Option Tail) → ((f' : Front) (h' : ℕ) (us : Tokens) → h' ≤ d → IsLow d (read_tails L inner d m n f' h' us)) → IsLow d (tail_by L inner d (read_tails L inner d m n) f h t ts o)
      by_tail None next = low
      by_tail (Some tail) next = room-low d h d _ (t ∷ ts)
          (λ lt. then-low (d - 1) d (λ v. read_tails L inner d m n (record { expr = tail.tree f.expr v.value t.place; precedence = tail.precedence }) (suc (max h v.levels)) v.rest) (read L inner tail.rule ts) (rules (omega arith) tail.rule ts)
          (λ v low'. next (record { expr = tail.tree f.expr v.value t.place; precedence = tail.precedence }) (suc (max h v.levels)) v.rest (omega arith)))
          (nat_lt h d) refl

  one_part-low : (q : Part) (ts : Tokens) → IsLow d (read_part L inner d q ts)
  one_part-low (expression m) ts = then-low d d (λ f. read_tails L inner d m (suc d) f.value f.levels f.rest) (read_front L inner d m ts) (front-low m ts) (λ f low. tails-low m (suc d) f.value f.levels f.rest low)
  one_part-low (clause k) ts = cond-low d (starts (join_part_firsts k) ts) _ (halt Expected ts)
      (room-low d 0 d _ ts (λ lt. then-low (d - 1) d (λ v. got (join_part_tree k v.value) (suc v.levels) v.rest) (read L inner (join_part_rule k) ts) (rules lt (join_part_rule k) ts) (λ v low. omega arith)) (nat_lt 0 d) refl) tt

no_rules : (L : Counts) → 0 < 0 → (g : Rule) (ts : Tokens) → IsLow (0 - 1) (read L no_part g ts)
no_rules L lt g ts = absurd (omega arith)

part-low : (L : Counts) (d : ℕ) (q : Part) (ts : Tokens) → IsLow d (part_at L d q ts)
part-low L zero q ts = one_part-low L no_part 0 (no_rules L) q ts
part-low L (suc d) q ts = one_part-low L (part_at L d) (suc d) (λ lt g us. let same : d ≡ suc d - 1 = omega arith in subst (λ (k : ℕ). IsLow k (read L (part_at L d) g us)) same (rule-low L (part_at L d) d (part-low L d) g us)) q ts

-- by any rule
pub read-low : (L : Counts) (d : ℕ) (g : Rule) (ts : Tokens) → IsLow d (read L (part_at L d) g ts)
read-low L d g ts = rule-low L (part_at L d) d (part-low L d) g ts

-- a front, where the parts inside are one level further in
pub front-low-none : (L : Counts) (m : ℕ) (ts : Tokens) → IsLow 0 (read_front L no_part 0 m ts)
front-low-none L m ts = front-low L no_part 0 (no_rules L) m ts

pub front-low-some : (L : Counts) (d m : ℕ) (ts : Tokens) → IsLow (suc d) (read_front L (part_at L d) (suc d) m ts)
front-low-some L d m ts = front-low L (part_at L d) (suc d) (λ lt g us. let same : d ≡ suc d - 1 = omega arith in subst (λ (k : ℕ). IsLow k (read L (part_at L d) g us)) same (read-low L d g us)) m ts
