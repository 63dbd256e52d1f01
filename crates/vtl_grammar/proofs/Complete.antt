-- What is spelled by a rule is read by it, where what comes after doesn't go on with it.
use Rattle.std.proofs.Common.{◌≡◌, ℕ, zero, suc, ◌≤◌, max, List, [], ◌∷◌, ◌++◌, Bool, true, false, not, cond, Some, None, ◌⊎◌, inl, inr, refl, sym, ap, subst, ◌∙◌, append_assoc, arith}
use Rattle.std.proofs.lemmas.Bool.{eqb-true, eq-eqb, leb-true, le-leb}
use Rattle.std.specs.Prelude.{nat_eq, nat_le, if◌then◌else◌, ◌&&◌, ◌||◌}
use Rattle.vtl_values.specs.declared.place.Place.{Place}
use Rattle.vtl_tokens.specs.declared.token.Token.{Token}
use Rattle.vtl_tokens.specs.declared.keyword.Keyword.TheVariants as words
use Rattle.vtl_tokens.specs.declared.sign.Sign.TheVariants as signs
use Rattle.vtl_grammar.specs.Marks.{Mark, key, sign, Tokens, at, kind_of, of_mark, sort_of}
use Rattle.vtl_grammar.specs.Rules.{Counts, Rule, mark, name, integer, number, text, part, ◌▸◌, option, suffix, either, repeated, prefixed, here, Prefix, label, component, Part, OfPart, expression, clause, JoinPart, Of, At, Text, prefix_tokens, Spells, SpellsMore}
use Rattle.vtl_grammar.specs.Clauses.{join_part_rule}
use Rattle.vtl_grammar.specs.Expressions.{Spelled}
use Rattle.vtl_grammar.specs.Forms.{top}
use Rattle.vtl_grammar.specs.Reading.{Reader, got, mapped, both, choice, member, starts, firsts, part_firsts, first_sort, second_sort, read_mark}
use Rattle.vtl_grammar.proofs.Sorts.{by_test, nat_eq-refl, member-left, member-right}
use Rattle.vtl_grammar.proofs.Spellings.{Spells-no_tokens}

-- the tokens don't begin with one of these sorts
abbrev pub Stops : List ℕ → Tokens → Type 0
Stops ks ts = starts ks ts ≡ false

-- the first token is of one of these sorts
abbrev pub Begins : List ℕ → Tokens → Type 0
Begins ks us = starts ks us ≡ true

-- read, with at most so many levels
abbrev pub IsReadAs : {A : Type 0} → Reader A → ℕ → A → Tokens → Tokens → Type 0
IsReadAs r k x us rest = (h : ℕ) × (h ≤ k) × (r (us ++ rest) ≡ got x h rest)

-- what S spells with k levels r reads, where no token of ks comes after
abbrev pub Reads : {A : Type 0} → Reader A → (A → Tokens → Type 0) → ℕ → List ℕ → Type 0
Reads {A = A} r S k ks = (x : A) (us rest : Tokens) → S x us → Stops ks rest → IsReadAs r k x us rest

-- ---- sorts that go on after an expression

abbrev pub Row : Type 0
Row = ℕ × ℕ

-- the precedence and the sort of each form that goes on
abbrev pub all_tails : List Row
all_tails = (1, of_mark (key words.Or)) ∷ (1, of_mark (key words.Xor)) ∷ (2, of_mark (key words.And)) ∷ (3, of_mark (sign signs.Equal)) ∷ (3, of_mark (sign signs.NotEqual)) ∷ (3, of_mark (sign signs.LessThan)) ∷ (3, of_mark (sign signs.GreaterThan)) ∷ (3, of_mark (sign signs.AtMost)) ∷ (3, of_mark (sign signs.AtLeast)) ∷ (3, of_mark (key words.In)) ∷ (3, of_mark (key words.NotIn)) ∷ (4, of_mark (sign signs.Plus)) ∷ (4, of_mark (sign signs.Minus)) ∷ (4, of_mark (sign signs.Bars)) ∷ (5, of_mark (sign signs.Star)) ∷ (5, of_mark (sign signs.Slash)) ∷ (7, of_mark (sign signs.LeftParen)) ∷ (7, of_mark (sign signs.Hash)) ∷ (7, of_mark (sign signs.LeftBracket)) ∷ []

-- those of a precedence or a higher one
abbrev pub at_least : ℕ → List Row → List ℕ
at_least m [] = []
at_least m (r ∷ rs) = if nat_le m r.0 then r.1 ∷ at_least m rs else at_least m rs

abbrev pub tail_sorts : ℕ → List ℕ
tail_sorts m = at_least m all_tails

-- those of a higher precedence are those of a lower one
pub at_least-lower : (m q k : ℕ) (rs : List Row) → m ≤ q → member k (at_least q rs) ≡ true → member k (at_least m rs) ≡ true
at_least-lower m q k [] le e = absurd cc
at_least-lower m q k (r ∷ rs) le e = by_test (λ t. member k (cond t (r.1 ∷ at_least q rs) (at_least q rs)) ≡ true → member k (at_least m (r ∷ rs)) ≡ true) (nat_le q r.0)
    (λ high f.
    let a : q ≤ r.0 = leb-true q r.0 high in
    let b : nat_le m r.0 ≡ true = le-leb m r.0 (omega arith) in
    let goal : member k (r.1 ∷ at_least m rs) ≡ true = by_test (λ t. cond t true (member k (at_least q rs)) ≡ true → cond t true (member k (at_least m rs)) ≡ true) (nat_eq k r.1) (λ s g. refl) (λ s g. at_least-lower m q k rs le g) f in
    rw b goal)
    (λ low f.
    let tail : member k (at_least m rs) ≡ true = at_least-lower m q k rs le f in
    by_test (λ t. member k (cond t (r.1 ∷ at_least m rs) (at_least m rs)) ≡ true) (nat_le m r.0) (λ s. member-right k (r.1 ∷ []) (at_least m rs) tail) (λ s. tail)) e

-- ---- lists of sorts

abbrev pub apart : List ℕ → List ℕ → Bool
apart [] ks = true
apart (j ∷ js) ks = if member j ks then false else apart js ks

abbrev pub subset : List ℕ → List ℕ → Bool
subset [] ks = true
subset (j ∷ js) ks = if member j ks then subset js ks else false

apart-head : (j : ℕ) (js ks : List ℕ) → apart (j ∷ js) ks ≡ true → member j ks ≡ false
apart-head j js ks e = by_test (λ t. t ≡ false) (member j ks) (λ q. let d : false ≡ true = rw q at e in absurd cc) (λ q. refl)

-- a sort of the first list is none of the second
pub apart-member : (js ks : List ℕ) (k : ℕ) → apart js ks ≡ true → member k js ≡ true → member k ks ≡ false
apart-member [] ks k e a = absurd cc
apart-member (j ∷ js) ks k e a =
    let tail : member j ks ≡ false = apart-head j js ks e in
    let rest : apart js ks ≡ true = rw tail at e in
    elim (by_test (λ t. (k ≡ j) ⊎ (member k js ≡ true)) (nat_eq k j) (λ q. inl (eqb-true k j q)) (λ q. inr (rw q at a))) [
      | inl same ↦ subst (λ (x : ℕ). member x ks ≡ false) (sym same) tail
      | inr later ↦ apart-member js ks k rest later
    ]

subset-parts : (c x : Bool) → cond c x false ≡ true → (c ≡ true) × (x ≡ true)
subset-parts true x e = (refl, e)
subset-parts false x e = absurd cc

pub subset-member : (js ks : List ℕ) (k : ℕ) → subset js ks ≡ true → member k js ≡ true → member k ks ≡ true
subset-member [] ks k e a = absurd cc
subset-member (j ∷ js) ks k e a =
    let parts = subset-parts (member j ks) (subset js ks) e in
    elim (by_test (λ t. (k ≡ j) ⊎ (member k js ≡ true)) (nat_eq k j) (λ q. inl (eqb-true k j q)) (λ q. inr (rw q at a))) [
      | inl same ↦ subst (λ (x : ℕ). member x ks ≡ true) (sym same) parts.0
      | inr later ↦ subset-member js ks k parts.1 later
    ]

-- what stops more sorts stops fewer
pub fewer_stop : (js ks : List ℕ) (ts : Tokens) → ((k : ℕ) → member k js ≡ true → member k ks ≡ true) → Stops ks ts → Stops js ts
fewer_stop js ks [] all s = refl
fewer_stop js ks (t ∷ ts) all s = by_test (λ c. member (sort_of t.what) js ≡ c → c ≡ false) (member (sort_of t.what) js)
    (λ e is. let d : member (sort_of t.what) ks ≡ true = all (sort_of t.what) e in absurd cc)
    (λ e is. refl) refl

pub Stops-left : (js ks : List ℕ) (us : Tokens) → Stops (js ++ ks) us → Stops js us
Stops-left js ks us s = fewer_stop js (js ++ ks) us (λ k e. member-left k js ks e) s

pub Stops-right : (js ks : List ℕ) (us : Tokens) → Stops (js ++ ks) us → Stops ks us
Stops-right js ks us s = fewer_stop ks (js ++ ks) us (λ k e. member-right k js ks e) s

pub Stops-subset : (js ks : List ℕ) (us : Tokens) → subset js ks ≡ true → Stops ks us → Stops js us
Stops-subset js ks us e s = fewer_stop js ks us (λ k a. subset-member js ks k e a) s

pub any_stop : (ts : Tokens) → Stops [] ts
any_stop [] = refl
any_stop (t ∷ ts) = refl

pub Begins-append : (ks : List ℕ) (us rest : Tokens) → Begins ks us → Begins ks (us ++ rest)
Begins-append ks [] rest b = absurd cc
Begins-append ks (u ∷ us) rest b = b

pub Begins-apart : (js ks : List ℕ) (us : Tokens) → apart js ks ≡ true → Begins js us → Stops ks us
Begins-apart js ks [] e b = absurd cc
Begins-apart js ks (u ∷ us) e b = apart-member js ks (sort_of u.what) e b

pub Begins-left : (js ks : List ℕ) (us : Tokens) → Begins js us → Begins (js ++ ks) us
Begins-left js ks [] b = absurd cc
Begins-left js ks (u ∷ us) b = member-left (sort_of u.what) js ks b

pub Begins-right : (js ks : List ℕ) (us : Tokens) → Begins ks us → Begins (js ++ ks) us
Begins-right js ks [] b = absurd cc
Begins-right js ks (u ∷ us) b = member-right (sort_of u.what) js ks b

-- ---- one after the other

module _ {A B : Type 0} (r : Reader A) (q : Reader B) (S : A → Tokens → Type 0) (Q : B → Tokens → Type 0) (k : ℕ) (js ks : List ℕ) (r-reads : Reads r S k js) (q-reads : Reads q Q k ks)
    (between : (y : B) (us rest : Tokens) → Q y us → Stops ks rest → Stops js (us ++ rest)) where
  pub both-reads : Reads (both r q) (λ v us. (a b : Tokens) × (us ≡ a ++ b) × S v.0 a × Q v.1 b) k ks
  both-reads v us rest (a, b, parts, s, t) stop =
      let one = r-reads v.0 a (b ++ rest) s (between v.1 b rest t stop) in
      let two = q-reads v.1 b rest t stop in
      let e = one.2 in
      let f = two.2 in
      (max one.0 two.0, (let x = one.1 in let y = two.1 in omega arith), ap (λ (ts : Tokens). both r q (ts ++ rest)) parts ∙ ap (both r q) (append_assoc a b rest) ∙ rw (e, f) refl)

module _ {A B : Type 0} (f : A → B) (r : Reader A) (S : A → Tokens → Type 0) (k : ℕ) (ks : List ℕ) (reads : Reads r S k ks) where
  pub mapped-reads : (x : A) (us rest : Tokens) → S x us → Stops ks rest → IsReadAs (λ ts. mapped f (r ts)) k (f x) us rest
  mapped-reads x us rest s stop =
      let one = reads x us rest s stop in
      let e = one.2 in
      (one.0, one.1, rw e refl)

-- the branch that is taken
pub left-reads : {A : Type 0} (ks : List ℕ) (r q : Reader A) (k : ℕ) (x : A) (us rest : Tokens) → Begins ks (us ++ rest) → IsReadAs r k x us rest → IsReadAs (choice ks r q) k x us rest
left-reads ks r q k x us rest b (h, low, e) = (h, low, rw b e)

pub right-reads : {A : Type 0} (ks : List ℕ) (r q : Reader A) (k : ℕ) (x : A) (us rest : Tokens) → Stops ks (us ++ rest) → IsReadAs q k x us rest → IsReadAs (choice ks r q) k x us rest
right-reads ks r q k x us rest b (h, low, e) = (h, low, rw b e)

-- ---- one token

pub mark_itself : (m : Mark) → nat_eq (sort_of (kind_of m)) (of_mark m) ≡ true
mark_itself (key k) = nat_eq-refl (of_mark (key k))
mark_itself (sign s) = nat_eq-refl (of_mark (sign s))

pub mark-reads : (m : Mark) (k : ℕ) → Reads (read_mark m) (λ p us. us ≡ at (kind_of m) p ∷ []) k []
mark-reads m k p us rest s stop = (0, omega arith, ap (λ (ts : Tokens). read_mark m (ts ++ rest)) s ∙ (let e = mark_itself m in rw e refl))

-- ---- what goes on after a rule

-- one token of that sort may be the whole
abbrev pub single : ℕ → Rule → Bool
single k (mark m) = nat_eq (of_mark m) k
single k name = nat_eq 0 k
single k integer = nat_eq 1 k
single k number = nat_eq 2 k
single k text = nat_eq 3 k
single k (part q) = true
single k (g ▸ h) = false
single k (option g h) = single k h
single k (suffix g h) = single k g
single k (either g h) = single k g || single k h
single k (repeated l g h) = single k g
single k (prefixed p g) = single k g
single k (here g) = single k g

-- of clauses in joins it is said by `join_parts`
abbrev pub ends_by : (JoinPart → List ℕ) → Rule → List ℕ
ends_by join_parts (mark m) = []
ends_by join_parts name = []
ends_by join_parts integer = []
ends_by join_parts number = []
ends_by join_parts text = []
ends_by join_parts (part (expression m)) = tail_sorts m
ends_by join_parts (part (clause c)) = join_parts c
ends_by join_parts (g ▸ h) = ends_by join_parts h
ends_by join_parts (option g h) = ends_by join_parts h
ends_by join_parts (suffix g h) = firsts h ++ (ends_by join_parts g ++ ends_by join_parts h)
ends_by join_parts (either g h) = ends_by join_parts g ++ ends_by join_parts h
ends_by join_parts (repeated l g h) = firsts h ++ (ends_by join_parts g ++ ends_by join_parts h)
ends_by join_parts (prefixed p g) = (if single (first_sort p) g then second_sort p ∷ [] else []) ++ ends_by join_parts g
ends_by join_parts (here g) = ends_by join_parts g

abbrev pub join_part_ends : JoinPart → List ℕ
join_part_ends c = ends_by (λ c. []) (join_part_rule c)

abbrev pub ends : Rule → List ℕ
ends g = ends_by join_part_ends g

-- the sorts that may stand second, after the first token of a prefix
abbrev pub part_seconds : Prefix → Part → List ℕ
part_seconds label (expression m) = tail_sorts 0
part_seconds label (clause c) = []
part_seconds component q = []

abbrev pub seconds : Prefix → Rule → List ℕ
seconds p (mark m) = []
seconds p name = []
seconds p integer = []
seconds p number = []
seconds p text = []
seconds p (part q) = part_seconds p q
seconds p (g ▸ h) = seconds p g ++ (if single (first_sort p) g then firsts h else [])
seconds p (option g h) = (seconds p g ++ (if single (first_sort p) g then firsts h else [])) ++ seconds p h
seconds p (suffix g h) = seconds p g ++ (if single (first_sort p) g then firsts h else [])
seconds p (either g h) = seconds p g ++ seconds p h
seconds p (repeated l g h) = seconds p g ++ (if single (first_sort p) g then firsts h else [])
seconds p (prefixed q g) = second_sort q ∷ seconds p g
seconds p (here g) = seconds p g

-- one token tells what comes, and two tell a prefix
abbrev pub predictive : Rule → Bool
predictive (mark m) = true
predictive name = true
predictive integer = true
predictive number = true
predictive text = true
predictive (part (expression m)) = nat_le m top
predictive (part (clause c)) = true
predictive (g ▸ h) = predictive g && (predictive h && apart (firsts h) (ends g))
predictive (option g h) = predictive g && (predictive h && (apart (firsts h) (ends g) && apart (firsts h) (firsts g)))
predictive (suffix g h) = predictive g && (predictive h && apart (firsts h) (ends g))
predictive (either g h) = predictive g && (predictive h && apart (firsts h) (firsts g))
predictive (repeated l g h) = predictive g && (predictive h && (apart (firsts h) (ends g) && apart (firsts h) (ends h)))
predictive (prefixed p g) = predictive g && not (member (second_sort p) (seconds p g))
predictive (here g) = predictive g

-- ---- what a rule's tokens begin with

abbrev head_sort : Tokens → ℕ
head_sort [] = 0
head_sort (t ∷ ts) = sort_of t.what

abbrev next_sort : Tokens → ℕ
next_sort [] = 0
next_sort (t ∷ ts) = head_sort ts

sort-kind_of : (m : Mark) → sort_of (kind_of m) ≡ of_mark m
sort-kind_of (key k) = refl
sort-kind_of (sign s) = refl

mark-begins : (m : Mark) (ks : List ℕ) → member (sort_of (kind_of m)) (of_mark m ∷ ks) ≡ true
mark-begins m ks = let e = mark_itself m in rw e refl

prefix-begins : (p : Prefix) (l : At Text) (q : Place) (b : Tokens) (ks : List ℕ) → Begins (first_sort p ∷ ks) (prefix_tokens p l q b)
prefix-begins label l q b ks = refl
prefix-begins component l q b ks = refl

module _ (L : Counts) (T : Spelled) (T-begins : (q : Part) (e : OfPart q) (us : Tokens) → T q e us → Begins (part_firsts q) us) where
  pub rule-begins : (g : Rule) (v : Of g) (us : Tokens) → Spells L T g v us → Begins (firsts g) us
  rule-begins (mark m) v us s = subst (λ (ts : Tokens). Begins (firsts (mark m)) ts) (sym s) (mark-begins m [])
  rule-begins name v us s = subst (λ (ts : Tokens). Begins (firsts name) ts) (sym s) refl
  rule-begins integer v us s = subst (λ (ts : Tokens). Begins (firsts integer) ts) (sym s) refl
  rule-begins number v us s = subst (λ (ts : Tokens). Begins (firsts number) ts) (sym s) refl
  rule-begins text v us s = subst (λ (ts : Tokens). Begins (firsts text) ts) (sym s) refl
  rule-begins (part q) v us s = T-begins q v us s
  rule-begins (g ▸ h) v us (a, b, parts, s, t) = subst (λ (ts : Tokens). Begins (firsts g) ts) (sym parts) (Begins-append (firsts g) a b (rule-begins g v.0 a s))
  rule-begins (option g h) (None, w) us s = Begins-right (firsts g) (firsts h) us (rule-begins h w us s)
  rule-begins (option g h) (Some v, w) us (a, b, parts, s, t) = subst (λ (ts : Tokens). Begins (firsts g ++ firsts h) ts) (sym parts) (Begins-left (firsts g) (firsts h) (a ++ b) (Begins-append (firsts g) a b (rule-begins g v a s)))
  rule-begins (suffix g h) (v, None) us s = rule-begins g v us s
  rule-begins (suffix g h) (v, Some w) us (a, b, parts, s, t) = subst (λ (ts : Tokens). Begins (firsts g) ts) (sym parts) (Begins-append (firsts g) a b (rule-begins g v a s))
  rule-begins (either g h) (inl v) us s = Begins-left (firsts g) (firsts h) us (rule-begins g v us s)
  rule-begins (either g h) (inr v) us s = Begins-right (firsts g) (firsts h) us (rule-begins h v us s)
  rule-begins (repeated l g h) v us (a, b, parts, s, t) = subst (λ (ts : Tokens). Begins (firsts g) ts) (sym parts) (Begins-append (firsts g) a b (rule-begins g v.0 a s))
  rule-begins (prefixed p g) (None, v) us s = Begins-right (first_sort p ∷ []) (firsts g) us (rule-begins g v us s)
  rule-begins (prefixed p g) (Some l, v) us (q, b, parts, s) = subst (λ (ts : Tokens). Begins (first_sort p ∷ firsts g) ts) (sym parts) (prefix-begins p l q b (firsts g))
  rule-begins (here g) v us (first, s) = rule-begins g v.1 us s

-- ---- which token may stand second

-- one token in two parts, and two
one_in_two : (a b : Tokens) (t : Token) → t ∷ [] ≡ a ++ b → (a ≡ []) ⊎ ((a ≡ t ∷ []) × (b ≡ []))
one_in_two [] b t e = inl refl
one_in_two (x ∷ []) b t e = inr (cc, cc)
one_in_two (x ∷ y ∷ a) b t e = absurd cc

pub two_in_two : (a b : Tokens) (t u : Token) (us : Tokens) → t ∷ u ∷ us ≡ a ++ b → (a ≡ []) ⊎ ((a ≡ t ∷ []) × (b ≡ u ∷ us)) ⊎ ((c : Tokens) × (a ≡ t ∷ u ∷ c))
two_in_two [] b t u us e = inl refl
two_in_two (x ∷ []) b t u us e = inr (inl (cc, cc))
two_in_two (x ∷ y ∷ a) b t u us e = let p : x ≡ t = cc in let q : y ≡ u = cc in inr (inr (a, ap (λ (z : Token). z ∷ y ∷ a) p ∙ ap (λ (z : Token). t ∷ z ∷ a) q))

or-left : (a b : Bool) → a ≡ true → a || b ≡ true
or-left a b e = rw e refl

or-right : (a b : Bool) → b ≡ true → a || b ≡ true
or-right true b e = refl
or-right false b e = e

no_short_prefix : (p : Prefix) (l : At Text) (q : Place) (b : Tokens) (t : Token) → t ∷ [] ≡ prefix_tokens p l q b → ⊥
no_short_prefix label l q b t e = cc
no_short_prefix component l q b t e = cc

second_of_prefix : (p : Prefix) (l : At Text) (q : Place) (b : Tokens) (t u : Token) (us : Tokens) → t ∷ u ∷ us ≡ prefix_tokens p l q b → sort_of u.what ≡ second_sort p
second_of_prefix label l q b t u us e = ap next_sort e
second_of_prefix component l q b t u us e = ap next_sort e

module _ (L : Counts) (T : Spelled) (some : (q : Part) (e : OfPart q) → T q e [] → ⊥) where
  module _ (k : ℕ) (t : Token) (is : sort_of t.what ≡ k) where
    of_sort : (j : ℕ) (us : Tokens) → t ∷ [] ≡ us → head_sort us ≡ j → nat_eq j k ≡ true
    of_sort j us e f = eq-eqb j k (sym f ∙ sym (ap head_sort e) ∙ is)

    -- the first part is the whole
    first_alone : (g : Rule) (v : Of g) (a b : Tokens) → t ∷ [] ≡ a ++ b → Spells L T g v a → (Spells L T g v (t ∷ []) → single k g ≡ true) → single k g ≡ true
    first_alone g v a b parts s rec = elim (one_in_two a b t parts) [
      | inl none ↦ absurd (Spells-no_tokens L T some g v (subst (λ (us : Tokens). Spells L T g v us) none s))
      | inr w ↦ rec (subst (λ (us : Tokens). Spells L T g v us) w.0 s)
    ]

    -- two parts are two tokens at least
    never : {A : Type 0} (g h : Rule) (v : Of g) (w : Of h) (a b : Tokens) → t ∷ [] ≡ a ++ b → Spells L T g v a → Spells L T h w b → A
    never g h v w a b parts s q = elim (one_in_two a b t parts) [
      | inl none ↦ absurd (Spells-no_tokens L T some g v (subst (λ (us : Tokens). Spells L T g v us) none s))
      | inr x ↦ absurd (Spells-no_tokens L T some h w (subst (λ (us : Tokens). Spells L T h w us) x.1 q))
    ]

    pub one_token : (g : Rule) (v : Of g) → Spells L T g v (t ∷ []) → single k g ≡ true
    one_token (mark m) v s = of_sort (of_mark m) (at (kind_of m) v ∷ []) s (sort-kind_of m)
    one_token name v s = of_sort 0 _ s refl
    one_token integer v s = of_sort 1 _ s refl
    one_token number v s = of_sort 2 _ s refl
    one_token text v s = of_sort 3 _ s refl
    one_token (part q) v s = refl
    one_token (g ▸ h) v (a, b, parts, s, q) = never g h v.0 v.1 a b parts s q
    one_token (option g h) (None, w) s = one_token h w s
    one_token (option g h) (Some v, w) (a, b, parts, s, q) = never g h v w a b parts s q
    one_token (suffix g h) (v, None) s = one_token g v s
    one_token (suffix g h) (v, Some w) (a, b, parts, s, q) = never g h v w a b parts s q
    one_token (either g h) (inl v) s = or-left (single k g) (single k h) (one_token g v s)
    one_token (either g h) (inr v) s = or-right (single k g) (single k h) (one_token h v s)
    one_token (repeated l g h) v (a, b, parts, s, q) = first_alone g v.0 a b parts s (λ r. one_token g v.0 r)
    one_token (prefixed p g) (None, v) s = one_token g v s
    one_token (prefixed p g) (Some l, v) (q, b, parts, s) = absurd (no_short_prefix p l q b t parts)
    one_token (here g) v (first, s) = one_token g v.1 s

  more-begins : (A : Type 0) (S : A → Tokens → Type 0) (ks : List ℕ) (begins : (x : A) (us : Tokens) → S x us → Begins ks us) (n : ℕ) (xs : List A) (u : Token) (us : Tokens) → SpellsMore S n xs (u ∷ us) → Begins ks (u ∷ us)
  more-begins A S ks begins n [] u us s = absurd cc
  more-begins A S ks begins zero (x ∷ xs) u us s = absurd s
  more-begins A S ks begins (suc n) (x ∷ xs) u us (a, b, parts, s, ss) = subst (λ (ts : Tokens). Begins ks ts) (sym parts) (Begins-append ks a b (begins x a s))

  module _ (p : Prefix) (T-begins : (q : Part) (e : OfPart q) (us : Tokens) → T q e us → Begins (part_firsts q) us)
      (T-second : (q : Part) (e : OfPart q) (t u : Token) (us : Tokens) → T q e (t ∷ u ∷ us) → sort_of t.what ≡ first_sort p → member (sort_of u.what) (part_seconds p q) ≡ true)
      (t u : Token) (is : sort_of t.what ≡ first_sort p) where
    abbrev after : Rule → Rule → List ℕ
    after g h = seconds p g ++ (if single (first_sort p) g then firsts h else [])

    in_two : (g h : Rule) (v : Of g) (a b us : Tokens) → t ∷ u ∷ us ≡ a ++ b → Spells L T g v a → ((c : Tokens) → Spells L T g v (t ∷ u ∷ c) → member (sort_of u.what) (seconds p g) ≡ true) → (b ≡ u ∷ us → Begins (firsts h) (u ∷ us)) → member (sort_of u.what) (after g h) ≡ true
    in_two g h v a b us parts s rec begins = elim (two_in_two a b t u us parts) [
      | inl none ↦ absurd (Spells-no_tokens L T some g v (subst (λ (us : Tokens). Spells L T g v us) none s))
      | inr (inl w) ↦ (
          let alone : single (first_sort p) g ≡ true = one_token (first_sort p) t is g v (subst (λ (us : Tokens). Spells L T g v us) w.0 s) in
          let b : member (sort_of u.what) (firsts h) ≡ true = begins w.1 in
          member-right (sort_of u.what) (seconds p g) (if single (first_sort p) g then firsts h else []) (rw alone b)
          )
      | inr (inr c) ↦ member-left (sort_of u.what) (seconds p g) (if single (first_sort p) g then firsts h else []) (rec c.0 (subst (λ (us : Tokens). Spells L T g v us) c.1 s))
    ]

    begins_so : (h : Rule) (w : Of h) (b us : Tokens) → Spells L T h w b → b ≡ u ∷ us → Begins (firsts h) (u ∷ us)
    begins_so h w b us q e = subst (λ (ts : Tokens). Begins (firsts h) ts) e (rule-begins L T T-begins h w b q)

    pub two_tokens : (g : Rule) (v : Of g) (us : Tokens) → Spells L T g v (t ∷ u ∷ us) → member (sort_of u.what) (seconds p g) ≡ true
    two_tokens (mark m) v us s = absurd cc
    two_tokens name v us s = absurd cc
    two_tokens integer v us s = absurd cc
    two_tokens number v us s = absurd cc
    two_tokens text v us s = absurd cc
    two_tokens (part q) v us s = T-second q v t u us s is
    two_tokens (g ▸ h) v us (a, b, parts, s, q) = in_two g h v.0 a b us parts s (λ c r. two_tokens g v.0 c r) (begins_so h v.1 b us q)
    two_tokens (option g h) (None, w) us s = member-right (sort_of u.what) (after g h) (seconds p h) (two_tokens h w us s)
    two_tokens (option g h) (Some v, w) us (a, b, parts, s, q) = member-left (sort_of u.what) (after g h) (seconds p h) (in_two g h v a b us parts s (λ c r. two_tokens g v c r) (begins_so h w b us q))
    two_tokens (suffix g h) (v, None) us s = member-left (sort_of u.what) (seconds p g) (if single (first_sort p) g then firsts h else []) (two_tokens g v us s)
    two_tokens (suffix g h) (v, Some w) us (a, b, parts, s, q) = in_two g h v a b us parts s (λ c r. two_tokens g v c r) (begins_so h w b us q)
    two_tokens (either g h) (inl v) us s = member-left (sort_of u.what) (seconds p g) (seconds p h) (two_tokens g v us s)
    two_tokens (either g h) (inr v) us s = member-right (sort_of u.what) (seconds p g) (seconds p h) (two_tokens h v us s)
    two_tokens (repeated l g h) v us (a, b, parts, s, q) = in_two g h v.0 a b us parts s (λ c r. two_tokens g v.0 c r)
        (λ e. more-begins (Of h) (Spells L T h) (firsts h) (rule-begins L T T-begins h) (L l) v.1 u us (subst (λ (ts : Tokens). SpellsMore (Spells L T h) (L l) v.1 ts) e q))
    two_tokens (prefixed q g) (None, v) us s = member-right (sort_of u.what) (second_sort q ∷ []) (seconds p g) (two_tokens g v us s)
    two_tokens (prefixed q g) (Some l, v) us (r, b, parts, s) =
        let e : nat_eq (sort_of u.what) (second_sort q) ≡ true = eq-eqb (sort_of u.what) (second_sort q) (second_of_prefix q l r b t u us parts) in
        rw e refl
    two_tokens (here g) v us (first, s) = two_tokens g v.1 us s
