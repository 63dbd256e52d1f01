-- What is spelled as an expression, or as a clause in a join, is read as one.
use Rattle.std.proofs.Common.{◌≡◌, ℕ, zero, suc, ◌+◌, ◌≤◌, ◌<◌, max, List, [], ◌∷◌, ◌++◌, Bool, true, false, cond, Option, Some, None, inl, inr, refl, sym, ap, subst, ◌∙◌, append_assoc, arith}
use Rattle.std.proofs.lemmas.Bool.{leb-true, le-leb, lt-ltb}
use Rattle.std.specs.Prelude.{nat_le, nat_lt, ◌&&◌, if◌then◌else◌}
use Rattle.vtl_values.specs.declared.place.Place.{Place}
use Rattle.vtl_tokens.specs.declared.token.Token.{Token}
use Rattle.vtl_tokens.specs.declared.token.TokenKind.{TokenKind}
use Rattle.vtl_tokens.specs.declared.token.TokenKind.TheVariants as what
use Rattle.vtl_tokens.specs.declared.keyword.Keyword.{Keyword}
use Rattle.vtl_tokens.specs.declared.keyword.Keyword.TheVariants as words
use Rattle.vtl_tokens.specs.declared.sign.Sign.TheVariants as signs
use Rattle.vtl_syntax.specs.declared.expr.Expr.{Expr}
use Rattle.vtl_syntax.specs.declared.expr.Clause.{Clause}
use Rattle.vtl_grammar.specs.Marks.{Mark, key, sign, Tokens, at, kind_of, mark_code, of_mark, sort_of}
use Rattle.vtl_grammar.specs.Rules.{Counts, Rule, Prefix, label, component, Part, OfPart, expression, clause, JoinPart, filtering, calculating, keeping, renaming, Of, Spells}
use Rattle.vtl_grammar.specs.Clauses.{join_part_rule}
use Rattle.vtl_grammar.specs.Calls.{Form}
use Rattle.vtl_grammar.specs.Forms.{Tail, form_of, tail_of, leaf_in, leaf_precedence}
use Rattle.vtl_grammar.specs.Expressions.{Spelled, IsPart, IsForm, IsTailed, IsLeaf}
use Rattle.vtl_grammar.specs.Reading.{Reader, got, read, starts, firsts, heads, heads_of_all, join_part_firsts, part_firsts, member, first_sort, between, tail_by, read_tails, read_expr, read_join_part, read_part, no_part, part_at}
use Rattle.vtl_grammar.proofs.Sorts.{by_test, member-left, member-right, member-split}
use Rattle.vtl_grammar.proofs.Spellings.{IsPart-lower, IsPart-no_tokens}
use Rattle.vtl_grammar.proofs.Tables.{join_part-firsts, mark_in-kind_of}
use Rattle.vtl_grammar.proofs.TablesTell.{form-tells, tail-tells, join_part-tells, join_part-ends, LeafBegins, leaf-begins}
use Rattle.vtl_grammar.proofs.Complete.{Stops, Begins, Reads, tail_sorts, all_tails, at_least-lower, join_part_ends, ends, part_seconds, predictive, rule-begins, Begins-append, fewer_stop, Stops-subset, two_in_two}
use Rattle.vtl_grammar.proofs.CompleteRules.{part_ends, part_fits, rule-reads}

-- what stops a lower precedence stops a higher one
Stops-higher : (m q : ℕ) (rest : Tokens) → m ≤ q → Stops (tail_sorts m) rest → Stops (tail_sorts q) rest
Stops-higher m q rest le s = fewer_stop (tail_sorts q) (tail_sorts m) rest (λ k e. at_least-lower m q k all_tails le e) s

sort-kind_of : (m : Mark) → sort_of (kind_of m) ≡ of_mark m
sort-kind_of (key k) = refl
sort-kind_of (sign s) = refl

tail_sort : (w : Mark) (tail : Tail) (m : ℕ) → tail_of w ≡ Some tail → m ≤ tail.precedence → member (of_mark w) (tail_sorts m) ≡ true
tail_sort w tail m is le = at_least-lower m tail.precedence (of_mark w) all_tails le (tail-tells w tail is).among

one_less_than : (n : ℕ) → 0 < n → (k : ℕ) × (n ≡ suc k)
one_less_than zero lt = absurd (omega arith)
one_less_than (suc k) lt = (k, refl)

-- the first token of a form is no leaf
abbrev is_apart : Option Form → Option Expr → Bool
is_apart (Some form) (Some e) = false
is_apart _ _ = true

each_apart : (w : Mark) (p : Place) → is_apart (form_of w) (leaf_in (kind_of w) p) ≡ true
each_apart (key words.If) p = refl
each_apart (sign signs.Plus) p = refl
each_apart _ p = refl

none_where_apart : (form : Form) (o : Option Expr) → is_apart (Some form) o ≡ true → o ≡ None
none_where_apart form None e = refl
none_where_apart form (Some x) e = cc

no_leaf : (w : Mark) (p : Place) (form : Form) → form_of w ≡ Some form → leaf_in (kind_of w) p ≡ None
no_leaf w p form is = none_where_apart form (leaf_in (kind_of w) p) (subst (λ (o : Option Form). is_apart o (leaf_in (kind_of w) p) ≡ true) is (each_apart w p))

-- ---- a front and its tails

module _ (inner : (q : Part) → Reader (OfPart q)) (L : Counts) (d m : ℕ) where
  -- e is read as a front of precedence q or higher, and what comes after it is still to be read
  record Runs (k q : ℕ) (e : Expr) (us rest : Tokens) : Type 0 where
    count : ℕ
    own : ℕ
    levels : ℕ
    enough : d < count + levels
    high : q ≤ own
    low : levels ≤ k
    run : read_expr L inner d m (us ++ rest) ≡ read_tails L inner d m count (record { expr = e; precedence = own }) levels rest

  leaf-runs : (k q : ℕ) → m ≤ q → (e : Expr) (us rest : Tokens) → IsLeaf q e us → Runs k q e us rest
  leaf-runs k q le e us rest (t, is, high, parts) = record {
    count = suc d;
    own = leaf_precedence t.what;
    levels = 0;
    enough = omega arith;
    high = high;
    low = omega arith;
    run = ap (λ (ts : Tokens). read_expr L inner d m (ts ++ rest)) parts ∙ (let room : nat_le m (leaf_precedence t.what) ≡ true = le-leb m (leaf_precedence t.what) (omega arith) in rw (is, room) refl);
  }

  form-run : (w : Mark) (p : Place) (form : Form) (v : Of form.rule) (h : ℕ) (us rest : Tokens) → form_of w ≡ Some form → nat_le m form.precedence ≡ true → nat_lt 0 d ≡ true → read L inner form.rule (us ++ rest) ≡ got v h rest
      → read_expr L inner d m ((at (kind_of w) p ∷ us) ++ rest) ≡ read_tails L inner d m (suc d) (record { expr = form.tree v p; precedence = form.precedence }) (suc h) rest
  form-run w p form v h us rest is at_level room e = let mark_is = mark_in-kind_of w in let leaf = no_leaf w p form is in rw (leaf, mark_is, is, at_level, room, e) refl

  tail-run : (w : Mark) (p : Place) (tail : Tail) (v : Of tail.rule) (n h h' own : ℕ) (e : Expr) (us rest : Tokens) → tail_of w ≡ Some tail → nat_le m tail.precedence && nat_le tail.operand own ≡ true → nat_lt h d ≡ true → read L inner tail.rule (us ++ rest) ≡ got v h' rest
      → read_tails L inner d m (suc n) (record { expr = e; precedence = own }) h (at (kind_of w) p ∷ (us ++ rest)) ≡ read_tails L inner d m n (record { expr = tail.tree e v p; precedence = tail.precedence }) (suc (max h h')) rest
  tail-run w p tail v n h h' own e us rest is fits room q = let mark_is = mark_in-kind_of w in rw (mark_is, is, fits, room, q) refl

  module _ (k : ℕ) (lt : k < d) (T : Spelled) (rules : (g : Rule) → predictive g ≡ true → Reads (read L inner g) (Spells L T g) k (ends g)) where
    form-runs : (q : ℕ) → m ≤ q → (e : Expr) (us rest : Tokens) → IsForm L T q e us → Stops (tail_sorts (suc q)) rest → Runs (suc k) q e us rest
    form-runs q le e us rest f stop =
        let fits = form-tells f.begins f.form f.of_mark in
        let above = f.precedence in
        let one = rules f.form.rule fits.tells f.value f.after rest f.spelled (Stops-subset (ends f.form.rule) (tail_sorts (suc f.form.precedence)) rest fits.ends_so (Stops-higher (suc q) (suc f.form.precedence) rest (omega arith) stop)) in
        let at_level : nat_le m f.form.precedence ≡ true = le-leb m f.form.precedence (omega arith) in
        let room : nat_lt 0 d ≡ true = lt-ltb 0 d (omega arith) in
        subst (λ (x : Expr). Runs (suc k) q x us rest) (sym f.is) (record {
          count = suc d;
          own = f.form.precedence;
          levels = suc one.0;
          enough = omega arith;
          high = f.precedence;
          low = (let l = one.1 in omega arith);
          run = ap (λ (ts : Tokens). read_expr L inner d m (ts ++ rest)) f.tokens ∙ form-run f.begins f.place f.form f.value one.0 f.after rest f.of_mark at_level room one.2;
        })

    tail-runs : (q : ℕ) → m ≤ q → (e : Expr) (us rest : Tokens) (f : IsTailed L T q e us) → Stops (tail_sorts (suc q)) rest → Runs k f.tail.operand f.left f.front (at (kind_of f.begins) f.place ∷ (f.after ++ rest)) → Runs (suc k) q e us rest
    tail-runs q le e us rest f stop left =
        let fits = tail-tells f.begins f.tail f.of_mark in
        let above = f.precedence in
        let high = left.high in
        let low = left.low in
        let enough = left.enough in
        let one = rules f.tail.rule fits.tells f.value f.after rest f.spelled (Stops-subset (ends f.tail.rule) (tail_sorts (suc f.tail.precedence)) rest fits.ends_so (Stops-higher (suc q) (suc f.tail.precedence) rest (omega arith) stop)) in
        let small = one.1 in
        let a : nat_le m f.tail.precedence ≡ true = le-leb m f.tail.precedence (omega arith) in
        let b : nat_le f.tail.operand left.own ≡ true = le-leb f.tail.operand left.own high in
        let fit : nat_le m f.tail.precedence && nat_le f.tail.operand left.own ≡ true = rw (a, b) refl in
        let room : nat_lt left.levels d ≡ true = lt-ltb left.levels d (omega arith) in
        let less : (n : ℕ) × (left.count ≡ suc n) = one_less_than left.count (omega arith) in
        let n-is = less.1 in
        let step = tail-run f.begins f.place f.tail f.value less.0 left.levels one.0 left.own f.left f.after rest f.of_mark fit room one.2 in
        subst (λ (x : Expr). Runs (suc k) q x us rest) (sym f.is) (record {
          count = less.0;
          own = f.tail.precedence;
          levels = suc (max left.levels one.0);
          enough = omega arith;
          high = f.precedence;
          low = omega arith;
          run = ap (λ (ts : Tokens). read_expr L inner d m (ts ++ rest)) f.tokens ∙ ap (read_expr L inner d m) (append_assoc f.front (at (kind_of f.begins) f.place ∷ f.after) rest) ∙ left.run
              ∙ ap (λ (c : ℕ). read_tails L inner d m c (record { expr = f.left; precedence = left.own }) left.levels (at (kind_of f.begins) f.place ∷ (f.after ++ rest))) n-is ∙ step;
        })

-- ---- what a part begins with

heads-lower : (m q : ℕ) (k : ℕ) → m ≤ q → member k (heads q) ≡ true → member k (heads m) ≡ true
heads-lower m q k le b = elim (member-split k heads_of_all (if nat_le q 0 then of_mark (key words.If) ∷ [] else []) b) [
  | inl c ↦ member-left k heads_of_all (if nat_le m 0 then of_mark (key words.If) ∷ [] else []) c
  | inr c ↦ member-right k heads_of_all (if nat_le m 0 then of_mark (key words.If) ∷ [] else []) (lower c)
]
  where
    lower : member k (cond (nat_le q 0) (of_mark (key words.If) ∷ []) []) ≡ true → member k (cond (nat_le m 0) (of_mark (key words.If) ∷ []) []) ≡ true
    lower c = by_test (λ t. nat_le q 0 ≡ t → member k (cond t (of_mark (key words.If) ∷ []) []) ≡ true → member k (cond (nat_le m 0) (of_mark (key words.If) ∷ []) []) ≡ true) (nat_le q 0)
        (λ e is h. let z : q ≤ 0 = leb-true q 0 e in let l : nat_le m 0 ≡ true = le-leb m 0 (omega arith) in rw l h)
        (λ e is h. absurd cc) refl c

word_leaf : (m : ℕ) (k : Keyword) (p : Place) (o : Option Expr) → leaf_in (what.Reserved k) p ≡ o → LeafBegins k o → (e : Expr) → o ≡ Some e → Begins (heads m) (at (what.Reserved k) p ∷ [])
word_leaf m k p None is l e s = absurd cc
word_leaf m k p (Some f) is l e s = member-left (of_mark (key k)) heads_of_all (if nat_le m 0 then of_mark (key words.If) ∷ [] else []) l

leaf_begins : (m : ℕ) (e : Expr) (w : TokenKind) (p : Place) → leaf_in w p ≡ Some e → Begins (heads m) (at w p ∷ [])
leaf_begins m e (what.Name n) p is = refl
leaf_begins m e (what.Integer n) p is = refl
leaf_begins m e (what.Number n) p is = refl
leaf_begins m e (what.Text n) p is = refl
leaf_begins m e (what.Sign s) p is = absurd cc
leaf_begins m e what.End p is = absurd cc
leaf_begins m e (what.Reserved k) p is = word_leaf m k p (leaf_in (what.Reserved k) p) refl (leaf-begins k p) e is

IsLeaf-begins : (m : ℕ) (e : Expr) (us : Tokens) → IsLeaf m e us → Begins (heads m) us
IsLeaf-begins m e us (t, is, high, parts) = subst (λ (ts : Tokens). Begins (heads m) ts) (sym parts) (leaf_begins m e t.what t.place is)

pub IsPart-begins : (L : Counts) (d : ℕ) (q : Part) (e : OfPart q) (us : Tokens) → IsPart L d q e us → Begins (part_firsts q) us
IsPart-begins L zero (expression m) e us s = IsLeaf-begins m e us s
IsPart-begins L zero (clause c) e us s = absurd s
IsPart-begins L (suc d) (expression m) e us (inl s) = IsLeaf-begins m e us s
IsPart-begins L (suc d) (expression m) e us (inr (inl f)) =
    let fits = form-tells f.begins f.form f.of_mark in
    let first : member (sort_of (kind_of f.begins)) (heads m) ≡ true = subst (λ (k : ℕ). member k (heads m) ≡ true) (sym (sort-kind_of f.begins)) (heads-lower m f.form.precedence (of_mark f.begins) f.precedence fits.head) in
    subst (λ (ts : Tokens). Begins (heads m) ts) (sym f.tokens) first
IsPart-begins L (suc d) (expression m) e us (inr (inr f)) =
    subst (λ (ts : Tokens). Begins (heads m) ts) (sym f.tokens)
    (Begins-append (heads m) f.front (at (kind_of f.begins) f.place ∷ f.after) (IsPart-begins L d (expression m) f.left f.front (IsPart-lower L d f.tail.operand m f.left f.front (let higher = leb-true f.tail.precedence f.tail.operand (tail-tells f.begins f.tail f.of_mark).operand_higher in let above = f.precedence in omega arith) f.left_spelled)))
IsPart-begins L (suc d) (clause c) e us (v, is, s) = subst (λ (ks : List ℕ). Begins ks us) (join_part-firsts c) (rule-begins L (IsPart L d) (λ q x vs r. IsPart-begins L d q x vs r) (join_part_rule c) v us s)

-- ---- what may stand second

abbrev head_sort : Tokens → ℕ
head_sort [] = 0
head_sort (t ∷ ts) = sort_of t.what

no_such_head : (m : ℕ) → member (of_mark (key words.Rule)) (heads m) ≡ true → ⊥
no_such_head m e = elim (member-split (of_mark (key words.Rule)) heads_of_all (if nat_le m 0 then of_mark (key words.If) ∷ [] else []) e) [
  | inl c ↦ cc
  | inr c ↦ none c
]
  where
    none : member (of_mark (key words.Rule)) (cond (nat_le m 0) (of_mark (key words.If) ∷ []) []) ≡ true → ⊥
    none c = by_test (λ t. member (of_mark (key words.Rule)) (cond t (of_mark (key words.If) ∷ []) []) ≡ true → ⊥) (nat_le m 0) (λ e h. cc) (λ e h. cc) c

no_join_part_first : (p : Prefix) (c : JoinPart) → member (first_sort p) (join_part_firsts c) ≡ true → ⊥
no_join_part_first label filtering e = cc
no_join_part_first label calculating e = cc
no_join_part_first label keeping e = cc
no_join_part_first label renaming e = cc
no_join_part_first component filtering e = cc
no_join_part_first component calculating e = cc
no_join_part_first component keeping e = cc
no_join_part_first component renaming e = cc

leaf_one : (m : ℕ) (e : Expr) (t u : Token) (us : Tokens) → IsLeaf m e (t ∷ u ∷ us) → ⊥
leaf_one m e t u us (v, is, high, parts) = cc

after_name : (L : Counts) (d m : ℕ) (e : Expr) (t u : Token) (us : Tokens) → IsPart L d (expression m) e (t ∷ u ∷ us) → sort_of t.what ≡ 0 → member (sort_of u.what) (tail_sorts 0) ≡ true
after_name L zero m e t u us s is = absurd (leaf_one m e t u us s)
after_name L (suc d) m e t u us (inl s) is = absurd (leaf_one m e t u us s)
after_name L (suc d) m e t u us (inr (inl f)) is =
    let first : sort_of t.what ≡ of_mark f.begins = ap head_sort f.tokens ∙ sort-kind_of f.begins in
    let e' : 5 + mark_code f.begins ≡ 0 = sym first ∙ is in
    absurd (omega arith)
after_name L (suc d) m e t u us (inr (inr f)) is = elim (two_in_two f.front (at (kind_of f.begins) f.place ∷ f.after) t u us f.tokens) [
  | inl none ↦ absurd (IsPart-no_tokens L d (expression f.tail.operand) f.left (subst (λ (ts : Tokens). IsPart L d (expression f.tail.operand) f.left ts) none f.left_spelled))
  | inr (inl w) ↦ (
      let same : sort_of u.what ≡ of_mark f.begins = sym (ap head_sort w.1) ∙ sort-kind_of f.begins in
      subst (λ (k : ℕ). member k (tail_sorts 0) ≡ true) (sym same) (tail_sort f.begins f.tail 0 f.of_mark (omega arith))
      )
  | inr (inr c) ↦ after_name L d f.tail.operand f.left t u c.0 (subst (λ (ts : Tokens). IsPart L d (expression f.tail.operand) f.left ts) c.1 f.left_spelled) is
]

pub IsPart-second : (L : Counts) (d : ℕ) (p : Prefix) (q : Part) (e : OfPart q) (t u : Token) (us : Tokens) → IsPart L d q e (t ∷ u ∷ us) → sort_of t.what ≡ first_sort p → member (sort_of u.what) (part_seconds p q) ≡ true
IsPart-second L d label (expression m) e t u us s is = after_name L d m e t u us s is
IsPart-second L d label (clause c) e t u us s is = absurd (no_join_part_first label c (subst (λ (k : ℕ). member k (join_part_firsts c) ≡ true) is (IsPart-begins L d (clause c) e (t ∷ u ∷ us) s)))
IsPart-second L d component (expression m) e t u us s is = absurd (no_such_head m (subst (λ (k : ℕ). member k (heads m) ≡ true) is (IsPart-begins L d (expression m) e (t ∷ u ∷ us) s)))
IsPart-second L d component (clause c) e t u us s is = absurd (no_join_part_first component c (subst (λ (k : ℕ). member k (join_part_firsts c) ≡ true) is (IsPart-begins L d (clause c) e (t ∷ u ∷ us) s)))

-- ---- parts

module _ (inner : (q : Part) → Reader (OfPart q)) (L : Counts) (d : ℕ) (rules : (k : ℕ) → k < d → (g : Rule) → predictive g ≡ true → Reads (read L inner g) (Spells L (IsPart L k) g) k (ends g)) where
  module _ (m : ℕ) where
    runs : (k q : ℕ) → k ≤ d → m ≤ q → (e : Expr) (us rest : Tokens) → IsPart L k (expression q) e us → Stops (tail_sorts (suc q)) rest → Runs inner L d m k q e us rest
    runs zero q le low e us rest s stop = leaf-runs inner L d m 0 q low e us rest s
    runs (suc k) q le low e us rest (inl s) stop = leaf-runs inner L d m (suc k) q low e us rest s
    runs (suc k) q le low e us rest (inr (inl f)) stop = form-runs inner L d m k (omega arith) (IsPart L k) (rules k (omega arith)) q low e us rest f stop
    runs (suc k) q le low e us rest (inr (inr f)) stop =
        let fits = tail-tells f.begins f.tail f.of_mark in
        let above = f.precedence in
        let higher = leb-true f.tail.precedence f.tail.operand fits.operand_higher in
        let not : member (sort_of (kind_of f.begins)) (tail_sorts (suc f.tail.operand)) ≡ false = subst (λ (j : ℕ). member j (tail_sorts (suc f.tail.operand)) ≡ false) (sym (sort-kind_of f.begins)) fits.not_higher in
        tail-runs inner L d m k (omega arith) (IsPart L k) (rules k (omega arith)) q low e us rest f stop
        (runs k f.tail.operand (omega arith) (omega arith) f.left f.front (at (kind_of f.begins) f.place ∷ (f.after ++ rest)) f.left_spelled not)

    -- what doesn't go on with a front is left
    by_tail : (n own h : ℕ) (e : Expr) (w : Mark) (p : Place) (ts : Tokens) → member (of_mark w) (tail_sorts m) ≡ false → (o : Option Tail) → tail_of w ≡ o → tail_by L inner d (read_tails L inner d m n) (record { expr = e; precedence = own }) h (at (kind_of w) p) ts (between m own o) ≡ got e h (at (kind_of w) p ∷ ts)
    by_tail n own h e w p ts s None is = refl
    by_tail n own h e w p ts s (Some tail) is =
        let not : nat_le m tail.precedence ≡ false = by_test (λ t. t ≡ false) (nat_le m tail.precedence) (λ q. let among = tail_sort w tail m is (leb-true m tail.precedence q) in absurd cc) (λ q. refl) in
        rw not refl

    stops_in : (n own h : ℕ) (e : Expr) (w : TokenKind) (p : Place) (ts : Tokens) → member (sort_of w) (tail_sorts m) ≡ false → read_tails L inner d m (suc n) (record { expr = e; precedence = own }) h (at w p ∷ ts) ≡ got e h (at w p ∷ ts)
    stops_in n own h e (what.Name x) p ts s = refl
    stops_in n own h e (what.Integer x) p ts s = refl
    stops_in n own h e (what.Number x) p ts s = refl
    stops_in n own h e (what.Text x) p ts s = refl
    stops_in n own h e what.End p ts s = refl
    stops_in n own h e (what.Sign x) p ts s = by_tail n own h e (sign x) p ts s (tail_of (sign x)) refl
    stops_in n own h e (what.Reserved x) p ts s = by_tail n own h e (key x) p ts s (tail_of (key x)) refl

    stops : (n own h : ℕ) (e : Expr) (rest : Tokens) → Stops (tail_sorts m) rest → read_tails L inner d m n (record { expr = e; precedence = own }) h rest ≡ got e h rest
    stops zero own h e rest s = refl
    stops (suc n) own h e [] s = refl
    stops (suc n) own h e (t ∷ ts) s = stops_in n own h e t.what t.place ts s

    read_expr-reads : (k : ℕ) → k ≤ d → Reads (read_expr L inner d m) (IsPart L k (expression m)) k (tail_sorts m)
    read_expr-reads k le e us rest s stop =
        let r = runs k m le (omega arith) e us rest s (Stops-higher m (suc m) rest (omega arith) stop) in
        (r.levels, r.low, r.run ∙ stops r.count r.own r.levels e rest stop)

  read_join_part-reads : (c : JoinPart) (k : ℕ) → k ≤ d → Reads (read_join_part L inner d c) (IsPart L k (clause c)) k (join_part_ends c)
  read_join_part-reads c zero le e us rest s stop = absurd s
  read_join_part-reads c (suc k) le e us rest (v, is, s) stop =
      let one = rules k (omega arith) (join_part_rule c) (join_part-tells c) v us rest s (subst (λ (ks : List ℕ). Stops ks rest) (sym (join_part-ends c)) stop) in
      let first : starts (join_part_firsts c) (us ++ rest) ≡ true = Begins-append (join_part_firsts c) us rest (subst (λ (ks : List ℕ). Begins ks us) (join_part-firsts c) (rule-begins L (IsPart L k) (IsPart-begins L k) (join_part_rule c) v us s)) in
      let room : nat_lt 0 d ≡ true = lt-ltb 0 d (omega arith) in
      let e' = one.2 in
      (suc one.0, (let l = one.1 in omega arith), rw (first, room, e') (ap (λ (x : Clause). got x (suc one.0) rest) (sym is)))

  pub read_part-reads : (k : ℕ) → k ≤ d → (q : Part) → part_fits q ≡ true → Reads (read_part L inner d q) (IsPart L k q) k (part_ends q)
  read_part-reads k le (expression m) high = read_expr-reads m k le
  read_part-reads k le (clause c) high = read_join_part-reads c k le

no_room : (L : Counts) (k : ℕ) → k < 0 → (g : Rule) → predictive g ≡ true → Reads (read L no_part g) (Spells L (IsPart L k) g) k (ends g)
no_room L k lt g fits = absurd (omega arith)

-- what is spelled as a part with k levels is read as one where there is room for as many
pub part-reads : (L : Counts) (d k : ℕ) → k ≤ d → (q : Part) → part_fits q ≡ true → Reads (part_at L d q) (IsPart L k q) k (part_ends q)
part-reads L zero k le = read_part-reads no_part L 0 (no_room L) k le
part-reads L (suc d) k le = read_part-reads (part_at L d) L (suc d) (λ j lt g fits. rule-reads L (IsPart L j) (IsPart-no_tokens L j) (IsPart-begins L j) (IsPart-second L j) (part_at L d) j (λ q high. part-reads L d j (omega arith) q high) g fits) k le

-- what is spelled by a rule is read by it
pub rules-read : (L : Counts) (d k : ℕ) (g : Rule) → k ≤ d → predictive g ≡ true → Reads (read L (part_at L d) g) (Spells L (IsPart L k) g) k (ends g)
rules-read L d k g le = rule-reads L (IsPart L k) (IsPart-no_tokens L k) (IsPart-begins L k) (IsPart-second L k) (part_at L d) k (λ q high. part-reads L d k le q high) g

pub rules-begin : (L : Counts) (k : ℕ) (g : Rule) (v : Of g) (us : Tokens) → Spells L (IsPart L k) g v us → Begins (firsts g) us
rules-begin L k g v us s = rule-begins L (IsPart L k) (IsPart-begins L k) g v us s
