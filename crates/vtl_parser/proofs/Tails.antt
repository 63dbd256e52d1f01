-- Reading an expression step by step: its front, and one tail after the other.
use Rattle.std.proofs.Common.{◌≡◌, ℕ, zero, suc, ◌+◌, ◌-◌, ◌≤◌, ◌<◌, max, List, [], ◌∷◌, Bool, true, false, cond, Option, Some, None, Result, Ok, Err, ◌⊎◌, inl, inr, drop, refl, sym, ap, subst, ◌∙◌, arith}
use Rattle.std.proofs.lemmas.Bool.{ltb-true, lt-ltb, le-ltb, le-leb, lt-leb}
use Rattle.std.specs.Prelude.{nat_lt, nat_le, ◌&&◌, option_map}
use Rattle.vtl_values.specs.declared.place.Place.{Place}
use Rattle.vtl_tokens.specs.declared.token.TokenKind.{TokenKind}
use Rattle.vtl_tokens.specs.declared.token.TokenKind.TheVariants as what
use Rattle.vtl_tokens.specs.declared.token.Token.{Token}
use Rattle.vtl_syntax.specs.declared.expr.Expr.{Expr}
use Rattle.vtl_syntax.specs.declared.expr.Expr.TheVariants as tree
use Rattle.vtl_grammar.specs.Marks.{Mark, Tokens, mark_in}
use Rattle.vtl_grammar.specs.Rules.{Counts, Part, OfPart, expression, Of}
use Rattle.vtl_grammar.specs.Calls.{Form}
use Rattle.vtl_grammar.specs.Forms.{Tail, tail_of, leaf_in, leaf_precedence}
use Rattle.vtl_grammar.specs.Reading.{Kind, Expected, TooDeep, Got, Read, Reader, halt, got, ◌>>=◌, mapped, read, Front, form_at, tail_at, between, front_by, read_front, tail_by, read_tails, part_at, no_part, below}
use Rattle.vtl_parser.proofs.Low.{low-is, read-low, front-low-none, front-low-some}
use Rattle.vtl_cursor.specs.Plain.{read_plain}
use Rattle.vtl_cursor.proofs.PlainLaws.{read_plain-is}
use Rattle.vtl_parser.specs.Forms.{IsName, placed, read_form, read_tail, tail_there, form_there, leaf_there}

abbrev done : {A : Type 0} → Got A → Read A
done x = Ok x

ok_is : {A : Type 0} (x y : Got A) → done x ≡ done y → x ≡ y
ok_is x y e = cc

abbrev there : {A : Type 0} → A × Place → Option (A × Place)
there x = Some x

some_is : {A : Type 0} (x y : A × Place) → there x ≡ there y → x ≡ y
some_is x y e = cc

-- what stands there is that, at that place
module _ {A : Type 0} (x y : A) (p q : Place) (e : placed p (Some x) ≡ Some (y, q)) where
  same_value : x ≡ y
  same_value = ap (λ (v : A × Place). v.0) (some_is (x, p) (y, q) e)

  same_place : p ≡ q
  same_place = ap (λ (v : A × Place). v.1) (some_is (x, p) (y, q) e)

-- what comes after a sign and is read one level further in has no more levels than are left there
tail-levels : (L : Counts) (k : ℕ) (tail : Tail) (ts : Tokens) (v : Got (Of tail.rule)) → read L (part_at L k) tail.rule ts ≡ Ok v → v.levels ≤ k
tail-levels L k tail ts v e = low-is k (read L (part_at L k) tail.rule ts) v (read-low L k tail.rule ts) e

module _ (L : Counts) (k m : ℕ) where
  abbrev further : (q : Part) → Reader (OfPart q)
  further = part_at L k

  abbrev tails : ℕ → Front → ℕ → Reader Expr
  tails n f h = read_tails L further (suc k) m n f h

  -- the count of tails doesn't matter, where it is enough
  abbrev Enough : ℕ → Type 0
  Enough n = (j : ℕ) (f : Front) (h : ℕ) (ts : Tokens) → h ≤ suc k → suc k < n + h → suc k < j + h → tails n f h ts ≡ tails j f h ts

  by_read : (n j : ℕ) → Enough n → (f : Front) (h : ℕ) (p : Place) (tail : Tail) → h < suc k → suc k < suc n + h → suc k < suc j + h → (ts : Tokens) (x : Read (Of tail.rule)) → read L further tail.rule ts ≡ x
      → (x >>= λ v. tails n (record { expr = tail.tree f.expr v.value p; precedence = tail.precedence }) (suc (max h v.levels)) v.rest)
      ≡ (x >>= λ v. tails j (record { expr = tail.tree f.expr v.value p; precedence = tail.precedence }) (suc (max h v.levels)) v.rest)
  by_read n j same f h p tail lt a b ts (Ok v) e =
      let low = tail-levels L k tail ts v e in
      same j (record { expr = tail.tree f.expr v.value p; precedence = tail.precedence }) (suc (max h v.levels)) v.rest (omega arith) (omega arith) (omega arith)
  by_read n j same f h p tail lt a b ts (Err e) q = refl

  by_room : (n j : ℕ) → Enough n → (f : Front) (h : ℕ) (t : Token) (tail : Tail) → suc k < suc n + h → suc k < suc j + h → (ts : Tokens) (b : Bool) → nat_lt h (suc k) ≡ b
      → cond b (read L further tail.rule ts >>= λ v. tails n (record { expr = tail.tree f.expr v.value t.place; precedence = tail.precedence }) (suc (max h v.levels)) v.rest) (halt TooDeep (t ∷ ts))
      ≡ cond b (read L further tail.rule ts >>= λ v. tails j (record { expr = tail.tree f.expr v.value t.place; precedence = tail.precedence }) (suc (max h v.levels)) v.rest) (halt TooDeep (t ∷ ts))
  by_room n j same f h t tail a b ts true e = by_read n j same f h t.place tail (ltb-true _ _ e) a b ts (read L further tail.rule ts) refl
  by_room n j same f h t tail a b ts false e = refl

  by_tail : (n j : ℕ) → Enough n → (f : Front) (h : ℕ) (t : Token) (x : Option Tail) → suc k < suc n + h → suc k < suc j + h → (ts : Tokens)
      → tail_by L further (suc k) (tails n) f h t ts (between m f.precedence x) ≡ tail_by L further (suc k) (tails j) f h t ts (between m f.precedence x)
  by_tail n j same f h t None a b ts = refl
  by_tail n j same f h t (Some tail) a b ts = by_fit (nat_le m tail.precedence && nat_le tail.operand f.precedence)
    where
      by_fit : (fit : Bool) → tail_by L further (suc k) (tails n) f h t ts (cond fit (Some tail) None) ≡ tail_by L further (suc k) (tails j) f h t ts (cond fit (Some tail) None)
      by_fit true = by_room n j same f h t tail a b ts (nat_lt h (suc k)) refl
      by_fit false = refl

  pub enough : (n : ℕ) → Enough n
  enough zero j f h ts low a b = absurd (omega arith)
  enough (suc n) zero f h ts low a b = absurd (omega arith)
  enough (suc n) (suc j) f h [] low a b = refl
  enough (suc n) (suc j) f h (t ∷ ts) low a b = by_tail n j (enough n) f h t (tail_at (mark_in t.what)) a b ts

-- ---- the front

abbrev weighed : ℕ → Option Expr → Option (Expr × ℕ)
weighed q o = option_map (λ e. (e, q)) o

no_leaf : (q : ℕ) (o : Option Expr) → weighed q o ≡ None → o ≡ None
no_leaf q None e = refl
no_leaf q (Some x) e = absurd cc

abbrev some_leaf : Expr × ℕ → Option (Expr × ℕ)
some_leaf x = Some x

leaf_is : (x y : Expr × ℕ) → some_leaf x ≡ some_leaf y → x ≡ y
leaf_is x y e = cc

-- the tokens begin with a leaf
module _ (L : Counts) (inner : (q : Part) → Reader (OfPart q)) (d m : ℕ) (e : Expr) (q : ℕ) where
  low-leaf : (t : Token) (ts : Tokens) (o : Option Expr) → weighed (leaf_precedence t.what) o ≡ Some (e, q) → q < m → front_by L inner d m t ts o (form_at (mark_in t.what)) ≡ halt Expected (t ∷ ts)
  low-leaf t ts None is low = absurd cc
  low-leaf t ts (Some x) is low =
      let same : leaf_precedence t.what ≡ q = ap (λ (v : Expr × ℕ). v.1) (leaf_is (x, leaf_precedence t.what) (e, q) is) in
      let test : nat_le m q ≡ false = lt-leb m q low in
      rw (same, test) refl

  pub leaf-low : (ts : Tokens) → leaf_there ts ≡ Some (e, q) → q < m → read_front L inner d m ts ≡ halt Expected ts
  leaf-low [] is low = absurd cc
  leaf-low (t ∷ ts) is low = low-leaf t ts (leaf_in t.what t.place) is low

  high-leaf : (t : Token) (ts : Tokens) (o : Option Expr) → weighed (leaf_precedence t.what) o ≡ Some (e, q) → m ≤ q → front_by L inner d m t ts o (form_at (mark_in t.what)) ≡ got (record { expr = e; precedence = q }) 0 ts
  high-leaf t ts None is high = absurd cc
  high-leaf t ts (Some x) is high =
      let one : x ≡ e = ap (λ (v : Expr × ℕ). v.0) (leaf_is (x, leaf_precedence t.what) (e, q) is) in
      let same : leaf_precedence t.what ≡ q = ap (λ (v : Expr × ℕ). v.1) (leaf_is (x, leaf_precedence t.what) (e, q) is) in
      let test : nat_le m q ≡ true = le-leb m q high in
      rw (one, same, test) refl

  pub leaf-read : (ts : Tokens) → leaf_there ts ≡ Some (e, q) → m ≤ q → read_front L inner d m ts ≡ got (record { expr = e; precedence = q }) 0 (drop 1 ts)
  leaf-read [] is high = absurd cc
  leaf-read (t ∷ ts) is high = high-leaf t ts (leaf_in t.what t.place) is high

-- a leaf of the highest precedence is a name
pub leaf-name : (ts : Tokens) (e : Expr) (q : ℕ) → leaf_there ts ≡ Some (e, q) → 9 ≤ q → IsName e
leaf-name [] e q is high = absurd cc
leaf-name (t ∷ ts) e q is high = by_kind t.what is
  where
    not_high : (o : Option Expr) → weighed 8 o ≡ Some (e, q) → IsName e
    not_high None is = absurd cc
    not_high (Some x) is =
        let same : 8 ≡ q = ap (λ (v : Expr × ℕ). v.1) (leaf_is (x, 8) (e, q) is) in
        absurd (omega arith)

    by_kind : (w : TokenKind) → weighed (leaf_precedence w) (leaf_in w t.place) ≡ Some (e, q) → IsName e
    by_kind (what.Name n) is = (n, t.place, sym (ap (λ (v : Expr × ℕ). v.0) (leaf_is (tree.Name n t.place, 9) (e, q) is)))
    by_kind (what.Integer n) is = not_high (leaf_in (what.Integer n) t.place) is
    by_kind (what.Number n) is = not_high (leaf_in (what.Number n) t.place) is
    by_kind (what.Text n) is = not_high (leaf_in (what.Text n) t.place) is
    by_kind (what.Reserved n) is = not_high (leaf_in (what.Reserved n) t.place) is
    by_kind (what.Sign n) is = not_high None is
    by_kind what.End is = not_high None is

-- they begin with no leaf, and with no word of a form
pub nothing-read : (L : Counts) (inner : (q : Part) → Reader (OfPart q)) (d m : ℕ) (ts : Tokens) → leaf_there ts ≡ None → form_there ts ≡ None → read_front L inner d m ts ≡ halt Expected ts
nothing-read L inner d m [] none no_form = refl
nothing-read L inner d m (t ∷ ts) none no_form = let s : leaf_in t.what t.place ≡ None = no_leaf (leaf_precedence t.what) (leaf_in t.what t.place) none in rw s (by_form (form_at (mark_in t.what)) no_form)
  where
    by_form : (x : Option Form) → placed t.place x ≡ None → front_by L inner d m t ts None x ≡ halt Expected (t ∷ ts)
    by_form None e = refl
    by_form (Some form) e = absurd cc

-- they begin with a word of a form
module _ (L : Counts) (d m : ℕ) (form : Form) (p : Place) where
  low-form : (inner : (q : Part) → Reader (OfPart q)) (t : Token) (ts : Tokens) (x : Option Form) → placed t.place x ≡ Some (form, p) → form.precedence < m → front_by L inner d m t ts None x ≡ halt Expected (t ∷ ts)
  low-form inner t ts None is low = absurd cc
  low-form inner t ts (Some f) is low =
      let same : f ≡ form = same_value f form t.place p is in
      let e : nat_le m form.precedence ≡ false = lt-leb m form.precedence low in
      rw (same, e) refl

  pub low-read : (inner : (q : Part) → Reader (OfPart q)) (ts : Tokens) → leaf_there ts ≡ None → form_there ts ≡ Some (form, p) → form.precedence < m → read_front L inner d m ts ≡ halt Expected ts
  low-read inner [] none is low = absurd cc
  low-read inner (t ∷ ts) none is low = let s : leaf_in t.what t.place ≡ None = no_leaf (leaf_precedence t.what) (leaf_in t.what t.place) none in rw s (low-form inner t ts (form_at (mark_in t.what)) is low)

  deep-form : (inner : (q : Part) → Reader (OfPart q)) (t : Token) (ts : Tokens) (x : Option Form) → placed t.place x ≡ Some (form, p) → m ≤ form.precedence → d ≡ 0 → front_by L inner d m t ts None x ≡ halt TooDeep (t ∷ ts)
  deep-form inner t ts None is high none = absurd cc
  deep-form inner t ts (Some f) is high none =
      let same : f ≡ form = same_value f form t.place p is in
      let e : nat_le m form.precedence ≡ true = le-leb m form.precedence high in
      let z : nat_lt 0 d ≡ false = le-ltb 0 d (omega arith) in
      rw (same, e, z) refl

  pub deep-read : (inner : (q : Part) → Reader (OfPart q)) (ts : Tokens) → leaf_there ts ≡ None → form_there ts ≡ Some (form, p) → m ≤ form.precedence → d ≡ 0 → read_front L inner d m ts ≡ halt TooDeep ts
  deep-read inner [] none is high z = absurd cc
  deep-read inner (t ∷ ts) none is high z = let s : leaf_in t.what t.place ≡ None = no_leaf (leaf_precedence t.what) (leaf_in t.what t.place) none in rw s (deep-form inner t ts (form_at (mark_in t.what)) is high z)

-- a form as a front
abbrev pub fronted : ℕ → Got Expr → Read Front
fronted l v = got (record { expr = v.value; precedence = l }) (suc v.levels) v.rest

-- what comes after a word, and after a sign, by the reader of the grammar
form-is : (L : Counts) (inner : (q : Part) → Reader (OfPart q)) (form : Form) (p : Place) (ts : Tokens) → mapped (λ v. form.tree v p) (read L inner form.rule ts) ≡ read_form L inner form p ts
form-is L inner form p ts = ap (mapped (λ v. form.tree v p)) (sym (read_plain-is L inner form.rule ts))

tail-is : (L : Counts) (inner : (q : Part) → Reader (OfPart q)) (tail : Tail) (l : Expr) (p : Place) (ts : Tokens) → mapped (λ v. tail.tree l v p) (read L inner tail.rule ts) ≡ read_tail L inner tail l p ts
tail-is L inner tail l p ts = ap (mapped (λ v. tail.tree l v p)) (sym (read_plain-is L inner tail.rule ts))

-- the same one level further in
module _ (L : Counts) (k m : ℕ) (form : Form) (p : Place) (high : m ≤ form.precedence) where
  by_reading : (x : Read (Of form.rule)) → (x >>= λ v. fronted form.precedence (record { value = form.tree v.value p; levels = v.levels; rest = v.rest })) ≡ (mapped (λ v. form.tree v p) x >>= fronted form.precedence)
  by_reading (Ok v) = refl
  by_reading (Err b) = refl

  form-read : (t : Token) (ts : Tokens) (x : Option Form) → placed t.place x ≡ Some (form, p)
      → front_by L (part_at L k) (suc k) m t ts None x ≡ (read_form L (part_at L k) form p ts >>= fronted form.precedence)
  form-read t ts None is = absurd cc
  form-read t ts (Some f) is =
      let same : f ≡ form = same_value f form t.place p is in
      let place : t.place ≡ p = same_place f form t.place p is in
      let e : nat_le m form.precedence ≡ true = le-leb m form.precedence high in
      let z : nat_lt 0 (suc k) ≡ true = lt-ltb 0 (suc k) (omega arith) in
      rw (same, place, e, z) (by_reading (read L (part_at L k) form.rule ts) ∙ ap (λ (x : Read Expr). x >>= fronted form.precedence) (form-is L (part_at L k) form p ts))

  pub front-read : (ts : Tokens) → leaf_there ts ≡ None → form_there ts ≡ Some (form, p)
      → read_front L (part_at L k) (suc k) m ts ≡ (read_form L (part_at L k) form p (drop 1 ts) >>= fronted form.precedence)
  front-read [] none is = absurd cc
  front-read (t ∷ ts) none is = let s : leaf_in t.what t.place ≡ None = no_leaf (leaf_precedence t.what) (leaf_in t.what t.place) none in rw s (form-read t ts (form_at (mark_in t.what)) is)

-- ---- one tail after another

-- a tail begins there, but of no fitting precedence
module _ (L : Counts) (inner : (q : Part) → Reader (OfPart q)) (d m n : ℕ) (f : Front) (h : ℕ) where
  no-tail-in : (t : Token) (ts : Tokens) (x : Option Tail) → placed t.place x ≡ None → tail_by L inner d (read_tails L inner d m n) f h t ts (between m f.precedence x) ≡ got f.expr h (t ∷ ts)
  no-tail-in t ts None e = refl
  no-tail-in t ts (Some tail) e = absurd cc

  -- no tail begins there
  pub no-tail : (ts : Tokens) → tail_there ts ≡ None → read_tails L inner d m (suc n) f h ts ≡ got f.expr h ts
  no-tail [] e = refl
  no-tail (t ∷ ts) e = no-tail-in t ts (tail_at (mark_in t.what)) e

  module _ (tail : Tail) (p : Place) where
    unfit-in : (t : Token) (ts : Tokens) (x : Option Tail) → placed t.place x ≡ Some (tail, p) → ((tail.precedence < m) ⊎ (f.precedence < tail.operand)) → tail_by L inner d (read_tails L inner d m n) f h t ts (between m f.precedence x) ≡ got f.expr h (t ∷ ts)
    unfit-in t ts None e z = absurd cc
    unfit-in t ts (Some x) e (inl lt) =
        let same : x ≡ tail = same_value x tail t.place p e in
        let a : nat_le m tail.precedence ≡ false = lt-leb m tail.precedence lt in
        rw (same, a) refl
    unfit-in t ts (Some x) e (inr lt) =
        let same : x ≡ tail = same_value x tail t.place p e in
        let b : nat_le tail.operand f.precedence ≡ false = lt-leb tail.operand f.precedence lt in
        rw same (by_first (nat_le m tail.precedence) b)
      where
        by_first : (c : Bool) → nat_le tail.operand f.precedence ≡ false → tail_by L inner d (read_tails L inner d m n) f h t ts (cond (c && nat_le tail.operand f.precedence) (Some tail) None) ≡ got f.expr h (t ∷ ts)
        by_first true b = rw b refl
        by_first false b = refl

    pub unfit-tail : (ts : Tokens) → tail_there ts ≡ Some (tail, p) → ((tail.precedence < m) ⊎ (f.precedence < tail.operand)) → read_tails L inner d m (suc n) f h ts ≡ got f.expr h ts
    unfit-tail [] e z = absurd cc
    unfit-tail (t ∷ ts) e z = unfit-in t ts (tail_at (mark_in t.what)) e z

    module _ (low : m ≤ tail.precedence) (fits : tail.operand ≤ f.precedence) where
      fit : nat_le m tail.precedence && nat_le tail.operand f.precedence ≡ true
      fit =
          let a : nat_le m tail.precedence ≡ true = le-leb m tail.precedence low in
          let b : nat_le tail.operand f.precedence ≡ true = le-leb tail.operand f.precedence fits in
          rw (a, b) refl

      deep-in : (t : Token) (ts : Tokens) (x : Option Tail) → placed t.place x ≡ Some (tail, p) → d ≤ h → tail_by L inner d (read_tails L inner d m n) f h t ts (between m f.precedence x) ≡ halt TooDeep (t ∷ ts)
      deep-in t ts None e full = absurd cc
      deep-in t ts (Some x) e full =
          let same : x ≡ tail = same_value x tail t.place p e in
          let fitting = fit in
          let room : nat_lt h d ≡ false = le-ltb h d full in
          rw (same, fitting, room) refl

      pub deep-tail : (ts : Tokens) → tail_there ts ≡ Some (tail, p) → d ≤ h → read_tails L inner d m (suc n) f h ts ≡ halt TooDeep ts
      deep-tail [] e full = absurd cc
      deep-tail (t ∷ ts) e full = deep-in t ts (tail_at (mark_in t.what)) e full

      abbrev tailed : Got Expr → Read Expr
      tailed v = read_tails L inner d m n (record { expr = v.value; precedence = tail.precedence }) (suc (max h v.levels)) v.rest

      step-in : (t : Token) (ts : Tokens) (x : Option Tail) → placed t.place x ≡ Some (tail, p) → h < d
          → tail_by L inner d (read_tails L inner d m n) f h t ts (between m f.precedence x) ≡ (read_tail L inner tail f.expr p ts >>= λ v. read_tails L inner d m n (record { expr = v.value; precedence = tail.precedence }) (suc (max h v.levels)) v.rest)
      step-in t ts None e lt = absurd cc
      step-in t ts (Some x) e lt =
          let same : x ≡ tail = same_value x tail t.place p e in
          let place : t.place ≡ p = same_place x tail t.place p e in
          let fitting = fit in
          let room : nat_lt h d ≡ true = lt-ltb h d lt in
          rw (same, place, fitting, room) (by_read (read L inner tail.rule ts) ∙ ap (λ (x : Read Expr). x >>= tailed) (tail-is L inner tail f.expr p ts))
        where
          by_read : (y : Read (Of tail.rule)) → (y >>= λ v. read_tails L inner d m n (record { expr = tail.tree f.expr v.value p; precedence = tail.precedence }) (suc (max h v.levels)) v.rest)
              ≡ (mapped (λ v. tail.tree f.expr v p) y >>= λ v. read_tails L inner d m n (record { expr = v.value; precedence = tail.precedence }) (suc (max h v.levels)) v.rest)
          by_read (Ok v) = refl
          by_read (Err b) = refl

      pub step-tail : (ts : Tokens) → tail_there ts ≡ Some (tail, p) → h < d
          → read_tails L inner d m (suc n) f h ts ≡ (read_tail L inner tail f.expr p (drop 1 ts) >>= λ v. read_tails L inner d m n (record { expr = v.value; precedence = tail.precedence }) (suc (max h v.levels)) v.rest)
      step-tail [] e lt = absurd cc
      step-tail (t ∷ ts) e lt = step-in t ts (tail_at (mark_in t.what)) e lt

abbrev some_tail : Tail → Option Tail
some_tail x = Some x

-- what comes after its sign has no more levels than are left one level further in
module _ (L : Counts) (k : ℕ) (tail : Tail) (p : Place) where
  low-mapped : (us : Tokens) (l : Expr) (x : Read (Of tail.rule)) → read L (part_at L k) tail.rule us ≡ x → (v : Got Expr) → mapped (λ w. tail.tree l w p) x ≡ Ok v → v.levels ≤ k
  low-mapped us l (Err b) q v e = absurd cc
  low-mapped us l (Ok w) q v e =
      let low = tail-levels L k tail us w q in
      let same : w.levels ≡ v.levels = ap (λ (g : Got Expr). g.levels) (ok_is (record { value = tail.tree l w.value p; levels = w.levels; rest = w.rest }) v e) in
      omega arith

  pub low-tail : (us : Tokens) (l : Expr) (v : Got Expr) → read_tail L (part_at L k) tail l p us ≡ Ok v → v.levels ≤ k
  low-tail us l v q = low-mapped us l (read L (part_at L k) tail.rule us) refl v (tail-is L (part_at L k) tail l p us ∙ q)

-- ---- an expression

-- a front has no more levels than there may be
pub front-levels : (L : Counts) (d m : ℕ) (ts : Tokens) (f : Front) (h : ℕ) (us : Tokens) → read_front L (below L d) d m ts ≡ got f h us → h ≤ d
front-levels L zero m ts f h us e = low-is 0 (read_front L no_part 0 m ts) (record { value = f; levels = h; rest = us }) (front-low-none L m ts) e
front-levels L (suc k) m ts f h us e = low-is (suc k) (read_front L (part_at L k) (suc k) m ts) (record { value = f; levels = h; rest = us }) (front-low-some L k m ts) e

-- an expression is its front and its tails, of which so many are enough
pub whole : (L : Counts) (d m : ℕ) (ts : Tokens) (f : Front) (h : ℕ) (us : Tokens) → read_front L (below L d) d m ts ≡ got f h us → part_at L d (expression m) ts ≡ read_tails L (below L d) d m (suc (d - h)) f h us
whole L zero m ts f h us e =
    let n : suc (0 - h) ≡ 1 = omega arith in
    let one : part_at L 0 (expression m) ts ≡ read_tails L no_part 0 m 1 f h us = rw e refl in
    one ∙ ap (λ (j : ℕ). read_tails L no_part 0 m j f h us) (sym n)
whole L (suc k) m ts f h us e =
    let low = front-levels L (suc k) m ts f h us e in
    let one : part_at L (suc k) (expression m) ts ≡ read_tails L (part_at L k) (suc k) m (suc (suc k)) f h us = rw e refl in
    one ∙ enough L k m (suc (suc k)) (suc (suc k - h)) f h us low (omega arith) (omega arith)

-- the front of a form, for the depth as the code has it
module _ (L : Counts) (d m : ℕ) (form : Form) (p : Place) (some : 0 < d) (high : m ≤ form.precedence) (ts : Tokens) (none : leaf_there ts ≡ None) (is : form_there ts ≡ Some (form, p)) where
  pub front-halts : (kind : Kind) (us : Tokens) → read_form L (below L d) form p (drop 1 ts) ≡ halt kind us → read_front L (below L d) d m ts ≡ halt kind us
  front-halts kind us e = by_depth d some e
    where
      by_depth : (d : ℕ) → 0 < d → read_form L (below L d) form p (drop 1 ts) ≡ halt kind us → read_front L (below L d) d m ts ≡ halt kind us
      by_depth zero some e = absurd (omega arith)
      by_depth (suc k) some e = front-read L k m form p high ts none is ∙ rw e refl

  pub front-goes : (e : Expr) (h : ℕ) (us : Tokens) → read_form L (below L d) form p (drop 1 ts) ≡ got e h us → read_front L (below L d) d m ts ≡ got (record { expr = e; precedence = form.precedence }) (suc h) us
  front-goes e h us is' = by_depth d some is'
    where
      by_depth : (d : ℕ) → 0 < d → read_form L (below L d) form p (drop 1 ts) ≡ got e h us → read_front L (below L d) d m ts ≡ got (record { expr = e; precedence = form.precedence }) (suc h) us
      by_depth zero some q = absurd (omega arith)
      by_depth (suc k) some q = front-read L k m form p high ts none is ∙ rw q refl

-- one more tail, for the depth as the code has it
module _ (L : Counts) (d m : ℕ) (f : Front) (h : ℕ) (tail : Tail) (p : Place) (lt : h < d) (low : m ≤ tail.precedence) (fits : tail.operand ≤ f.precedence) (ts : Tokens) (is : tail_there ts ≡ Some (tail, p)) where
  pub tail-levels-at : (l : Expr) (us : Tokens) (e : Expr) (h' : ℕ) (vs : Tokens) → read_tail L (below L d) tail l p us ≡ got e h' vs → h' ≤ d - 1
  tail-levels-at l us e h' vs q = by_depth d lt q
    where
      by_depth : (d : ℕ) → h < d → read_tail L (below L d) tail l p us ≡ got e h' vs → h' ≤ d - 1
      by_depth zero lt q = absurd (omega arith)
      by_depth (suc k) lt q = let low = low-tail L k tail p us l (record { value = e; levels = h'; rest = vs }) q in omega arith

  pub tail-halts : (n : ℕ) (kind : Kind) (us : Tokens) → read_tail L (below L d) tail f.expr p (drop 1 ts) ≡ halt kind us → read_tails L (below L d) d m (suc n) f h ts ≡ halt kind us
  tail-halts n kind us e = by_depth d lt e
    where
      by_depth : (d : ℕ) → h < d → read_tail L (below L d) tail f.expr p (drop 1 ts) ≡ halt kind us → read_tails L (below L d) d m (suc n) f h ts ≡ halt kind us
      by_depth zero lt e = absurd (omega arith)
      by_depth (suc k) lt e = step-tail L (part_at L k) (suc k) m n f h tail p low fits ts is lt ∙ rw e refl

  pub tail-goes : (e : Expr) (h' : ℕ) (us : Tokens) → read_tail L (below L d) tail f.expr p (drop 1 ts) ≡ got e h' us
      → read_tails L (below L d) d m (suc (d - h)) f h ts ≡ read_tails L (below L d) d m (suc (d - (max h h' + 1))) (record { expr = e; precedence = tail.precedence }) (max h h' + 1) us
  tail-goes e h' us q = by_depth d lt (tail-levels-at f.expr (drop 1 ts) e h' us q) q
    where
      by_depth : (d : ℕ) → h < d → h' ≤ d - 1 → read_tail L (below L d) tail f.expr p (drop 1 ts) ≡ got e h' us
          → read_tails L (below L d) d m (suc (d - h)) f h ts ≡ read_tails L (below L d) d m (suc (d - (max h h' + 1))) (record { expr = e; precedence = tail.precedence }) (max h h' + 1) us
      by_depth zero lt small q = absurd (omega arith)
      by_depth (suc k) lt small q =
          let one : suc (max h h') ≡ max h h' + 1 = omega arith in
          step-tail L (part_at L k) (suc k) m (suc k - h) f h tail p low fits ts is lt ∙ rw (q, one) (enough L k m (suc k - h) (suc (suc k - (max h h' + 1))) (record { expr = e; precedence = tail.precedence }) (max h h' + 1) us (omega arith) (omega arith) (omega arith))
