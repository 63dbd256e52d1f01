-- The arguments of a call of a defined operator.
use Rattle.std.proofs.Common.{◌≡◌, ℕ, zero, suc, ◌<◌, max, List, [], ◌∷◌, ◌++◌, Bool, true, false, cond, Option, Some, None, Ok, Err, refl, sym, ap, subst, ◌∙◌, arith}
use Rattle.std.proofs.lemmas.List.{append-nil}
use Rattle.std.proofs.lemmas.Bool.{eqb-true}
use Rattle.std.specs.Prelude.{nat_eq, nat_le}
use Rattle.vtl_values.specs.declared.place.Place.{Place}
use Rattle.vtl_tokens.specs.declared.token.TokenKind.{TokenKind}
use Rattle.vtl_tokens.specs.declared.token.TokenKind.TheVariants as what
use Rattle.vtl_tokens.specs.declared.token.Token.{Token}
use Rattle.vtl_tokens.specs.declared.keyword.Keyword.{Keyword}
use Rattle.vtl_tokens.specs.declared.keyword.Keyword.TheVariants as words
use Rattle.vtl_tokens.specs.declared.sign.Sign.TheVariants as signs
use Rattle.vtl_syntax.specs.declared.expr.Expr.{Expr}
use Rattle.vtl_syntax.specs.declared.expr.Expr.TheVariants as tree
use Rattle.vtl_grammar.specs.Marks.{Mark, key, sign, Tokens, of_mark, sort_of, mark_in}
use Rattle.vtl_grammar.specs.Rules.{Part, OfPart, expression, Of, Text, ◌▸◌, option, expr, commas, close_paren}
use Rattle.vtl_grammar.specs.Calls.{Form}
use Rattle.vtl_grammar.specs.Forms.{form_of, leaf_in, call_of_name}
use Rattle.vtl_grammar.specs.Reading.{Kind, Expected, Got, Read, Reader, halt, got, ◌>>=◌, mapped, both, maybe, some, member, starts, firsts, heads, heads_of_all, read_mark, form_at, front_by, part_at, below}
use Rattle.vtl_grammar.proofs.Sorts.{member-left}
use Rattle.vtl_grammar.proofs.TablesTell.{LeafBegins, leaf-begins, form-tells}
use Rattle.vtl_cursor.specs.Limits.{limits}
use Rattle.vtl_cursor.specs.Plain.{read_plain}
use Rattle.vtl_parser.specs.Forms.{arguments_of}

-- ---- where no expression begins

no_head : {P : Type 0} (b : Bool) → b ≡ true → b ≡ false → P
no_head true e f = absurd cc
no_head false e f = absurd cc

-- what an expression of some precedence begins with, one of any precedence does
any_head : (m k : ℕ) → member k (heads m) ≡ true → member k (heads 0) ≡ true
any_head m k e = by_least (nat_le m 0) e
  where
    by_least : (b : Bool) → member k (heads_of_all ++ cond b (of_mark (key words.If) ∷ []) []) ≡ true → member k (heads 0) ≡ true
    by_least true e = e
    by_least false e = member-left k heads_of_all (of_mark (key words.If) ∷ []) (subst (λ (ks : List ℕ). member k ks ≡ true) (append-nil heads_of_all) e)

no_form : (m : Mark) → member (of_mark m) (heads 0) ≡ false → form_of m ≡ None
no_form m e = by_form (form_of m) refl
  where
    by_form : (o : Option Form) → form_of m ≡ o → o ≡ None
    by_form None is = refl
    by_form (Some form) is = no_head (member (of_mark m) (heads 0)) (any_head form.precedence (of_mark m) (form-tells m form is).head) e

no_leaf : (k : Keyword) (p : Place) → member (of_mark (key k)) (heads 0) ≡ false → leaf_in (what.Reserved k) p ≡ None
no_leaf k p e = by_leaf (leaf_in (what.Reserved k) p) (leaf-begins k p)
  where
    by_leaf : (o : Option Expr) → LeafBegins k o → o ≡ None
    by_leaf None b = refl
    by_leaf (Some x) b = no_head (member (of_mark (key k)) (heads 0)) (member-left (of_mark (key k)) heads_of_all (of_mark (key words.If) ∷ []) b) e

module _ (inner : (q : Part) → Reader (OfPart q)) (d : ℕ) (t : Token) (ts : Tokens) where
  no_front : (w : TokenKind) → member (sort_of w) (heads 0) ≡ false → front_by limits inner d 0 t ts (leaf_in w t.place) (form_at (mark_in w)) ≡ halt Expected (t ∷ ts)
  no_front (what.Name n) e = absurd cc
  no_front (what.Integer n) e = absurd cc
  no_front (what.Number n) e = absurd cc
  no_front (what.Text n) e = absurd cc
  no_front what.End e = refl
  no_front (what.Sign s) e = let form = no_form (sign s) e in rw form refl
  no_front (what.Reserved k) e =
      let leaf = no_leaf k t.place e in
      let form = no_form (key k) e in
      rw (leaf, form) refl

-- no expression begins there
none-begins : (d : ℕ) (ts : Tokens) → 0 < d → starts (heads 0) ts ≡ false → below limits d (expression 0) ts ≡ halt Expected ts
none-begins zero ts some e = absurd (omega arith)
none-begins (suc zero) [] some e = refl
none-begins (suc zero) (t ∷ ts) some e = let front = no_front (below limits 0) 0 t ts t.what e in rw front refl
none-begins (suc (suc d)) [] some e = refl
none-begins (suc (suc d)) (t ∷ ts) some e = let front = no_front (part_at limits d) (suc d) t ts t.what e in rw front refl

-- ---- arguments

-- a bracket closes, where no argument begins
pub closed : (ts : Tokens) → starts (of_mark (sign signs.RightParen) ∷ []) ts ≡ true → starts (heads 0) ts ≡ false
closed [] e = refl
closed (t ∷ ts) e = by_sort (nat_eq (sort_of t.what) (of_mark (sign signs.RightParen))) refl e
  where
    by_sort : (c : Bool) → nat_eq (sort_of t.what) (of_mark (sign signs.RightParen)) ≡ c → cond c true false ≡ true → member (sort_of t.what) (heads 0) ≡ false
    by_sort true is e = let same : sort_of t.what ≡ of_mark (sign signs.RightParen) = eqb-true (sort_of t.what) (of_mark (sign signs.RightParen)) is in rw same refl
    by_sort false is e = absurd cc

unclosed : (ts : Tokens) → starts (of_mark (sign signs.RightParen) ∷ []) ts ≡ false → read_mark (sign signs.RightParen) ts ≡ halt Expected ts
unclosed [] e = refl
unclosed (t ∷ ts) e = by_sort (nat_eq (sort_of t.what) (of_mark (sign signs.RightParen))) e
  where
    by_sort : (c : Bool) → cond c true false ≡ false → cond c (got t.place 0 ts) (halt Expected (t ∷ ts)) ≡ halt Expected (t ∷ ts)
    by_sort true e = absurd cc
    by_sort false e = refl

abbrev given : {A B : Type 0} → A × B → Option A × B
given v = (Some v.0, v.1)

given-is : {A B : Type 0} (x : Read A) (q : Reader B) → (mapped some x >>= λ a. q a.rest >>= λ b. got (a.value, b.value) (max a.levels b.levels) b.rest) ≡ mapped given (x >>= λ a. q a.rest >>= λ b. got (a.value, b.value) (max a.levels b.levels) b.rest)
given-is {B = B} (Ok a) q = by_second (q a.rest)
  where
    by_second : (y : Read B) → (y >>= λ b. got (Some a.value, b.value) (max a.levels b.levels) b.rest) ≡ mapped given (y >>= λ b. got (a.value, b.value) (max a.levels b.levels) b.rest)
    by_second (Ok b) = refl
    by_second (Err e) = refl
given-is (Err e) q = refl

-- where no bracket closes, there are arguments
pub arguments-read : (d : ℕ) (ts : Tokens) → 0 < d → starts (of_mark (sign signs.RightParen) ∷ []) ts ≡ false
    → read_plain limits (below limits d) (option (commas (expr 0)) close_paren) ts ≡ mapped given (read_plain limits (below limits d) (commas (expr 0) ▸ close_paren) ts)
arguments-read d ts some unclosed-here = by_start (starts (heads 0) ts) refl
  where
    by_start : (c : Bool) → starts (heads 0) ts ≡ c → read_plain limits (below limits d) (option (commas (expr 0)) close_paren) ts ≡ mapped given (read_plain limits (below limits d) (commas (expr 0) ▸ close_paren) ts)
    by_start true is = rw is (given-is (read_plain limits (below limits d) (commas (expr 0)) ts) (read_mark (sign signs.RightParen)))
    by_start false is =
        let none = none-begins d ts some is in
        let refused = unclosed ts unclosed-here in
        rw (is, none, refused) refl

-- the tree of a call
pub call-tree : (n : Text) (p bracket : Place) (v : Option (Of (commas (expr 0)))) (q : Place) → call_of_name.tree (tree.Name n p) (v, q) bracket ≡ tree.CallOf n (arguments_of v) p
call-tree n p bracket None q = refl
call-tree n p bracket (Some v) q = refl
