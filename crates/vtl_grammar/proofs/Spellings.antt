-- Laws of what is spelled: within higher limits too, by some tokens, and never by none.
use Rattle.std.proofs.Common.{◌≡◌, ℕ, zero, suc, ◌≤◌, length, List, [], ◌∷◌, ◌++◌, Bool, true, false, Some, None, inl, inr, refl, subst, arith}
use Rattle.std.proofs.lemmas.Bool.{leb-true}
use Rattle.std.specs.Prelude.{nat_le, ◌&&◌, ℤ, pos}
use Rattle.vtl_values.specs.declared.place.Place.{Place}
use Rattle.vtl_values.specs.declared.value.Value.TheVariants as value
use Rattle.vtl_tokens.specs.declared.token.Token.{Token}
use Rattle.vtl_tokens.specs.declared.token.TokenKind.TheVariants as what
use Rattle.vtl_syntax.specs.declared.expr.Expr.{Expr}
use Rattle.vtl_syntax.specs.declared.expr.Expr.TheVariants as tree
use Rattle.vtl_grammar.specs.Marks.{Tokens, at, kind_of}
use Rattle.vtl_grammar.specs.Rules.{Counts, Rule, mark, name, integer, number, text, part, ◌▸◌, option, suffix, either, repeated, prefixed, here, Prefix, label, component, Part, OfPart, expression, clause, Of, At, first_place, prefix_tokens, Spells, SpellsMore}
use Rattle.vtl_grammar.specs.Clauses.{join_part_rule}
use Rattle.vtl_grammar.specs.Forms.{literal_precedence}
use Rattle.vtl_grammar.specs.Expressions.{Spelled, IsLeaf, IsForm, IsTailed, IsPart}
use Rattle.vtl_grammar.proofs.Explained.{Spelling, IsMore, IsGrowing, HasSample}

-- ---- more within higher limits

module _ {A : Type 0} (S S' : A → Tokens → Type 0) (wider : (x : A) (us : Tokens) → S x us → S' x us) where
  pub more-wider : (n k : ℕ) (xs : List A) (us : Tokens) → n ≤ k → SpellsMore S n xs us → SpellsMore S' k xs us
  more-wider n k [] us le s = s
  more-wider zero k (x ∷ xs) us le s = absurd s
  more-wider (suc n) zero (x ∷ xs) us le s = absurd (omega arith)
  more-wider (suc n) (suc k) (x ∷ xs) us le (a, b, parts, s, ss) = (a, b, parts, wider x a s, more-wider n k xs b (omega arith) ss)

module _ (L L' : Counts) (more : IsMore L L') (T T' : Spelled) (wider : (q : Part) (e : OfPart q) (us : Tokens) → T q e us → T' q e us) where
  pub Spells-wider : (g : Rule) (v : Of g) (us : Tokens) → Spells L T g v us → Spells L' T' g v us
  Spells-wider (mark m) v us s = s
  Spells-wider name v us s = s
  Spells-wider integer v us s = s
  Spells-wider number v us s = s
  Spells-wider text v us s = s
  Spells-wider (part q) v us s = wider q v us s
  Spells-wider (g ▸ h) v us (a, b, parts, s, q) = (a, b, parts, Spells-wider g v.0 a s, Spells-wider h v.1 b q)
  Spells-wider (option g h) (None, w) us s = Spells-wider h w us s
  Spells-wider (option g h) (Some v, w) us (a, b, parts, s, q) = (a, b, parts, Spells-wider g v a s, Spells-wider h w b q)
  Spells-wider (suffix g h) (v, None) us s = Spells-wider g v us s
  Spells-wider (suffix g h) (v, Some w) us (a, b, parts, s, q) = (a, b, parts, Spells-wider g v a s, Spells-wider h w b q)
  Spells-wider (either g h) (inl v) us s = Spells-wider g v us s
  Spells-wider (either g h) (inr v) us s = Spells-wider h v us s
  Spells-wider (repeated l g h) v us (a, b, parts, s, q) = (a, b, parts, Spells-wider g v.0 a s, more-wider (Spells L T h) (Spells L' T' h) (λ x u r. Spells-wider h x u r) (L l) (L' l) v.1 b (more l) q)
  Spells-wider (prefixed p g) (None, v) us s = Spells-wider g v us s
  Spells-wider (prefixed p g) (Some l, v) us (q, b, parts, s) = (q, b, parts, Spells-wider g v b s)
  Spells-wider (here g) v us (first, s) = (first, Spells-wider g v.1 us s)

  pub form-wider : (m : ℕ) (e : Expr) (us : Tokens) → IsForm L T m e us → IsForm L' T' m e us
  form-wider m e us f = record {
    begins = f.begins;
    place = f.place;
    form = f.form;
    of_mark = f.of_mark;
    precedence = f.precedence;
    value = f.value;
    is = f.is;
    after = f.after;
    tokens = f.tokens;
    spelled = Spells-wider f.form.rule f.value f.after f.spelled;
  }

  pub tailed-wider : (m : ℕ) (e : Expr) (us : Tokens) → IsTailed L T m e us → IsTailed L' T' m e us
  tailed-wider m e us f = record {
    left = f.left;
    front = f.front;
    begins = f.begins;
    place = f.place;
    tail = f.tail;
    of_mark = f.of_mark;
    precedence = f.precedence;
    left_spelled = wider (expression f.tail.operand) f.left f.front f.left_spelled;
    value = f.value;
    is = f.is;
    after = f.after;
    tokens = f.tokens;
    spelled = Spells-wider f.tail.rule f.value f.after f.spelled;
  }

pub leaf_is : (L : Counts) (h m : ℕ) (e : Expr) (us : Tokens) → IsLeaf m e us → IsPart L h (expression m) e us
leaf_is L zero m e us s = s
leaf_is L (suc h) m e us s = inl s

pub IsPart-grows : (L L' : Counts) → IsMore L L' → (h k : ℕ) (q : Part) (e : OfPart q) (us : Tokens) → h ≤ k → IsPart L h q e us → IsPart L' k q e us
IsPart-grows L L' more zero k (expression m) e us le s = leaf_is L' k m e us s
IsPart-grows L L' more zero k (clause c) e us le s = absurd s
IsPart-grows L L' more (suc h) zero q e us le s = absurd (omega arith)
IsPart-grows L L' more (suc h) (suc k) (expression m) e us le (inl s) = inl s
IsPart-grows L L' more (suc h) (suc k) (expression m) e us le (inr (inl s)) = inr (inl (form-wider L L' more (IsPart L h) (IsPart L' k) (λ q f vs r. IsPart-grows L L' more h k q f vs (omega arith) r) m e us s))
IsPart-grows L L' more (suc h) (suc k) (expression m) e us le (inr (inr s)) = inr (inr (tailed-wider L L' more (IsPart L h) (IsPart L' k) (λ q f vs r. IsPart-grows L L' more h k q f vs (omega arith) r) m e us s))
IsPart-grows L L' more (suc h) (suc k) (clause c) e us le (v, is, s) = (v, is, Spells-wider L L' more (IsPart L h) (IsPart L' k) (λ q f vs r. IsPart-grows L L' more h k q f vs (omega arith) r) (join_part_rule c) v us s)

leaf-lower : (m q : ℕ) (e : Expr) (us : Tokens) → q ≤ m → IsLeaf m e us → IsLeaf q e us
leaf-lower m q e us le (t, is, high, parts) = (t, is, omega arith, parts)

-- an expression of a precedence is one of each lower precedence
pub IsPart-lower : (L : Counts) (h m q : ℕ) (e : Expr) (us : Tokens) → q ≤ m → IsPart L h (expression m) e us → IsPart L h (expression q) e us
IsPart-lower L zero m q e us le s = leaf-lower m q e us le s
IsPart-lower L (suc h) m q e us le (inl s) = inl (leaf-lower m q e us le s)
IsPart-lower L (suc h) m q e us le (inr (inl f)) = inr (inl (record {
  begins = f.begins;
  place = f.place;
  form = f.form;
  of_mark = f.of_mark;
  precedence = (let l = f.precedence in omega arith);
  value = f.value;
  is = f.is;
  after = f.after;
  tokens = f.tokens;
  spelled = f.spelled;
}))
IsPart-lower L (suc h) m q e us le (inr (inr f)) = inr (inr (record {
  left = f.left;
  front = f.front;
  begins = f.begins;
  place = f.place;
  tail = f.tail;
  of_mark = f.of_mark;
  precedence = (let l = f.precedence in omega arith);
  left_spelled = f.left_spelled;
  value = f.value;
  is = f.is;
  after = f.after;
  tokens = f.tokens;
  spelled = f.spelled;
}))

-- a part, and a rule, within limits
abbrev pub SpellsPart : (q : Part) → Spelling (OfPart q)
SpellsPart q L h e us = IsPart L h q e us

abbrev pub SpellsRule : (g : Rule) → Spelling (Of g)
SpellsRule g L h v us = Spells L (IsPart L h) g v us

pub part-grows : (q : Part) → IsGrowing (SpellsPart q)
part-grows q = record { grows = λ L L' h k x us more le s. IsPart-grows L L' more h k q x us le s }

pub rule-grows : (g : Rule) → IsGrowing (SpellsRule g)
rule-grows g = record { grows = λ L L' h k x us more le s. Spells-wider L L' more (IsPart L h) (IsPart L' k) (λ q e vs r. IsPart-grows L L' more h k q e vs le r) g x us s }

-- ---- something is spelled

pub and-true : (a b : Bool) → a && b ≡ true → (a ≡ true) × (b ≡ true)
and-true true b e = (refl, e)
and-true false b e = absurd cc

-- no clause in a join is owed, and a literal will do
abbrev pub has_sample : Rule → Bool
has_sample (mark m) = true
has_sample name = true
has_sample integer = true
has_sample number = true
has_sample text = true
has_sample (part (expression m)) = nat_le m literal_precedence
has_sample (part (clause k)) = false
has_sample (g ▸ h) = has_sample g && has_sample h
has_sample (option g h) = has_sample h
has_sample (suffix g h) = has_sample g
has_sample (either g h) = has_sample g
has_sample (repeated l g h) = has_sample g
has_sample (prefixed p g) = has_sample g
has_sample (here g) = has_sample g

abbrev pub no_place : Place
no_place = record { line = 0; column = 0 }

abbrev pub zero_at : At ℤ
zero_at = record { value = pos 0; place = no_place }

abbrev pub nothing_at : At (List ℕ)
nothing_at = record { value = []; place = no_place }

pub rule-sample : (g : Rule) → has_sample g ≡ true → HasSample (SpellsRule g)
rule-sample (mark m) e = record { value = no_place; tokens = at (kind_of m) no_place ∷ []; spelled = λ L h. refl }
rule-sample name e = record { value = nothing_at; tokens = at (what.Name []) no_place ∷ []; spelled = λ L h. refl }
rule-sample integer e = record { value = zero_at; tokens = at (what.Integer (pos 0)) no_place ∷ []; spelled = λ L h. refl }
rule-sample number e = record { value = zero_at; tokens = at (what.Number (pos 0)) no_place ∷ []; spelled = λ L h. refl }
rule-sample text e = record { value = nothing_at; tokens = at (what.Text []) no_place ∷ []; spelled = λ L h. refl }
rule-sample (part (expression m)) e = record {
  value = tree.Literal (value.Integer (pos 0)) no_place;
  tokens = at (what.Integer (pos 0)) no_place ∷ [];
  spelled = λ L h. leaf_is L h m (tree.Literal (value.Integer (pos 0)) no_place) (at (what.Integer (pos 0)) no_place ∷ []) (at (what.Integer (pos 0)) no_place, refl, leb-true _ _ e, refl);
}
rule-sample (part (clause k)) e = absurd cc
rule-sample (g ▸ h) e =
    let es = and-true (has_sample g) (has_sample h) e in
    let s = rule-sample g es.0 in
    let q = rule-sample h es.1 in
    record { value = (s.value, q.value); tokens = s.tokens ++ q.tokens; spelled = λ L k. (s.tokens, q.tokens, refl, s.spelled L k, q.spelled L k) }
rule-sample (option g h) e = let q = rule-sample h e in record { value = (None, q.value); tokens = q.tokens; spelled = q.spelled }
rule-sample (suffix g h) e = let q = rule-sample g e in record { value = (q.value, None); tokens = q.tokens; spelled = q.spelled }
rule-sample (either g h) e = let q = rule-sample g e in record { value = inl q.value; tokens = q.tokens; spelled = q.spelled }
rule-sample (repeated l g h) e = let q = rule-sample g e in record { value = (q.value, []); tokens = q.tokens ++ []; spelled = λ L k. (q.tokens, [], refl, q.spelled L k, refl) }
rule-sample (prefixed p g) e = let q = rule-sample g e in record { value = (None, q.value); tokens = q.tokens; spelled = q.spelled }
rule-sample (here g) e = let q = rule-sample g e in record { value = (first_place q.tokens, q.value); tokens = q.tokens; spelled = λ L k. (refl, q.spelled L k) }

-- ---- nothing is spelled by no tokens

leaf_no_tokens : (m : ℕ) (e : Expr) → IsLeaf m e [] → ⊥
leaf_no_tokens m e (t, is, high, parts) = cc

front_no_tokens : (a b : Tokens) → [] ≡ a ++ b → a ≡ []
front_no_tokens [] b parts = refl
front_no_tokens (x ∷ a) b parts = absurd cc

no_middle : (a : Tokens) (t : Token) (b : Tokens) → [] ≡ a ++ t ∷ b → ⊥
no_middle [] t b parts = cc
no_middle (x ∷ a) t b parts = cc

no_prefix : (p : Prefix) (l : At (List ℕ)) (q : Place) (b : Tokens) → [] ≡ prefix_tokens p l q b → ⊥
no_prefix label l q b e = cc
no_prefix component l q b e = cc

module _ (L : Counts) (T : Spelled) (some : (q : Part) (e : OfPart q) → T q e [] → ⊥) where
  pub Spells-no_tokens : (g : Rule) (v : Of g) → Spells L T g v [] → ⊥
  Spells-no_tokens (mark m) v s = cc
  Spells-no_tokens name v s = cc
  Spells-no_tokens integer v s = cc
  Spells-no_tokens number v s = cc
  Spells-no_tokens text v s = cc
  Spells-no_tokens (part q) v s = some q v s
  Spells-no_tokens (g ▸ q) v (a, b, parts, s, t) = Spells-no_tokens g v.0 (subst (λ (us : Tokens). Spells L T g v.0 us) (front_no_tokens a b parts) s)
  Spells-no_tokens (option g q) (None, w) s = Spells-no_tokens q w s
  Spells-no_tokens (option g q) (Some v, w) (a, b, parts, s, t) = Spells-no_tokens g v (subst (λ (us : Tokens). Spells L T g v us) (front_no_tokens a b parts) s)
  Spells-no_tokens (suffix g q) (v, None) s = Spells-no_tokens g v s
  Spells-no_tokens (suffix g q) (v, Some w) (a, b, parts, s, t) = Spells-no_tokens g v (subst (λ (us : Tokens). Spells L T g v us) (front_no_tokens a b parts) s)
  Spells-no_tokens (either g q) (inl v) s = Spells-no_tokens g v s
  Spells-no_tokens (either g q) (inr v) s = Spells-no_tokens q v s
  Spells-no_tokens (repeated l g q) v (a, b, parts, s, t) = Spells-no_tokens g v.0 (subst (λ (us : Tokens). Spells L T g v.0 us) (front_no_tokens a b parts) s)
  Spells-no_tokens (prefixed p g) (None, v) s = Spells-no_tokens g v s
  Spells-no_tokens (prefixed p g) (Some l, v) (q, b, parts, s) = no_prefix p l q b parts
  Spells-no_tokens (here g) v (first, s) = Spells-no_tokens g v.1 s

pub IsPart-no_tokens : (L : Counts) (h : ℕ) (q : Part) (e : OfPart q) → IsPart L h q e [] → ⊥
IsPart-no_tokens L zero (expression m) e s = leaf_no_tokens m e s
IsPart-no_tokens L zero (clause k) e s = s
IsPart-no_tokens L (suc h) (expression m) e (inl s) = leaf_no_tokens m e s
IsPart-no_tokens L (suc h) (expression m) e (inr (inl f)) = let p = f.tokens in cc
IsPart-no_tokens L (suc h) (expression m) e (inr (inr f)) = no_middle f.front (at (kind_of f.begins) f.place) f.after f.tokens
IsPart-no_tokens L (suc h) (clause k) e (v, is, s) = Spells-no_tokens L (IsPart L h) (λ q x r. IsPart-no_tokens L h q x r) (join_part_rule k) v s

pub rule-no_tokens : (g : Rule) (L : Counts) (h : ℕ) (v : Of g) → SpellsRule g L h v [] → ⊥
rule-no_tokens g L h v s = Spells-no_tokens L (IsPart L h) (IsPart-no_tokens L h) g v s

-- so at least one token spells it
pub some_tokens : {A : Type 0} (S : A → Tokens → Type 0) → ((x : A) → S x [] → ⊥) → (x : A) (us : Tokens) → S x us → 1 ≤ length us
some_tokens S none x [] s = absurd (none x s)
some_tokens S none x (u ∷ us) s = omega arith
