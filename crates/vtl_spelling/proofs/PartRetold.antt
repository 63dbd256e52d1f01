-- Tokens of the kinds that spell an expression or a clause of a join spell the same at other places.
use Rattle.std.proofs.Common.{◌≡◌, ℕ, zero, suc, ◌≤◌, arith, ◌++◌, true, false, Option, Some, None, inl, inr, refl, sym, ap, ◌∙◌}
use Rattle.std.proofs.Math.Path.{ap₂}
use Rattle.vtl_values.specs.declared.place.Place.{Place}
use Rattle.vtl_values.specs.declared.value.Value.TheVariants as value
use Rattle.vtl_tokens.specs.declared.keyword.Keyword.TheVariants as words
use Rattle.vtl_tokens.specs.declared.token.TokenKind.{TokenKind}
use Rattle.vtl_tokens.specs.declared.token.TokenKind.TheVariants as what
use Rattle.vtl_syntax.specs.declared.expr.Expr.{Expr}
use Rattle.vtl_grammar.specs.Marks.{Tokens, at, kind_of}
use Rattle.vtl_grammar.specs.Rules.{Counts, Rule, Part, expression, clause, Of, Spells}
use Rattle.vtl_grammar.specs.Clauses.{join_part_rule, join_part_tree}
use Rattle.vtl_grammar.specs.Forms.{leaf_in, leaf_precedence}
use Rattle.vtl_grammar.specs.Expressions.{IsLeaf, IsForm, IsTailed, IsPart}
use Rattle.vtl_spelling.specs.Kinds.{Kinds, ◌&◌, one}
use Rattle.vtl_spelling.specs.Trees.{spelled, clause_spelled}
use Rattle.vtl_spelling.specs.Placeless.{nowhere, placeless, clause_placeless}
use Rattle.vtl_spelling.proofs.Folds.{folded-Name, folded-Literal}
use Rattle.vtl_spelling.proofs.Values.{value_spelled, value_placeless, part_spelled, part_placeless}
use Rattle.vtl_spelling.proofs.Retold.{in_two, first_of, only, Retells, rule-retold}
use Rattle.vtl_spelling.proofs.Told.{Told}
use Rattle.vtl_spelling.proofs.ClausesTold.{spelling, baring, join_part-told}
use Rattle.vtl_spelling.proofs.FormTable.{form-told}
use Rattle.vtl_spelling.proofs.TailsTold.{IsOperand, tail-told}

-- ---- names and literals

-- a token's leaf at one place and at another
abbrev pub LeafTold : TokenKind → Option Expr → Option Expr → Type 0
LeafTold w None y = Unit {0}
LeafTold w (Some e) None = ⊥
LeafTold w (Some e) (Some f) = (spelled e ≡ one w) × (placeless f ≡ placeless e)

pub each_leaf : (w : TokenKind) (p q : Place) → LeafTold w (leaf_in w p) (leaf_in w q)
each_leaf (what.Name n) p q = (folded-Name spelling n p, folded-Name baring n q ∙ sym (folded-Name baring n p))
each_leaf (what.Integer z) p q = (folded-Literal spelling (value.Integer z) p, folded-Literal baring (value.Integer z) q ∙ sym (folded-Literal baring (value.Integer z) p))
each_leaf (what.Number z) p q = (folded-Literal spelling (value.Number z) p, folded-Literal baring (value.Number z) q ∙ sym (folded-Literal baring (value.Number z) p))
each_leaf (what.Text t) p q = (folded-Literal spelling (value.Text t) p, folded-Literal baring (value.Text t) q ∙ sym (folded-Literal baring (value.Text t) p))
each_leaf (what.Reserved words.True) p q = (folded-Literal spelling (value.Truth true) p, folded-Literal baring (value.Truth true) q ∙ sym (folded-Literal baring (value.Truth true) p))
each_leaf (what.Reserved words.False) p q = (folded-Literal spelling (value.Truth false) p, folded-Literal baring (value.Truth false) q ∙ sym (folded-Literal baring (value.Truth false) p))
each_leaf (what.Reserved words.Null) p q = (folded-Literal spelling value.Null p, folded-Literal baring value.Null q ∙ sym (folded-Literal baring value.Null p))
each_leaf _ p q = tt

-- the leaf at the other place
pub leaf_there : (w : TokenKind) (x y : Option Expr) → LeafTold w x y → (e : Expr) → x ≡ Some e → (f : Expr) × (y ≡ Some f) × (spelled e ≡ one w) × (placeless f ≡ placeless e)
leaf_there w None y t e is = absurd cc
leaf_there w (Some d) None t e is = absurd t
leaf_there w (Some d) (Some f) t e is =
    let same : d ≡ e = cc in
    (f, refl, sym (ap spelled same) ∙ t.0, t.1 ∙ ap placeless same)

leaf-retold : (m : ℕ) → Retells placeless spelled (λ e us. IsLeaf m e us)
leaf-retold m e us ws (t, is, high, parts) kinds =
    let k = leaf_there t.what (leaf_in t.what t.place) (leaf_in t.what t.place) (each_leaf t.what t.place t.place) e is in
    let o = only t.what ws (kinds ∙ k.2) in
    let there = leaf_there t.what (leaf_in t.what t.place) (leaf_in t.what o.0) (each_leaf t.what t.place o.0) e is in
    record { value = there.0; is_same = there.3; said = (at t.what o.0, there.1, high, o.1) }

-- ---- operands

leaf-operand : (m : ℕ) (w : TokenKind) (p : Place) (e : Expr) → leaf_in w p ≡ Some e → m ≤ leaf_precedence w → IsOperand m e
leaf-operand m (what.Name n) p e is high = λ name. (n, p, cc)
leaf-operand m (what.Integer z) p e is high = λ name. absurd (omega arith)
leaf-operand m (what.Number z) p e is high = λ name. absurd (omega arith)
leaf-operand m (what.Text t) p e is high = λ name. absurd (omega arith)
leaf-operand m (what.Reserved k) p e is high = λ name. absurd (omega arith)
leaf-operand m (what.Sign s) p e is high = λ name. absurd (omega arith)
leaf-operand m what.End p e is high = λ name. absurd (omega arith)

-- an expression of a name's precedence is a name
pub part-operand : (L : Counts) (d m : ℕ) (e : Expr) (us : Tokens) → IsPart L d (expression m) e us → IsOperand m e
part-operand L zero m e us (t, is, high, parts) = leaf-operand m t.what t.place e is high
part-operand L (suc d) m e us (inl (t, is, high, parts)) = leaf-operand m t.what t.place e is high
part-operand L (suc d) m e us (inr (inl f)) = λ name. absurd (let low = (form-told f.begins f.form f.of_mark).low in let high = f.precedence in omega arith)
part-operand L (suc d) m e us (inr (inr f)) = λ name. absurd (let low = (tail-told f.begins f.tail f.of_mark).low in let high = f.precedence in omega arith)

-- ---- forms, tails and clauses

module _ (L : Counts) (d : ℕ) (inner : (q : Part) → Retells (part_placeless q) (part_spelled q) (λ e us. IsPart L d q e us)) where
  form-retold : (m : ℕ) → Retells placeless spelled (λ e us. IsForm L (IsPart L d) m e us)
  form-retold m e us ws f kinds =
      let told = form-told f.begins f.form f.of_mark in
      let here = told.tells f.value f.place in
      let first = first_of (kind_of f.begins) (value_spelled f.form.rule f.value) ws (kinds ∙ ap spelled f.is ∙ here.0) in
      let r = rule-retold L (IsPart L d) inner f.form.rule f.value f.after first.1 f.spelled first.3 in
      let there = told.tells r.value first.0 in
      record {
        value = f.form.tree r.value first.0;
        is_same = there.1 ∙ ap (λ (u : Of f.form.rule). f.form.tree u nowhere) r.is_same ∙ sym (ap placeless f.is ∙ here.1);
        said = record { begins = f.begins; place = first.0; form = f.form; of_mark = f.of_mark; precedence = f.precedence; value = r.value; is = refl; after = first.1; tokens = first.2; spelled = r.said };
      }

  tailed-retold : (m : ℕ) → Retells placeless spelled (λ e us. IsTailed L (IsPart L d) m e us)
  tailed-retold m e us ws f kinds =
      let told = tail-told f.begins f.tail f.of_mark in
      let here = told.tells f.left (part-operand L d f.tail.operand f.left f.front f.left_spelled) f.value f.place in
      let two = in_two (spelled f.left) (one (kind_of f.begins) & value_spelled f.tail.rule f.value) ws (kinds ∙ ap spelled f.is ∙ here.0) in
      let l = inner (expression f.tail.operand) f.left f.front two.left f.left_spelled two.left_kinds in
      let first = first_of (kind_of f.begins) (value_spelled f.tail.rule f.value) two.right two.right_kinds in
      let r = rule-retold L (IsPart L d) inner f.tail.rule f.value f.after first.1 f.spelled first.3 in
      let there = told.tells l.value (part-operand L d f.tail.operand l.value two.left l.said) r.value first.0 in
      let plain : placeless e ≡ f.tail.tree (placeless f.left) (value_placeless f.tail.rule f.value) nowhere = ap placeless f.is ∙ here.1 in
      let moved : f.tail.tree (placeless l.value) (value_placeless f.tail.rule r.value) nowhere ≡ f.tail.tree (placeless f.left) (value_placeless f.tail.rule f.value) nowhere = ap₂ (λ (x : Expr) (u : Of f.tail.rule). f.tail.tree x u nowhere) l.is_same r.is_same in
      record {
        value = f.tail.tree l.value r.value first.0;
        is_same = there.1 ∙ moved ∙ sym plain;
        said = record { left = l.value; front = two.left; begins = f.begins; place = first.0; tail = f.tail; of_mark = f.of_mark; precedence = f.precedence; left_spelled = l.said; value = r.value; is = refl; after = first.1; tokens = two.parts ∙ ap (λ (vs : Tokens). two.left ++ vs) first.2; spelled = r.said };
      }

  -- what is made of what a rule stands for
  made-retold : {A : Type 0} (g : Rule) (make : Of g → A) (spell : A → Kinds) (plain : A → A) → Told g make spell plain → Retells plain spell (λ x us. (v : Of g) × (x ≡ make v) × Spells L (IsPart L d) g v us)
  made-retold {A} g make spell plain told x us ws (v, is, s) kinds =
      let here = told.tells v in
      let r = rule-retold L (IsPart L d) inner g v us ws s (kinds ∙ ap spell is ∙ here.0) in
      record { value = make r.value; is_same = (told.tells r.value).1 ∙ ap (λ (u : Of g). make u) r.is_same ∙ sym (ap plain is ∙ here.1); said = (r.value, refl, r.said) }

pub part-retold : (L : Counts) (d : ℕ) (q : Part) → Retells (part_placeless q) (part_spelled q) (λ e us. IsPart L d q e us)
part-retold L zero (expression m) e us ws s kinds = leaf-retold m e us ws s kinds
part-retold L zero (clause k) e us ws s kinds = absurd s
part-retold L (suc d) (expression m) e us ws (inl s) kinds = let r = leaf-retold m e us ws s kinds in record { value = r.value; is_same = r.is_same; said = inl r.said }
part-retold L (suc d) (expression m) e us ws (inr (inl s)) kinds = let r = form-retold L d (λ q x a b t k. part-retold L d q x a b t k) m e us ws s kinds in record { value = r.value; is_same = r.is_same; said = inr (inl r.said) }
part-retold L (suc d) (expression m) e us ws (inr (inr s)) kinds = let r = tailed-retold L d (λ q x a b t k. part-retold L d q x a b t k) m e us ws s kinds in record { value = r.value; is_same = r.is_same; said = inr (inr r.said) }
part-retold L (suc d) (clause k) e us ws s kinds =
    let r = made-retold L d (λ q x a b t k. part-retold L d q x a b t k) (join_part_rule k) (λ v. join_part_tree k v) clause_spelled clause_placeless (join_part-told k) e us ws s kinds in
    record { value = r.value; is_same = r.is_same; said = r.said }

pub told-retold : {A : Type 0} (L : Counts) (d : ℕ) (g : Rule) (make : Of g → A) (spell : A → Kinds) (plain : A → A) → Told g make spell plain → Retells plain spell (λ x us. (v : Of g) × (x ≡ make v) × Spells L (IsPart L d) g v us)
told-retold L d g make spell plain told = made-retold L d (part-retold L d) g make spell plain told
