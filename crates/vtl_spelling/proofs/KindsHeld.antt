-- What holds of the kinds of a script's tokens holds of the kinds that spell it.
use Rattle.std.proofs.Common.{◌≡◌, ℕ, zero, suc, List, [], ◌∷◌, ◌++◌, Option, Some, None, inl, inr, sym, ap, subst, ◌∙◌}
use Rattle.std.specs.Prelude.{ℤ, pos, negsuc}
use Rattle.std.specs.List.{All, AllByRecursion as Each, flat_map}
use Rattle.std.proofs.lemmas.List.Elements.{All-from_recursion, recursion_from_All}
use Rattle.vtl_values.specs.declared.place.Place.{Place}
use Rattle.vtl_tokens.specs.declared.keyword.Keyword.{Keyword}
use Rattle.vtl_tokens.specs.declared.sign.Sign.{Sign}
use Rattle.vtl_tokens.specs.declared.token.TokenKind.{TokenKind}
use Rattle.vtl_tokens.specs.declared.token.TokenKind.TheVariants as what
use Rattle.vtl_syntax.specs.declared.script.Script.{Script}
use Rattle.vtl_grammar.specs.Marks.{Mark, key, sign, Tokens, at, kind_of}
use Rattle.vtl_grammar.specs.Rules.{Counts, Rule, mark, name, integer, number, text, part, ◌▸◌, option, suffix, either, repeated, prefixed, here, Part, expression, clause, label, component, Of, Spells, SpellsMore}
use Rattle.vtl_grammar.specs.Clauses.{signed, join_part_rule, join_part_tree}
use Rattle.vtl_grammar.specs.Forms.{leaf_in}
use Rattle.vtl_grammar.specs.Expressions.{Spelled, IsLeaf, IsForm, IsTailed, IsPart}
use Rattle.vtl_grammar.specs.Scripts.{PieceKind, a_statement, a_ruleset, an_operator, piece_rule, OfKind, piece_tree, Piece, of_kind, all_of_kind, IsPieces, script_of, language, LEVELS, IsScript}
use Rattle.vtl_spelling.specs.Kinds.{Kinds, ◌&◌, one, optional}
use Rattle.vtl_spelling.specs.Trees.{spelled, clause_spelled}
use Rattle.vtl_spelling.specs.Rulesets.{ruleset_spelled}
use Rattle.vtl_spelling.specs.Operators.{operator_spelled}
use Rattle.vtl_spelling.specs.Scripts.{statement_spelled, script_spelled}
use Rattle.vtl_spelling.specs.Placeless.{clause_placeless}
use Rattle.vtl_spelling.specs.Laws.{kinds_of}
use Rattle.vtl_spelling.proofs.Values.{number_formed, minus_of, size_of, part_spelled, value_spelled}
use Rattle.vtl_spelling.proofs.Told.{Told}
use Rattle.vtl_spelling.proofs.ClausesTold.{join_part-told}
use Rattle.vtl_spelling.proofs.FormTable.{form-told}
use Rattle.vtl_spelling.proofs.TailsTold.{tail-told}
use Rattle.vtl_spelling.proofs.PiecesTold.{piece_spelled, piece_placeless, piece-told}
use Rattle.vtl_spelling.proofs.PartRetold.{leaf_there, each_leaf, part-operand}

-- it holds of each word and sign, and of no number with a minus in it
pub record IsPlain (P : TokenKind → Type 0) : Type 0 where
  pub words : (k : Keyword) → P (what.Reserved k)
  pub signs : (s : Sign) → P (what.Sign s)
  pub integers : (n : ℕ) → P (what.Integer (negsuc n)) → ⊥
  pub numbers : (n : ℕ) → P (what.Number (negsuc n)) → ⊥

module _ (P : TokenKind → Type 0) (plain : IsPlain P) where
  abbrev Holds : Tokens → Type 0
  Holds us = Each P (kinds_of us)

  -- where it holds of the tokens that spell something, it holds of what spells it
  abbrev Held : {A : Type 0} → (A → Kinds) → (A → Tokens → Type 0) → Type 0
  Held {A} kinds S = (v : A) (us : Tokens) → S v us → Holds us → Each P (kinds v)

  front-holds : (a b : Tokens) → Holds (a ++ b) → Holds a
  front-holds [] b h = tt
  front-holds (t ∷ a) b h = (h.0, front-holds a b h.1)

  back-holds : (a b : Tokens) → Holds (a ++ b) → Holds b
  back-holds [] b h = h
  back-holds (t ∷ a) b h = back-holds a b h.1

  -- tokens in two
  front-of : (us a b : Tokens) → us ≡ a ++ b → Holds us → Holds a
  front-of us a b parts h = front-holds a b (subst Holds parts h)

  back-of : (us a b : Tokens) → us ≡ a ++ b → Holds us → Holds b
  back-of us a b parts h = back-holds a b (subst Holds parts h)

  joined : (j k : Kinds) → Each P j → Each P k → Each P (j & k)
  joined [] k x y = y
  joined (w ∷ j) k x y = (x.0, joined j k x.1 y)

  mark-holds : (m : Mark) → P (kind_of m)
  mark-holds (key k) = plain.words k
  mark-holds (sign s) = plain.signs s

  alone : (w : TokenKind) (p : Place) (us : Tokens) → us ≡ at w p ∷ [] → Holds us → P w
  alone w p us is h = let x : Holds (at w p ∷ []) = subst Holds is h in x.0

  -- ---- numbers

  number-held : (m : Mark) (of : ℤ → TokenKind) → ((n : ℕ) → P (of (negsuc n)) → ⊥) → (x : Option Place) (z : ℤ) → P (of z) → Each P (optional (λ (p : Place). one (kind_of m)) (minus_of (signed x z)) & one (of (size_of (signed x z))))
  number-held m of none None (pos n) p = (p, tt)
  number-held m of none None (negsuc n) p = absurd (none n p)
  number-held m of none (Some q) (pos zero) p = (p, tt)
  number-held m of none (Some q) (pos (suc n)) p = (mark-holds m, (p, tt))
  number-held m of none (Some q) (negsuc n) p = absurd (none n p)

  -- ---- rules

  more-held : {A : Type 0} (kinds : A → Kinds) (S : A → Tokens → Type 0) → Held kinds S → (n : ℕ) → Held (flat_map kinds) (λ xs us. SpellsMore S n xs us)
  more-held kinds S each n [] us s h = tt
  more-held kinds S each zero (x ∷ xs) us s h = absurd s
  more-held kinds S each (suc n) (x ∷ xs) us (a, b, parts, s, ss) h = joined (kinds x) (flat_map kinds xs) (each x a s (front-of us a b parts h)) (more-held kinds S each n xs b ss (back-of us a b parts h))

  module _ (L : Counts) (T : Spelled) (inner : (q : Part) → Held (part_spelled q) (λ e us. T q e us)) where
    abbrev Rule-held : Rule → Type 0
    Rule-held g = Held (value_spelled g) (λ v us. Spells L T g v us)

    pair-held : (g h : Rule) → Rule-held g → Rule-held h → Held (λ v. optional (value_spelled g) v.0 & value_spelled h v.1) (λ v us. Spells L T (option g h) v us)
    pair-held g h r q (None, w) us s x = q w us s x
    pair-held g h r q (Some v, w) us (a, b, parts, s, t) x = joined (value_spelled g v) (value_spelled h w) (r v a s (front-of us a b parts x)) (q w b t (back-of us a b parts x))

    number_formed-held : (m : Mark) (h : Rule) → Rule-held h → Held (λ v. optional (λ (p : Place). one (kind_of m)) (number_formed h v).0 & value_spelled h (number_formed h v).1) (λ v us. Spells L T (option (mark m) h) v us)
    number_formed-held m integer r (None, w) us s x = number-held m what.Integer plain.integers None w.value (alone (what.Integer w.value) w.place us s x)
    number_formed-held m integer r (Some p, w) us (a, b, parts, s, t) x = number-held m what.Integer plain.integers (Some p) w.value (alone (what.Integer w.value) w.place b t (back-of us a b parts x))
    number_formed-held m number r (None, w) us s x = number-held m what.Number plain.numbers None w.value (alone (what.Number w.value) w.place us s x)
    number_formed-held m number r (Some p, w) us (a, b, parts, s, t) x = number-held m what.Number plain.numbers (Some p) w.value (alone (what.Number w.value) w.place b t (back-of us a b parts x))
    number_formed-held m (either h k) r (None, inl w) us s x = number_formed-held m h (λ v a t y. r (inl v) a t y) (None, w) us s x
    number_formed-held m (either h k) r (Some p, inl w) us s x = number_formed-held m h (λ v a t y. r (inl v) a t y) (Some p, w) us s x
    number_formed-held m (either h k) r (None, inr w) us s x = number_formed-held m k (λ v a t y. r (inr v) a t y) (None, w) us s x
    number_formed-held m (either h k) r (Some p, inr w) us s x = number_formed-held m k (λ v a t y. r (inr v) a t y) (Some p, w) us s x
    number_formed-held m h r v us s x = pair-held (mark m) h (λ p a t y. (mark-holds m, tt)) r v us s x

    option-held : (g h : Rule) → Rule-held g → Rule-held h → Rule-held (option g h)
    option-held (mark m) h r q v us s x = number_formed-held m h q v us s x
    option-held g h r q v us s x = pair-held g h r q v us s x

    suffix-held : (g h : Rule) → Rule-held g → Rule-held h → Rule-held (suffix g h)
    suffix-held g h r q (v, None) us s x = joined (value_spelled g v) [] (r v us s x) tt
    suffix-held g h r q (v, Some w) us (a, b, parts, s, t) x = joined (value_spelled g v) (value_spelled h w) (r v a s (front-of us a b parts x)) (q w b t (back-of us a b parts x))

    pub rule-held : (g : Rule) → Rule-held g
    rule-held (mark m) v us s x = (mark-holds m, tt)
    rule-held name v us s x = (alone (what.Name v.value) v.place us s x, tt)
    rule-held integer v us s x = (alone (what.Integer v.value) v.place us s x, tt)
    rule-held number v us s x = (alone (what.Number v.value) v.place us s x, tt)
    rule-held text v us s x = (alone (what.Text v.value) v.place us s x, tt)
    rule-held (part q) v us s x = inner q v us s x
    rule-held (g ▸ h) v us (a, b, parts, s, t) x = joined (value_spelled g v.0) (value_spelled h v.1) (rule-held g v.0 a s (front-of us a b parts x)) (rule-held h v.1 b t (back-of us a b parts x))
    rule-held (option g h) v us s x = option-held g h (λ w a t y. rule-held g w a t y) (λ w a t y. rule-held h w a t y) v us s x
    rule-held (suffix g h) v us s x = suffix-held g h (λ w a t y. rule-held g w a t y) (λ w a t y. rule-held h w a t y) v us s x
    rule-held (either g h) (inl v) us s x = rule-held g v us s x
    rule-held (either g h) (inr v) us s x = rule-held h v us s x
    rule-held (repeated l g h) v us (a, b, parts, s, t) x = joined (value_spelled g v.0) (flat_map (value_spelled h) v.1) (rule-held g v.0 a s (front-of us a b parts x)) (more-held (value_spelled h) (λ w c. Spells L T h w c) (λ w c t y. rule-held h w c t y) (L l) v.1 b t (back-of us a b parts x))
    rule-held (prefixed p g) (None, v) us s x = rule-held g v us s x
    rule-held (prefixed label g) (Some l, v) us (i, b, parts, s) x = let y = subst Holds parts x in (y.0, (y.1.0, rule-held g v b s y.1.1))
    rule-held (prefixed component g) (Some l, v) us (i, b, parts, s) x = let y = subst Holds parts x in (y.0, (y.1.0, rule-held g v b s y.1.1))
    rule-held (here g) v us (first, s) x = rule-held g v.1 us s x

  -- ---- expressions

  leaf-held : (m : ℕ) → Held spelled (λ e us. IsLeaf m e us)
  leaf-held m e us (t, is, high, parts) x =
      let k = leaf_there t.what (leaf_in t.what t.place) (leaf_in t.what t.place) (each_leaf t.what t.place t.place) e is in
      subst (λ (ks : Kinds). Each P ks) (sym k.2) (subst Holds parts x)

  module _ (L : Counts) (d : ℕ) (inner : (q : Part) → Held (part_spelled q) (λ e us. IsPart L d q e us)) where
    form-held : (m : ℕ) → Held spelled (λ e us. IsForm L (IsPart L d) m e us)
    form-held m e us f x =
        let told = (form-told f.begins f.form f.of_mark).tells f.value f.place in
        let y : Holds (at (kind_of f.begins) f.place ∷ f.after) = subst Holds f.tokens x in
        subst (λ (ks : Kinds). Each P ks) (sym (ap spelled f.is ∙ told.0)) (y.0, rule-held L (IsPart L d) inner f.form.rule f.value f.after f.spelled y.1)

    tailed-held : (m : ℕ) → Held spelled (λ e us. IsTailed L (IsPart L d) m e us)
    tailed-held m e us f x =
        let told = (tail-told f.begins f.tail f.of_mark).tells f.left (part-operand L d f.tail.operand f.left f.front f.left_spelled) f.value f.place in
        let y : Holds (at (kind_of f.begins) f.place ∷ f.after) = back-of us f.front (at (kind_of f.begins) f.place ∷ f.after) f.tokens x in
        let left = inner (expression f.tail.operand) f.left f.front f.left_spelled (front-of us f.front (at (kind_of f.begins) f.place ∷ f.after) f.tokens x) in
        let right = rule-held L (IsPart L d) inner f.tail.rule f.value f.after f.spelled y.1 in
        subst (λ (ks : Kinds). Each P ks) (sym (ap spelled f.is ∙ told.0)) (joined (spelled f.left) (kind_of f.begins ∷ value_spelled f.tail.rule f.value) left (y.0, right))

    -- what is made of what a rule stands for
    made-held : {A : Type 0} (g : Rule) (make : Of g → A) (spell : A → Kinds) (bare : A → A) → Told g make spell bare → Held spell (λ e us. (v : Of g) × (e ≡ make v) × Spells L (IsPart L d) g v us)
    made-held g make spell bare told e us (v, is, s) x = subst (λ (ks : Kinds). Each P ks) (sym (ap spell is ∙ (told.tells v).0)) (rule-held L (IsPart L d) inner g v us s x)

  part-held : (L : Counts) (d : ℕ) (q : Part) → Held (part_spelled q) (λ e us. IsPart L d q e us)
  part-held L zero (expression m) e us s x = leaf-held m e us s x
  part-held L zero (clause k) e us s x = absurd s
  part-held L (suc d) (expression m) e us (inl s) x = leaf-held m e us s x
  part-held L (suc d) (expression m) e us (inr (inl s)) x = form-held L d (λ q v a t y. part-held L d q v a t y) m e us s x
  part-held L (suc d) (expression m) e us (inr (inr s)) x = tailed-held L d (λ q v a t y. part-held L d q v a t y) m e us s x
  part-held L (suc d) (clause k) e us s x = made-held L d (λ q v a t y. part-held L d q v a t y) (join_part_rule k) (λ v. join_part_tree k v) clause_spelled clause_placeless (join_part-told k) e us s x

  -- ---- scripts

  abbrev EachOfKind : (k : PieceKind) → List (OfKind k) → Type 0
  EachOfKind k xs = Each P (flat_map (λ x. piece_spelled k x) xs)

  one_more : (k : PieceKind) (p : Piece) (xs : List (OfKind k)) → Each P (piece_spelled p.0 p.1) → EachOfKind k xs → EachOfKind k (of_kind k p ++ xs)
  one_more a_statement (a_statement, x) xs first rest = joined (statement_spelled x) (flat_map statement_spelled xs) first rest
  one_more a_ruleset (a_ruleset, x) xs first rest = joined (ruleset_spelled x) (flat_map ruleset_spelled xs) first rest
  one_more an_operator (an_operator, x) xs first rest = joined (operator_spelled x) (flat_map operator_spelled xs) first rest
  one_more _ _ xs first rest = rest

  pieces-held : (L : Counts) (d : ℕ) (k : PieceKind) (ps : List Piece) (us : Tokens) → IsPieces L d ps us → Holds us → EachOfKind k (all_of_kind k ps)
  pieces-held L d k [] us s x = tt
  pieces-held L d k ((j, e) ∷ ps) us (a, b, parts, s, rest) x =
      let first = made-held L d (part-held L d) (piece_rule j) (λ v. piece_tree j v) (λ y. piece_spelled j y) (λ y. piece_placeless j y) (piece-told j) e a s (front-of us a b parts x) in
      one_more k (j, e) (all_of_kind k ps) first (pieces-held L d k ps b rest (back-of us a b parts x))

  pub script-held : (s : Script) (us : Tokens) → IsScript s us → All P (kinds_of us) → All P (script_spelled s)
  script-held s us (n, (ps, is, few, pieces)) x =
      let t = script_of ps in
      let held = λ (k : PieceKind). pieces-held (language n) LEVELS k ps us pieces (recursion_from_All P (kinds_of us) x) in
      All-from_recursion P (script_spelled s)
      (subst (λ (ks : Kinds). Each P ks) (sym (ap script_spelled is))
      (joined (flat_map operator_spelled t.operators) (flat_map ruleset_spelled t.rulesets & flat_map statement_spelled t.statements) (held an_operator)
      (joined (flat_map ruleset_spelled t.rulesets) (flat_map statement_spelled t.statements) (held a_ruleset) (held a_statement))))
