-- Tokens of the kinds that spell what a rule stands for are the same, at other places.
use Rattle.std.proofs.Common.{◌≡◌, ℕ, zero, suc, [], ◌∷◌, ◌++◌, Option, Some, None, inl, inr, refl, sym, ap, subst, ◌∙◌, map}
use Rattle.std.specs.Prelude.{◌⊎◌}
use Rattle.std.specs.List.{flat_map}
use Rattle.vtl_values.specs.declared.place.Place.{Place}
use Rattle.vtl_tokens.specs.declared.token.TokenKind.{TokenKind}
use Rattle.vtl_tokens.specs.declared.token.TokenKind.TheVariants as what
use Rattle.vtl_tokens.specs.declared.keyword.Keyword.TheVariants as words
use Rattle.vtl_tokens.specs.declared.sign.Sign.TheVariants as signs
use Rattle.std.proofs.lemmas.List.{append-nil}
use Rattle.vtl_spelling.proofs.Formed.{both_placeless, formed-said, formed-again}
use Rattle.vtl_grammar.specs.Marks.{Tokens, at, kind_of}
use Rattle.vtl_grammar.specs.Rules.{Counts, Limit, Rule, mark, name, integer, number, text, part, ◌▸◌, option, suffix, either, repeated, prefixed, here, Part, Prefix, label, component, Of, first_place, Spells, SpellsMore}
use Rattle.vtl_grammar.specs.Expressions.{Spelled}
use Rattle.vtl_spelling.specs.Kinds.{Kinds, ◌&◌, one, sig, optional}
use Rattle.vtl_spelling.specs.Placeless.{nowhere}
use Rattle.vtl_spelling.specs.Laws.{kinds_of}
use Rattle.vtl_spelling.proofs.Values.{formed, part_spelled, value_spelled, part_placeless, at_nowhere, value_placeless}

-- ---- tokens of given kinds

-- tokens whose kinds are two rows, in two
pub record InTwo (a b : Kinds) (ws : Tokens) : Type 0 where
  pub left : Tokens
  pub right : Tokens
  pub parts : ws ≡ left ++ right
  pub left_kinds : kinds_of left ≡ a
  pub right_kinds : kinds_of right ≡ b

pub in_two : (a b : Kinds) (ws : Tokens) → kinds_of ws ≡ a ++ b → InTwo a b ws
in_two [] b ws e = record { left = []; right = ws; parts = refl; left_kinds = refl; right_kinds = e }
in_two (k ∷ a) b [] e = absurd cc
in_two (k ∷ a) b (t ∷ ws) e =
    let first : t.what ≡ k = cc in
    let more : kinds_of ws ≡ a ++ b = cc in
    let q = in_two a b ws more in
    record { left = t ∷ q.left; right = q.right; parts = ap (λ (us : Tokens). t ∷ us) q.parts; left_kinds = let l = q.left_kinds in cc; right_kinds = q.right_kinds }

pub no_more : (ws : Tokens) → kinds_of ws ≡ [] → ws ≡ []
no_more [] e = refl
no_more (t ∷ ws) e = absurd cc

-- a token of that kind, and what is behind it
pub first_of : (k : TokenKind) (b : Kinds) (ws : Tokens) → kinds_of ws ≡ k ∷ b → (p : Place) × (us : Tokens) × (ws ≡ at k p ∷ us) × (kinds_of us ≡ b)
first_of k b [] e = absurd cc
first_of k b (t ∷ ws) e =
    let first : t.what ≡ k = cc in
    (t.place, ws, ap (λ (w : TokenKind). at w t.place ∷ ws) first, cc)

pub only : (k : TokenKind) (ws : Tokens) → kinds_of ws ≡ one k → (p : Place) × (ws ≡ at k p ∷ [])
only k ws e =
    let q = first_of k [] ws e in
    (q.0, q.2 ∙ ap (λ (us : Tokens). at k q.0 ∷ us) (no_more q.1 q.3))

-- ---- the same at other places

-- these tokens spell something that is the same as this
pub record Retold {A : Type 0} (same : A → A) (S : A → Tokens → Type 0) (v : A) (ws : Tokens) : Type 0 where
  pub value : A
  pub is_same : same value ≡ same v
  pub said : S value ws

-- tokens of the kinds of what is spelled do
abbrev pub Retells : {A : Type 0} → (A → A) → (A → Kinds) → (A → Tokens → Type 0) → Type 0
Retells {A} same kinds S = (v : A) (us ws : Tokens) → S v us → kinds_of ws ≡ kinds v → Retold same S v ws

module _ {A : Type 0} (same : A → A) (kinds : A → Kinds) (S : A → Tokens → Type 0) (each : Retells same kinds S) where
  pub more-retold : (n : ℕ) → Retells (λ xs. map same xs) (λ xs. flat_map kinds xs) (λ xs us. SpellsMore S n xs us)
  more-retold n [] us ws s e = record { value = []; is_same = refl; said = no_more ws e }
  more-retold zero (x ∷ xs) us ws s e = absurd s
  more-retold (suc n) (x ∷ xs) us ws (a, b, parts, s, ss) e =
      let two = in_two (kinds x) (flat_map kinds xs) ws e in
      let first = each x a two.left s two.left_kinds in
      let rest = more-retold n xs b two.right ss two.right_kinds in
      record { value = first.value ∷ rest.value; is_same = (let f = first.is_same in let r = rest.is_same in cc); said = (two.left, two.right, two.parts, first.said, rest.said) }

module _ (L : Counts) (T : Spelled) (inner : (q : Part) → Retells (part_placeless q) (part_spelled q) (λ e us. T q e us)) where
  abbrev Rule-retells : Rule → Type 0
  Rule-retells g = Retells (value_placeless g) (value_spelled g) (λ v us. Spells L T g v us)

  then-retold : (g h : Rule) → Rule-retells g → Rule-retells h → Rule-retells (g ▸ h)
  then-retold g h r q v us ws (a, b, parts, s, t) e =
      let two = in_two (value_spelled g v.0) (value_spelled h v.1) ws e in
      let x = r v.0 a two.left s two.left_kinds in
      let y = q v.1 b two.right t two.right_kinds in
      record { value = (x.value, y.value); is_same = (let f = x.is_same in let k = y.is_same in cc); said = (two.left, two.right, two.parts, x.said, y.said) }

  -- a pair whose sign is in form
  pair-retold : (g h : Rule) → Rule-retells g → Rule-retells h → Retells (both_placeless g h) (λ v. optional (value_spelled g) v.0 & value_spelled h v.1) (λ v us. Spells L T (option g h) v us)
  pair-retold g h r q (None, w) us ws s e =
      let y = q w us ws s e in
      record { value = (None, y.value); is_same = ap (λ (u : Of h). (None, u)) y.is_same; said = y.said }
  pair-retold g h r q (Some x, w) us ws (a, b, parts, s, t) e =
      let two = in_two (value_spelled g x) (value_spelled h w) ws e in
      let f = r x a two.left s two.left_kinds in
      let y = q w b two.right t two.right_kinds in
      record { value = (Some f.value, y.value); is_same = (let f' = f.is_same in let k = y.is_same in cc); said = (two.left, two.right, two.parts, f.said, y.said) }

  option-retold : (g h : Rule) → Rule-retells g → Rule-retells h → Rule-retells (option g h)
  option-retold g h r q v us ws s e =
      let f = formed-said L T g h v us s in
      let p = pair-retold g h r q (formed g h v) f.0 ws f.1 e in
      record { value = p.value; is_same = ap (λ (u : Option (Of g) × Of h). formed g h u) p.is_same ∙ formed-again g h v; said = p.said }

  suffix-retold : (g h : Rule) → Rule-retells g → Rule-retells h → Rule-retells (suffix g h)
  suffix-retold g h r q (v, None) us ws s e =
      let two = in_two (value_spelled g v) [] ws e in
      let x = r v us two.left s two.left_kinds in
      record { value = (x.value, None); is_same = ap (λ (u : Of g). (u, None)) x.is_same; said = subst (λ (vs : Tokens). Spells L T g x.value vs) (sym (two.parts ∙ ap (λ (vs : Tokens). two.left ++ vs) (no_more two.right two.right_kinds) ∙ append-nil two.left)) x.said }
  suffix-retold g h r q (v, Some w) us ws (a, b, parts, s, t) e =
      let two = in_two (value_spelled g v) (value_spelled h w) ws e in
      let x = r v a two.left s two.left_kinds in
      let y = q w b two.right t two.right_kinds in
      record { value = (x.value, Some y.value); is_same = (let f = x.is_same in let k = y.is_same in cc); said = (two.left, two.right, two.parts, x.said, y.said) }

  repeated-retold : (l : Limit) (g h : Rule) → Rule-retells g → Rule-retells h → Rule-retells (repeated l g h)
  repeated-retold l g h r q v us ws (a, b, parts, s, t) e =
      let two = in_two (value_spelled g v.0) (flat_map (value_spelled h) v.1) ws e in
      let x = r v.0 a two.left s two.left_kinds in
      let y = more-retold (value_placeless h) (value_spelled h) (λ u vs. Spells L T h u vs) q (L l) v.1 b two.right t two.right_kinds in
      record { value = (x.value, y.value); is_same = (let f = x.is_same in let k = y.is_same in cc); said = (two.left, two.right, two.parts, x.said, y.said) }

  prefixed-retold : (p : Prefix) (g : Rule) → Rule-retells g → Rule-retells (prefixed p g)
  prefixed-retold p g r (None, v) us ws s e =
      let x = r v us ws s e in
      record { value = (None, x.value); is_same = ap (λ (u : Of g). (None, u)) x.is_same; said = x.said }
  prefixed-retold label g r (Some l, v) us ws (i, b, parts, s) e =
      let w = first_of (what.Name l.value) (sig signs.Colon & value_spelled g v) ws e in
      let c = first_of (what.Sign signs.Colon) (value_spelled g v) w.1 w.3 in
      let x = r v b c.1 s c.3 in
      record { value = (Some (record { value = l.value; place = w.0 }), x.value); is_same = ap (λ (u : Of g). (Some (at_nowhere l), u)) x.is_same; said = (c.0, c.1, w.2 ∙ ap (λ (vs : Tokens). at (what.Name l.value) w.0 ∷ vs) c.2, x.said) }
  prefixed-retold component g r (Some l, v) us ws (i, b, parts, s) e =
      let c = first_of (what.Reserved words.Rule) (one (what.Name l.value) & value_spelled g v) ws e in
      let w = first_of (what.Name l.value) (value_spelled g v) c.1 c.3 in
      let x = r v b w.1 s w.3 in
      record { value = (Some (record { value = l.value; place = w.0 }), x.value); is_same = ap (λ (u : Of g). (Some (at_nowhere l), u)) x.is_same; said = (c.0, w.1, c.2 ∙ ap (λ (vs : Tokens). at (what.Reserved words.Rule) c.0 ∷ vs) w.2, x.said) }

  pub rule-retold : (g : Rule) → Rule-retells g
  rule-retold (mark m) v us ws s e = let o = only (kind_of m) ws e in record { value = o.0; is_same = refl; said = o.1 }
  rule-retold name v us ws s e = let o = only (what.Name v.value) ws e in record { value = record { value = v.value; place = o.0 }; is_same = refl; said = o.1 }
  rule-retold integer v us ws s e = let o = only (what.Integer v.value) ws e in record { value = record { value = v.value; place = o.0 }; is_same = refl; said = o.1 }
  rule-retold number v us ws s e = let o = only (what.Number v.value) ws e in record { value = record { value = v.value; place = o.0 }; is_same = refl; said = o.1 }
  rule-retold text v us ws s e = let o = only (what.Text v.value) ws e in record { value = record { value = v.value; place = o.0 }; is_same = refl; said = o.1 }
  rule-retold (part q) v us ws s e = inner q v us ws s e
  rule-retold (g ▸ h) v us ws s e = then-retold g h (λ x a b r q. rule-retold g x a b r q) (λ x a b r q. rule-retold h x a b r q) v us ws s e
  rule-retold (option g h) v us ws s e = option-retold g h (λ x a b r q. rule-retold g x a b r q) (λ x a b r q. rule-retold h x a b r q) v us ws s e
  rule-retold (suffix g h) v us ws s e = suffix-retold g h (λ x a b r q. rule-retold g x a b r q) (λ x a b r q. rule-retold h x a b r q) v us ws s e
  rule-retold (either g h) (inl v) us ws s e = let x = rule-retold g v us ws s e in record { value = inl x.value; is_same = (let f : Of g → Of g ⊎ Of h = λ u. inl u in ap f x.is_same); said = x.said }
  rule-retold (either g h) (inr v) us ws s e = let x = rule-retold h v us ws s e in record { value = inr x.value; is_same = (let f : Of h → Of g ⊎ Of h = λ u. inr u in ap f x.is_same); said = x.said }
  rule-retold (repeated l g h) v us ws s e = repeated-retold l g h (λ x a b r q. rule-retold g x a b r q) (λ x a b r q. rule-retold h x a b r q) v us ws s e
  rule-retold (prefixed p g) v us ws s e = prefixed-retold p g (λ x a b r q. rule-retold g x a b r q) v us ws s e
  rule-retold (here g) v us ws (first, s) e = let x = rule-retold g v.1 us ws s e in record { value = (first_place ws, x.value); is_same = ap (λ (u : Of g). (nowhere, u)) x.is_same; said = (refl, x.said) }
