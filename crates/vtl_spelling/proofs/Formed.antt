-- A sign before a number in its one form: it can be spelled, and is found again without places.
use Rattle.std.proofs.Common.{◌≡◌, suc, [], ◌∷◌, Option, Some, None, inl, inr, refl, sym, ap, ◌∙◌}
use Rattle.std.specs.Prelude.{ℤ, pos, negsuc, option_map}
use Rattle.vtl_values.specs.declared.place.Place.{Place}
use Rattle.vtl_tokens.specs.declared.token.TokenKind.TheVariants as what
use Rattle.vtl_grammar.specs.Marks.{Mark, Tokens, at, kind_of}
use Rattle.vtl_grammar.specs.Rules.{Counts, Rule, mark, integer, number, option, either, Of, Spells}
use Rattle.vtl_grammar.specs.Clauses.{signed}
use Rattle.vtl_grammar.specs.Expressions.{Spelled}
use Rattle.vtl_spelling.specs.Placeless.{nowhere}
use Rattle.vtl_spelling.proofs.Values.{minus_of, size_of, in_form, with_left, with_right, number_formed, formed, value_placeless}

-- ---- it can be spelled

module _ (L : Counts) (T : Spelled) where
  integer-said : (m : Mark) (z : ℤ) (p : Place) → (us : Tokens) × Spells L T (option (mark m) integer) (in_form z p) us
  integer-said m (pos n) p = (at (what.Integer (pos n)) p ∷ [], refl)
  integer-said m (negsuc n) p = (at (kind_of m) nowhere ∷ at (what.Integer (pos (suc n))) p ∷ [], (at (kind_of m) nowhere ∷ [], at (what.Integer (pos (suc n))) p ∷ [], refl, refl, refl))

  number-said : (m : Mark) (z : ℤ) (p : Place) → (us : Tokens) × Spells L T (option (mark m) number) (in_form z p) us
  number-said m (pos n) p = (at (what.Number (pos n)) p ∷ [], refl)
  number-said m (negsuc n) p = (at (kind_of m) nowhere ∷ at (what.Number (pos (suc n))) p ∷ [], (at (kind_of m) nowhere ∷ [], at (what.Number (pos (suc n))) p ∷ [], refl, refl, refl))

  left-said : (m : Mark) (h k : Rule) (v : Option Place × Of h) (us : Tokens) → Spells L T (option (mark m) h) v us → Spells L T (option (mark m) (either h k)) (with_left v) us
  left-said m h k (None, w) us s = s
  left-said m h k (Some p, w) us s = s

  right-said : (m : Mark) (h k : Rule) (v : Option Place × Of k) (us : Tokens) → Spells L T (option (mark m) k) v us → Spells L T (option (mark m) (either h k)) (with_right v) us
  right-said m h k (None, w) us s = s
  right-said m h k (Some p, w) us s = s

  number_formed-said : (m : Mark) (h : Rule) (v : Option Place × Of h) (us : Tokens) → Spells L T (option (mark m) h) v us → (ws : Tokens) × Spells L T (option (mark m) h) (number_formed h v) ws
  number_formed-said m integer v us s = integer-said m (signed v.0 v.1.value) v.1.place
  number_formed-said m number v us s = number-said m (signed v.0 v.1.value) v.1.place
  number_formed-said m (either h k) (None, inl w) us s = let q = number_formed-said m h (None, w) us s in (q.0, left-said m h k (number_formed h (None, w)) q.0 q.1)
  number_formed-said m (either h k) (Some p, inl w) us s = let q = number_formed-said m h (Some p, w) us s in (q.0, left-said m h k (number_formed h (Some p, w)) q.0 q.1)
  number_formed-said m (either h k) (None, inr w) us s = let q = number_formed-said m k (None, w) us s in (q.0, right-said m h k (number_formed k (None, w)) q.0 q.1)
  number_formed-said m (either h k) (Some p, inr w) us s = let q = number_formed-said m k (Some p, w) us s in (q.0, right-said m h k (number_formed k (Some p, w)) q.0 q.1)
  number_formed-said m _ v us s = (us, s)

  pub formed-said : (g h : Rule) (v : Option (Of g) × Of h) (us : Tokens) → Spells L T (option g h) v us → (ws : Tokens) × Spells L T (option g h) (formed g h v) ws
  formed-said (mark m) h v us s = number_formed-said m h v us s
  formed-said _ h v us s = (us, s)

-- ---- it is found again without places

-- both without places
abbrev pub both_placeless : (g h : Rule) → Option (Of g) × Of h → Option (Of g) × Of h
both_placeless g h v = (option_map (value_placeless g) v.0, value_placeless h v.1)

abbrev pub lone : Option Place → Option Place
lone x = option_map (λ p. nowhere) x

pub signed-lone : (x : Option Place) (z : ℤ) → signed (lone x) z ≡ signed x z
signed-lone None z = refl
signed-lone (Some p) z = refl

in_form-again : (z : ℤ) → in_form (signed (lone (minus_of z)) (size_of z)) nowhere ≡ in_form z nowhere
in_form-again (pos n) = refl
in_form-again (negsuc n) = refl

in_form-placeless : (x : Option Place) (z : ℤ) → in_form (signed (lone (minus_of (signed x z))) (size_of (signed x z))) nowhere ≡ in_form (signed (lone x) z) nowhere
in_form-placeless x z = in_form-again (signed x z) ∙ ap (λ (y : ℤ). in_form y nowhere) (sym (signed-lone x z))

number_formed-again : (m : Mark) (h : Rule) (v : Option Place × Of h) → number_formed h (both_placeless (mark m) h (number_formed h v)) ≡ number_formed h (both_placeless (mark m) h v)
number_formed-again m integer v = in_form-placeless v.0 v.1.value
number_formed-again m number v = in_form-placeless v.0 v.1.value
number_formed-again m (either h k) (x, inl w) = ap (λ (u : Option Place × Of h). with_left {C = Of k} u) (number_formed-again m h (x, w))
number_formed-again m (either h k) (x, inr w) = ap (λ (u : Option Place × Of k). with_right {B = Of h} u) (number_formed-again m k (x, w))
number_formed-again m _ v = refl

pub formed-again : (g h : Rule) (v : Option (Of g) × Of h) → formed g h (both_placeless g h (formed g h v)) ≡ formed g h (both_placeless g h v)
formed-again (mark m) h v = number_formed-again m h v
formed-again _ h v = refl
