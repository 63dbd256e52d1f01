-- Tokens are one script at most, or have one fault at one place.
use Rattle.std.proofs.Common.{◌≡◌, [], ◌∷◌, ◌++◌, Ok, Err, ◌⊎◌, inl, inr, refl, sym, ap, subst, ◌∙◌, append_assoc}
use Rattle.std.proofs.lemmas.List.{append-nil}
use Rattle.vtl_tokens.specs.declared.token.Token.{Token}
use Rattle.vtl_tokens.specs.declared.token.TokenKind.TheVariants as what
use Rattle.vtl_tokens.specs.declared.keyword.Keyword.{Keyword}
use Rattle.vtl_syntax.specs.declared.script.Script.{Script}
use Rattle.vtl_grammar.specs.Marks.{Tokens}
use Rattle.vtl_grammar.specs.Scripts.{IsScript, IsScriptAtLarge}
use Rattle.vtl_grammar.specs.Faults.{Fault, Expected, TooDeep, LeftOut, TooMany, GoesOn, GoesNoFurther, GoesOnThere, IsLongScript, IsLeftOutAt, IsCause, IsFault}
use Rattle.vtl_grammar.specs.Laws.{OneAnswer}
use Rattle.vtl_grammar.proofs.GrammarLaws.{one_script}
use Rattle.vtl_grammar.proofs.RenameLaw.{goes-larger, long_at_large}

-- ---- one place

-- the first goes on to the second, which leaves y
abbrev IsShorter : Tokens → Tokens → Tokens → Tokens → Type 0
IsShorter a x b y = (t : Token) × (us : Tokens) × (b ≡ a ++ t ∷ us) × (x ≡ t ∷ (us ++ y))

two_fronts : (a x b y : Tokens) → a ++ x ≡ b ++ y → ((a ≡ b) × (x ≡ y)) ⊎ IsShorter a x b y ⊎ IsShorter b y a x
two_fronts [] x [] y e = inl (refl, e)
two_fronts [] x (t ∷ b) y e = inr (inl (t, b, refl, e))
two_fronts (t ∷ a) x [] y e = inr (inr (t, a, refl, sym e))
two_fronts (t ∷ a) x (u ∷ b) y e =
    let head : t ≡ u = cc in
    let tail : a ++ x ≡ b ++ y = cc in
    elim (two_fronts a x b y tail) as (λ _. ((t ∷ a ≡ u ∷ b) × (x ≡ y)) ⊎ IsShorter (t ∷ a) x (u ∷ b) y ⊎ IsShorter (u ∷ b) y (t ∷ a) x) [
      | inl s ↦ inl (ap (λ (z : Token). z ∷ a) head ∙ ap (λ (us : Tokens). u ∷ us) s.0, s.1)
      | inr (inl s) ↦ inr (inl (s.0, s.1, ap (λ (us : Tokens). u ∷ us) s.2 ∙ ap (λ (z : Token). z ∷ (a ++ s.0 ∷ s.1)) (sym head), s.3))
      | inr (inr s) ↦ inr (inr (s.0, s.1, ap (λ (z : Token). z ∷ a) head ∙ ap (λ (us : Tokens). u ∷ us) s.2, s.3))
    ]

-- no script goes on with the next token, so none with more
no_longer : (a x b y : Tokens) → IsShorter a x b y → GoesNoFurther IsScript a x → GoesOn IsScript b → ⊥
no_longer a x b y (t, us, longer, next) none (more, s, is) =
    let none_there : GoesNoFurther IsScript a (t ∷ (us ++ y)) = subst (λ (ts : Tokens). GoesNoFurther IsScript a ts) next none in
    none_there (us ++ more, s, subst (λ (ts : Tokens). IsScript s ts) (ap (λ (ts : Tokens). ts ++ more) longer ∙ append_assoc a (t ∷ us) more ∙ sym (append_assoc a (t ∷ []) (us ++ more))) is)

-- ---- one cause

no_large : (front rest : Tokens) → GoesNoFurther IsScriptAtLarge front rest → GoesOnThere IsScriptAtLarge front rest → ⊥
no_large front rest none (t, ts, begins, g) = (subst (λ (us : Tokens). GoesNoFurther IsScriptAtLarge front us) begins none) g

long_large : (front rest : Tokens) → GoesOnThere IsLongScript front rest → GoesOnThere IsScriptAtLarge front rest
long_large front rest (t, ts, begins, g) = (t, ts, begins, goes-larger IsLongScript IsScriptAtLarge long_at_large (front ++ t ∷ []) g)

one_word : (front rest : Tokens) (w v : Keyword) → IsLeftOutAt w front rest → IsLeftOutAt v front rest → w ≡ v
one_word front [] w v h g = absurd h
one_word front (t ∷ ts) w v h g = same (sym h.0 ∙ g.0)
  where
    same : what.Reserved w ≡ what.Reserved v → w ≡ v
    same e = cc

one_cause : (f f' : Fault) (front rest : Tokens) → IsCause f front rest → IsCause f' front rest → f ≡ f'
one_cause Expected Expected front rest c c' = refl
one_cause Expected (LeftOut w) front rest c c' = absurd (c.1 w c'.1)
one_cause Expected TooMany front rest c c' = absurd (no_large front rest c.0 (long_large front rest c'))
one_cause Expected TooDeep front rest c c' = absurd (no_large front rest c.0 c'.0)
one_cause (LeftOut w) Expected front rest c c' = absurd (c'.1 w c.1)
one_cause (LeftOut w) (LeftOut v) front rest c c' = ap LeftOut (one_word front rest w v c.1 c'.1)
one_cause (LeftOut w) TooMany front rest c c' = absurd (no_large front rest c.0 (long_large front rest c'))
one_cause (LeftOut w) TooDeep front rest c c' = absurd (no_large front rest c.0 c'.0)
one_cause TooMany Expected front rest c c' = absurd (no_large front rest c'.0 (long_large front rest c))
one_cause TooMany (LeftOut w) front rest c c' = absurd (no_large front rest c'.0 (long_large front rest c))
one_cause TooMany TooMany front rest c c' = refl
one_cause TooMany TooDeep front rest c c' = absurd (c'.1 c)
one_cause TooDeep Expected front rest c c' = absurd (no_large front rest c'.0 c.0)
one_cause TooDeep (LeftOut w) front rest c c' = absurd (no_large front rest c'.0 c.0)
one_cause TooDeep TooMany front rest c c' = absurd (c.1 c')
one_cause TooDeep TooDeep front rest c c' = refl

one_fault : (ts : Tokens) (f f' : Fault) (rest rest' : Tokens) → IsFault ts f rest → IsFault ts f' rest' → (f ≡ f') × (rest ≡ rest')
one_fault ts f f' rest rest' h g = elim (two_fronts h.front rest g.front rest' (sym h.parts ∙ g.parts)) as (λ _. (f ≡ f') × (rest ≡ rest')) [
  | inl s ↦ (one_cause f f' h.front rest h.cause (subst (λ (us : Tokens). IsCause f' us rest) (sym s.0) (subst (λ (us : Tokens). IsCause f' g.front us) (sym s.1) g.cause)), s.1)
  | inr (inl s) ↦ absurd (no_longer h.front rest g.front rest' s h.no_further g.goes_on)
  | inr (inr s) ↦ absurd (no_longer g.front rest' h.front rest s g.no_further h.goes_on)
]

-- a script has no fault
no_fault : (s : Script) (ts : Tokens) → IsScript s ts → (f : Fault) (rest : Tokens) → IsFault ts f rest → ⊥
no_fault s ts is f [] h = h.no_further s (subst (λ (us : Tokens). IsScript s us) (h.parts ∙ append-nil h.front) is)
no_fault s ts is f (t ∷ rest) h = h.no_further (rest, s, subst (λ (us : Tokens). IsScript s us) (h.parts ∙ sym (append_assoc h.front (t ∷ []) rest)) is)

pub one_answer : OneAnswer
one_answer ts (Ok s) (Ok s') h g = ap Ok (one_script s s' ts h g)
one_answer ts (Ok s) (Err e) h g = absurd (no_fault s ts h e.0 e.1 g)
one_answer ts (Err e) (Ok s) h g = absurd (no_fault s ts g e.0 e.1 h)
one_answer ts (Err e) (Err e') h g =
    let one = one_fault ts e.0 e'.0 e.1 e'.1 h g in
    ap (λ (f : Fault). Err (f, e.1)) one.0 ∙ ap (λ (us : Tokens). Err (e'.0, us)) one.1
