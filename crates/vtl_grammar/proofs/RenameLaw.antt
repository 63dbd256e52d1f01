-- Reading tells whether `rename` could stand somewhere.
use Rattle.std.proofs.Common.{◌≡◌, [], ◌∷◌, ◌++◌, true, Ok, Err, ◌⊎◌, inl, inr, refl, sym, ap, subst, ◌∙◌, append_assoc}
use Rattle.std.proofs.lemmas.List.{append-nil}
use Rattle.std.specs.Prelude.{◌↔◌}
use Rattle.vtl_values.specs.declared.place.Place.{Place}
use Rattle.vtl_tokens.specs.declared.token.Token.{Token}
use Rattle.vtl_tokens.specs.declared.token.TokenKind.TheVariants as what
use Rattle.vtl_tokens.specs.declared.keyword.Keyword.TheVariants as words
use Rattle.vtl_syntax.specs.declared.script.Script.{Script}
use Rattle.vtl_grammar.specs.Marks.{Tokens, at}
use Rattle.vtl_grammar.specs.Scripts.{IsScript, IsScriptAtLarge, language, LEVELS}
use Rattle.vtl_grammar.specs.Faults.{GoesOn, GoesNoFurther, IsLongScript}
use Rattle.vtl_grammar.specs.Reading.{Kind, Expected, TooDeep, TooMany, Halt, Read}
use Rattle.vtl_grammar.specs.Laws.{read_whole, IsReason, StopsAt, Answers, with_rename, passes_last, TellsRename}
use Rattle.vtl_grammar.proofs.GrammarLaws.{reads_rightly}

no_end : (a : Tokens) (t : Token) (us : Tokens) → a ++ t ∷ us ≡ [] → ⊥
no_end [] t us e = cc
no_end (y ∷ a) t us e = cc

same_tail : (x y : Token) (xs ys : Tokens) → x ∷ xs ≡ y ∷ ys → (x ≡ y) × (xs ≡ ys)
same_tail x y xs ys e = (cc, cc)

-- the token is the last, or one before
last_or_before : (a : Tokens) (t : Token) (us front : Tokens) (r : Token) → a ++ t ∷ us ≡ front ++ r ∷ [] → (a ++ t ∷ [] ≡ front ++ r ∷ []) ⊎ ((vs : Tokens) × (front ≡ a ++ t ∷ vs))
last_or_before [] t us [] r e = inl (ap (λ (x : Token). x ∷ []) (same_tail t r us [] e).0)
last_or_before [] t us (x ∷ xs) r e = inr (xs, ap (λ (y : Token). y ∷ xs) (sym (same_tail t x us (xs ++ r ∷ []) e).0))
last_or_before (y ∷ a) t us [] r e = absurd (no_end a t us (same_tail y r (a ++ t ∷ us) [] e).1)
last_or_before (y ∷ a) t us (x ∷ xs) r e =
    let s = same_tail y x (a ++ t ∷ us) (xs ++ r ∷ []) e in
    let head = s.0 in
    elim (last_or_before a t us xs r s.1) [
      | inl q ↦ inl (ap (λ (z : Token). z ∷ (a ++ t ∷ [])) head ∙ ap (λ (vs : Tokens). x ∷ vs) q)
      | inr w ↦ inr (w.0, ap (λ (vs : Tokens). x ∷ vs) w.1 ∙ ap (λ (z : Token). z ∷ (a ++ t ∷ w.0)) (sym head))
    ]

pub goes-larger : (P Q : Script → Tokens → Type 0) → ((s : Script) (us : Tokens) → P s us → Q s us) → (us : Tokens) → GoesOn P us → GoesOn Q us
goes-larger P Q h us g = (g.0, g.1, h g.1 (us ++ g.0) g.2)

at_large : (s : Script) (us : Tokens) → IsScript s us → IsScriptAtLarge s us
at_large s us (n, is) = (language n, LEVELS, is)

pub long_at_large : (s : Script) (us : Tokens) → IsLongScript s us → IsScriptAtLarge s us
long_at_large s us (L, is) = (L, LEVELS, is)

module _ (front : Tokens) (p : Place) (goes : GoesOn IsScript front) where
  abbrev rename : Token
  rename = at (what.Reserved words.Rename) p

  -- reading passes the front
  at_last : (e : Halt) (s : StopsAt (with_rename front p) e) (t : Token) (us : Tokens) → e.rest ≡ t ∷ us → s.front ++ t ∷ [] ≡ with_rename front p
  at_last e s t us is = elim (last_or_before s.front t us front rename (ap (λ (vs : Tokens). s.front ++ vs) (sym is) ∙ sym s.parts)) as (λ _. s.front ++ t ∷ [] ≡ with_rename front p) [
    | inl same ↦ same
    | inr w ↦ absurd (stopped w.0 w.1)
  ]
    where
      further : GoesNoFurther IsScript s.front (t ∷ us)
      further = subst (λ (vs : Tokens). GoesNoFurther IsScript s.front vs) is s.no_further

      stopped : (vs : Tokens) → front ≡ s.front ++ t ∷ vs → ⊥
      stopped vs e' = further (vs ++ goes.0, goes.1, subst (λ (ws : Tokens). IsScript goes.1 ws) (ap (λ (ws : Tokens). ws ++ goes.0) e' ∙ append_assoc s.front (t ∷ vs) goes.0 ∙ sym (append_assoc s.front (t ∷ []) (vs ++ goes.0))) goes.2)

  passed : (e : Halt) → StopsAt (with_rename front p) e → (k : Kind) (rest : Tokens) → e.kind ≡ k → e.rest ≡ rest → passes_last (Err (record { kind = k; rest = rest })) ≡ true → GoesOn IsScriptAtLarge (with_rename front p)
  passed e s Expected [] is end pass =
      let whole : with_rename front p ≡ s.front = s.parts ∙ ap (λ (vs : Tokens). s.front ++ vs) end ∙ append-nil s.front in
      subst (λ (us : Tokens). GoesOn IsScriptAtLarge us) (sym whole) (goes-larger IsScript IsScriptAtLarge at_large s.front s.goes_on)
  passed e s Expected (t ∷ us) is end pass = absurd cc
  passed e s TooDeep rest is end pass =
      let r : IsReason TooDeep s.front e.rest = subst (λ (k : Kind). IsReason k s.front e.rest) is s.reason in
      subst (λ (us : Tokens). GoesOn IsScriptAtLarge us) (at_last e s r.0.0 r.0.1 r.0.2) r.0.3
  passed e s (TooMany j) rest is end pass =
      let r : IsReason (TooMany j) s.front e.rest = subst (λ (k : Kind). IsReason k s.front e.rest) is s.reason in
      subst (λ (us : Tokens). GoesOn IsScriptAtLarge us) (at_last e s r.0 r.1 r.2) (goes-larger IsLongScript IsScriptAtLarge long_at_large (s.front ++ r.0 ∷ []) r.3)

  stopped_short : (e : Halt) (s : StopsAt (with_rename front p) e) (t : Token) (us : Tokens) → e.kind ≡ Expected → e.rest ≡ t ∷ us → GoesOn IsScriptAtLarge (with_rename front p) → ⊥
  stopped_short e s t us is end g =
      let r : GoesNoFurther IsScriptAtLarge s.front e.rest = subst (λ (k : Kind). IsReason k s.front e.rest) is s.reason in
      let r' : GoesNoFurther IsScriptAtLarge s.front (t ∷ us) = subst (λ (vs : Tokens). GoesNoFurther IsScriptAtLarge s.front vs) end r in
      r' (subst (λ (vs : Tokens). GoesOn IsScriptAtLarge vs) (sym (at_last e s t us end)) g)

  passes : (e : Halt) → StopsAt (with_rename front p) e → (k : Kind) (rest : Tokens) → e.kind ≡ k → e.rest ≡ rest → GoesOn IsScriptAtLarge (with_rename front p) → passes_last (Err (record { kind = k; rest = rest })) ≡ true
  passes e s Expected [] is end g = refl
  passes e s Expected (t ∷ us) is end g = absurd (stopped_short e s t us is end g)
  passes e s TooDeep rest is end g = refl
  passes e s (TooMany j) rest is end g = refl

  told : (x : Read Script) → Answers (with_rename front p) x → (passes_last x ≡ true) ↔ GoesOn IsScriptAtLarge (with_rename front p)
  told (Ok a) s = (λ pass. ([], a.value, at_large a.value (with_rename front p ++ []) (subst (λ (us : Tokens). IsScript a.value us) (sym (append-nil (with_rename front p))) s)), λ g. refl)
  told (Err e) s = (λ pass. passed e s e.kind e.rest refl refl pass, λ g. passes e s e.kind e.rest refl refl g)

pub tells_rename : TellsRename
tells_rename front p goes = told front p goes (read_whole (with_rename front p)) (reads_rightly (with_rename front p))
