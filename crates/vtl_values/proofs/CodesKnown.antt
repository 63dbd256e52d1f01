-- Code lists with one code more.
use Rattle.std.proofs.Common.{◌≡◌, ◌≢◌, ℕ, true, false, Bool, cond, not, ◌||◌, List, [], ◌∷◌, ◌++◌, refl, sym, ap, ◌∙◌, ◌<◌, length, get_or}
use Rattle.std.proofs.Math.Bool.{or-false}
use Rattle.std.proofs.lemmas.List.Folds.{list_any-append, list_any_at}
use Rattle.std.proofs.lemmas.List.Quantifiers.{all_pairs_push}
use Rattle.std.specs.Cmp.Lexicographic.{nat_list_eq_equiv}
use Rattle.std.specs.HashSet.{HashSet, Updates, contains_by}
use Rattle.std.specs.List.{list_any}
use Rattle.vtl_values.specs.Codes.{AreKnown}
use Rattle.vtl_values.specs.Texts.{same_text}

-- a code that the test doesn't find differs from each that stands
differs : (codes : List (List ℕ)) (code : List ℕ) → list_any (same_text code) codes ≡ false → (k : ℕ) (d : List ℕ) → k < length codes → get_or codes k d ≢ code
differs codes code absent k d within same =
    let found : same_text code (get_or codes k d) ≡ true = ap (same_text code) same ∙ nat_list_eq_equiv.refl code in
    let there : list_any (same_text code) codes ≡ true = list_any_at (same_text code) codes k d within found in
    cc

either : (x y : Bool) → cond x true y ≡ (y || x)
either true true = refl
either true false = refl
either false true = refl
either false false = refl

-- what is new didn't stand there
pub was_absent : (is_new stood : Bool) → is_new ≡ not stood → is_new ≡ true → stood ≡ false
was_absent true true told new = cc
was_absent true false told new = refl
was_absent false stood told new = cc

-- a new code at the end of the list and in the set
pub AreKnown-with : {S : Type 0} (codes : List (List ℕ)) (code : List ℕ) (known grown : HashSet (List ℕ) S) → AreKnown codes known → Updates same_text known grown code true → list_any (same_text code) codes ≡ false → AreKnown (codes ++ code ∷ []) grown
AreKnown-with codes code known grown before updates absent = record {
  held = λ text.
      updates.0 text
      ∙ either (same_text code text) (contains_by (same_text text) known)
      ∙ ap (λ b. b || same_text code text) (before.held text)
      ∙ ap (λ b. list_any (same_text text) codes || b) (nat_list_eq_equiv.symm code text ∙ sym (or-false (same_text text code)))
      ∙ sym (list_any-append (same_text text) codes (code ∷ []));
  differ = all_pairs_push (λ a b. a ≢ b) codes code before.differ (differs codes code absent);
}
