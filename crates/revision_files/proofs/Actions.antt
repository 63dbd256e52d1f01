-- The action of a row, and the column that it stands in.
use Rattle.std.proofs.Common.{◌≡◌, ◌≢◌, ℕ, suc, ◌+◌, ◌<◌, Bool, true, false, List, [], ◌∷◌, ◌++◌, length, get_or, take, drop, Option, Some, None, is_some, cond, codes, refl, sym, ap, subst, ◌∙◌, arith, true≢false}
use Rattle.std.specs.Prelude.{◌==◌, MatchOption, filter, IsUtf8}
use Rattle.std.specs.List.{position_or_len}
use Rattle.std.specs.Str.{IsAscii, chars}
use Rattle.std.proofs.lemmas.Bool.{eqb-true}
use Rattle.std.proofs.lemmas.List.{length-append, take_more, take-append-drop}
use Rattle.std.proofs.lemmas.List.Elements.{filter-append}
use Rattle.point_sets.specs.declared.revision.Action.{Action}
use Rattle.point_sets.specs.declared.revision.Action.TheVariants.{Put, Remove}
use Rattle.vtl_values.specs.Texts.{same_text}
use Rattle.vtl_values.proofs.CharsOfTexts.{IsAscii-from_test}
use Rattle.revision_files.specs.Columns.{ACTION}
use Rattle.revision_files.specs.Rows.{action_of}
use Rattle.revision_files.proofs.Names.{chars-word, first_at, passing-more, same-true}

pub ascii_action : IsAscii ACTION
ascii_action = IsAscii-from_test ACTION refl

pub action_put : (text : List ℕ) → text ≡ codes "put" → Some Put ≡ action_of (chars text)
unfolding chars
action_put text is = sym (ap (λ t. action_of (chars t)) is)

pub action_remove : (text : List ℕ) → text ≡ codes "remove" → Some Remove ≡ action_of (chars text)
unfolding chars
action_remove text is = sym (ap (λ t. action_of (chars t)) is)

same_not : (a b : List ℕ) → (a ≡ b → ⊥) → same_text a b ≡ false
same_not a b other = by (same_text a b) refl
  where
    by : (t : Bool) → same_text a b ≡ t → t ≡ false
    by true is = absurd (other (same-true a b is))
    by false is = refl

pub action_none : (text : List ℕ) → IsUtf8 text → (text ≡ codes "put" → ⊥) → (text ≡ codes "remove" → ⊥) → None ≡ action_of (chars text)
action_none text utf8 put remove =
    let first : same_text (chars text) (codes "put") ≡ false = chars-word text (codes "put") (IsAscii-from_test (codes "put") refl) utf8 ∙ same_not text (codes "put") put in
    let second : same_text (chars text) (codes "remove") ≡ false = chars-word text (codes "remove") (IsAscii-from_test (codes "remove") refl) utf8 ∙ same_not text (codes "remove") remove in
    sym (ap (λ b. cond b (Some Put) (cond (same_text (chars text) (codes "remove")) (Some Remove) None)) first ∙ ap (λ b. cond b (Some Remove) None) second)

-- what is known where these columns were looked at: whether a name passed, and the first place where one does
abbrev pub IsFoundIn : (List ℕ → Bool) → List (List ℕ) → ℕ → Option ℕ → Type 0
IsFoundIn p names i found = MatchOption found (length (filter p (take i names)) ≡ 0) (λ at. (length (filter p (take i names)) ≡ 1) × (at ≡ position_or_len p names))

passing : (p : List ℕ → Bool) (names : List (List ℕ)) (i : ℕ) → i < length names → length (filter p (take (i + 1) names)) ≡ length (filter p (take i names)) + cond (p (get_or names i [])) 1 0
passing p names i within = ap (λ xs. length (filter p xs)) (take_more names i [] within) ∙ passing-more p (take i names) (get_or names i [])

pub found-other : (p : List ℕ → Bool) (names : List (List ℕ)) (i : ℕ) (found : Option ℕ) → i < length names → p (get_or names i []) ≡ false → IsFoundIn p names i found → IsFoundIn p names (i + 1) found
found-other p names i None within other known = let e = passing p names i within ∙ ap (λ b. length (filter p (take i names)) + cond b 1 0) other in omega (arith, e, known)
found-other p names i (Some at) within other known = let e = passing p names i within ∙ ap (λ b. length (filter p (take i names)) + cond b 1 0) other in (omega (arith, e, known.0), known.1)

pub found-first : (p : List ℕ → Bool) (names : List (List ℕ)) (i : ℕ) (found : Option ℕ) → i < length names → p (get_or names i []) ≡ true → is_some found ≡ false → IsFoundIn p names i found → IsFoundIn p names (i + 1) (Some i)
found-first p names i None within here none known =
    let e = passing p names i within ∙ ap (λ b. length (filter p (take i names)) + cond b 1 0) here in
    (omega (arith, e, known), sym (first_at p names i [] known within here))
found-first p names i (Some at) within here none known = absurd (true≢false none)

two_not_one : (n : ℕ) → 2 < suc n → (n == 1) ≡ false
two_not_one n more = by (n == 1) refl
  where
    by : (t : Bool) → (n == 1) ≡ t → t ≡ false
    by true is = absurd (let e = eqb-true n 1 is in omega (arith, e))
    by false is = refl

pub found-again : (p : List ℕ → Bool) (names : List (List ℕ)) (i : ℕ) (found : Option ℕ) → i < length names → p (get_or names i []) ≡ true → is_some found ≡ true → IsFoundIn p names i found → (length (filter p names) == 1) ≡ false
found-again p names i None within here some known = absurd (true≢false (sym some))
found-again p names i (Some at) within here some known =
    let e = passing p names i within ∙ ap (λ b. length (filter p (take i names)) + cond b 1 0) here in
    let whole : length (filter p names) ≡ length (filter p (take (i + 1) names)) + length (filter p (drop (i + 1) names)) =
    ap (λ xs. length (filter p xs)) (sym (take-append-drop (i + 1) names)) ∙ (ap length (filter-append p (take (i + 1) names) (drop (i + 1) names)) ∙ length-append (filter p (take (i + 1) names)) (filter p (drop (i + 1) names))) in
    two_not_one (length (filter p names)) (omega (arith, e, whole, known.0))
