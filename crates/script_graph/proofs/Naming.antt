-- Words in lists of what has words.
use Rattle.std.proofs.Common.{◌≡◌, ℕ, zero, suc, ◌+◌, ◌<◌, Bool, true, false, ◌||◌, not, List, [], ◌∷◌, ◌++◌, Option, Some, None, if◌then◌else◌, cond, length, map, refl, sym, ap, ◌∙◌}
use Rattle.std.proofs.Math.Path.{ap₂}
use Rattle.std.proofs.Math.Dec.{ltb}
use Rattle.std.specs.Prelude.{position, find, slice_get}
use Rattle.std.specs.List.{list_any, position_or_len}
use Rattle.std.specs.Option.{option_and_then}
use Rattle.std.proofs.lemmas.List.{length-map, map-append}
use Rattle.std.proofs.lemmas.List.Folds.{find_at}
use Rattle.std.proofs.lemmas.Bool.{ltb-false}
use Rattle.std.proofs.lemmas.Option.{slice_get_past}
use Rattle.vtl_syntax.specs.declared.ruleset.Ruleset.{Ruleset}
use Rattle.script_graph.specs.Words.{is_same, has_word, ruleset_name}
use Rattle.script_graph.specs.Scopes.{ruleset_of}

module _ {A : Type 0} (name : A → List ℕ) (w : List ℕ) where
  pub any-map : (xs : List A) → list_any (λ x. is_same w (name x)) xs ≡ has_word (map name xs) w
  any-map [] = refl
  any-map (x ∷ xs) = ap (λ (b : Bool). is_same w (name x) || b) (any-map xs)

  len-map : (xs : List A) → position_or_len (λ x. is_same w (name x)) xs ≡ position_or_len (is_same w) (map name xs)
  len-map [] = refl
  len-map (x ∷ xs) = ap (λ (n : ℕ). cond (not (is_same w (name x))) (1 + n) 0) (len-map xs)

  pub position-map : (xs : List A) → position (λ x. is_same w (name x)) xs ≡ position (is_same w) (map name xs)
  position-map xs = ap₂ (λ (n m : ℕ). cond (ltb n m) (Some n) None) (len-map xs) (sym (length-map xs name))

  placed : (b : Bool) (xs : List A) (n : ℕ) → (b ≡ false → slice_get xs n ≡ None) → slice_get xs n ≡ option_and_then (slice_get xs) (cond b (Some n) None)
  placed true xs n past = refl
  placed false xs n past = past refl

pub put-if : {A : Type 0} (name : A → List ℕ) (b : Bool) (ks : List A) (k : A) → map name (if b then ks else ks ++ k ∷ []) ≡ (if b then map name ks else map name ks ++ name k ∷ [])
put-if name true ks k = refl
put-if name false ks k = map-append name ks (k ∷ [])

pub not-not : (b : Bool) → not (not b) ≡ b
not-not true = refl
not-not false = refl

-- the ruleset with the number of a name

pub ruleset-found : (rulesets : List Ruleset) (w : List ℕ) → ruleset_of rulesets w ≡ option_and_then (slice_get rulesets) (position (is_same w) (map ruleset_name rulesets))
ruleset-found rulesets w =
    let p : Ruleset → Bool = λ r. is_same w (ruleset_name r) in
    let n = position_or_len p rulesets in
    find_at p rulesets
    ∙ placed ruleset_name w (ltb n (length rulesets)) rulesets n (λ past. slice_get_past rulesets n (ltb-false n (length rulesets) past))
    ∙ ap (option_and_then (slice_get rulesets)) (position-map ruleset_name w rulesets)
