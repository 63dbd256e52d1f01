-- Components that are gathered from several lists: each name once.
use Rattle.std.proofs.Common.{◌≡◌, ℕ, List, [], ◌∷◌, ◌++◌, Bool, true, false, not, ◌&&◌, ◌||◌, cond, refl, sym, ap, ◌∙◌}
use Rattle.std.specs.Prelude.{filter}
use Rattle.std.specs.List.{All, list_any}
use Rattle.std.proofs.lemmas.List.{map-append}
use Rattle.std.proofs.lemmas.List.Elements.{All-head, All-tail, All-filter, All-append}
use Rattle.std.proofs.lemmas.List.Folds.{list_any-append}
use Rattle.vtl_values.specs.Texts.{same_text}
use Rattle.vtl_values.specs.declared.structure.Component.{Component}
use Rattle.data_model.proofs.MapLemmas.{neither}
use Rattle.data_set_trees.specs.Components.{further, is_taken}
use Rattle.data_set_trees.specs.Joins.{gathered}
use Rattle.operator_meaning.proofs.pairs.Names.{same-true, same-refl, is_in, Apart, either-left, either-right}
use Rattle.operator_meaning.proofs.pairs.Keys.{names}

-- what holds of all holds of those that are gathered
pub gathered-all : (P : Component → Type 0) (before : List Component) (css : List (List Component)) → All P before → All (All P) css → All P (gathered before css)
gathered-all P before [] first all = first
gathered-all P before (cs ∷ css) first all =
    gathered-all P (before ++ further before cs) css
    (All-append P before (further before cs) first (All-filter (λ c. not (is_taken c.name before)) P cs (All-head (All P) cs css all)))
    (All-tail (All P) cs css all)

-- ---- names

taken-in : (n : List ℕ) (cs : List Component) → is_taken n cs ≡ is_in (names cs) n
taken-in n [] = refl
taken-in n (c ∷ cs) = ap (λ b. same_text n c.name || b) (taken-in n cs)

in-both : (xs ys : List Component) (n : List ℕ) → is_in (names (xs ++ ys)) n ≡ (is_in (names xs) n || is_in (names ys) n)
in-both xs ys n = ap (λ (ns : List (List ℕ)). is_in ns n) (map-append (λ (c : Component). c.name) xs ys) ∙ list_any-append (same_text n) (names xs) (names ys)

-- the further ones have the names that weren't there
in-further : (xs ys : List Component) (n : List ℕ) → is_in (names (further xs ys)) n ≡ (not (is_in (names xs) n) && is_in (names ys) n)
in-further xs [] n = none (is_in (names xs) n)
  where
    none : (b : Bool) → false ≡ (not b && false)
    none true = refl
    none false = refl
in-further xs (y ∷ ys) n = by_name (same_text n y.name) refl (is_taken y.name xs) refl (in-further xs ys n)
  where
    its : (a b : Bool) → a ≡ b → (not b && true) ≡ not a
    its true b e = ap (λ c. not c && true) (sym e)
    its false b e = ap (λ c. not c && true) (sym e)

    by_name : (e : Bool) → same_text n y.name ≡ e → (b : Bool) → is_taken y.name xs ≡ b → is_in (names (further xs ys)) n ≡ (not (is_in (names xs) n) && is_in (names ys) n) → is_in (names (cond (not b) (y ∷ further xs ys) (further xs ys))) n ≡ (not (is_in (names xs) n) && (same_text n y.name || is_in (names ys) n))
    by_name true same b taken later =
        let there : is_in (names xs) n ≡ b = ap (is_in (names xs)) (same-true n y.name same) ∙ sym (taken-in y.name xs) ∙ taken in
        by_there b later there
      where
        by_there : (b : Bool) → is_in (names (further xs ys)) n ≡ (not (is_in (names xs) n) && is_in (names ys) n) → is_in (names xs) n ≡ b → is_in (names (cond (not b) (y ∷ further xs ys) (further xs ys))) n ≡ (not (is_in (names xs) n) && (same_text n y.name || is_in (names ys) n))
        by_there true later there = later ∙ (rw there refl)
        by_there false later there = rw (same, there) refl
    by_name false same true taken later = later ∙ (rw same refl)
    by_name false same false taken later = rw same later

either-or : (a b : Bool) → (a || (not a && b)) ≡ (a || b)
either-or true b = refl
either-or false b = refl

or-three : (a b c : Bool) → ((a || b) || c) ≡ (a || (b || c))
or-three true b c = refl
or-three false b c = refl

or-none : (a : Bool) → a ≡ (a || false)
or-none true = refl
or-none false = refl

in-next : (xs ys : List Component) (n : List ℕ) → is_in (names (xs ++ further xs ys)) n ≡ (is_in (names xs) n || is_in (names ys) n)
in-next xs ys n = in-both xs (further xs ys) n ∙ ap (λ b. is_in (names xs) n || b) (in-further xs ys n) ∙ either-or (is_in (names xs) n) (is_in (names ys) n)

-- those that are gathered have the names of all
pub gathered-in : (before : List Component) (css : List (List Component)) (n : List ℕ) → is_in (names (gathered before css)) n ≡ (is_in (names before) n || list_any (λ cs. is_in (names cs) n) css)
gathered-in before [] n = or-none (is_in (names before) n)
gathered-in before (cs ∷ css) n =
    gathered-in (before ++ further before cs) css n
    ∙ ap (λ b. b || list_any (λ cs. is_in (names cs) n) css) (in-next before cs n)
    ∙ or-three (is_in (names before) n) (is_in (names cs) n) (list_any (λ cs. is_in (names cs) n) css)

-- ---- none twice

absent-filter : (q : Component → Bool) (cs : List Component) (n : List ℕ) → is_in (names cs) n ≡ false → is_in (names (filter q cs)) n ≡ false
absent-filter q [] n h = refl
absent-filter q (c ∷ cs) n h =
    let two = neither (same_text n c.name) (is_in (names cs) n) h in
    by_test (q c) two.0 (absent-filter q cs n two.1)
  where
    by_test : (b : Bool) → same_text n c.name ≡ false → is_in (names (filter q cs)) n ≡ false → is_in (names (cond b (c ∷ filter q cs) (filter q cs))) n ≡ false
    by_test true other later = rw other later
    by_test false other later = later

apart-filter : (q : Component → Bool) (cs : List Component) → Apart (names cs) → Apart (names (filter q cs))
apart-filter q [] apart = tt
apart-filter q (c ∷ cs) apart = by_test (q c) (apart-filter q cs apart.1)
  where
    by_test : (b : Bool) → Apart (names (filter q cs)) → Apart (names (cond b (c ∷ filter q cs) (filter q cs)))
    by_test true later = (absent-filter q cs c.name apart.0, later)
    by_test false later = later

apart-both : (xs ys : List Component) → Apart (names xs) → Apart (names ys) → ((n : List ℕ) → is_in (names xs) n ≡ true → is_in (names ys) n ≡ false) → Apart (names (xs ++ ys))
apart-both [] ys own its across = its
apart-both (x ∷ xs) ys own its across = (
  in-both xs ys x.name ∙ rw (own.0, across x.name (either-left (same_text x.name x.name) (is_in (names xs) x.name) (same-refl x.name))) refl,
  apart-both xs ys own.1 its (λ n h. across n (either-right (same_text n x.name) (is_in (names xs) n) h)),
)

pub gathered-apart : (before : List Component) (css : List (List Component)) → Apart (names before) → All (λ cs. Apart (names cs)) css → Apart (names (gathered before css))
gathered-apart before [] own all = own
gathered-apart before (cs ∷ css) own all =
    gathered-apart (before ++ further before cs) css
    (apart-both before (further before cs) own
    (apart-filter (λ c. not (is_taken c.name before)) cs (All-head (λ cs. Apart (names cs)) cs css all))
    (λ n h. in-further before cs n ∙ ap (λ b. not b && is_in (names cs) n) h))
    (All-tail (λ cs. Apart (names cs)) cs css all)
