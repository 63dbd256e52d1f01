-- What is made of what a rule stands for is spelled by the rule's tokens, and is made again without places.
use Rattle.std.proofs.Common.{◌≡◌, List, [], ◌∷◌, ◌++◌, Option, Some, None, refl, ap, ◌∙◌, map}
use Rattle.std.proofs.Math.Path.{ap₂}
use Rattle.std.specs.Prelude.{option_map}
use Rattle.std.specs.List.{flat_map}
use Rattle.vtl_grammar.specs.Marks.{Mark, kind_of}
use Rattle.vtl_grammar.specs.Rules.{Limit, Rule, mark, ◌▸◌, repeated, Of, listed}
use Rattle.vtl_spelling.specs.Kinds.{Kinds, ◌&◌, one, optional, separated}
use Rattle.vtl_spelling.proofs.Values.{value_spelled, value_placeless}

pub record Told {A : Type 0} (g : Rule) (make : Of g → A) (spell : A → Kinds) (plain : A → A) : Type 0 where
  pub tells : (v : Of g) → (spell (make v) ≡ value_spelled g v) × (plain (make v) ≡ make (value_placeless g v))

-- what has no places
abbrev pub same_word : {A : Type 0} → A → A
same_word x = x

-- ---- equal parts

pub next : {a a' b b' : Kinds} → a ≡ a' → b ≡ b' → a & b ≡ a' & b'
next p q = ap₂ (λ (x y : Kinds). x & y) p q

pub ap_three : {A B C D : Type 0} (f : A → B → C → D) {a a' : A} {b b' : B} {c c' : C} → a ≡ a' → b ≡ b' → c ≡ c' → f a b c ≡ f a' b' c'
ap_three {A} {B} {C} {D} f {a} {a'} {b} {b'} {c} {c'} p q r = ap₂ (λ (x : A) (y : B). f x y c) p q ∙ ap (λ (z : C). f a' b' z) r

pub ap_four : {A B C D E : Type 0} (f : A → B → C → D → E) {a a' : A} {b b' : B} {c c' : C} {d d' : D} → a ≡ a' → b ≡ b' → c ≡ c' → d ≡ d' → f a b c d ≡ f a' b' c' d'
ap_four {A} {B} {C} {D} f {a} {a'} {b} {b'} {c} {c'} {d} {d'} p q r t = ap₂ (λ (x : A) (y : B). f x y c d) p q ∙ ap₂ (λ (z : C) (u : D). f a' b' z u) r t

-- ---- behind a mark

pub behind-told : {A : Type 0} (m : Mark) (g : Rule) (make : Of g → A) (spell : A → Kinds) (plain : A → A) → Told g make spell plain → Told (mark m ▸ g) (λ v. make v.1) (λ x. one (kind_of m) & spell x) plain
behind-told m g make spell plain t = record { tells = λ v. let e = t.tells v.1 in (ap (λ (k : Kinds). kind_of m ∷ k) e.0, e.1) }

-- ---- what may be left out

module _ {A : Type 0} (g : Rule) (make : Of g → A) (spell : A → Kinds) (plain : A → A) (t : Told g make spell plain) where
  pub optional-told : (x : Option (Of g)) → optional spell (option_map make x) ≡ optional (value_spelled g) x
  optional-told None = refl
  optional-told (Some v) = (t.tells v).0

  pub option-plain : (x : Option (Of g)) → option_map plain (option_map make x) ≡ option_map make (option_map (value_placeless g) x)
  option-plain None = refl
  option-plain (Some v) = let e = (t.tells v).1 in ap (λ (a : A). Some a) e

  pub map-told : (xs : List (Of g)) → flat_map spell (map make xs) ≡ flat_map (value_spelled g) xs
  map-told [] = refl
  map-told (v ∷ xs) = let e = (t.tells v).0 in let r = map-told xs in cc

  pub map-plain : (xs : List (Of g)) → map plain (map make xs) ≡ map make (map (value_placeless g) xs)
  map-plain [] = refl
  map-plain (v ∷ xs) = let e = (t.tells v).1 in let r = map-plain xs in cc

  -- ---- lists with a mark between

  pub listed-told : (l : Limit) (m : Mark) (v : Of (repeated l g (mark m ▸ g))) → separated (one (kind_of m)) spell (listed make v) ≡ value_spelled (repeated l g (mark m ▸ g)) v
  listed-told l m (v, []) = ap (λ (k : Kinds). k ++ []) (t.tells v).0
  listed-told l m (v, w ∷ ws) = let e = (t.tells v).0 in let r = listed-told l m (w.1, ws) in cc

  pub listed-plain : (l : Limit) (m : Mark) (v : Of (repeated l g (mark m ▸ g))) → map plain (listed make v) ≡ listed make (value_placeless (repeated l g (mark m ▸ g)) v)
  listed-plain l m (v, []) = ap (λ (a : A). a ∷ []) (t.tells v).1
  listed-plain l m (v, w ∷ ws) = let e = (t.tells v).1 in let r = listed-plain l m (w.1, ws) in cc

-- ---- where there are no places

module _ {A : Type 0} (g : Rule) (make : Of g → A) (spell : A → Kinds) (t : Told g make spell same_word) where
  pub option-same : (x : Option (Of g)) → option_map make x ≡ option_map make (option_map (value_placeless g) x)
  option-same None = refl
  option-same (Some v) = let e = (t.tells v).1 in ap (λ (a : A). Some a) e

  pub listed-same : (l : Limit) (m : Mark) (v : Of (repeated l g (mark m ▸ g))) → listed make v ≡ listed make (value_placeless (repeated l g (mark m ▸ g)) v)
  listed-same l m (v, []) = ap (λ (a : A). a ∷ []) (t.tells v).1
  listed-same l m (v, w ∷ ws) = let e = (t.tells v).1 in let r = listed-same l m (w.1, ws) in cc
