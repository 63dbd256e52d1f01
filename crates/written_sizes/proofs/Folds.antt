-- Functions of outlines that go by their parts.
use Rattle.std.proofs.Common.{◌≡◌, Bool, ◌||◌, List, [], ◌∷◌, map, refl, sym, ap, ◌∙◌, subst}
use Rattle.std.specs.List.{list_any}
use Rattle.operator_faults.specs.declared.outline.What.{What}
use Rattle.operator_faults.specs.declared.outline.Outline.{Outline, roll-Outline, fold-Outline, fold-roll-Outline, ind-Outline}
use Rattle.operator_faults.specs.declared.outline.Outline.TheOpen.{Outline-F}
use Rattle.operator_faults.specs.Outlines.{outline, is_name, has_name}

-- one level
abbrev pub level : {A : Type 0} → What → Bool → List A → Outline-F A
level w b xs = record { what = w; named = b; parts = xs }

-- ---- what holds of an outline where it holds of its parts

module _ (P : Outline → Type 0) (rolled : (w : What) (b : Bool) (ys : List ((o : Outline) × P o)) → P (roll-Outline (level w b (map (λ (y : (o : Outline) × P o). y.0) ys)))) where
  pub by_parts : (o : Outline) → P o
  by_parts o = ind-Outline P (λ x y is. subst (λ (z : Outline-F Outline). P (roll-Outline z)) is (rolled y.what y.named y.parts)) o

-- ---- a function that goes by its parts is the fold

module _ (A : Type 0) (step : Outline-F A → A) (f : Outline → A) (goes : (w : What) (b : Bool) (os : List Outline) → f (roll-Outline (level w b os)) ≡ step (level w b (map f os))) where
  abbrev Same : Outline → Type 0
  Same o = f o ≡ fold-Outline A step o

  same_parts : (ys : List ((o : Outline) × Same o)) → map f (map (λ (y : (o : Outline) × Same o). y.0) ys) ≡ map (fold-Outline A step) (map (λ (y : (o : Outline) × Same o). y.0) ys)
  same_parts [] = refl
  same_parts (y ∷ ys) = λ i. y.1 i ∷ same_parts ys i

  rolled_same : (w : What) (b : Bool) (ys : List ((o : Outline) × Same o)) → Same (roll-Outline (level w b (map (λ (y : (o : Outline) × Same o). y.0) ys)))
  rolled_same w b ys =
      let os = map (λ (y : (o : Outline) × Same o). y.0) ys in
      goes w b os ∙ ap (λ (xs : List A). step (level w b xs)) (same_parts ys) ∙ sym (fold-roll-Outline A step (level w b os))

  pub fold_same : (o : Outline) → f o ≡ fold-Outline A step o
  fold_same o = by_parts Same rolled_same o

pub fold-outline : (A : Type 0) (step : Outline-F A → A) (w : What) (os : List Outline) → fold-Outline A step (outline w os) ≡ step (level w (is_name w || list_any has_name os) (map (fold-Outline A step) os))
fold-outline A step w os = fold-roll-Outline A step (level w (is_name w || list_any has_name os) os)
