-- Two functions made by steps over checked expressions go together, if their steps do at each level.
use Rattle.std.proofs.Common.{◌≡◌, Some, None, refl, sym, ap, subst, ◌∙◌}
use Rattle.scalar_trees.specs.declared.tree.CheckedExpr.{CheckedExpr, fold-CheckedExpr, fold-roll-CheckedExpr, roll-CheckedExpr, map-CheckedExpr, ind-CheckedExpr}
use Rattle.scalar_trees.specs.declared.tree.CheckedExpr.TheOpen.{CheckedExpr-F}

map-map : (X Y Z : Type 0) (g : X → Y) (h : Y → Z) (x : CheckedExpr-F X) → map-CheckedExpr Y Z h (map-CheckedExpr X Y g x) ≡ map-CheckedExpr X Z (λ e. h (g e)) x
map-map X Y Z g h (CheckedExpr-F.Literal v) = refl
map-map X Y Z g h (CheckedExpr-F.Component n) = refl
map-map X Y Z g h (CheckedExpr-F.Widened a) = refl
map-map X Y Z g h (CheckedExpr-F.Unary o a) = refl
map-map X Y Z g h (CheckedExpr-F.Binary o a b) = refl
map-map X Y Z g h (CheckedExpr-F.Nvl a b) = refl
map-map X Y Z g h (CheckedExpr-F.If c a b) = refl
map-map X Y Z g h (CheckedExpr-F.In a sign set) = refl
map-map X Y Z g h (CheckedExpr-F.Between a low high) = refl
map-map X Y Z g h (CheckedExpr-F.Round f a digits) = refl
map-map X Y Z g h (CheckedExpr-F.Substr a None None) = refl
map-map X Y Z g h (CheckedExpr-F.Substr a None (Some c)) = refl
map-map X Y Z g h (CheckedExpr-F.Substr a (Some b) None) = refl
map-map X Y Z g h (CheckedExpr-F.Substr a (Some b) (Some c)) = refl
map-map X Y Z g h (CheckedExpr-F.Replace a b None) = refl
map-map X Y Z g h (CheckedExpr-F.Replace a b (Some c)) = refl
map-map X Y Z g h (CheckedExpr-F.Matches a pattern) = refl
map-map X Y Z g h (CheckedExpr-F.OfSort sort a) = refl
map-map X Y Z g h (CheckedExpr-F.Aggregate f n) = refl
map-map X Y Z g h CheckedExpr-F.CountAll = refl

module _ (A B : Type 0) (R : A → B → Type 0) where
  -- what a part has of both, and that it goes together
  pub record Both : Type 0 where
    pub first : A
    pub second : B
    pub agree : R first second

  pub related : (f : CheckedExpr-F A → A) (g : CheckedExpr-F B → B)
      → ((y : CheckedExpr-F Both) → R (f (map-CheckedExpr Both A (λ e. e.first) y)) (g (map-CheckedExpr Both B (λ e. e.second) y)))
      → (d : CheckedExpr) → R (fold-CheckedExpr A f d) (fold-CheckedExpr B g d)
  related f g step d =
      let P : CheckedExpr → Type 0 = λ e. R (fold-CheckedExpr A f e) (fold-CheckedExpr B g e) in
      let Known : Type 0 = (e : CheckedExpr) × P e in
      let whole : Known → CheckedExpr = λ e. e.0 in
      let parts : Known → Both = λ e. record { first = fold-CheckedExpr A f e.0; second = fold-CheckedExpr B g e.0; agree = e.1 } in
      ind-CheckedExpr P
      (λ x y is.
      let z : CheckedExpr-F Both = map-CheckedExpr Known Both parts y in
      let left : map-CheckedExpr Both A (λ e. e.first) z ≡ map-CheckedExpr CheckedExpr A (fold-CheckedExpr A f) x = map-map Known Both A parts (λ e. e.first) y ∙ (sym (map-map Known CheckedExpr A whole (fold-CheckedExpr A f) y) ∙ ap (map-CheckedExpr CheckedExpr A (fold-CheckedExpr A f)) is) in
      let right : map-CheckedExpr Both B (λ e. e.second) z ≡ map-CheckedExpr CheckedExpr B (fold-CheckedExpr B g) x = map-map Known Both B parts (λ e. e.second) y ∙ (sym (map-map Known CheckedExpr B whole (fold-CheckedExpr B g) y) ∙ ap (map-CheckedExpr CheckedExpr B (fold-CheckedExpr B g)) is) in
      let a : f (map-CheckedExpr Both A (λ e. e.first) z) ≡ fold-CheckedExpr A f (roll-CheckedExpr x) = ap f left ∙ sym (fold-roll-CheckedExpr A f x) in
      let b : g (map-CheckedExpr Both B (λ e. e.second) z) ≡ fold-CheckedExpr B g (roll-CheckedExpr x) = ap g right ∙ sym (fold-roll-CheckedExpr B g x) in
      subst (λ (v : B). R (fold-CheckedExpr A f (roll-CheckedExpr x)) v) b (subst (λ (u : A). R u (g (map-CheckedExpr Both B (λ e. e.second) z))) a (step z)))
      d
