-- The order of keys.
use Rattle.std.proofs.Common.{◌≡◌, List, [], ◌∷◌, refl}
use Rattle.std.specs.declared.cmp.Ordering.{Ordering}
use Rattle.std.specs.Ordering.{ordering_then}
use Rattle.std.specs.Cmp.Lexicographic.{slice_cmp}

-- lists in two orders of their items that are the same
pub slice_cmp-same : {K : Type 0} {R S : K → K → Ordering} → ((x y : K) → R x y ≡ S x y) → (xs ys : List K) → slice_cmp R xs ys ≡ slice_cmp S xs ys
slice_cmp-same is [] [] = refl
slice_cmp-same is [] (y ∷ ys) = refl
slice_cmp-same is (x ∷ xs) [] = refl
slice_cmp-same is (x ∷ xs) (y ∷ ys) = λ i. ordering_then (is x y i) (slice_cmp-same is xs ys i)
