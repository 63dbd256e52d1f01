-- Lists of texts that are the same.
use Rattle.std.proofs.Common.{◌≡◌, ℕ, Bool, true, false, ◌&&◌, List, [], ◌∷◌, refl, sym, nat_eq}
use Rattle.std.specs.Cmp.Lexicographic.{pointwise, same_text}

both_hold : (a b : Bool) → (a && b) ≡ true → (a ≡ true) × (b ≡ true)
both_hold true b is = (refl, is)
both_hold false b is = cc

pub texts_same : (xs ys : List (List ℕ)) → pointwise (pointwise nat_eq) xs ys ≡ true → xs ≡ ys
texts_same [] [] is = refl
texts_same [] (y ∷ ys) is = cc
texts_same (x ∷ xs) [] is = cc
texts_same (x ∷ xs) (y ∷ ys) is =
    let both = both_hold (pointwise nat_eq x y) (pointwise (pointwise nat_eq) xs ys) is in
    λ i. same_text x y (sym both.0) i ∷ texts_same xs ys both.1 i
