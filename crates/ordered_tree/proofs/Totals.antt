-- The measures of lists.
use Rattle.std.proofs.Common.{◌≡◌, List, [], ◌∷◌, ◌++◌, sym, ap, ◌∙◌}
use Rattle.ordered_tree.specs.Measures.{MonoidLaws, total}

-- the measure of two lists, one after the other
pub total-++ : {T M : Type 0} {nothing : M} {join : M → M → M} → MonoidLaws nothing join → (of : T → M) (xs ys : List T) → total nothing join of (xs ++ ys) ≡ join (total nothing join of xs) (total nothing join of ys)
total-++ laws of [] ys = sym (laws.left _)
total-++ {T} {M} {nothing} {join} laws of (x ∷ xs) ys = ap (join (of x)) (total-++ laws of xs ys) ∙ sym (laws.assoc (of x) (total nothing join of xs) (total nothing join of ys))
