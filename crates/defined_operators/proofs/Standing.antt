-- Whether a name stands in an outline: at its top, or in one of its parts.
use Rattle.std.proofs.Common.{◌≡◌, ℕ, ◌+◌, ◌<◌, Bool, true, false, ◌||◌, List, [], ◌∷◌, length, map, drop, get_or, refl, sym, ap, ◌∙◌}
use Rattle.std.specs.List.{list_any}
use Rattle.std.proofs.lemmas.List.{at_drop_more}
use Rattle.operator_faults.specs.declared.outline.Outline.{Outline, out-Outline, fold_out-Outline}
use Rattle.defined_operators.specs.Uses.{is_name, stands_step, stands_in}

any-map : {A : Type 0} (f : A → Bool) (xs : List A) → list_any (λ (b : Bool). b) (map f xs) ≡ list_any f xs
any-map f [] = refl
any-map f (x ∷ xs) = ap (λ (b : Bool). f x || b) (any-map f xs)

pub stands-is : (w : List ℕ) (o : Outline) → stands_in w o ≡ (is_name w (out-Outline o).what || list_any (stands_in w) (out-Outline o).parts)
stands-is w o = fold_out-Outline Bool (stands_step w) o ∙ ap (λ (b : Bool). is_name w (out-Outline o).what || b) (any-map (stands_in w) (out-Outline o).parts)

-- it is no name of its own, so it has to stand in a part
pub stands-inside : (w : List ℕ) (o : Outline) (b : Bool) → is_name w (out-Outline o).what ≡ false → b ≡ list_any (stands_in w) (out-Outline o).parts → b ≡ stands_in w o
stands-inside w o b no_name is = is ∙ sym (stands-is w o ∙ ap (λ (c : Bool). c || list_any (stands_in w) (out-Outline o).parts) no_name)

-- in what is left, one part first
pub stands-drop : (w : List ℕ) (xs : List Outline) (i : ℕ) (x : Outline) → i < length xs → x ≡ get_or xs i x → list_any (stands_in w) (drop i xs) ≡ (stands_in w x || list_any (stands_in w) (drop (i + 1) xs))
stands-drop w xs i x within here = at_drop_more (list_any (stands_in w)) xs i x within ∙ ap (λ (y : Outline). stands_in w y || list_any (stands_in w) (drop (i + 1) xs)) (sym here)
