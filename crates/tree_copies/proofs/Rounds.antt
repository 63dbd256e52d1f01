-- Lists that grow by one.
use Rattle.std.proofs.Common.{◌≡◌, ℕ, ◌+◌, ◌<◌, List, [], ◌∷◌, ◌++◌, length, map, take, get_or, sym, ap, ◌∙◌, add-one}
use Rattle.std.proofs.Math.Seq.{take-suc}
use Rattle.std.proofs.lemmas.List.{map-append}

-- one more round
pub map_next : {A B : Type 0} (f : A → B) (xs : List A) (i : ℕ) (m n : List B) (y : B) (x : A) → i < length xs → m ≡ map f (take i xs) → x ≡ get_or xs i x → y ≡ f x → n ≡ m ++ y ∷ [] → n ≡ map f (take (i + 1) xs)
map_next f xs i m n y x within before here is put =
    let more : take (i + 1) xs ≡ take i xs ++ x ∷ [] = ap (λ k. take k xs) (add-one i) ∙ take-suc xs i x within ∙ ap (λ e. take i xs ++ e ∷ []) (sym here) in
    put ∙ ap (λ k. k ++ y ∷ []) before ∙ ap (λ z. map f (take i xs) ++ z ∷ []) is ∙ sym (ap (map f) more ∙ map-append f (take i xs) (x ∷ []))
