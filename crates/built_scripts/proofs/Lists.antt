-- Lists that a loop goes through.
use Rattle.std.proofs.Common.{◌≡◌, ◌<◌, ◌+◌, ◌++◌, ◌&&◌, ℕ, List, [], ◌∷◌, Bool, true, get_or, length, take, sym, ◌∙◌, ap, subst}
use Rattle.std.specs.List.{All, list_all}
use Rattle.std.proofs.lemmas.List.{take_more}
use Rattle.std.proofs.lemmas.List.Elements.{All-push}
use Rattle.std.proofs.lemmas.List.Folds.{list_all_more}

-- one item more
pub all-more : {A : Type 0} (P : A → Type 0) (xs : List A) (i : ℕ) (x : A) → i < length xs → x ≡ get_or xs i x → All P (take i xs) → P x → All P (take (i + 1) xs)
all-more {A} P xs i x l is h p = subst (λ (ys : List A). All P ys) (sym (take_more xs i x l ∙ ap (λ (y : A). take i xs ++ y ∷ []) (sym is))) (All-push P (take i xs) x h p)

pub true-more : {A : Type 0} (p : A → Bool) (xs : List A) (i : ℕ) (x : A) → i < length xs → x ≡ get_or xs i x → list_all p (take i xs) ≡ true → p x ≡ true → list_all p (take (i + 1) xs) ≡ true
true-more p xs i x l is h q = list_all_more p xs i x l ∙ ap (λ b. b && p (get_or xs i x)) h ∙ ap p (sym is) ∙ q
