-- The arguments with their sorts, one more.
use Rattle.std.proofs.Common.{◌≡◌, ℕ, suc, ◌+◌, ◌<◌, List, [], ◌∷◌, ◌++◌, Option, length, take, get_or, refl, sym, ap, ◌∙◌, add-one, zero-add, arith}
use Rattle.std.proofs.Math.Seq.{take-suc}
use Rattle.std.proofs.lemmas.List.{length-take-le}
use Rattle.std.specs.Prelude.{slice_get}
use Rattle.vtl_syntax.specs.declared.expr.Expr.{Expr}
use Rattle.vtl_syntax.specs.declared.operator.Param.{Param}
use Rattle.replaced_calls.specs.Replacing.{sorted_argument, sorted_from}

pub sorted-more : (ps : List Param) (i : ℕ) (as' : List Expr) (x : Expr) → sorted_from ps i (as' ++ x ∷ []) ≡ sorted_from ps i as' ++ sorted_argument (slice_get ps (i + length as')) x ∷ []
sorted-more ps i [] x = let e : i ≡ i + 0 = omega arith in ap (λ (j : ℕ). sorted_argument (slice_get ps j) x ∷ []) e
sorted-more ps i (a ∷ as') x =
    let e : (i + 1) + length as' ≡ i + suc (length as') = omega arith in
    ap (λ (k : List Expr). sorted_argument (slice_get ps i) a ∷ k) (sorted-more ps (i + 1) as' x ∙ ap (λ (j : ℕ). sorted_from ps (i + 1) as' ++ sorted_argument (slice_get ps j) x ∷ []) e)

-- one more round
pub sorted-next : (ps : List Param) (as' : List Expr) (i : ℕ) (m n : List Expr) (x a : Expr) (q : Option Param) → i < length as' → m ≡ sorted_from ps 0 (take i as')
    → q ≡ slice_get ps i → a ≡ get_or as' i a → x ≡ sorted_argument q a → n ≡ m ++ x ∷ [] → n ≡ sorted_from ps 0 (take (i + 1) as')
sorted-next ps as' i m n x a q within before found here is put =
    let len : 0 + length (take i as') ≡ i = ap (λ (k : ℕ). 0 + k) (length-take-le i as' (omega arith)) ∙ zero-add i in
    let more : take (i + 1) as' ≡ take i as' ++ a ∷ [] = ap (λ (k : ℕ). take k as') (add-one i) ∙ take-suc as' i a within ∙ ap (λ (e : Expr). take i as' ++ e ∷ []) (sym here) in
    put ∙ ap (λ (k : List Expr). k ++ x ∷ []) before
    ∙ ap (λ (y : Expr). sorted_from ps 0 (take i as') ++ y ∷ []) (is ∙ ap (λ (o : Option Param). sorted_argument o a) (found ∙ ap (slice_get ps) (sym len)))
    ∙ sym (ap (sorted_from ps 0) more ∙ sorted-more ps 0 (take i as') a)
