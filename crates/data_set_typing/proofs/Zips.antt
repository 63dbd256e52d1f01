-- Measures that meet in their order.
use Rattle.std.proofs.Common.{◌≡◌, refl, ℕ, zero, suc, ◌+◌, ◌<◌, List, [], ◌∷◌, ◌++◌, Option, Some, None, length, get_or, drop, ap, sym, ◌∙◌, add-one}
use Rattle.std.specs.Prelude.{zip}
use Rattle.std.specs.List.{cons_option}
use Rattle.std.proofs.lemmas.List.{drop_more, append_assoc}
use Rattle.std.proofs.Math.Seq.{drop-nil}
use Rattle.data_set_trees.specs.declared.measure.Measure.{Measure}
use Rattle.data_set_typing.specs.Meetings.{opposite}

zip_none : (ms : List Measure) → zip {K = Measure} {X = Measure} ms [] ≡ []
zip_none [] = refl
zip_none (m ∷ ms) = refl

next_pair : (m : Measure) (rest ns : List Measure) (i : ℕ) → zip (m ∷ rest) (drop i ns) ≡ cons_option (opposite ns i m) (zip rest (drop (suc i) ns))
next_pair m rest [] zero = sym (zip_none rest)
next_pair m rest [] (suc i) = ap (zip (m ∷ rest)) (drop-nil (suc i)) ∙ sym (ap (zip rest) (drop-nil (suc (suc i))) ∙ zip_none rest)
next_pair m rest (n ∷ ns) zero = refl
next_pair m rest (n ∷ ns) (suc i) = next_pair m rest ns i

at_item : (ms ns : List Measure) (i : ℕ) (m : Measure) (o : Option (Measure × Measure)) → i < length ms → m ≡ get_or ms i m → o ≡ opposite ns i m → zip (drop i ms) (drop i ns) ≡ cons_option o (zip (drop (i + 1) ms) (drop (i + 1) ns))
at_item ms ns i m o within read is =
    let rest = drop (i + 1) ms in
    ap (λ (q : List Measure). zip q (drop i ns)) (drop_more ms i m within ∙ ap (λ (p : Measure). p ∷ rest) (sym read))
    ∙ next_pair m rest ns i
    ∙ ap (λ (k : ℕ). cons_option (opposite ns i m) (zip rest (drop k ns))) (sym (add-one i))
    ∙ ap (λ (p : Option (Measure × Measure)). cons_option p (zip rest (drop (i + 1) ns))) (sym is)

-- a measure has an opposite
pub met_one : (ms ns : List Measure) (i : ℕ) (m : Measure) (pair : Measure × Measure) (all : List (Measure × Measure)) → i < length ms → m ≡ get_or ms i m → Some pair ≡ opposite ns i m → zip ms ns ≡ all ++ zip (drop i ms) (drop i ns) → zip ms ns ≡ (all ++ pair ∷ []) ++ zip (drop (i + 1) ms) (drop (i + 1) ns)
met_one ms ns i m pair all within read is so_far =
    let rest = zip (drop (i + 1) ms) (drop (i + 1) ns) in
    so_far ∙ ap (λ (q : List (Measure × Measure)). all ++ q) (at_item ms ns i m (Some pair) within read is) ∙ sym (append_assoc all (pair ∷ []) rest)

-- it has none
pub met_none : (ms ns : List Measure) (i : ℕ) (m : Measure) (all : List (Measure × Measure)) → i < length ms → m ≡ get_or ms i m → None ≡ opposite ns i m → zip ms ns ≡ all ++ zip (drop i ms) (drop i ns) → zip ms ns ≡ all ++ zip (drop (i + 1) ms) (drop (i + 1) ns)
met_none ms ns i m all within read is so_far = so_far ∙ ap (λ (q : List (Measure × Measure)). all ++ q) (at_item ms ns i m None within read is)
