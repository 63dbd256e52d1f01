-- A walk over a list that keeps what a function gives of its items.
use Rattle.std.proofs.Common.{◌≡◌, ℕ, ◌+◌, ◌<◌, List, [], ◌∷◌, ◌++◌, Option, Some, None, length, get_or, drop, ap, sym, ◌∙◌}
use Rattle.std.specs.List.{filter_map, cons_option}
use Rattle.std.proofs.lemmas.List.{drop_more, append_assoc}

-- what is left at an item, and at the next one
at_item : {X Y : Type 0} (h : X → Option Y) (xs : List X) (i : ℕ) (x : X) (o : Option Y) → i < length xs → x ≡ get_or xs i x → o ≡ h x → filter_map h (drop i xs) ≡ cons_option o (filter_map h (drop (i + 1) xs))
at_item {X} {Y} h xs i x o within read is =
    let rest = drop (i + 1) xs in
    ap (filter_map h) (drop_more xs i x within ∙ ap (λ (y : X). y ∷ rest) (sym read)) ∙ ap (λ (q : Option Y). cons_option q (filter_map h rest)) (sym is)

-- something is kept
pub kept : {X Y : Type 0} (h : X → Option Y) (xs : List X) (i : ℕ) (x : X) (y : Y) (all : List Y) → i < length xs → x ≡ get_or xs i x → Some y ≡ h x → filter_map h xs ≡ all ++ filter_map h (drop i xs) → filter_map h xs ≡ (all ++ y ∷ []) ++ filter_map h (drop (i + 1) xs)
kept {X} {Y} h xs i x y all within read is so_far =
    let rest = filter_map h (drop (i + 1) xs) in
    so_far ∙ ap (λ (q : List Y). all ++ q) (at_item h xs i x (Some y) within read is) ∙ sym (append_assoc all (y ∷ []) rest)

-- nothing is
pub passed : {X Y : Type 0} (h : X → Option Y) (xs : List X) (i : ℕ) (x : X) (all : List Y) → i < length xs → x ≡ get_or xs i x → None ≡ h x → filter_map h xs ≡ all ++ filter_map h (drop i xs) → filter_map h xs ≡ all ++ filter_map h (drop (i + 1) xs)
passed {X} {Y} h xs i x all within read is so_far = so_far ∙ ap (λ (q : List Y). all ++ q) (at_item h xs i x None within read is)
