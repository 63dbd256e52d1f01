-- Lists that grow by an item.
use Rattle.std.proofs.Common.{◌≡◌, ℕ, zero, suc, ◌+◌, ◌<◌, ◌≤◌, List, [], ◌∷◌, ◌++◌, map, filter, zip, take, drop, length, get_or, Bool, true, false, cond, ◌||◌, Some, refl, sym, ap, ◌∙◌, append_assoc, add-one, arith}
use Rattle.std.specs.Prelude.{flat_map, fold, slice_get}
use Rattle.std.specs.FinMap.{get}
use Rattle.std.specs.Option.{is_none}
use Rattle.std.specs.List.{list_any, range_with_len}
use Rattle.std.specs.Ordering.{nat_cmp}
use Rattle.std.proofs.Math.Seq.{drop-cons}
use Rattle.std.proofs.lemmas.Bool.{false≢true}
use Rattle.std.proofs.lemmas.Grind.{flat_map-append}
use Rattle.std.proofs.lemmas.List.{append-nil, length-map, map-append, take_all, take_more}
use Rattle.std.proofs.lemmas.List.Elements.{filter-append}
use Rattle.std.proofs.lemmas.List.Sums.{fold-append}
use Rattle.std.proofs.lemmas.Option.{slice_get-get_or}
use Rattle.std.proofs.lemmas.Slice.Zip.{get_or-zip, length-zip}
use Rattle.point_sets.specs.Changes.{Changes}
use Rattle.held_index.specs.Holdings.{Holding}
use Rattle.held_index.specs.Walks.{PointValues}
use Rattle.cross_joins.specs.declared.rows.Side.{Side}
use Rattle.cross_joins.specs.Combinations.{Combination, choices, combinations_of, with_each_first}
use Rattle.cross_joins.specs.Rows.{RowValues, all_rows, is_chosen, kept_row, kept_rows, rows_of}

pub map-more : {A B : Type 0} (f : A → B) (xs : List A) (i : ℕ) (x : A) → i < length xs → x ≡ get_or xs i x → map f (take (i + 1) xs) ≡ map f (take i xs) ++ f x ∷ []
map-more f xs i x within at = ap (map f) (take_more xs i x within ∙ ap (λ y. take i xs ++ y ∷ []) (sym at)) ∙ map-append f (take i xs) (x ∷ [])

pub drop-more : {A : Type 0} (xs : List A) (i : ℕ) (x : A) → i < length xs → x ≡ get_or xs i x → drop i xs ≡ x ∷ drop (i + 1) xs
drop-more xs i x within at = drop-cons xs i x within ∙ (λ k. sym at k ∷ drop (sym (add-one i) k) xs)

pub range-more : (n a j : ℕ) → a + n ≡ j → range_with_len a (n + 1) ≡ range_with_len a n ++ j ∷ []
range-more zero a j is = let here : a ≡ j = omega (arith, is) in ap (λ k. k ∷ []) here
range-more (suc n) a j is =
    let next : suc n + 1 ≡ suc (n + 1) = omega arith in
    ap (range_with_len a) next ∙ ap (λ (ns : List ℕ). a ∷ ns) (range-more n (a + 1) j (omega (arith, is)))

-- ---- combinations

-- with one row more
pub each-more : (rows more : List RowValues) (r : RowValues) (cs : List Combination) → more ≡ rows ++ r ∷ [] → with_each_first more cs ≡ with_each_first rows cs ++ map (λ c. r ∷ c) cs
each-more rows more r cs is =
    ap (λ (rs : List RowValues). with_each_first rs cs) is
    ∙ flat_map-append (λ (q : RowValues). map (λ (c : Combination). q ∷ c) cs) rows (r ∷ [])
    ∙ ap (λ (ds : List Combination). with_each_first rows cs ++ ds) (append-nil (map (λ (c : Combination). r ∷ c) cs))

-- with one list more
pub combinations-more : (lists : List (List RowValues)) (i k : ℕ) (rows : List RowValues) (cs all : List Combination) → i < length lists → rows ≡ get_or lists i rows → k ≡ i + 1 → cs ≡ combinations_of (drop k lists) → all ≡ with_each_first rows cs → all ≡ combinations_of (drop i lists)
combinations-more lists i k rows cs all within at next later is =
    is ∙ ap (with_each_first rows) (later ∙ ap (λ n. combinations_of (drop n lists)) next) ∙ sym (ap combinations_of (drop-more lists i rows within at))

-- ---- choices

pub nothing-chosen : {A : Type 0} (f : A → RowValues) (p : RowValues → Bool) (xs : List A) → list_any (λ x. p (f x)) xs ≡ false → filter p (map f xs) ≡ []
nothing-chosen f p [] h = refl
nothing-chosen f p (x ∷ xs) h = by_test (p (f x)) (nothing-chosen f p xs) h
  where
    by_test : (b : Bool) → (list_any (λ y. p (f y)) xs ≡ false → filter p (map f xs) ≡ []) → (b || list_any (λ y. p (f y)) xs) ≡ false → cond b (f x ∷ filter p (map f xs)) (filter p (map f xs)) ≡ []
    by_test true later i = cc
    by_test false later i = later i

each-of-none : (rows : List RowValues) → with_each_first rows [] ≡ []
each-of-none [] = refl
each-of-none (r ∷ rows) = each-of-none rows

-- where an operand has no choice there is no combination
pub no-combinations : (side : Side) (first number place i : ℕ) (lists : List (List RowValues)) (rows : List RowValues) → place ≡ number + i → i < length lists → rows ≡ get_or lists i rows → filter (is_chosen side (nat_cmp place first)) rows ≡ [] → combinations_of (choices side first number lists) ≡ []
no-combinations side first number place i [] rows is within at none = absurd (omega (arith, within))
no-combinations side first number place zero (l ∷ lists) rows is within at none =
    let here : place ≡ number = omega (arith, is) in
    let own : filter (is_chosen side (nat_cmp number first)) l ≡ [] = (λ k. filter (is_chosen side (nat_cmp (sym here k) first)) (sym at k)) ∙ none in
    ap (λ (rs : List RowValues). with_each_first rs (combinations_of (choices side first (number + 1) lists))) own
no-combinations side first number place (suc i) (l ∷ lists) rows is within at none =
    let later = no-combinations side first (number + 1) place i lists rows (omega (arith, is)) (omega (arith, within)) at none in
    ap (with_each_first (filter (is_chosen side (nat_cmp number first)) l)) later ∙ each-of-none (filter (is_chosen side (nat_cmp number first)) l)

some-chosen : {A : Type 0} (f : A → RowValues) (p : RowValues → Bool) (xs : List A) → list_any (λ x. p (f x)) xs ≡ true → filter p (map f xs) ≡ [] → ⊥
some-chosen f p [] h e = false≢true h
some-chosen f p (x ∷ xs) h e = by_test (p (f x)) (some-chosen f p xs) h e
  where
    by_test : (b : Bool) → (list_any (λ y. p (f y)) xs ≡ true → filter p (map f xs) ≡ [] → ⊥) → (b || list_any (λ y. p (f y)) xs) ≡ true → cond b (f x ∷ filter p (map f xs)) (filter p (map f xs)) ≡ [] → ⊥
    by_test true later i none = cc
    by_test false later i none = later i none

none-of-some : (rows : List RowValues) (cs : List Combination) → (rows ≡ [] → ⊥) → with_each_first rows cs ≡ [] → cs ≡ []
none-of-some [] cs some none = absurd (some refl)
none-of-some (r ∷ rows) [] some none = refl
none-of-some (r ∷ rows) (c ∷ cs) some none = cc

-- where an operand has a choice and there is no combination, there is none of the operands after it
pub no-later-combinations : {A : Type 0} (side : Side) (first i : ℕ) (lists : List (List RowValues)) (f : A → RowValues) (xs : List A) → i < length lists → map f xs ≡ get_or lists i (map f xs)
    → list_any (λ x. is_chosen side (nat_cmp i first) (f x)) xs ≡ true → combinations_of (choices side first i (drop i lists)) ≡ [] → combinations_of (choices side first (i + 1) (drop (i + 1) lists)) ≡ []
no-later-combinations side first i lists f xs within at some none =
    none-of-some (filter (is_chosen side (nat_cmp i first)) (map f xs)) (combinations_of (choices side first (i + 1) (drop (i + 1) lists))) (some-chosen f (is_chosen side (nat_cmp i first)) xs some)
    (sym (ap (λ (ls : List (List RowValues)). combinations_of (choices side first i ls)) (drop-more lists i (map f xs) within at)) ∙ none)

-- one operand more
pub choices-more : (side : Side) (first i : ℕ) (lists all : List (List RowValues)) (rows chosen : List RowValues) → i < length lists → rows ≡ get_or lists i rows → chosen ≡ filter (is_chosen side (nat_cmp i first)) rows
    → choices side first 0 lists ≡ all ++ choices side first i (drop i lists) → choices side first 0 lists ≡ (all ++ chosen ∷ []) ++ choices side first (i + 1) (drop (i + 1) lists)
choices-more side first i lists all rows chosen within at is h =
    h ∙ ap (λ (ls : List (List RowValues)). all ++ choices side first i ls) (drop-more lists i rows within at)
    ∙ (λ k. all ++ (sym is k ∷ choices side first (i + 1) (drop (i + 1) lists)))
    ∙ sym (append_assoc all (chosen ∷ []) (choices side first (i + 1) (drop (i + 1) lists)))

-- ---- rows

-- the row of one point more
pub kept-more : (news : Changes) (ps : List PointValues) (i : ℕ) (p : PointValues) (first before next : List RowValues) → i < length ps → Some p ≡ slice_get ps i → before ≡ first ++ kept_rows news (take i ps) → next ≡ before ++ kept_rows news (p ∷ []) → next ≡ first ++ kept_rows news (take (i + 1) ps)
kept-more news ps i p first before next within found was is =
    let stays : RowValues → Bool = λ r. is_none (get news r.key) in
    let rows : List RowValues = map kept_row (take i ps) in
    let at : p ≡ get_or ps i p = some_same (found ∙ slice_get-get_or ps i p within) in
    let longer : kept_rows news (take (i + 1) ps) ≡ kept_rows news (take i ps) ++ kept_rows news (p ∷ []) =
    ap (filter stays) (map-more kept_row ps i p within at) ∙ filter-append stays rows (kept_row p ∷ []) in
    is ∙ ap (λ (rs : List RowValues). rs ++ kept_rows news (p ∷ [])) was ∙ append_assoc first (kept_rows news (take i ps)) (kept_rows news (p ∷ [])) ∙ ap (λ (rs : List RowValues). first ++ rs) (sym longer)
  where
    some_same : {q : PointValues} → Some p ≡ Some q → p ≡ q
    some_same e = cc

-- the rows of one operand more
pub rows-more : (held : List Holding) (news : List Changes) (i : ℕ) (h : Holding) (d : Changes) (all next : List (List RowValues)) → i < length held → i < length news → h ≡ get_or held i h → d ≡ get_or news i d
    → all ≡ map (λ (q : Holding × Changes). rows_of q.0 q.1) (take i (zip held news)) → next ≡ all ++ rows_of h d ∷ [] → next ≡ map (λ (q : Holding × Changes). rows_of q.0 q.1) (take (i + 1) (zip held news))
rows-more held news i h d all next within inside at own was is =
    let f : Holding × Changes → List RowValues = λ q. rows_of q.0 q.1 in
    let here : (h, d) ≡ get_or (zip held news) i (h, d) = (λ k. (at k, own k)) ∙ sym (get_or-zip held news i (h, d) within inside) in
    let long = length-zip held news in
    is ∙ ap (λ (ls : List (List RowValues)). ls ++ rows_of h d ∷ []) was ∙ sym (map-more f (zip held news) i (h, d) (omega (arith, within, inside, long)) here)

-- those of all
pub rows-end : (held : List Holding) (news : List Changes) (i : ℕ) (all : List (List RowValues)) → length held ≤ i → all ≡ map (λ (q : Holding × Changes). rows_of q.0 q.1) (take i (zip held news)) → all ≡ all_rows held news
rows-end held news i all past was = let long = length-zip held news in was ∙ ap (λ (qs : List (Holding × Changes)). map (λ (q : Holding × Changes). rows_of q.0 q.1) qs) (take_all i (zip held news) (omega (arith, past, long)))

-- ---- what is noted of one after the other

-- of one item more
pub fold-more : {A B Y : Type 0} (f : Y → B → Y) (g : A → B) (a : Y) (xs : List A) (i : ℕ) (x : A) (n m : Y) → i < length xs → x ≡ get_or xs i x → n ≡ fold f a (map g (take i xs)) → m ≡ f n (g x) → m ≡ fold f a (map g (take (i + 1) xs))
fold-more f g a xs i x n m within at was is = is ∙ ap (λ y. f y (g x)) was ∙ sym (ap (fold f a) (map-more g xs i x within at) ∙ fold-append f a (map g (take i xs)) (g x ∷ []))

-- of all items of one list more
pub fold-lists : {B Y : Type 0} (f : Y → B → Y) (g : ℕ → List B) (a : Y) (i : ℕ) (n m : Y) → n ≡ fold f a (flat_map g (range_with_len 0 i)) → m ≡ fold f n (g i) → m ≡ fold f a (flat_map g (range_with_len 0 (i + 1)))
fold-lists f g a i n m was is =
    let all : flat_map g (range_with_len 0 (i + 1)) ≡ flat_map g (range_with_len 0 i) ++ g i =
    ap (flat_map g) (range-more i 0 i (omega arith)) ∙ flat_map-append g (range_with_len 0 i) (i ∷ []) ∙ ap (λ ys. flat_map g (range_with_len 0 i) ++ ys) (append-nil (g i)) in
    is ∙ ap (λ y. fold f y (g i)) was ∙ sym (ap (fold f a) all ∙ fold-append f a (flat_map g (range_with_len 0 i)) (g i))

-- ---- how many rows there are

pub rows-long : (held : List Holding) (news : List Changes) (n : ℕ) → length held ≡ n → length news ≡ n → length (all_rows held news) ≡ n
rows-long held news n held_long news_long =
    let long = length-zip held news in
    length-map (zip held news) (λ (q : Holding × Changes). rows_of q.0 q.1) ∙ (omega (arith, held_long, news_long, long))
