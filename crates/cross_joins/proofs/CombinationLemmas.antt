-- Which combinations there are in which a row is changed.
use Rattle.std.proofs.Common.{◌≡◌, ℕ, zero, suc, ◌+◌, ◌<◌, ◌≤◌, ◌⊎◌, inl, inr, List, [], ◌∷◌, ◌++◌, map, filter, zip, length, Bool, true, false, ◌||◌, ◌&&◌, Option, Some, None, refl, ap, subst, ◌∙◌, arith}
use Rattle.std.specs.Prelude.{flat_map}
use Rattle.std.specs.Option.{is_some}
use Rattle.std.specs.List.{All, AllByRecursion, AllZip, range_with_len}
use Rattle.std.specs.Ordering.{eq_by_cmp, nat_cmp}
use Rattle.std.specs.FinMap.{get}
use Rattle.std.specs.declared.cmp.Ordering.{Ordering}
use Rattle.std.specs.declared.cmp.Ordering.TheVariants.{Less, Equal, Greater}
use Rattle.std.proofs.lemmas.Bool.{cases_lt}
use Rattle.std.proofs.lemmas.Bool.Decides.{nat_tests}
use Rattle.std.proofs.lemmas.List.{map-append}
use Rattle.std.proofs.lemmas.List.Elements.{All-cons, All-nil}
use Rattle.std.proofs.lemmas.List.Folds.{list_any-append}
use Rattle.vtl_values.specs.declared.value.Value.{Value}
use Rattle.vtl_values.specs.Order.{key_cmp}
use Rattle.vtl_values.proofs.Values.{key_cmp-IsTotalOrder, key_cmp-IsAntisymmetric}
use Rattle.data_model.specs.Deltas.{Pair, BeginsAt, apply}
use Rattle.data_model.specs.Maps.{is_listed}
use Rattle.data_model.proofs.MapLemmas.{tied, tied_to_itself}
use Rattle.point_sets.specs.Changes.{Changes}
use Rattle.point_sets.specs.DataSets.{DataSet}
use Rattle.scalar_trees.proofs.typing.Sound.{left, right}
use Rattle.operator_meaning.proofs.pairs.Names.{either-left, either-right}
use Rattle.operator_meaning.proofs.joins.Crossed.{flat, listed-map}
use Rattle.cross_joins.specs.Combinations.{Combination, changed_combinations, choices, combinations_of, first_changed_at, with_each_first}
use Rattle.cross_joins.specs.Rows.{RowValues, is_chosen, may_stand}
use Rattle.cross_joins.specs.declared.rows.Side.{Side}
use Rattle.cross_joins.specs.declared.rows.Side.TheVariants.{Before, After}
use Rattle.cross_joins.proofs.RowLemmas.{IsChosenOf, IsRowOf, all-append, all-map, all-weaker, chosen-are, keys_of, row-chosen, rows-are, rows_on, set_on}

-- ---- what combinations are made of

abbrev pub Turned : Type 0
Turned = DataSet × DataSet

module _ (P : Turned → RowValues → Type 0) where
  each-are : (q : Turned) (qs : List Turned) (cs : List Combination) → AllByRecursion (λ c. AllZip P qs c) cs → (rs : List RowValues) → AllByRecursion (P q) rs → AllByRecursion (λ c. AllZip P (q ∷ qs) c) (with_each_first rs cs)
  each-are q qs cs later [] all = tt
  each-are q qs cs later (r ∷ rs) all =
      all-append (λ c. AllZip P (q ∷ qs) c) (map (λ c. r ∷ c) cs) (with_each_first rs cs) (all-map (λ c. AllZip P (q ∷ qs) c) (λ c. r ∷ c) cs (each cs later)) (each-are q qs cs later rs all.1)
    where
      each : (ds : List Combination) → AllByRecursion (λ c. AllZip P qs c) ds → AllByRecursion (λ c. P q r × AllZip P qs c) ds
      each [] more = tt
      each (c ∷ ds) more = ((all.0, more.0), each ds more.1)

  combinations-are : (qs : List Turned) (lists : List (List RowValues)) → AllZip (λ q rs. AllByRecursion (P q) rs) qs lists → AllByRecursion (λ c. AllZip P qs c) (combinations_of lists)
  combinations-are [] [] all = (tt, tt)
  combinations-are [] (rs ∷ lists) all = absurd all
  combinations-are (q ∷ qs) [] all = absurd all
  combinations-are (q ∷ qs) (rs ∷ lists) all = each-are q qs (combinations_of lists) (combinations-are qs lists all.1) rs all.0

choices-are : (side : Side) (first number : ℕ) (qs : List Turned) (lists : List (List RowValues)) → AllZip (λ q rs. AllByRecursion (IsRowOf q) rs) qs lists → AllZip (λ q rs. AllByRecursion (IsChosenOf side q) rs) qs (choices side first number lists)
choices-are side first number [] [] all = tt
choices-are side first number [] (rs ∷ lists) all = absurd all
choices-are side first number (q ∷ qs) [] all = absurd all
choices-are side first number (q ∷ qs) (rs ∷ lists) all = (chosen-are side (nat_cmp number first) q rs all.0, choices-are side first (number + 1) qs lists all.1)

all-flat_map : (P : Combination → Type 0) (f : ℕ → List Combination) → ((i : ℕ) → AllByRecursion P (f i)) → (ns : List ℕ) → AllByRecursion P (flat_map f ns)
all-flat_map P f each [] = tt
all-flat_map P f each (n ∷ ns) = all-append P (f n) (flat_map f ns) (each n) (all-flat_map P f each ns)

-- the operands before their news and after them, and their rows
abbrev pub turned_all : List DataSet → List Changes → List Turned
turned_all xs ds = map (λ (p : DataSet × Changes). (p.0, apply p.1 p.0)) (zip xs ds)

abbrev pub rows_all : List DataSet → List Changes → List (List RowValues)
rows_all xs ds = map (λ (p : DataSet × Changes). rows_on p.0 p.1) (zip xs ds)

all-rows-are : (xs : List DataSet) (ds : List Changes) → AllZip BeginsAt ds xs → AllZip (λ q rs. AllByRecursion (IsRowOf q) rs) (turned_all xs ds) (rows_all xs ds)
all-rows-are [] [] begins = tt
all-rows-are [] (d ∷ ds) begins = absurd begins
all-rows-are (a ∷ xs) [] begins = absurd begins
all-rows-are (a ∷ xs) (d ∷ ds) begins = (rows-are a d begins.0, all-rows-are xs ds begins.1)

-- the combinations of the points before the news and of those after them in which a row is changed
abbrev pub changed_both : List (List RowValues) → List Combination
changed_both rows = changed_combinations Before rows ++ changed_combinations After rows

-- a combination has of each operand what there is on the side
pub changed-are : (side : Side) (xs : List DataSet) (ds : List Changes) → AllZip BeginsAt ds xs → AllByRecursion (λ c. AllZip (IsChosenOf side) (turned_all xs ds) c) (changed_combinations side (rows_all xs ds))
changed-are side xs ds begins =
    all-flat_map (λ c. AllZip (IsChosenOf side) (turned_all xs ds) c) (first_changed_at side (rows_all xs ds))
    (λ first. combinations-are (IsChosenOf side) (turned_all xs ds) (choices side first 0 (rows_all xs ds)) (choices-are side first 0 (turned_all xs ds) (rows_all xs ds) (all-rows-are xs ds begins)))
    (range_with_len 0 (length (rows_all xs ds)))

-- ---- how long combinations are

all-from : {X : Type 0} (P : X → Type 0) (xs : List X) → AllByRecursion P xs → All P xs
all-from P [] all = All-nil P
all-from P (x ∷ xs) all = All-cons P x xs all.0 (all-from P xs all.1)

choices-long : (side : Side) (first number : ℕ) (lists : List (List RowValues)) → length (choices side first number lists) ≡ length lists
choices-long side first number [] = refl
choices-long side first number (rs ∷ lists) = let later = choices-long side first (number + 1) lists in omega (arith, later)

each-long : (n : ℕ) (cs : List Combination) → AllByRecursion (λ c. length c ≡ n) cs → (rs : List RowValues) → AllByRecursion (λ c. length c ≡ n + 1) (with_each_first rs cs)
each-long n cs all [] = tt
each-long n cs all (r ∷ rs) =
    all-append (λ c. length c ≡ n + 1) (map (λ c. r ∷ c) cs) (with_each_first rs cs)
    (all-map (λ c. length c ≡ n + 1) (λ c. r ∷ c) cs (all-weaker (λ c. length c ≡ n) (λ c. length (r ∷ c) ≡ n + 1) (λ c long. omega (arith, long)) cs all)) (each-long n cs all rs)

combinations-long : (lists : List (List RowValues)) → AllByRecursion (λ c. length c ≡ length lists) (combinations_of lists)
combinations-long [] = (refl, tt)
combinations-long (rs ∷ lists) =
    all-weaker (λ c. length c ≡ length lists + 1) (λ c. length c ≡ length (rs ∷ lists)) (λ c long. omega (arith, long)) (with_each_first rs (combinations_of lists)) (each-long (length lists) (combinations_of lists) (combinations-long lists) rs)

-- as many rows as there are operands
pub first_changed-long : (side : Side) (rows : List (List RowValues)) (first n : ℕ) → length rows ≡ n → All (λ c. length c ≡ n) (first_changed_at side rows first)
first_changed-long side rows first n long =
    all-from (λ c. length c ≡ n) (first_changed_at side rows first)
    (all-weaker (λ c. length c ≡ length (choices side first 0 rows)) (λ c. length c ≡ n) (λ c e. e ∙ choices-long side first 0 rows ∙ long) (first_changed_at side rows first) (combinations-long (choices side first 0 rows)))

-- ---- which combinations are listed

abbrev pub key_in : Combination → List Value
key_in c = flat_map (λ r. r.key) c

abbrev pub keys_in : List Combination → List (List Value)
keys_in cs = map key_in cs

-- each key is that of a row in its list
abbrev Listed : List (List RowValues) → List (List Value) → Type 0
Listed lists own = AllZip (λ rs k. is_listed key_cmp (keys_of rs) k ≡ true) lists own

each-listed : (k ks : List Value) (cs : List Combination) → is_listed key_cmp (keys_in cs) ks ≡ true → (rs : List RowValues) → is_listed key_cmp (keys_of rs) k ≡ true → is_listed key_cmp (keys_in (with_each_first rs cs)) (k ++ ks) ≡ true
each-listed k ks cs later [] h = cc
each-listed k ks cs later (r ∷ rs) h =
    ap (λ (js : List (List Value)). is_listed key_cmp js (k ++ ks)) (map-append key_in (map (λ c. r ∷ c) cs) (with_each_first rs cs))
    ∙ list_any-append (eq_by_cmp key_cmp (k ++ ks)) (keys_in (map (λ c. r ∷ c) cs)) (keys_in (with_each_first rs cs))
    ∙ by_key (each-listed k ks cs later rs) (eq_by_cmp key_cmp k r.key) refl h
  where
    keys-after : (ds : List Combination) → keys_in (map (λ c. r ∷ c) ds) ≡ map (λ key. r.key ++ key) (keys_in ds)
    keys-after [] = refl
    keys-after (d ∷ ds) = ap (λ (js : List (List Value)). (r.key ++ key_in d) ∷ js) (keys-after ds)

    by_key : (is_listed key_cmp (keys_of rs) k ≡ true → is_listed key_cmp (keys_in (with_each_first rs cs)) (k ++ ks) ≡ true) → (b : Bool) → eq_by_cmp key_cmp k r.key ≡ b → (b || is_listed key_cmp (keys_of rs) k) ≡ true
        → (is_listed key_cmp (keys_in (map (λ c. r ∷ c) cs)) (k ++ ks) || is_listed key_cmp (keys_in (with_each_first rs cs)) (k ++ ks)) ≡ true
    by_key rest true e i =
        either-left (is_listed key_cmp (keys_in (map (λ c. r ∷ c) cs)) (k ++ ks)) (is_listed key_cmp (keys_in (with_each_first rs cs)) (k ++ ks))
        (ap (λ (js : List (List Value)). is_listed key_cmp js (k ++ ks)) (keys-after cs)
        ∙ subst (λ (j : List Value). is_listed key_cmp (map (λ key. j ++ key) (keys_in cs)) (k ++ ks) ≡ true) (tied key_cmp-IsTotalOrder key_cmp-IsAntisymmetric k r.key e) (listed-map (λ key. k ++ key) ks (keys_in cs) later))
    by_key rest false e i = either-right (is_listed key_cmp (keys_in (map (λ c. r ∷ c) cs)) (k ++ ks)) (is_listed key_cmp (keys_in (with_each_first rs cs)) (k ++ ks)) (rest i)

combined-listed : (lists : List (List RowValues)) (own : List (List Value)) → Listed lists own → is_listed key_cmp (keys_in (combinations_of lists)) (flat own) ≡ true
combined-listed [] [] all = either-left (eq_by_cmp key_cmp [] []) false (tied_to_itself key_cmp-IsTotalOrder [])
combined-listed [] (k ∷ ks) all = absurd all
combined-listed (rs ∷ lists) [] all = absurd all
combined-listed (rs ∷ lists) (k ∷ ks) all = each-listed k (flat ks) (combinations_of lists) (combined-listed lists ks all.1) rs all.0

range-listed : (f : ℕ → List Combination) (key : List Value) (n from i : ℕ) → from ≤ i → i < from + n → is_listed key_cmp (keys_in (f i)) key ≡ true → is_listed key_cmp (keys_in (flat_map f (range_with_len from n))) key ≡ true
range-listed f key zero from i low high h = absurd (omega (arith, low, high))
range-listed f key (suc n) from i low high h =
    ap (λ (ks : List (List Value)). is_listed key_cmp ks key) (map-append key_in (f from) (flat_map f (range_with_len (from + 1) n)))
    ∙ list_any-append (eq_by_cmp key_cmp key) (keys_in (f from)) (keys_in (flat_map f (range_with_len (from + 1) n)))
    ∙ elim (cases_lt from i) [
      | inl after ↦
          either-right (is_listed key_cmp (keys_in (f from)) key) (is_listed key_cmp (keys_in (flat_map f (range_with_len (from + 1) n))) key)
          (range-listed f key n (from + 1) i (omega (arith, after)) (omega (arith, high)) h)
      | inr here ↦
          let same : i ≡ from = omega (arith, low, here) in
          either-left (is_listed key_cmp (keys_in (f from)) key) (is_listed key_cmp (keys_in (flat_map f (range_with_len (from + 1) n))) key)
          (subst (λ j. is_listed key_cmp (keys_in (f j)) key ≡ true) same h)
    ]

-- ---- a combination in which a row is changed is listed

cmp-same : (n : ℕ) → nat_cmp n n ≡ Equal
cmp-same n = grind (arith, nat_tests)

cmp-less : (m n : ℕ) → m < n → nat_cmp m n ≡ Less
cmp-less m n h = grind (arith, nat_tests, h)

cmp-greater : (m n : ℕ) → n < m → nat_cmp m n ≡ Greater
cmp-greater m n h = grind (arith, nat_tests, h)

-- whether each operand has a point on the side at its own key
abbrev pub all_there : Side → List DataSet → List Changes → List (List Value) → Bool
all_there side [] ds own = true
all_there side (a ∷ xs) [] own = true
all_there side (a ∷ xs) (d ∷ ds) [] = true
all_there side (a ∷ xs) (d ∷ ds) (k ∷ ks) = is_some (get (set_on side (a, apply d a)) k) && all_there side xs ds ks

-- no key is changed
abbrev pub Unchanged : List Changes → List (List Value) → Type 0
Unchanged ds own = AllZip (λ d k. get d k ≡ None) ds own

later-listed : (side : Side) (first number : ℕ) → first < number → (xs : List DataSet) (ds : List Changes) (own : List (List Value)) → AllZip BeginsAt ds xs → length own ≡ length xs → all_there side xs ds own ≡ true → Listed (choices side first number (rows_all xs ds)) own
later-listed side first number past [] [] [] begins long there = tt
later-listed side first number past [] [] (k ∷ ks) begins long there = absurd (omega (arith, long))
later-listed side first number past [] (d ∷ ds) own begins long there = absurd begins
later-listed side first number past (a ∷ xs) [] own begins long there = absurd begins
later-listed side first number past (a ∷ xs) (d ∷ ds) [] begins long there = absurd (omega (arith, long))
later-listed side first number past (a ∷ xs) (d ∷ ds) (k ∷ ks) begins long there =
    let own = is_some (get (set_on side (a, apply d a)) k) in
    let rest = all_there side xs ds ks in
    (row-chosen a d begins.0 side (nat_cmp number first) k (left own rest there) (ap (λ o. may_stand o (is_some (get d k))) (cmp-greater number first past)), later-listed side first (number + 1) (omega (arith, past)) xs ds ks begins.1 (omega (arith, long)) (right own rest there))

-- the operand of the first changed row, from this number on
record IsFirst (side : Side) (number : ℕ) (xs : List DataSet) (ds : List Changes) (own : List (List Value)) : Type 0 where
  first : ℕ
  low : number ≤ first
  high : first < number + length (rows_all xs ds)
  listed : Listed (choices side first number (rows_all xs ds)) own

find-first : (side : Side) (number : ℕ) (xs : List DataSet) (ds : List Changes) (own : List (List Value)) → AllZip BeginsAt ds xs → length own ≡ length xs → all_there side xs ds own ≡ true → Unchanged ds own ⊎ IsFirst side number xs ds own
find-first side number [] [] [] begins long there = inl tt
find-first side number [] [] (k ∷ ks) begins long there = absurd (omega (arith, long))
find-first side number [] (d ∷ ds) own begins long there = absurd begins
find-first side number (a ∷ xs) [] own begins long there = absurd begins
find-first side number (a ∷ xs) (d ∷ ds) [] begins long there = absurd (omega (arith, long))
find-first side number (a ∷ xs) (d ∷ ds) (k ∷ ks) begins long there =
    by_change (get d k) refl (find-first side (number + 1) xs ds ks begins.1 (omega (arith, long)) (right own rest there))
  where
    own : Bool
    own = is_some (get (set_on side (a, apply d a)) k)

    rest : Bool
    rest = all_there side xs ds ks

    chosen-at : (o : Ordering) → may_stand o (is_some (get d k)) ≡ true → is_listed key_cmp (keys_of (filter (is_chosen side o) (rows_on a d))) k ≡ true
    chosen-at o may = row-chosen a d begins.0 side o k (left own rest there) may

    by_change : (c : Option (Pair (List Value))) → get d k ≡ c → Unchanged ds ks ⊎ IsFirst side (number + 1) xs ds ks → Unchanged (d ∷ ds) (k ∷ ks) ⊎ IsFirst side number (a ∷ xs) (d ∷ ds) (k ∷ ks)
    by_change (Some c) e later =
        inr (record {
          first = number;
          low = omega arith;
          high = omega arith;
          listed = (chosen-at (nat_cmp number number) (ap (λ o. may_stand o (is_some (get d k))) (cmp-same number) ∙ ap is_some e), later-listed side number (number + 1) (omega arith) xs ds ks begins.1 (omega (arith, long)) (right own rest there));
        })
    by_change None e (inl same) = inl (e, same)
    by_change None e (inr at) =
        let low = at.low in
        let high = at.high in
        inr (record {
          first = at.first;
          low = omega (arith, low);
          high = omega (arith, high);
          listed = (chosen-at (nat_cmp number at.first) (ap (λ o. may_stand o (is_some (get d k))) (cmp-less number at.first (omega (arith, low))) ∙ ap (λ c. may_stand Less (is_some c)) e), at.listed);
        })

-- where each operand has a point on a side, nothing changes or the combination is listed
pub listed-changed : (side : Side) (xs : List DataSet) (ds : List Changes) (own : List (List Value)) → AllZip BeginsAt ds xs → length own ≡ length xs → all_there side xs ds own ≡ true
    → Unchanged ds own ⊎ (is_listed key_cmp (keys_in (changed_combinations side (rows_all xs ds))) (flat own) ≡ true)
listed-changed side xs ds own begins long there = by_first (find-first side 0 xs ds own begins long there)
  where
    by_first : Unchanged ds own ⊎ IsFirst side 0 xs ds own → Unchanged ds own ⊎ (is_listed key_cmp (keys_in (changed_combinations side (rows_all xs ds))) (flat own) ≡ true)
    by_first (inl same) = inl same
    by_first (inr at) = inr (range-listed (first_changed_at side (rows_all xs ds)) (flat own) (length (rows_all xs ds)) 0 at.first at.low at.high (combined-listed (choices side at.first 0 (rows_all xs ds)) own at.listed))
