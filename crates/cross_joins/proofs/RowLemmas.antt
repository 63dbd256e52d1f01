-- What rows say of their operand, and which of them there are.
use Rattle.std.proofs.Common.{◌≡◌, List, [], ◌∷◌, ◌++◌, map, filter, get_or, Bool, true, false, ◌||◌, cond, Option, Some, None, refl, sym, ap, subst, ◌∙◌}
use Rattle.std.specs.Option.{IfSome, is_none, is_some}
use Rattle.std.specs.List.{AllByRecursion, All}
use Rattle.std.specs.Ordering.{eq_by_cmp}
use Rattle.std.specs.FinMap.{FinMap, entries, entries_sorted, get, get-entries}
use Rattle.std.specs.declared.cmp.Ordering.{Ordering}
use Rattle.std.proofs.lemmas.List.{map-append}
use Rattle.std.proofs.lemmas.List.Elements.{All-head, All-tail, filter-append}
use Rattle.std.proofs.lemmas.List.Folds.{list_any-append}
use Rattle.std.proofs.lemmas.Simd.{map-map}
use Rattle.vtl_values.specs.declared.value.Value.{Value}
use Rattle.vtl_values.specs.Order.{key_cmp}
use Rattle.vtl_values.proofs.Values.{key_cmp-IsTotalOrder, key_cmp-IsAntisymmetric}
use Rattle.data_model.specs.Deltas.{Pair, BeginsAt, after, apply}
use Rattle.data_model.specs.Maps.{is_listed}
use Rattle.data_model.proofs.DeltaLemmas.{get-apply}
use Rattle.data_model.proofs.EntryLemmas.{find-get_or}
use Rattle.data_model.proofs.MapLemmas.{is_listed-keys, tied}
use Rattle.point_sets.specs.Changes.{Changes}
use Rattle.point_sets.specs.DataSets.{DataSet}
use Rattle.scalar_trees.proofs.typing.Sound.{both, left}
use Rattle.operator_meaning.proofs.pairs.Names.{either-left, either-right}
use Rattle.held_index.specs.Walks.{PointValues}
use Rattle.cross_joins.specs.Rows.{RowValues, changed_row, is_chosen, is_there, kept_row, kept_rows, may_stand, on_side}
use Rattle.cross_joins.specs.declared.rows.Side.{Side}
use Rattle.cross_joins.specs.declared.rows.Side.TheVariants.{Before, After}

-- ---- lists

pub all-append : {X : Type 0} (P : X → Type 0) (xs ys : List X) → AllByRecursion P xs → AllByRecursion P ys → AllByRecursion P (xs ++ ys)
all-append P [] ys all more = more
all-append P (x ∷ xs) ys all more = (all.0, all-append P xs ys all.1 more)

pub all-map : {X Y : Type 0} (P : Y → Type 0) (f : X → Y) (xs : List X) → AllByRecursion (λ x. P (f x)) xs → AllByRecursion P (map f xs)
all-map P f [] all = tt
all-map P f (x ∷ xs) all = (all.0, all-map P f xs all.1)

pub all-weaker : {X : Type 0} (P Q : X → Type 0) → ((x : X) → P x → Q x) → (xs : List X) → AllByRecursion P xs → AllByRecursion Q xs
all-weaker P Q f [] all = tt
all-weaker P Q f (x ∷ xs) all = (f x all.0, all-weaker P Q f xs all.1)

-- what passes a test passes it
pub all-filter : {X : Type 0} (P Q : X → Type 0) (p : X → Bool) → ((x : X) → P x → p x ≡ true → Q x) → (xs : List X) → AllByRecursion P xs → AllByRecursion Q (filter p xs)
all-filter P Q p f [] all = tt
all-filter P Q p f (x ∷ xs) all = by_test (p x) refl (all-filter P Q p f xs all.1)
  where
    by_test : (b : Bool) → p x ≡ b → AllByRecursion Q (filter p xs) → AllByRecursion Q (cond b (x ∷ filter p xs) (filter p xs))
    by_test true e later = (f x all.0 e, later)
    by_test false e later = later

everywhere : {X : Type 0} (P : X → Type 0) → ((x : X) → P x) → (xs : List X) → AllByRecursion P xs
everywhere P f [] = tt
everywhere P f (x ∷ xs) = (f x, everywhere P f xs)

by_recursion : {X : Type 0} (P : X → Type 0) (xs : List X) → All P xs → AllByRecursion P xs
by_recursion P [] all = tt
by_recursion P (x ∷ xs) all = (All-head P x xs all, by_recursion P xs (All-tail P x xs all))

-- each entry of a map is what the map has at its key
entries-there : {X : Type 0} (m : FinMap key_cmp X) → AllByRecursion (λ (e : List Value × X). get m e.0 ≡ Some e.1) (entries m)
entries-there {X = X} m = by_recursion (λ (e : List Value × X). get m e.0 ≡ Some e.1) (entries m) (λ i d within. get-entries m (get_or (entries m) i d).0 ∙ find-get_or key_cmp-IsTotalOrder (entries m) i d (entries_sorted m) within)

-- ---- what rows say

-- the data set before the news and after them
abbrev pub set_on : Side → DataSet × DataSet → DataSet
set_on Before q = q.0
set_on After q = q.1

-- the row has what the operand has at its key
pub record IsRowOf (q : DataSet × DataSet) (r : RowValues) : Type 0 where
  pub before : r.before ≡ get q.0 r.key
  pub after : r.after ≡ get q.1 r.key

row-on : (side : Side) (q : DataSet × DataSet) (r : RowValues) → IsRowOf q r → on_side side r ≡ get (set_on side q) r.key
row-on Before q r is = is.before
row-on After q r is = is.after

-- and is changed, or not
record IsOneOf (q : DataSet × DataSet) (b : Bool) (r : RowValues) : Type 0 where
  row : IsRowOf q r
  changed : r.is_changed ≡ b

-- the row is there on a side
pub record IsChosenOf (side : Side) (q : DataSet × DataSet) (r : RowValues) : Type 0 where
  pub row : IsRowOf q r
  pub there : is_some (get (set_on side q) r.key) ≡ true

-- so are those that are chosen
pub chosen-are : (side : Side) (place : Ordering) (q : DataSet × DataSet) (rs : List RowValues) → AllByRecursion (IsRowOf q) rs → AllByRecursion (IsChosenOf side q) (filter (is_chosen side place) rs)
chosen-are side place q rs all =
    all-filter (IsRowOf q) (IsChosenOf side q) (is_chosen side place)
    (λ r is passes. record { row = is; there = ap is_some (sym (row-on side q r is)) ∙ left (is_there side r) (may_stand place r.is_changed) passes }) rs all

-- ---- which rows there are

abbrev pub keys_of : List RowValues → List (List Value)
keys_of rs = map (λ r. r.key) rs

-- the row of a key is listed if it passes
listed-filter : (p : RowValues → Bool) (k : List Value) (rs : List RowValues) → AllByRecursion (λ r. r.key ≡ k → p r ≡ true) rs → is_listed key_cmp (keys_of rs) k ≡ true → is_listed key_cmp (keys_of (filter p rs)) k ≡ true
listed-filter p k [] all h = cc
listed-filter p k (r ∷ rs) all h = by_key (listed-filter p k rs all.1) (eq_by_cmp key_cmp k r.key) refl h
  where
    more : (b : Bool) → is_listed key_cmp (keys_of (filter p rs)) k ≡ true → is_listed key_cmp (keys_of (cond b (r ∷ filter p rs) (filter p rs))) k ≡ true
    more true later = either-right (eq_by_cmp key_cmp k r.key) (is_listed key_cmp (keys_of (filter p rs)) k) later
    more false later = later

    first : (b : Bool) → b ≡ true → eq_by_cmp key_cmp k r.key ≡ true → is_listed key_cmp (keys_of (cond b (r ∷ filter p rs) (filter p rs))) k ≡ true
    first true e own = either-left (eq_by_cmp key_cmp k r.key) (is_listed key_cmp (keys_of (filter p rs)) k) own
    first false e own = cc

    by_key : (is_listed key_cmp (keys_of rs) k ≡ true → is_listed key_cmp (keys_of (filter p rs)) k ≡ true) → (b : Bool) → eq_by_cmp key_cmp k r.key ≡ b → (b || is_listed key_cmp (keys_of rs) k) ≡ true → is_listed key_cmp (keys_of (filter p (r ∷ rs))) k ≡ true
    by_key later true e i = first (p r) (all.0 (sym (tied key_cmp-IsTotalOrder key_cmp-IsAntisymmetric k r.key e))) e
    by_key later false e i = more (p r) (later i)

-- where a key is there on a side its row is chosen, in a place where it may stand
listed-chosen : (side : Side) (place : Ordering) (q : DataSet × DataSet) (b : Bool) (k : List Value) (rs : List RowValues) → AllByRecursion (IsOneOf q b) rs → is_some (get (set_on side q) k) ≡ true → may_stand place b ≡ true
    → is_listed key_cmp (keys_of rs) k ≡ true → is_listed key_cmp (keys_of (filter (is_chosen side place) rs)) k ≡ true
listed-chosen side place q b k rs all there may h =
    listed-filter (is_chosen side place) k rs
    (all-weaker (IsOneOf q b) (λ r. r.key ≡ k → is_chosen side place r ≡ true)
    (λ r is at. both (is_there side r) (may_stand place r.is_changed) (ap is_some (row-on side q r is.row ∙ ap (get (set_on side q)) at) ∙ there) (ap (may_stand place) is.changed ∙ may)) rs all) h

module _ (a : DataSet) (d : Changes) where
  abbrev turned : DataSet × DataSet
  turned = (a, apply d a)

  -- the rows of an operand with its news
  abbrev pub rows_on : List RowValues
  rows_on = kept_rows d (entries a) ++ map changed_row (entries d)

  stays : (r : RowValues) → is_none (get d r.key) ≡ true → get (apply d a) r.key ≡ get a r.key
  stays r none = get-apply key_cmp-IsTotalOrder key_cmp-IsAntisymmetric d a r.key ∙ by_change (get d r.key) none
    where
      by_change : (c : Option (Pair (List Value))) → is_none c ≡ true → after c (get a r.key) ≡ get a r.key
      by_change None e = refl
      by_change (Some c) e = cc

  -- a point that the news don't change stays as it is
  kept-are : AllByRecursion (IsOneOf turned false) (kept_rows d (entries a))
  kept-are =
      let Held : RowValues → Type 0 = λ r. (r.before ≡ get a r.key) × (r.after ≡ get a r.key) × (r.is_changed ≡ false) in
      all-filter Held (IsOneOf turned false) (λ r. is_none (get d r.key))
      (λ r is none. record { row = record { before = is.0; after = is.1 ∙ sym (stays r none) }; changed = is.2 }) (map kept_row (entries a))
      (all-map Held kept_row (entries a) (all-weaker (λ (e : PointValues). get a e.0 ≡ Some e.1) (λ e. Held (kept_row e)) (λ e at. (sym at, sym at, refl)) (entries a) (entries-there a)))

  module _ (begins : BeginsAt d a) where
    -- and the news have what was there and what comes
    changed-are : AllByRecursion (IsOneOf turned true) (map changed_row (entries d))
    changed-are =
        all-map (IsOneOf turned true) changed_row (entries d)
        (all-weaker (λ (e : List Value × Pair (List Value)). get d e.0 ≡ Some e.1) (λ e. IsOneOf turned true (changed_row e))
        (λ e at. record {
          row = record {
            before = sym (let old : IfSome (Some e.1) (λ c. get a e.0 ≡ c.0) = subst (λ (c : Option (Pair (List Value))). IfSome c (λ c. get a e.0 ≡ c.0)) at (begins e.0) in old);
            after = sym (get-apply key_cmp-IsTotalOrder key_cmp-IsAntisymmetric d a e.0 ∙ ap (λ (c : Option (Pair (List Value))). after c (get a e.0)) at);
          };
          changed = refl;
        }) (entries d) (entries-there d))

    pub rows-are : AllByRecursion (IsRowOf turned) rows_on
    rows-are =
        all-append (IsRowOf turned) (kept_rows d (entries a)) (map changed_row (entries d))
        (all-weaker (IsOneOf turned false) (IsRowOf turned) (λ r is. is.row) (kept_rows d (entries a)) kept-are)
        (all-weaker (IsOneOf turned true) (IsRowOf turned) (λ r is. is.row) (map changed_row (entries d)) changed-are)

    module _ (side : Side) (place : Ordering) (k : List Value) (there : is_some (get (set_on side turned) k) ≡ true) where
      abbrev chosen : List RowValues → List (List Value)
      chosen rs = keys_of (filter (is_chosen side place) rs)

      both-kinds : is_listed key_cmp (chosen rows_on) k ≡ (is_listed key_cmp (chosen (kept_rows d (entries a))) k || is_listed key_cmp (chosen (map changed_row (entries d))) k)
      both-kinds =
          let kept = filter (is_chosen side place) (kept_rows d (entries a)) in
          let changed = filter (is_chosen side place) (map changed_row (entries d)) in
          ap (λ (rs : List RowValues). is_listed key_cmp (keys_of rs) k) (filter-append (is_chosen side place) (kept_rows d (entries a)) (map changed_row (entries d)))
          ∙ ap (λ (ks : List (List Value)). is_listed key_cmp ks k) (map-append (λ (r : RowValues). r.key) kept changed)
          ∙ list_any-append (eq_by_cmp key_cmp k) (keys_of kept) (keys_of changed)

      had : get d k ≡ None → is_some (get a k) ≡ true
      had none = by_side side there
        where
          by_side : (s : Side) → is_some (get (set_on s turned) k) ≡ true → is_some (get a k) ≡ true
          by_side Before h = h
          by_side After h = ap is_some (sym (get-apply key_cmp-IsTotalOrder key_cmp-IsAntisymmetric d a k ∙ ap (λ (c : Option (Pair (List Value))). after c (get a k)) none)) ∙ h

      abbrev ours : Bool
      ours = is_listed key_cmp (chosen (kept_rows d (entries a))) k

      abbrev theirs : Bool
      theirs = is_listed key_cmp (chosen (map changed_row (entries d))) k

      -- the row of a point that there is on a side is chosen, in a place where it may stand
      pub row-chosen : may_stand place (is_some (get d k)) ≡ true → is_listed key_cmp (chosen rows_on) k ≡ true
      row-chosen may = both-kinds ∙ by_change (get d k) refl may
        where
          by_change : (c : Option (Pair (List Value))) → get d k ≡ c → may_stand place (is_some c) ≡ true → (ours || theirs) ≡ true
          by_change None e m =
              let listed : is_listed key_cmp (keys_of (map kept_row (entries a))) k ≡ true =
              ap (λ (ks : List (List Value)). is_listed key_cmp ks k) (map-map (λ (r : RowValues). r.key) kept_row (entries a)) ∙ is_listed-keys key_cmp-IsTotalOrder a k ∙ had e in
              let kept : is_listed key_cmp (keys_of (kept_rows d (entries a))) k ≡ true =
              listed-filter (λ r. is_none (get d r.key)) k (map kept_row (entries a))
              (everywhere (λ r. r.key ≡ k → is_none (get d r.key) ≡ true) (λ r at. ap (λ (j : List Value). is_none (get d j)) at ∙ ap is_none e) (map kept_row (entries a))) listed in
              either-left ours theirs (listed-chosen side place turned false k (kept_rows d (entries a)) kept-are there m kept)
          by_change (Some c) e m =
              let listed : is_listed key_cmp (keys_of (map changed_row (entries d))) k ≡ true =
              ap (λ (ks : List (List Value)). is_listed key_cmp ks k) (map-map (λ (r : RowValues). r.key) changed_row (entries d)) ∙ is_listed-keys key_cmp-IsTotalOrder d k ∙ ap is_some e in
              either-right ours theirs (listed-chosen side place turned true k (map changed_row (entries d)) changed-are there m listed)
