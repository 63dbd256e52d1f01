-- The points of a part, and those of an operand that a key of its partner stands for.
use Rattle.std.proofs.Common.{◌≡◌, ℕ, ◌+◌, ◌≤◌, List, [], ◌∷◌, map, length, get_or, Bool, true, false, ◌||◌, cond, Option, Some, None, option_map, refl, sym, ap, ◌∙◌, arith, add-one}
use Rattle.std.specs.Prelude.{filter, filter_map, find, zip}
use Rattle.std.specs.List.{AllByRecursion, All, cons_option, list_any, position}
use Rattle.std.specs.Ordering.{eq_by_cmp, is_lt, is_eq, ordering_then}
use Rattle.std.specs.FinMap as finmap
use Rattle.std.specs.FinMap.{entries, entries_sorted, get, get-entries}
use Rattle.std.specs.declared.cmp.Ordering.{Ordering}
use Rattle.std.specs.declared.cmp.Ordering.TheVariants.{Less, Equal, Greater}
use Rattle.std.proofs.lemmas.List.Elements.{All-head, All-tail}
use Rattle.vtl_values.specs.Order.{key_cmp}
use Rattle.vtl_values.proofs.Values.{key_cmp-IsTotalOrder, key_cmp-IsAntisymmetric}
use Rattle.vtl_values.specs.declared.structure.Component.{Component}
use Rattle.vtl_values.specs.declared.value.Value.{Value}
use Rattle.data_model.specs.Maps.{is_listed}
use Rattle.data_model.proofs.EntryLemmas.{find-get_or}
use Rattle.data_model.proofs.MapLemmas.{tied, tied_to_itself}
use Rattle.ordered_tree.specs.Orders.{put_in, in_order}
use Rattle.ordered_tree.proofs.Orders.{all_put_in}
use Rattle.point_sets.specs.DataSets.{DataSet}
use Rattle.structured_sets.proofs.Lists.{position-cons}
use Rattle.data_set_trees.specs.Components.{identifiers, has_name}
use Rattle.held_index.specs.declared.want.Want.{Want}
use Rattle.held_index.specs.Holdings.{part_of}
use Rattle.held_index.specs.Walks.{PointValues, component_of, order_cmp, part_key, place_cmp}
use Rattle.operator_meaning.specs.pairs.Pairs.{key_between, value_where}
use Rattle.pair_eval.specs.Plans.{numbers_between}

-- ---- a value by the number of its component

-- the value at the number of the first component that passes
numbered : (passes : Component → Bool) (cs : List Component) (key rest : List Value) → length cs ≤ length key → option_map (λ n. component_of n (key, rest)) (position passes cs) ≡ value_where passes cs key
numbered passes [] key rest long = refl
numbered passes (c ∷ cs) [] rest long = absurd (omega arith)
numbered passes (c ∷ cs) (v ∷ vs) rest long = rw (position-cons passes c cs) (by_test (passes c) (numbered passes cs vs rest (omega arith)))
  where
    one_more : (o : Option ℕ) → option_map (λ n. component_of n (v ∷ vs, rest)) (option_map (λ i. i + 1) o) ≡ option_map (λ n. component_of n (vs, rest)) o
    one_more None = refl
    one_more (Some n) = rw add-one refl

    by_test : (b : Bool) → option_map (λ n. component_of n (vs, rest)) (position passes cs) ≡ value_where passes cs vs → option_map (λ n. component_of n (v ∷ vs, rest)) (cond b (Some 0) (option_map (λ i. i + 1) (position passes cs))) ≡ option_map (λ (q : Component × Value). q.1) (cond b (Some (c, v)) (find (λ (q : Component × Value). passes q.0) (zip cs vs)))
    by_test true later = refl
    by_test false later = one_more (position passes cs) ∙ later

map-cons_option : {A B : Type 0} (f : A → B) (o : Option A) (xs : List A) → map f (cons_option o xs) ≡ cons_option (option_map f o) (map f xs)
map-cons_option f None xs = refl
map-cons_option f (Some x) xs = refl

all_numbered : (fs ts : List Component) (key rest : List Value) → length fs ≤ length key → map (λ n. component_of n (key, rest)) (filter_map (λ c. position (has_name c.name) fs) ts) ≡ filter_map (λ c. value_where (has_name c.name) fs key) ts
all_numbered fs [] key rest long = refl
all_numbered fs (c ∷ cs) key rest long =
    map-cons_option (λ n. component_of n (key, rest)) (position (has_name c.name) fs) (filter_map (λ d. position (has_name d.name) fs) cs)
    ∙ (λ i. cons_option (numbered (has_name c.name) fs key rest long i) (all_numbered fs cs key rest long i))

-- a point with a value for each identifier is in the part of its partner's key
pub part_key-between : (from to : List Component) (key rest : List Value) → length key ≡ length (identifiers from) → part_key (numbers_between from to) (key, rest) ≡ key_between from to key
part_key-between from to key rest long = all_numbered (identifiers from) (identifiers to) key rest (omega arith)

-- ---- what holds of the points of a part

by_recursion : {X : Type 0} (P : X → Type 0) (xs : List X) → All P xs → AllByRecursion P xs
by_recursion P [] all = tt
by_recursion P (x ∷ xs) all = (All-head P x xs all, by_recursion P xs (All-tail P x xs all))

all_in_order : {X : Type 0} (P : X → Type 0) (cmp : X → X → Ordering) (xs : List X) → AllByRecursion P xs → AllByRecursion P (in_order cmp xs)
all_in_order P cmp [] all = tt
all_in_order P cmp (x ∷ xs) all = all_put_in cmp x P (in_order cmp xs) all.0 (all_in_order P cmp xs all.1)

-- each entry of a map is what the map has at its key
pub entries-there : {X : Type 0} (m : finmap.FinMap key_cmp X) → AllByRecursion (λ (e : List Value × X). get m e.0 ≡ Some e.1) (entries m)
entries-there {X = X} m = by_recursion (λ (e : List Value × X). get m e.0 ≡ Some e.1) (entries m) (λ i d within. get-entries m (get_or (entries m) i d).0 ∙ find-get_or key_cmp-IsTotalOrder (entries m) i d (entries_sorted m) within)

-- a point that is there, in this part
pub record IsInPart (numbers : List ℕ) (part : List Value) (m : DataSet) (p : PointValues) : Type 0 where
  pub there : get m p.0 ≡ Some p.1
  pub in_it : part_key numbers p ≡ part

module _ (w : Want) (part : List Value) (m : DataSet) where
  abbrev is_in : PointValues → Bool
  is_in p = eq_by_cmp key_cmp (part_key w.part p) part

  all_filtered : (ps : List PointValues) → AllByRecursion (λ p. get m p.0 ≡ Some p.1) ps → AllByRecursion (IsInPart w.part part m) (filter is_in ps)
  all_filtered [] all = tt
  all_filtered (p ∷ ps) all = by_test (is_in p) refl (all_filtered ps all.1)
    where
      by_test : (b : Bool) → is_in p ≡ b → AllByRecursion (IsInPart w.part part m) (filter is_in ps) → AllByRecursion (IsInPart w.part part m) (cond b (p ∷ filter is_in ps) (filter is_in ps))
      by_test true e later = (record { there = all.0; in_it = tied key_cmp-IsTotalOrder key_cmp-IsAntisymmetric (part_key w.part p) part e }, later)
      by_test false e later = later

  pub all_in_part : AllByRecursion (IsInPart w.part part m) (part_of w part m)
  all_in_part = all_in_order (IsInPart w.part part m) (place_cmp w) (filter is_in (entries m)) (all_filtered (entries m) (entries-there m))

-- ---- which points are in a part

abbrev has_key : List Value → List PointValues → Bool
has_key key ps = list_any (λ p. eq_by_cmp key_cmp key p.0) ps

same_place : (r s : Ordering) → ordering_then r s ≡ Equal → s ≡ Equal
same_place Less s e = cc
same_place Equal s e = e
same_place Greater s e = cc

either : (a b c : Bool) → (b || (a || c)) ≡ (a || (b || c))
either true true c = refl
either true false c = refl
either false b c = refl

twice : (a c : Bool) → (a || c) ≡ (a || (a || c))
twice true c = refl
twice false c = refl

module _ (w : Want) (key : List Value) where
  abbrev own : PointValues → Bool
  own p = eq_by_cmp key_cmp key p.0

  has_key-put_in : (p : PointValues) (ps : List PointValues) → has_key key (put_in (place_cmp w) p ps) ≡ (own p || has_key key ps)
  has_key-put_in p [] = refl
  has_key-put_in p (q ∷ qs) = by_order (place_cmp w q p) refl (has_key-put_in p qs)
    where
      by_order : (r : Ordering) → place_cmp w q p ≡ r → has_key key (put_in (place_cmp w) p qs) ≡ (own p || has_key key qs)
          → has_key key (cond (is_lt r) (q ∷ put_in (place_cmp w) p qs) (p ∷ cond (is_eq r) qs (q ∷ qs))) ≡ (own p || (own q || has_key key qs))
      by_order Less e later = ap (λ b. own q || b) later ∙ either (own p) (own q) (has_key key qs)
      by_order Equal e later =
          let same : q.0 ≡ p.0 = key_cmp-IsAntisymmetric q.0 p.0 (same_place (order_cmp w.order q p) (key_cmp q.0 p.0) e) in
          twice (own p) (has_key key qs) ∙ ap (λ k. own p || (eq_by_cmp key_cmp key k || has_key key qs)) (sym same)
      by_order Greater e later = refl

  has_key-in_order : (ps : List PointValues) → has_key key (in_order (place_cmp w) ps) ≡ has_key key ps
  has_key-in_order [] = refl
  has_key-in_order (p ∷ ps) = has_key-put_in p (in_order (place_cmp w) ps) ∙ ap (λ b. own p || b) (has_key-in_order ps)

  module _ (part rest : List Value) (there : part_key w.part (key, rest) ≡ part) where
    abbrev is_of_part : PointValues → Bool
    is_of_part p = eq_by_cmp key_cmp (part_key w.part p) part

    its_own : is_of_part (key, rest) ≡ true
    its_own = ap (λ k. eq_by_cmp key_cmp k part) there ∙ tied_to_itself key_cmp-IsTotalOrder part

    kept : (b : Bool) (p : PointValues) (ps : List PointValues) → has_key key ps ≡ true → has_key key (cond b (p ∷ ps) ps) ≡ true
    kept true p ps h = elim (own p) as (λ b. (b || has_key key ps) ≡ true) [ true ↦ refl | false ↦ h ]
    kept false p ps h = h

    first_kept : (b : Bool) (p : PointValues) (ps : List PointValues) → b ≡ true → own p ≡ true → has_key key (cond b (p ∷ ps) ps) ≡ true
    first_kept true p ps h o = ap (λ b. b || has_key key ps) o
    first_kept false p ps h o = cc

    has_key-filter : (ps : List PointValues) → finmap.find key_cmp key ps ≡ Some rest → has_key key (filter is_of_part ps) ≡ true
    has_key-filter [] e = cc
    has_key-filter (p ∷ ps) e = by_test (own p) refl e (has_key-filter ps)
      where
        by_test : (b : Bool) → own p ≡ b → cond b (Some p.1) (finmap.find key_cmp key ps) ≡ Some rest → (finmap.find key_cmp key ps ≡ Some rest → has_key key (filter is_of_part ps) ≡ true) → has_key key (filter is_of_part (p ∷ ps)) ≡ true
        by_test true o i later =
            let same_key : key ≡ p.0 = tied key_cmp-IsTotalOrder key_cmp-IsAntisymmetric key p.0 o in
            let same_rest : rest ≡ p.1 = cc in
            first_kept (is_of_part p) p (filter is_of_part ps) ((λ i. is_of_part (sym same_key i, sym same_rest i)) ∙ its_own) o
        by_test false o i later = kept (is_of_part p) p (filter is_of_part ps) (later i)

    -- a point of the part that is there is gone through
    pub has_key-part : (m : DataSet) → get m key ≡ Some rest → has_key key (part_of w part m) ≡ true
    has_key-part m at = has_key-in_order (filter is_of_part (entries m)) ∙ has_key-filter (entries m) (sym (get-entries m key) ∙ at)

    pub listed-part : (m : DataSet) → get m key ≡ Some rest → is_listed key_cmp (map (λ p. p.0) (part_of w part m)) key ≡ true
    listed-part m at = listed_by (part_of w part m) ∙ has_key-part m at
      where
        listed_by : (ps : List PointValues) → is_listed key_cmp (map (λ p. p.0) ps) key ≡ has_key key ps
        listed_by [] = refl
        listed_by (p ∷ ps) = ap (λ b. own p || b) (listed_by ps)
