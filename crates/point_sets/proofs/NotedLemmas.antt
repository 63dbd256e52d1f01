-- What was noted, and the changes that it comes to.
use Rattle.std.proofs.Common.{◌≡◌, ℕ, zero, suc, ◌<◌, List, [], ◌∷◌, ◌++◌, map, length, Result, Ok, Err, true, false, T, sym, ◌∙◌, ap, refl, subst, arith, append_assoc}
use Rattle.std.specs.Option.{option_eq}
use Rattle.std.specs.Result.{OnErr}
use Rattle.std.specs.List.{All, AllByRecursion}
use Rattle.std.specs.List.Sorted.{IsStrictlySortedBy}
use Rattle.std.specs.Map.{keys_of}
use Rattle.std.specs.BTreeMap.{insert_entry}
use Rattle.std.proofs.lemmas.List.{map-append}
use Rattle.std.proofs.lemmas.List.Elements.{All-cons}
use Rattle.std.specs.declared.cmp.Ordering.{Ordering}
use Rattle.std.specs.declared.cmp.Ordering.TheVariants.{Less, Equal, Greater}
use Rattle.std.specs.Ordering.{is_lt, match_ordering}
use Rattle.std.specs.FinMap.{IsAntisymmetric, from_entries, insert, is_sorted}
use Rattle.std.specs.FinMap.Entries.{put, below_all, by_order}
use Rattle.vtl_values.specs.declared.value.Value.{Value}
use Rattle.vtl_values.specs.Order.{key_cmp}
use Rattle.vtl_values.proofs.Values.{key_cmp-IsTotalOrder, key_cmp-IsAntisymmetric}
use Rattle.data_model.specs.Deltas.{Pair}
use Rattle.data_model.proofs.EntryLemmas.{from_entries-put}
use Rattle.data_model.proofs.DeltaLemmas.{contradicted, option_eq-decides}
use Rattle.point_sets.specs.declared.delta.Change.{Change}
use Rattle.point_sets.specs.declared.notes.Noted.{Noted}
use Rattle.point_sets.specs.DataSets.{HasKey}
use Rattle.point_sets.specs.Changes.{Changes, change_entry, of_changes, values_eq, values_of, IsChange, AreChanges}
use Rattle.point_sets.specs.Noted.{change_of, noted_entry, of_noted, AreNoted}
use Rattle.point_sets.proofs.Changes.{All-parts, values_eq-IsEqualityTest}
use Rattle.point_sets.proofs.Ordered.{both}

-- ---- entries of trees, with their values seen otherwise

module _ {K X Y : Type 0} (R : K → K → Ordering) (g : X → Y) where
  map-insert_entry : (k : K) (v : X) (es : List (K × X)) → map (λ e. (e.0, g e.1)) (insert_entry R es k v) ≡ put R k (g v) (map (λ e. (e.0, g e.1)) es)
  map-insert_entry k v [] = refl
  map-insert_entry k v (e ∷ es) = elim (R k e.0) as (λ r. map (λ (d : K × X). (d.0, g d.1)) (match_ordering r ((k, v) ∷ e ∷ es) ((e.0, v) ∷ es) (e ∷ insert_entry R es k v)) ≡ by_order r ((k, g v) ∷ (e.0, g e.1) ∷ map (λ d. (d.0, g d.1)) es) ((e.0, g v) ∷ map (λ d. (d.0, g d.1)) es) ((e.0, g e.1) ∷ put R k (g v) (map (λ d. (d.0, g d.1)) es))) [
    | Less ↦ refl
    | Equal ↦ refl
    | Greater ↦ ap (λ (t : List (K × Y)). (e.0, g e.1) ∷ t) (map-insert_entry k v es)
  ]

  below_all-each : (k : K) (es : List (K × X)) → AllByRecursion (λ j. R k j ≡ Less) (keys_of es) → T (below_all R k (map (λ e. (e.0, g e.1)) es))
  below_all-each k [] h = tt
  below_all-each k (e ∷ es) h = both _ _ (subst (λ r. T (is_lt r)) (sym h.0) tt) (below_all-each k es h.1)

  -- keys in strict order make a list in order
  is_sorted-keys : (es : List (K × X)) → IsStrictlySortedBy R (keys_of es) → T (is_sorted R (map (λ e. (e.0, g e.1)) es))
  unfolding IsStrictlySortedBy
  is_sorted-keys [] h = tt
  is_sorted-keys (e ∷ es) h = both _ _ (below_all-each e.0 es h.0) (is_sorted-keys es h.1)

All-insert_entry : {K X : Type 0} {R : K → K → Ordering} → IsAntisymmetric R → (P : K × X → Type 0) (k : K) (v : X) (es : List (K × X)) → P (k, v) → All P es → All P (insert_entry R es k v)
All-insert_entry exact P k v [] p h = All-cons P (k, v) [] p h
All-insert_entry {R = R} exact P k v (e ∷ es) p h =
    let parts = All-parts P (e ∷ es) e es refl h in
    elim (R k e.0) as (λ r. R k e.0 ≡ r → All P (match_ordering r ((k, v) ∷ e ∷ es) ((e.0, v) ∷ es) (e ∷ insert_entry R es k v))) [
      | Less ↦ λ q. All-cons P (k, v) (e ∷ es) p h
      | Equal ↦ λ q. All-cons P (e.0, v) es (subst (λ t. P (t, v)) (exact k e.0 q) p) parts.1
      | Greater ↦ λ q. All-cons P e (insert_entry R es k v) parts.0 (All-insert_entry exact P k v es p parts.1)
    ] refl

-- the values before and after
abbrev pair_of : Noted → Pair (List Value)
pair_of n = (values_of n.old, values_of n.new)

-- ---- one note more

module _ (es : List (List Value × Noted)) (k : List Value) (n : Noted) where
  pub AreNoted-more : HasKey k n.old → HasKey k n.new → option_eq values_eq (values_of n.old) (values_of n.new) ≡ false → AreNoted es → AreNoted (insert_entry key_cmp es k n)
  AreNoted-more old new apart h = All-insert_entry key_cmp-IsAntisymmetric (λ e. IsChange (change_of e)) k n es record { old = old; new = new; differs = λ e. contradicted _ ((option_eq-decides values_eq values_eq-IsEqualityTest (values_of n.old) (values_of n.new)).1 e) apart } h

  pub of_noted-more : of_noted (insert_entry key_cmp es k n) ≡ insert (of_noted es) k (values_of n.old, values_of n.new)
  of_noted-more = ap (λ (fs : List (List Value × Pair (List Value))). let m : Changes = from_entries fs in m) (map-insert_entry key_cmp pair_of k n es) ∙ from_entries-put key_cmp-IsTotalOrder key_cmp-IsAntisymmetric k (pair_of n) (map noted_entry es)

pub always_on_err : {T E P : Type 0} (r : Result T E) → P → OnErr r P
always_on_err (Ok x) p = tt
always_on_err (Err e) p = p

-- ---- the end

pub none_left : (n : ℕ) → (0 < n → false ≡ true) → n ≡ 0
none_left zero f = refl
none_left (suc n) f = let bad : false ≡ true = f (omega arith) in cc

append-nothing : {A : Type 0} (xs : List A) → xs ++ [] ≡ xs
append-nothing [] = refl
append-nothing {A} (x ∷ xs) = ap (λ (t : List A). x ∷ t) (append-nothing xs)

-- one more change is taken out of what was noted
pub taken-more : (cs : List Change) (c : Change) (e : List Value × Noted) (es rest all : List (List Value × Noted)) → es ≡ e ∷ rest → change_of e ≡ c → map change_entry cs ++ map noted_entry es ≡ map noted_entry all → map change_entry (cs ++ c ∷ []) ++ map noted_entry rest ≡ map noted_entry all
taken-more cs c e es rest all is same h =
    ap (λ (t : List (List Value × Pair (List Value))). t ++ map noted_entry rest) (map-append change_entry cs (c ∷ []) ∙ ap (λ (d : Change). map change_entry cs ++ change_entry d ∷ []) (sym same))
    ∙ append_assoc (map change_entry cs) (noted_entry e ∷ []) (map noted_entry rest)
    ∙ ap (λ (t : List (List Value × Noted)). map change_entry cs ++ map noted_entry t) (sym is)
    ∙ h

-- and at the end all are taken out
pub taken-all : (cs : List Change) (es all : List (List Value × Noted)) → length es ≡ 0 → map change_entry cs ++ map noted_entry es ≡ map noted_entry all → map change_entry cs ≡ map noted_entry all
taken-all cs [] all l h = sym (append-nothing (map change_entry cs)) ∙ h
taken-all cs (e ∷ es) all l h = absurd (omega arith)

pub is_sorted-noted : (es : List (List Value × Noted)) → IsStrictlySortedBy key_cmp (keys_of es) → T (is_sorted key_cmp (map noted_entry es))
is_sorted-noted es h = is_sorted-keys key_cmp pair_of es h

pub are_changes-taken : (cs : List Change) (all : List (List Value × Noted)) → map change_entry cs ≡ map noted_entry all → IsStrictlySortedBy key_cmp (keys_of all) → All IsChange cs → AreChanges cs
are_changes-taken cs all e s each = record { ascend = subst (λ (es : List (List Value × Pair (List Value))). T (is_sorted key_cmp es)) (sym e) (is_sorted-noted all s); each = each }

-- what is taken out is the delta of what was noted
pub of_changes-taken : (cs : List Change) (all : List (List Value × Noted)) → map change_entry cs ≡ map noted_entry all → of_changes cs ≡ of_noted all
of_changes-taken cs all e = ap (λ (es : List (List Value × Pair (List Value))). let m : Changes = from_entries es in m) e
