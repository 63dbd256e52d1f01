-- The delta that makes a data set from nothing.
use Rattle.std.proofs.Common.{◌≡◌, List, [], ◌∷◌, ◌++◌, map, Option, Some, None, sym, ◌∙◌, ap, refl, subst}
use Rattle.std.specs.Prelude.{true, false, ◌&&◌, cond}
use Rattle.std.specs.Option.{option_map, IsSomeAnd}
use Rattle.std.specs.Arc.{arc_value}
use Rattle.std.specs.List.{All}
use Rattle.std.specs.declared.cmp.Ordering.{Ordering}
use Rattle.std.specs.declared.sync.Arc.{Arc}
use Rattle.std.specs.declared.alloc.Global.{Global}
use Rattle.std.specs.Ordering.{is_lt, eq_by_cmp}
use Rattle.std.specs.FinMap.{get, empty, entries, find, is_sorted, entries_sorted, get-empty, get-entries, get-from_entries}
use Rattle.std.specs.FinMap.Entries.{below_all}
use Rattle.std.proofs.lemmas.List.{map-append}
use Rattle.std.proofs.lemmas.Simd.{map-map}
use Rattle.std.proofs.lemmas.List.Elements.{All-append, All-cons, All-nil}
use Rattle.data_model.specs.Deltas.{Pair, LeadsAt, Leads}
use Rattle.data_model.proofs.DeltaLemmas.{Leads-by_key}
use Rattle.vtl_values.specs.declared.value.Value.{Value}
use Rattle.vtl_values.specs.Order.{key_cmp}
use Rattle.vtl_values.proofs.Values.{key_cmp-IsTotalOrder, key_cmp-IsAntisymmetric}
use Rattle.point_sets.specs.DataSets.{DataSet, HasKey, entry_of, key_of, rest_of}
use Rattle.point_sets.specs.Changes.{values_of, change_entry, of_changes, AreChanges, IsChange, IsComing}
use Rattle.point_sets.specs.declared.point.Point.{Point}
use Rattle.point_sets.specs.declared.delta.Change.{Change}

-- an entry whose value is seen as g of it
module _ {K X Y : Type 0} (R : K → K → Ordering) (g : X → Y) where
  below_all-seen : (k : K) (es : List (K × X)) → below_all R k (map (λ e. (e.0, g e.1)) es) ≡ below_all R k es
  below_all-seen k [] = refl
  below_all-seen k (e ∷ es) = ap (λ b. is_lt (R k e.0) && b) (below_all-seen k es)

  is_sorted-seen : (es : List (K × X)) → is_sorted R (map (λ e. (e.0, g e.1)) es) ≡ is_sorted R es
  is_sorted-seen [] = refl
  is_sorted-seen (e ∷ es) = rw (below_all-seen e.0 es, is_sorted-seen es) refl

  find-seen : (q : K) (es : List (K × X)) → find R q (map (λ e. (e.0, g e.1)) es) ≡ option_map g (find R q es)
  find-seen q [] = refl
  find-seen q (e ∷ es) = rw (find-seen q es) (elim (eq_by_cmp R q e.0) as (λ b. cond b (Some (g e.1)) (option_map g (find R q es)) ≡ option_map g (cond b (Some e.1) (find R q es))) [ true ↦ refl | false ↦ refl ])

-- what comes where there was nothing
abbrev comes : {X : Type 0} → X → Pair X
comes x = (None, Some x)

abbrev coming_entry : List Value × List Value → List Value × Pair (List Value)
coming_entry e = (e.0, comes e.1)

-- a point that is there and has the same parts
comes_with : (point : Arc Point Global) (k : List Value) (new : Option (Arc Point Global)) → k ≡ key_of point → IsSomeAnd new (λ p. arc_value p ≡ arc_value point) → HasKey k new × (values_of new ≡ Some (rest_of point))
comes_with point k None e h = absurd h
comes_with point k (Some p) e h = (ap (λ (q : Point). q.key) h ∙ sym e, ap (λ (q : Point). Some q.rest) h)

change_entry-coming : (point : Arc Point Global) (change : Change) → IsComing point change → change_entry change ≡ coming_entry (entry_of point)
change_entry-coming point change h = rw (h.key, h.old, (comes_with point change.key change.new h.key h.new).1) refl

IsChange-coming : (point : Arc Point Global) (change : Change) → IsComing point change → IsChange change
IsChange-coming point change h = let there = comes_with point change.key change.new h.key h.new in record {
  old = subst (λ (p : Option (Arc Point Global)). HasKey change.key p) (sym h.old) tt;
  new = there.0;
  differs = rw (h.old, there.1) (λ e. cc e);
}

-- the changes by which these points come
pub record Come (points : List (Arc Point Global)) (changes : List Change) : Type 0 where
  pub entries_are : map change_entry changes ≡ map (λ p. coming_entry (entry_of p)) points
  pub each : All IsChange changes

pub come-none : Come [] []
come-none = record { entries_are = refl; each = All-nil IsChange }

pub come-more : (points : List (Arc Point Global)) (changes : List Change) (point : Arc Point Global) (change : Change) → Come points changes → IsComing point change → Come (points ++ point ∷ []) (changes ++ change ∷ [])
come-more points changes point change h c = record {
  entries_are =
      map-append change_entry changes (change ∷ [])
      ∙ ap (λ (t : List (List Value × Pair (List Value))). t ++ change_entry change ∷ []) h.entries_are
      ∙ ap (λ (e : List Value × Pair (List Value)). map (λ p. coming_entry (entry_of p)) points ++ e ∷ []) (change_entry-coming point change c)
      ∙ sym (map-append (λ p. coming_entry (entry_of p)) points (point ∷ []));
  each = All-append IsChange changes (change ∷ []) h.each (All-cons IsChange change [] (IsChange-coming point change c) (All-nil IsChange));
}

entries-come : (points : List (Arc Point Global)) (set : DataSet) (changes : List Change) → map entry_of points ≡ entries set → Come points changes → map change_entry changes ≡ map coming_entry (entries set)
entries-come points set changes all h = h.entries_are ∙ sym (map-map coming_entry entry_of points) ∙ ap (map coming_entry) all

pub are_changes-come : (points : List (Arc Point Global)) (set : DataSet) (changes : List Change) → map entry_of points ≡ entries set → Come points changes → AreChanges changes
are_changes-come points set changes all h = record {
  ascend = rw (entries-come points set changes all h, is_sorted-seen key_cmp comes (entries set)) (entries_sorted set);
  each = h.each;
}

leads_at_comes : (x : Option (List Value)) → LeadsAt (option_map comes x) None x
leads_at_comes None = refl
leads_at_comes (Some v) = (refl, refl, λ e. cc e)

pub leads-come : (points : List (Arc Point Global)) (set : DataSet) (changes : List Change) → map entry_of points ≡ entries set → Come points changes → Leads (of_changes changes) empty set
leads-come points set changes all h = Leads-by_key key_cmp-IsTotalOrder key_cmp-IsAntisymmetric (of_changes changes) empty set (λ q.
    let there : get (of_changes changes) q ≡ option_map comes (get set q) =
    get-from_entries key_cmp-IsTotalOrder (map change_entry changes) q
    ∙ ap (find key_cmp q) (entries-come points set changes all h)
    ∙ find-seen key_cmp comes q (entries set)
    ∙ ap (option_map comes) (sym (get-entries set q)) in
    rw (there, get-empty key_cmp q) (leads_at_comes (get set q)))
