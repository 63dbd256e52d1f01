-- Data sets as their lists of points.
use Rattle.std.proofs.Common.{◌≡◌, ◌≢◌, ℕ, zero, suc, ◌<◌, ◌≤◌, List, [], ◌∷◌, map, Option, Some, None, Result, Ok, Err, IfOk, true, false, cond, inl, inr, sym, ◌∙◌, ap, refl, subst, T, arith, length, set}
use Rattle.std.specs.Option.{option_map}
use Rattle.std.specs.List.{slice_get, prefix_len, insert as list_insert, remove as list_remove}
use Rattle.std.specs.Ordering.{is_lt, is_le, eq_by_cmp}
use Rattle.std.proofs.lemmas.Option.{slice_get-map}
use Rattle.std.proofs.lemmas.Bool.{both_ways, cases_Bool}
use Rattle.std.proofs.Math.ListN.{length-map}
use Rattle.std.specs.Arc.{arc_value}
use Rattle.std.specs.declared.alloc.AllocError.{AllocError}
use Rattle.std.specs.declared.sync.Arc.{Arc}
use Rattle.std.specs.declared.alloc.Global.{Global}
use Rattle.std.specs.FinMap.{get, len, entries, from_entries, find, put, insert, remove, is_sorted, get-from_entries, get-remove, len-entries, same_map}
use Rattle.std.specs.FinMap.Entries.{is_sorted-put}
use Rattle.vtl_values.specs.Order.{key_cmp}
use Rattle.vtl_values.specs.declared.value.Value.{Value}
use Rattle.vtl_values.proofs.Values.{key_cmp-IsTotalOrder, key_cmp-IsAntisymmetric}
use Rattle.point_sets.specs.declared.point.Point.{Point}
use Rattle.point_sets.specs.DataSets.{DataSet, of_points, as_entry, entry_of, key_of, rest_of, Ascend, HasKey}
use Rattle.point_sets.specs.Places.{IsAt, IsGap, above}
use Rattle.ordered_tree.specs.Lists.{Parted}
use Rattle.data_model.proofs.EntryLemmas.{entries-from_entries, from_entries-put}
use Rattle.data_model.proofs.MapLemmas.{tied, tied_to_itself}
use Rattle.point_sets.proofs.Ordered.{find_at, find_gap, put_over, put_gap, find_removed, is_sorted-removed}
use Rattle.point_sets.proofs.Seeks.{parted_by, Falls-below, Falls-up_to, parts_at, first_above}

-- points that ascend are the entries of their data set
pub entries-of_points : (ps : List Point) → Ascend ps → entries (of_points ps) ≡ map as_entry ps
entries-of_points ps h = entries-from_entries key_cmp-IsTotalOrder key_cmp-IsAntisymmetric (map as_entry ps) h

pub len-of_points : (ps : List Point) → Ascend ps → len (of_points ps) ≡ length ps
len-of_points ps h = len-entries (of_points ps) ∙ ap length (entries-of_points ps h) ∙ length-map ps as_entry

pub get-of_points : (ps : List Point) (k : List Value) → get (of_points ps) k ≡ find key_cmp k (map as_entry ps)
get-of_points ps k = get-from_entries key_cmp-IsTotalOrder (map as_entry ps) k

pub slice_get-entries : (ps : List Point) (n : ℕ) → Ascend ps → slice_get (entries (of_points ps)) n ≡ option_map as_entry (slice_get ps n)
slice_get-entries ps n h = ap (λ (es : List (List Value × List Value)). slice_get es n) (entries-of_points ps h) ∙ slice_get-map as_entry ps n

-- the points that a walk down a tree passes stand first
pub parted_below : (ps : List Point) (k : List Value) → Ascend ps → Parted (λ p. is_lt (key_cmp p.key k)) ps
parted_below ps k s = parted_by key_cmp-IsTotalOrder as_entry (λ x. is_lt (key_cmp x k)) (Falls-below key_cmp-IsTotalOrder as_entry k) ps s

pub parted_up_to : (ps : List Point) (k : List Value) → Ascend ps → Parted (λ p. is_le (key_cmp p.key k)) ps
parted_up_to ps k s = parted_by key_cmp-IsTotalOrder as_entry (λ x. is_le (key_cmp x k)) (Falls-up_to key_cmp-IsTotalOrder as_entry k) ps s

-- a place with another key is where the key would go
pub gap_at : (ps : List Point) (k : List Value) (i : ℕ) → Ascend ps → i ≤ length ps → i ≡ prefix_len (λ p. is_lt (key_cmp p.key k)) ps → option_map (λ p. p.key) (slice_get ps i) ≢ Some k → IsGap ps k i
gap_at ps k i s le e n = record {
  within = le;
  parted = rw e (parts_at key_cmp-IsTotalOrder as_entry key_cmp-IsAntisymmetric k ps s (λ at. n (rw e at)));
}

-- the point that a walk comes to has the key, or another one
pub at_seen : (ps : List Point) (k : List Value) (n : ℕ) (r : Option (Arc Point Global)) (p : Arc Point Global) → r ≡ Some p → option_map arc_value r ≡ slice_get ps n → eq_by_cmp key_cmp (key_of p) k ≡ true → IsAt ps k n
at_seen ps k n r p is e same = rw (← e, is) (ap Some (tied key_cmp-IsTotalOrder key_cmp-IsAntisymmetric (key_of p) k same))

pub other_seen : (ps : List Point) (k : List Value) (n : ℕ) (r : Option (Arc Point Global)) (p : Arc Point Global) → r ≡ Some p → option_map arc_value r ≡ slice_get ps n → eq_by_cmp key_cmp (key_of p) k ≡ false → option_map (λ p. p.key) (slice_get ps n) ≢ Some k
other_seen ps k n r p is e other h =
    let there : Some (key_of p) ≡ Some k = rw (← e, is) at h in
    let same : key_of p ≡ k = cc in
    both_ways (eq_by_cmp key_cmp (key_of p) k) other (ap (λ t. eq_by_cmp key_cmp t k) same ∙ tied_to_itself key_cmp-IsTotalOrder k)

pub none_seen : (ps : List Point) (k : List Value) (n : ℕ) (r : Option (Arc Point Global)) → r ≡ None → option_map arc_value r ≡ slice_get ps n → option_map (λ p. p.key) (slice_get ps n) ≢ Some k
none_seen ps k n r is e h = let none : None ≡ Some k = rw (← e, is) at h in cc

-- the first point above a key
pub above_at : (ps : List Point) (k : List Value) → Ascend ps → option_map as_entry (slice_get ps (prefix_len (λ p. is_le (key_cmp p.key k)) ps)) ≡ slice_get (above key_cmp k (entries (of_points ps))) 0
above_at ps k s = first_above key_cmp-IsTotalOrder as_entry k ps ∙ ap (λ (es : List (List Value × List Value)). slice_get (above key_cmp k es) 0) (sym (entries-of_points ps s))

-- ---- points that were handed out

pub entry_seen : (r : Option (Arc Point Global)) (x : Option Point) → option_map arc_value r ≡ x → option_map entry_of r ≡ option_map as_entry x
entry_seen None x e = rw (← e) refl
entry_seen (Some p) x e = rw (← e) refl

pub entries_seen : (qs : List (Arc Point Global)) (ps : List Point) → map arc_value qs ≡ ps → map entry_of qs ≡ map as_entry ps
entries_seen [] ps e = rw (← e) refl
entries_seen (q ∷ qs) ps e = rw (← e) (ap (λ (t : List (List Value × List Value)). entry_of q ∷ t) (entries_seen qs (map arc_value qs) refl))

rest_seen : (r : Option (Arc Point Global)) (x : Option Point) → option_map arc_value r ≡ x → option_map rest_of r ≡ option_map (λ p. p.rest) x
rest_seen None x e = rw (← e) refl
rest_seen (Some p) x e = rw (← e) refl

-- the point at the place of a key
at_point : (ps : List Point) (k : List Value) (i : ℕ) → IsAt ps k i → (p : Point) × (slice_get ps i ≡ Some p) × (p.key ≡ k)
at_point ps k i h = elim (slice_get ps i) as (λ r. slice_get ps i ≡ r → option_map (λ (p : Point). p.key) r ≡ Some k → (p : Point) × (slice_get ps i ≡ Some p) × (p.key ≡ k)) [
  | None ↦ λ e h. cc
  | Some p ↦ λ e h. (p, e, cc)
] refl h

slice_get-within : (ps : List Point) (i : ℕ) (p : Point) → slice_get ps i ≡ Some p → i < length ps
slice_get-within [] i p e = cc
slice_get-within (q ∷ ps) zero p e = omega arith
slice_get-within (q ∷ ps) (suc i) p e = let h = slice_get-within ps i p e in omega arith

pub within_at : (ps : List Point) (k : List Value) (i : ℕ) → IsAt ps k i → i < length ps
within_at ps k i h = let found = at_point ps k i h in slice_get-within ps i found.0 found.1

-- what the map has at a key is what the point at its place has
pub get_at : (ps : List Point) (k : List Value) (i : ℕ) (r : Option (Arc Point Global)) → Ascend ps → IsAt ps k i → option_map arc_value r ≡ slice_get ps i → option_map rest_of r ≡ get (of_points ps) k
get_at ps k i r s h e =
    let found = at_point ps k i h in
    let there = find_at key_cmp-IsTotalOrder key_cmp-IsAntisymmetric as_entry ps i found.0 s found.1 in
    rest_seen r (slice_get ps i) e ∙ ap (option_map (λ (p : Point). p.rest)) found.1 ∙ sym (get-of_points ps k ∙ subst (λ t. find key_cmp t (map as_entry ps) ≡ Some (found.0).rest) found.2 there)

pub key_at : (ps : List Point) (k : List Value) (i : ℕ) (r : Option (Arc Point Global)) → IsAt ps k i → option_map arc_value r ≡ slice_get ps i → HasKey k r
key_at ps k i None h e = tt
key_at ps k i (Some p) h e = let there : Some (key_of p) ≡ Some k = rw (← e) at h in cc

-- nothing is at a key that has a gap
pub get_gap : (ps : List Point) (k : List Value) (i : ℕ) → IsGap ps k i → get (of_points ps) k ≡ None
get_gap ps k i h = get-of_points ps k ∙ find_gap key_cmp-IsTotalOrder key_cmp-IsAntisymmetric as_entry k ps i h.parted

-- what holds of the list that an answer is holds of the answer
pub IfOk-as : (P : List Point → Type 0) {xs : List Point} (r : Result (List Point) AllocError) → IfOk r (λ ys. ys ≡ xs) → P xs → IfOk r P
IfOk-as P (Ok ys) e h = subst P (sym e) h
IfOk-as P (Err x) e h = tt

-- ---- a point put in

module _ (ps : List Point) (p : Point) (i : ℕ) where
  -- the entries with a point over the one of its key, and with a new one
  over : Ascend ps → IsAt ps p.key i → map as_entry (set ps i p) ≡ put key_cmp p.key p.rest (map as_entry ps)
  over s h = let found = at_point ps p.key i h in sym (put_over key_cmp-IsTotalOrder key_cmp-IsAntisymmetric as_entry ps i p found.0 s found.1 found.2)

  beside : IsGap ps p.key i → map as_entry (list_insert ps i p) ≡ put key_cmp p.key p.rest (map as_entry ps)
  beside h = sym (put_gap key_cmp-IsTotalOrder key_cmp-IsAntisymmetric as_entry ps i p h.within h.parted)

  ascend_after : (qs : List Point) → map as_entry qs ≡ put key_cmp p.key p.rest (map as_entry ps) → Ascend ps → Ascend qs
  ascend_after qs e s = subst (λ es. T (is_sorted key_cmp es)) (sym e) (is_sorted-put key_cmp key_cmp-IsTotalOrder p.key p.rest (map as_entry ps) s)

  map_after : (qs : List Point) → map as_entry qs ≡ put key_cmp p.key p.rest (map as_entry ps) → of_points qs ≡ insert (of_points ps) p.key p.rest
  map_after qs e = ap (λ (es : List (List Value × List Value)). let m : DataSet = from_entries es in m) e ∙ from_entries-put key_cmp-IsTotalOrder key_cmp-IsAntisymmetric p.key p.rest (map as_entry ps)

  pub ascend_over : Ascend ps → IsAt ps p.key i → Ascend (set ps i p)
  ascend_over s h = ascend_after (set ps i p) (over s h) s

  pub ascend_beside : Ascend ps → IsGap ps p.key i → Ascend (list_insert ps i p)
  ascend_beside s h = ascend_after (list_insert ps i p) (beside h) s

  pub map_over : Ascend ps → IsAt ps p.key i → of_points (set ps i p) ≡ insert (of_points ps) p.key p.rest
  map_over s h = map_after (set ps i p) (over s h)

  pub map_beside : IsGap ps p.key i → of_points (list_insert ps i p) ≡ insert (of_points ps) p.key p.rest
  map_beside h = map_after (list_insert ps i p) (beside h)

-- ---- a point taken out

module _ (ps : List Point) (k : List Value) (i : ℕ) where
  pub ascend_without : Ascend ps → Ascend (list_remove ps i)
  ascend_without s = is_sorted-removed key_cmp-IsTotalOrder key_cmp-IsAntisymmetric as_entry ps i s

  pub map_without : Ascend ps → IsAt ps k i → of_points (list_remove ps i) ≡ remove (of_points ps) k
  map_without s h =
      let found = at_point ps k i h in
      same_map key_cmp-IsTotalOrder key_cmp-IsAntisymmetric _ _ (λ q.
      get-of_points (list_remove ps i) q
      ∙ find_removed key_cmp-IsTotalOrder key_cmp-IsAntisymmetric as_entry q ps i found.0 s found.1
      ∙ ap (λ (t : List Value). cond (eq_by_cmp key_cmp q t) None (find key_cmp q (map as_entry ps))) found.2
      ∙ sym (get-remove key_cmp-IsTotalOrder (of_points ps) k q ∙ ap (cond (eq_by_cmp key_cmp q k) None) (get-of_points ps q)))

  -- none is to be taken out at a gap
  pub map_within : IsGap ps k i → of_points ps ≡ remove (of_points ps) k
  map_within h = same_map key_cmp-IsTotalOrder key_cmp-IsAntisymmetric _ _ (λ q. sym (get-remove key_cmp-IsTotalOrder (of_points ps) k q ∙ elim (cases_Bool (eq_by_cmp key_cmp q k)) [
    | inl t ↦ rw t (sym (ap (get (of_points ps)) (tied key_cmp-IsTotalOrder key_cmp-IsAntisymmetric q k t) ∙ get_gap ps k i h))
    | inr n ↦ rw n refl
  ]))
