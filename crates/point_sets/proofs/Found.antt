-- The change that a key has in a delta.
use Rattle.std.proofs.Common.{◌≡◌, ℕ, ◌<◌, List, map, length, get_or, Some, None, Err, Result, sym, ◌∙◌, ap, subst}
use Rattle.std.specs.List.Sorted.{IsBinarySearchResult}
use Rattle.std.specs.declared.cmp.Ordering.TheVariants.{Equal}
use Rattle.std.proofs.lemmas.Option.{slice_get-get_or}
use Rattle.std.specs.FinMap.{entries, find, get, get-entries}
use Rattle.vtl_values.specs.declared.value.Value.{Value}
use Rattle.vtl_values.specs.Order.{key_cmp}
use Rattle.vtl_values.proofs.Values.{key_cmp-IsTotalOrder, key_cmp-IsAntisymmetric}
use Rattle.data_model.specs.Deltas.{Pair}
use Rattle.point_sets.specs.declared.delta.Change.{Change}
use Rattle.point_sets.specs.Changes.{Changes, change_entry, AreChanges, IsChange}
use Rattle.point_sets.specs.DataSets.{HasKey}
use Rattle.point_sets.proofs.Ordered.{find_at, find_gap, comparisons_rise}

module _ (cs : List Change) (d : Changes) (all : map change_entry cs ≡ entries d) (ordered : AreChanges cs) where
  by_list : (k : List Value) → get d k ≡ find key_cmp k (map change_entry cs)
  by_list k = get-entries d k ∙ ap (λ (es : List (List Value × Pair (List Value))). find key_cmp k es) (sym all)

  -- what stands at a place is the change at its key
  pub change_at : (i : ℕ) (c : Change) → i < length cs → c ≡ get_or cs i c → get d c.key ≡ Some (change_entry c).1
  change_at i c within at = by_list c.key ∙ find_at key_cmp-IsTotalOrder key_cmp-IsAntisymmetric change_entry cs i c ordered.ascend (slice_get-get_or cs i c within ∙ ap Some (sym at))

  -- a search by key finds it
  pub change_found : (k : List Value) (i : ℕ) (c : Change) → i < length cs → c ≡ get_or cs i c → ((b : Change) → key_cmp (get_or cs i b).key k ≡ Equal) → get d k ≡ Some (change_entry c).1
  change_found k i c within at tied = subst (λ j. get d j ≡ Some (change_entry c).1) (ap (λ (b : Change). b.key) at ∙ key_cmp-IsAntisymmetric (get_or cs i c).key k (tied c)) (change_at i c within at)

  -- or finds that there is none
  pub change_absent : (k : List Value) (i : ℕ) → (let r : Result ℕ ℕ = Err i in IsBinarySearchResult (λ c. key_cmp c.key k) cs r) → get d k ≡ None
  change_absent k i gap = by_list k ∙ find_gap key_cmp-IsTotalOrder key_cmp-IsAntisymmetric change_entry k cs i (gap (comparisons_rise key_cmp-IsTotalOrder key_cmp-IsAntisymmetric change_entry k cs ordered.ascend))

  -- and so does the point that it leaves there
  pub left_there : (k : List Value) (i : ℕ) (c : Change) → i < length cs → c ≡ get_or cs i c → ((b : Change) → key_cmp (get_or cs i b).key k ≡ Equal) → HasKey k c.new
  left_there k i c within at tied =
      let is : IsChange c = subst IsChange (sym at) (ordered.each i c within) in
      let same : c.key ≡ k = ap (λ (b : Change). b.key) at ∙ key_cmp-IsAntisymmetric (get_or cs i c).key k (tied c) in
      subst (λ (j : List Value). HasKey j c.new) same is.new
