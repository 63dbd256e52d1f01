-- The points of a group.
use Rattle.std.proofs.Common.{◌≡◌, List, [], ◌∷◌, ◌++◌, map, Bool, true, false, cond, Option, None, refl, sym, ap, ◌∙◌, ℕ}
use Rattle.std.specs.Prelude.{filter}
use Rattle.std.specs.Ordering.{eq_by_cmp}
use Rattle.std.specs.declared.cmp.Ordering.TheVariants.{Equal}
use Rattle.std.specs.FinMap.{entries, entries_sorted, get, get-entries, keys, find}
use Rattle.std.specs.FinMap.Entries.{find-where_key, is_sorted-where_key, same_entries}
use Rattle.vtl_values.specs.declared.value.Value.{Value}
use Rattle.vtl_values.specs.Order.{key_cmp}
use Rattle.vtl_values.proofs.Values.{key_cmp-IsTotalOrder, key_cmp-IsAntisymmetric}
use Rattle.data_model.specs.Maps.{is_listed}
use Rattle.data_model.proofs.MapLemmas.{neither, tied}
use Rattle.point_sets.specs.DataSets.{DataSet}
use Rattle.operator_meaning.specs.aggregates.Groups.{group_of, is_in, group_at, if_any}

abbrev Points : Type 0
Points = List (List Value × List Value)

module _ (grouping : List ℕ) (group : List Value) where
  -- where no key comes to it a group has no points
  none-in : (ps : Points) → is_listed key_cmp (map (group_of grouping) (map (λ (p : List Value × List Value). p.0) ps)) group ≡ false → filter (is_in grouping group) ps ≡ []
  none-in [] h = refl
  none-in (p ∷ ps) h =
      let apart = neither (eq_by_cmp key_cmp group (group_of grouping p.0)) (is_listed key_cmp (map (group_of grouping) (map (λ (q : List Value × List Value). q.0) ps)) group) h in
      rw apart.0 (none-in ps apart.1)

  pub unlisted-group : (x : DataSet) → is_listed key_cmp (map (group_of grouping) (keys x)) group ≡ false → group_at grouping x group ≡ None
  unlisted-group x h = ap (λ (ps : Points). if_any (map (λ (p : List Value × List Value). p.0 ++ p.1) ps)) (none-in (entries x) h)

  -- ---- the same points in two data sets

  abbrev is_of : List Value → Bool
  is_of key = eq_by_cmp key_cmp group (group_of grouping key)

  alike : (q k : List Value) → key_cmp q k ≡ Equal → is_of k ≡ is_of q
  alike q k e = ap is_of (sym (key_cmp-IsAntisymmetric q k e))

  found-in : (x : DataSet) (q : List Value) → find key_cmp q (filter (is_in grouping group) (entries x)) ≡ cond (is_of q) (get x q) None
  found-in x q = find-where_key key_cmp is_of q (alike q) (entries x) ∙ ap (λ (o : Option (List Value)). cond (is_of q) o None) (sym (get-entries x q))

  pub same-points : (x y : DataSet) → ((key : List Value) → group_of grouping key ≡ group → get x key ≡ get y key) → filter (is_in grouping group) (entries x) ≡ filter (is_in grouping group) (entries y)
  same-points x y same =
      same_entries key_cmp key_cmp-IsTotalOrder key_cmp-IsAntisymmetric _ _
      (is_sorted-where_key key_cmp is_of (entries x) (entries_sorted x))
      (is_sorted-where_key key_cmp is_of (entries y) (entries_sorted y))
      (λ q. found-in x q ∙ by_test q (is_of q) refl ∙ sym (found-in y q))
    where
      by_test : (q : List Value) (b : Bool) → is_of q ≡ b → cond b (get x q) None ≡ cond b (get y q) None
      by_test q true e = same q (sym (tied key_cmp-IsTotalOrder key_cmp-IsAntisymmetric group (group_of grouping q) e))
      by_test q false e = refl

  pub same-group : (x y : DataSet) → ((key : List Value) → group_of grouping key ≡ group → get x key ≡ get y key) → group_at grouping x group ≡ group_at grouping y group
  same-group x y same = ap (λ (ps : Points). if_any (map (λ (p : List Value × List Value). p.0 ++ p.1) ps)) (same-points x y same)
