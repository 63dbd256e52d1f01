-- Lists of entries, in which code holds maps.
use Rattle.std.specs.Prelude.{ℕ, suc, List, [], ◌∷◌, ◌++◌, option_map, cond, not, is_some}
use Rattle.std.specs.List.{filter, filter_map}
use Rattle.std.specs.declared.cmp.Ordering.{Ordering}
use Rattle.std.specs.Ordering.{is_lt}
use Rattle.std.specs.FinMap.{find}
use Rattle.data_model.specs.Deltas.{Pair}

-- the entries of the new points of changes
abbrev pub new_entries : {K X : Type 0} → List (K × Pair X) → List (K × X)
new_entries cs = filter_map (λ c. option_map (λ x. (c.0, x)) c.1.1) cs

module _ {K X : Type 0} (R : K → K → Ordering) where
  -- how many entries stand before the place of a key
  abbrev pub place_of : K → List (K × X) → ℕ
  place_of k [] = 0
  place_of k (e ∷ es) = cond (is_lt (R e.0 k)) (suc (place_of k es)) 0

  -- the entries after changes, in any order: the new points, and the old ones at keys that no change names
  abbrev pub entries_after : List (K × Pair X) → List (K × X) → List (K × X)
  entries_after cs es = new_entries cs ++ filter (λ e. not (is_some (find R e.0 cs))) es
