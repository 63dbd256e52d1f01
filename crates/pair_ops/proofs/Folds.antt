-- Changes and points that are noted one after the other.
use Rattle.std.proofs.Common.{◌≡◌, ℕ, ◌+◌, ◌<◌, ◌≤◌, List, [], ◌∷◌, ◌++◌, map, take, length, get_or, Option, Some, None, option_map, refl, sym, ap, ◌∙◌, arith}
use Rattle.std.specs.Prelude.{fold, slice_get}
use Rattle.std.specs.List.{sum_by}
use Rattle.std.specs.FinMap.{entries, keys}
use Rattle.std.specs.declared.sync.Arc.{Arc}
use Rattle.std.specs.declared.alloc.Global.{Global}
use Rattle.std.proofs.lemmas.List.{length-map, take_all}
use Rattle.std.proofs.lemmas.List.Sums.{fold_more, sum_by-cons}
use Rattle.std.proofs.lemmas.Option.{slice_get-get_or}
use Rattle.std.proofs.Math.ListN.{get_or-map}
use Rattle.vtl_values.specs.declared.value.Value.{Value}
use Rattle.point_sets.specs.declared.delta.Change.{Change}
use Rattle.point_sets.specs.declared.point.Point.{Point}
use Rattle.point_sets.specs.Changes.{Changes, change_entry, values_of}
use Rattle.point_sets.specs.DataSets.{HasKey, rest_of}
use Rattle.held_index.specs.Walks.{PointValues}
use Rattle.pair_eval.specs.Made.{all_values}
use Rattle.operator_meaning.specs.pairs.Pairs.{PairOn}
use Rattle.pair_ops.specs.Noted.{ChangeValues, in_turn, met}

-- all values of a point, whose key is known
pub all_values-key : (key : List Value) (point : Option (Arc Point Global)) → HasKey key point → all_values point ≡ option_map (λ rest. key ++ rest) (values_of point)
all_values-key key None at = refl
all_values-key key (Some p) at = ap (λ (k : List Value). Some (k ++ rest_of p)) at

-- what is noted of two points is noted of their values
pub met-values : (p : PairOn) (key partner_key : List Value) (main partner : Option (Arc Point Global)) (u v : Option (List Value)) → HasKey key main → HasKey partner_key partner → values_of main ≡ u → values_of partner ≡ v → in_turn p (all_values main) (all_values partner) ≡ met p key partner_key u v
met-values p key partner_key main partner u v at_key at_partner own other =
    let all : all_values main ≡ option_map (λ rest. key ++ rest) u = all_values-key key main at_key ∙ ap (option_map (λ rest. key ++ rest)) own in
    let its : all_values partner ≡ option_map (λ rest. partner_key ++ rest) v = all_values-key partner_key partner at_partner ∙ ap (option_map (λ rest. partner_key ++ rest)) other in
    λ i. in_turn p (all i) (its i)

module _ {Y : Type 0} (f : Y → ChangeValues → Y) (a : Y) (cs : List Change) where
  -- one change more
  pub fold-change : (i : ℕ) (c : Change) (n m : Y) → i < length cs → c ≡ get_or cs i c → n ≡ fold f a (take i (map change_entry cs)) → m ≡ f n (change_entry c) → m ≡ fold f a (take (i + 1) (map change_entry cs))
  fold-change i c n m within at was is =
      let es : List ChangeValues = map change_entry cs in
      let here : get_or es i (change_entry c) ≡ change_entry c = get_or-map change_entry cs i c ∙ ap change_entry (sym at) in
      let inside : i < length es = omega (arith, within, length-map cs change_entry) in
      is ∙ (λ j. f (was j) (sym here j)) ∙ sym (fold_more f a es i (change_entry c) inside)

  -- all changes
  pub fold-changes : (i : ℕ) (n : Y) (d : Changes) → map change_entry cs ≡ entries d → length cs ≤ i → n ≡ fold f a (take i (map change_entry cs)) → n ≡ fold f a (entries d)
  fold-changes i n d all done was =
      let long : length (map change_entry cs) ≤ i = omega (arith, done, length-map cs change_entry) in
      was ∙ ap (λ (es : List ChangeValues). fold f a es) (take_all i (map change_entry cs) long ∙ all)

-- what comes of the keys of changes
pub sum_by-changes : (f : List Value → ℕ) (cs : List Change) (d : Changes) → map change_entry cs ≡ entries d → sum_by (λ (c : Change). f c.key) cs ≡ sum_by f (keys d)
sum_by-changes f cs d all = by_list cs ∙ ap (λ (es : List ChangeValues). sum_by f (map (λ e. e.0) es)) all
  where
    by_list : (bs : List Change) → sum_by (λ (c : Change). f c.key) bs ≡ sum_by f (map (λ (e : ChangeValues). e.0) (map change_entry bs))
    by_list [] = refl
    by_list (b ∷ bs) = sum_by-cons (λ (c : Change). f c.key) b bs ∙ ap (λ n. f b.key + n) (by_list bs) ∙ sym (sum_by-cons f b.key (map (λ (e : ChangeValues). e.0) (map change_entry bs)))

module _ {Y : Type 0} (f : Y → PointValues → Y) (a : Y) (ps : List PointValues) where
  -- one point more
  pub fold-point : (i : ℕ) (p : PointValues) (n m : Y) → i < length ps → Some p ≡ slice_get ps i → n ≡ fold f a (take i ps) → m ≡ f n p → m ≡ fold f a (take (i + 1) ps)
  fold-point i p n m within at was is =
      let here : p ≡ get_or ps i p = some_same (at ∙ slice_get-get_or ps i p within) in
      is ∙ (λ j. f (was j) (here j)) ∙ sym (fold_more f a ps i p within)
    where
      some_same : {q : PointValues} → Some p ≡ Some q → p ≡ q
      some_same e = cc

-- where there is a point one is found
pub found_within : {X : Type 0} (xs : List X) (i : ℕ) → i < length xs → None ≡ slice_get xs i → ⊥
found_within xs i within none = by_list xs i within none
  where
    by_list : {X : Type 0} (xs : List X) (i : ℕ) → i < length xs → None ≡ slice_get xs i → ⊥
    by_list [] i within none = absurd (omega arith)
    by_list (x ∷ xs) i within none = let at = slice_get-get_or (x ∷ xs) i x within in cc (none ∙ at)
