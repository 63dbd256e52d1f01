-- What is kept of an operand, by its number.
use Rattle.std.proofs.Common.{◌≡◌, ℕ, ◌+◌, ◌-◌, ◌≤◌, List, [], ◌∷◌, ◌++◌, length, refl, sym, ap, ◌∙◌, arith}
use Rattle.std.specs.List.{range_with_len}
use Rattle.std.proofs.lemmas.List.FromFn.{map-range_with_len_more}
use Rattle.std.proofs.lemmas.List.{length-map, map-id}
use Rattle.vtl_values.specs.declared.structure.Component.{Component}
use Rattle.vtl_syntax.specs.declared.words.JoinFunction.{JoinFunction}
use Rattle.vtl_syntax.specs.declared.words.JoinFunction.TheVariants.{Inner, Left, Full, Cross}
use Rattle.data_set_trees.specs.Components.{identifiers}
use Rattle.operator_meaning.specs.joins.Joins.{JoinOn, runs, places_of, own_places, join_on}

length-runs : (n : ℕ) (ss : List (List Component)) → length (runs n ss) ≡ length ss
length-runs n [] = refl
length-runs n (s ∷ ss) = let rest = length-runs (n + length (identifiers s)) ss in omega (arith, rest)

-- there are as many places as operands
pub length-places : (j : JoinOn) → length (own_places j) ≡ length j.operands
length-places j = by_function j.function refl
  where
    by_function : (f : JoinFunction) → j.function ≡ f → length (own_places j) ≡ length j.operands
    by_function Inner e = ap (λ (g : JoinFunction). length (own_places (join_on g j.operands j.structure))) e ∙ length-map j.operands (places_of (join_on Inner j.operands j.structure))
    by_function Left e = ap (λ (g : JoinFunction). length (own_places (join_on g j.operands j.structure))) e ∙ length-map j.operands (places_of (join_on Left j.operands j.structure))
    by_function Full e = ap (λ (g : JoinFunction). length (own_places (join_on g j.operands j.structure))) e ∙ length-map j.operands (places_of (join_on Full j.operands j.structure))
    by_function Cross e = ap (λ (g : JoinFunction). length (own_places (join_on g j.operands j.structure))) e ∙ length-runs 0 j.operands

-- a run with one number more
pub run-more : (from n : ℕ) → from ≤ n → range_with_len from (n + 1 - from) ≡ range_with_len from (n - from) ++ n ∷ []
run-more from n below =
    let len : n + 1 - from ≡ (n - from) + 1 = omega arith in
    ap (range_with_len from) len
    ∙ sym (map-id (range_with_len from ((n - from) + 1)))
    ∙ map-range_with_len_more (λ k. k) from (n - from) n (omega arith)
    ∙ ap (λ (ks : List ℕ). ks ++ n ∷ []) (map-id (range_with_len from (n - from)))
