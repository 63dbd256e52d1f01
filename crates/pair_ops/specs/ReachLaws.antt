-- Laws of reaches.
use Rattle.std.proofs.Common.{◌≡◌, ℕ, ◌+◌, ◌*◌, List, [], ◌∷◌, length, refl, ◌∙◌, ap, arith}
use Rattle.std.specs.List.{count_by, sum_by, zip}
use Rattle.std.specs.FinMap.{empty_of_len, len}
use Rattle.std.proofs.lemmas.List.Sums.{sum_by-cons}
use Rattle.vtl_values.specs.declared.structure.Component.{Component}
use Rattle.vtl_values.specs.declared.value.Value.{Value}
use Rattle.vtl_values.specs.Order.{key_cmp}
use Rattle.data_model.specs.Deltas.{Pair}
use Rattle.data_model.proofs.MapLemmas.{keys-empty}
use Rattle.point_sets.specs.Changes.{Changes}
use Rattle.held_index.specs.Holdings.{Holding}
use Rattle.held_index.specs.Reach.{changes_in}
use Rattle.pair_ops.specs.Reach.{NamedValue, agree, main_points, named_values, pairs_with, pairs_in, matching_reach}

no_key : (points : List (List NamedValue)) (structure : List Component) (change : Changes) → len change ≡ 0 → pairs_with points structure change ≡ 0
no_key points structure change h =
    ap (pairs_with points structure) (empty_of_len change h)
    ∙ ap (sum_by (λ key. count_by (agree (named_values structure key)) points)) (keys-empty key_cmp (Pair (List Value)))

no_pairs : (points : List (List NamedValue)) (structures : List (List Component)) (news : List Changes) → changes_in news ≡ 0 → sum_by (λ p. pairs_with points p.0 p.1) (zip structures news) ≡ 0
no_pairs points [] news h = refl
no_pairs points (s ∷ ss) [] h = refl
no_pairs points (s ∷ ss) (d ∷ ds) h =
    let all = sum_by-cons len d ds in
    let first = no_key points s d (omega (arith, h, all)) in
    let rest = no_pairs points ss ds (omega (arith, h, all)) in
    sum_by-cons (λ (p : List Component × Changes). pairs_with points p.0 p.1) (s, d) (zip ss ds) ∙ (omega (arith, first, rest))

nothing_times : (a b c : ℕ) → b ≡ 0 → c ≡ 0 → a * (b + c) ≡ 0
nothing_times a b c g h = rw (g, h) (omega arith)

-- without a change nothing is reached
pub no_reach : (structures : List (List Component)) (main : ℕ) (held : List Holding) (news : List Changes) → changes_in news ≡ 0 → matching_reach structures main held news ≡ 0
no_reach structures main held news h = nothing_times (2 * length structures + 2) (changes_in news) (pairs_in structures main held news) h (no_pairs (main_points structures main held news) structures news h)
