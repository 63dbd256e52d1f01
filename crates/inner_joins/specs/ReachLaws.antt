-- Laws of reaches.
use Rattle.std.proofs.Common.{◌≡◌, ℕ, zero, suc, ◌+◌, ◌*◌, List, [], ◌∷◌, length, refl, ap, ◌∙◌, arith}
use Rattle.std.specs.List.{count_by, range_with_len, sum_by}
use Rattle.std.specs.FinMap.{empty_of_len, len, len-empty}
use Rattle.std.proofs.lemmas.List.Sums.{sum_by-cons}
use Rattle.vtl_values.specs.declared.structure.Component.{Component}
use Rattle.vtl_values.specs.declared.value.Value.{Value}
use Rattle.vtl_values.specs.Order.{key_cmp}
use Rattle.data_model.specs.Deltas.{Pair}
use Rattle.data_model.proofs.MapLemmas.{keys-empty}
use Rattle.point_sets.specs.Changes.{Changes}
use Rattle.held_index.specs.Holdings.{Holding}
use Rattle.held_index.specs.Reach.{changes_in}
use Rattle.join_eval.specs.Plans.{structure_of}
use Rattle.operator_meaning.specs.joins.Joins.{JoinOn}
use Rattle.pair_ops.specs.Reach.{NamedValue, agree, named_values, pairs_with}
use Rattle.inner_joins.specs.Noted.{news_of}
use Rattle.inner_joins.specs.Reach.{inner_reach, pairs_of, points_for, steps_for}

-- where nothing changes no operand has a change
no_change : (news : List Changes) (number : ℕ) → changes_in news ≡ 0 → len (news_of number news) ≡ 0
no_change [] number h = len-empty key_cmp (Pair (List Value))
no_change (d ∷ ds) zero h = let all = sum_by-cons len d ds in omega (arith, all, h)
no_change (d ∷ ds) (suc number) h = let all = sum_by-cons len d ds in no_change ds number (omega (arith, all, h))

no_pair : (points : List (List NamedValue)) (structure : List Component) (change : Changes) → len change ≡ 0 → pairs_with points structure change ≡ 0
no_pair points structure change h =
    ap (pairs_with points structure) (empty_of_len change h)
    ∙ ap (sum_by (λ key. count_by (agree (named_values structure key)) points)) (keys-empty key_cmp (Pair (List Value)))

nothing_times : (a b c : ℕ) → b ≡ 0 → c ≡ 0 → a * (b + c) ≡ 0
nothing_times a b c g h = rw (g, h) (omega arith)

nothing_in_all : (f : ℕ → ℕ) (ns : List ℕ) → ((n : ℕ) → f n ≡ 0) → sum_by f ns ≡ 0
nothing_in_all f [] h = refl
nothing_in_all f (n ∷ ns) h =
    let all = sum_by-cons f n ns in
    let one = h n in
    let rest = nothing_in_all f ns h in
    omega (arith, all, one, rest)

-- without a change nothing is reached
pub no_reach : (j : JoinOn) (held : List Holding) (news : List Changes) → changes_in news ≡ 0 → inner_reach j held news ≡ 0
no_reach j held news h =
    nothing_in_all (steps_for j held news) (range_with_len 0 (length j.operands))
    (λ n. nothing_times (2 * length j.operands + 2) (len (news_of n news)) (pairs_of j held news n) (no_change news n h)
    (no_pair (points_for j held news n) (structure_of j n) (news_of n news) (no_change news n h)))
