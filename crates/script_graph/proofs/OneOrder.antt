-- A graph has one order at most.
use Rattle.std.proofs.Common.{◌≡◌, ◌≢◌, ℕ, zero, suc, ◌≤◌, ◌<◌, Bool, true, List, [], ◌∷◌, ◌++◌, Option, Some, None, length, refl, sym, ap, ◌∙◌, subst, arith, append_assoc}
use Rattle.std.specs.Prelude.{replicate, false}
use Rattle.std.specs.List.{All, AllPairs}
use Rattle.std.proofs.Math.ListN.{set}
use Rattle.std.proofs.lemmas.List.Elements.{All-head, All-tail}
use Rattle.shortest_cycles.specs.Paths.{Graph}
use Rattle.shortest_cycles.proofs.CyclesFound.{found_within}
use Rattle.script_graph.specs.Orders.{CanCome, FollowUses, FirstsCome, IsOrder, can_come, next_of, from_next, order_after, order_of}
use Rattle.script_graph.proofs.Orders.{Marks, can-come, next_can, next_least, not_before, marks_more, marks_none}

-- the one that comes before all that can come is found
next_is : (g : Graph) (marks : List Bool) (done : List ℕ) (i : ℕ) → Marks g marks done → CanCome g done i → ((j : ℕ) → CanCome g done j → i ≤ j) → (o : Option ℕ) → next_of g marks ≡ o → o ≡ Some i
next_is g marks done i m can least None found =
    let less : i < length g = can.below in
    absurd (found_within (can_come g marks) 0 (length g) i (omega arith) (omega arith) (can-come g marks done m i can) found)
next_is g marks done i m can least (Some j) found =
    let low : j ≤ i = next_least g marks done j m found i can in
    let high : i ≤ j = least j (next_can g marks done j m found) in
    let same : j ≡ i = omega arith in
    ap Some same

rest_only : (g : Graph) (n : ℕ) (marks : List Bool) (done rest : List ℕ) → length rest ≡ n → Marks g marks done → AllPairs (λ i j. i ≢ j) (done ++ rest) → All (λ i. i < length g) rest → FollowUses g done rest → FirstsCome g done rest → rest ≡ order_after g marks n
rest_only g zero marks done [] long m once below follows firsts = refl
rest_only g zero marks done (i ∷ is) long m once below follows firsts = absurd (omega arith)
rest_only g (suc n) marks done [] long m once below follows firsts = absurd (omega arith)
rest_only g (suc n) marks done (i ∷ is) long m once below follows firsts =
    let can : CanCome g done i = record { below = All-head (λ j. j < length g) i is below; new = not_before done i is once; ready = follows.0 } in
    let found : next_of g marks ≡ Some i = next_is g marks done i m can firsts.0 (next_of g marks) refl in
    let shorter : length is ≡ n = omega arith in
    let rest = rest_only g n (set marks i true) (done ++ i ∷ []) is shorter (marks_more g marks done i can.below m) (subst (AllPairs (λ j k. j ≢ k)) (sym (append_assoc done (i ∷ []) is)) once) (All-tail (λ j. j < length g) i is below) follows.1 firsts.1 in
    ap (λ (js : List ℕ). i ∷ js) rest ∙ ap (from_next (λ j. order_after g (set marks j true) n)) (sym found)

-- an order is the one in which at each step the first that can come does
pub only : (g : Graph) (order : List ℕ) → IsOrder g order → order ≡ order_of g
only g order o = rest_only g (length g) (replicate (length g) false) [] order o.all (marks_none g) o.once o.below o.follows o.firsts
