-- The numbers of a pass through each step, by which a caller shows that a pass is sole.
use Rattle.std.proofs.Common.{◌≡◌, ◌==◌, ◌&&◌, ℕ, ◌+◌, ◌-◌, ◌<◌, nat_le, nat_lt, List, ◌++◌, true, cond, refl, ap, ◌∙◌, arith, count_by}
use Rattle.std.proofs.lemmas.Bool.Decides.{nat_tests}
use Rattle.std.proofs.lemmas.List.Sums.{sum_by-append}
use Rattle.turn_lock.specs.declared.rule.Joined.{Joined}
use Rattle.turn_lock.specs.declared.rule.View.{View}
use Rattle.turn_lock.specs.Pass.{lists_of, is_unused, places, IsSole}
use Rattle.turn_lock.specs.Steps.{newcomer, given, split_left, split_right, joined}

-- a run of unused numbers cut in three
run_cut : (n first left share : ℕ) → share < left → cond {A = ℕ} (nat_le (first + (share + 1)) n && nat_lt n ((first + (share + 1)) + (left - (share + 1)))) 1 0 + (cond {A = ℕ} (first == n) 1 0 + cond {A = ℕ} (nat_le (first + 1) n && nat_lt n ((first + 1) + share)) 1 0)
    ≡ cond {A = ℕ} (nat_le first n && nat_lt n (first + left)) 1 0
run_cut n first left share enough = grind (arith, nat_tests)

module _ {E G : Type 0} where
  -- the first pass of a lock is sole
  pub IsSole-newcomer : (g : G) (log : List E) → IsSole (newcomer g log)
  IsSole-newcomer g log n low = grind (arith, nat_tests)

  -- giving back changes no numbers
  pub places-given : (n : ℕ) (log : List E) (v : View E G) → v.live ≡ true → places n (given log v) ≡ places n v
  places-given n log v live = rw live refl

  -- a split shares the numbers out
  pub places-split : (n share : ℕ) (v : View E G) → v.live ≡ true → share < v.left → places n (split_left share v) + places n (split_right share v) ≡ places n v
  places-split n share v live enough =
      let cut = run_cut n v.unused v.left share enough in
      rw live (omega arith)

  -- a join keeps the numbers of both but for the unused ones of the second
  pub places-joined : (n : ℕ) (v w : View E G) → v.live ≡ true → w.live ≡ true → places n (joined v w) + cond {A = ℕ} (is_unused n w) 1 0 ≡ places n v + places n w
  places-joined n v w live w_live =
      let both : lists_of (joined v w) ≡ lists_of v ++ lists_of w = rw (live, w_live) refl in
      let c : count_by (λ (j : Joined E). j.number == n) (lists_of (joined v w)) ≡ count_by (λ (j : Joined E). j.number == n) (lists_of v) + count_by (λ (j : Joined E). j.number == n) (lists_of w) =
      ap (count_by (λ (j : Joined E). j.number == n)) both ∙ sum_by-append (λ (j : Joined E). cond (j.number == n) 1 0) (lists_of v) (lists_of w) in
      omega arith
