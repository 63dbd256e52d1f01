-- What the rule says of one pass, and how it stays.
use Rattle.std.proofs.Common.{◌≡◌, ◌≢◌, ◌==◌, ℕ, zero, suc, ◌+◌, ◌≤◌, ◌<◌, List, [], ◌∷◌, ◌++◌, length, drop, set, Bool, true, false, cond, refl, sym, ap, subst, ◌∙◌, ⊎_elim, arith, count_by, All}
use Rattle.std.specs.List.{AllByRecursion}
use Rattle.std.proofs.lemmas.Bool.{cases_Bool, cases_eq}
use Rattle.std.proofs.lemmas.Bool.Decides.{nat_tests}
use Rattle.std.proofs.lemmas.List.{append-nil}
use Rattle.std.proofs.lemmas.List.Sums.{sum_by-cons}
use Rattle.std.proofs.lemmas.List.Elements.{recursion_from_All, All-from_recursion, All-cons, All-head, All-tail}
use mathlib.Core.Option.{some, some-injective}
use lib.ListN.{get_elem?}
use Rattle.atomic_table.proofs.Lists.{at_set, set_else}
use Rattle.turn_lock.specs.declared.rule.Joined.{Joined}
use Rattle.turn_lock.specs.declared.rule.View.{View}
use Rattle.turn_lock.specs.Calls.{last_number, own_calls}
use Rattle.turn_lock.specs.Pass.{lists_of, is_unused, places, IsSole}
use Rattle.turn_lock.specs.Rule.{HasSeen, HasOwn, IsLongest}
use Rattle.turn_lock.specs.Steps.{given}
use Rattle.turn_lock.proofs.Journals.{beginning_has_none, own_calls-append, own_calls-own, own_calls-other, nothing_behind, rest_is}

module _ {A : Type 0} where
  -- what holds of each element holds when one of them has changed
  pub each_set : (P : A → Type 0) (xs : List A) (id : ℕ) (w : A) → ((k : ℕ) (u : A) → get_elem? xs k ≡ some u → P u) → P w → (k : ℕ) (u : A) → get_elem? (set xs id w) k ≡ some u → P u
  each_set P xs id w each mine k u at = ⊎_elim
      (λ (x : (k ≡ id) × (w ≡ u)). subst P x.1 mine)
      (λ (x : (k ≢ id) × (get_elem? xs k ≡ some u)). each k u x.1)
      (at_set xs id k w u at)

  pub put_here : (xs : List A) (i : ℕ) (a b : A) → get_elem? xs i ≡ some a → get_elem? (set xs i b) i ≡ some b
  put_here [] i a b e = cc
  put_here (x ∷ xs) zero a b e = refl
  put_here (x ∷ xs) (suc i) a b e = put_here xs i a b e

  all_behind : (P : A → Type 0) (a b : List A) → AllByRecursion P (a ++ b) → AllByRecursion P b
  all_behind P [] b h = h
  all_behind P (x ∷ a) b h = all_behind P a b h.1

counts_one : (b : Bool) → b ≡ true → cond {A = ℕ} b 1 0 ≡ 1
counts_one b e = rw e refl

counts_none : (b : Bool) → b ≡ false → cond {A = ℕ} b 1 0 ≡ 0
counts_none b e = rw e refl

module _ {E G : Type 0} where
  pub lists_of-live : (v : View E G) → v.live ≡ true → lists_of v ≡ record { number = v.number; own = v.own } ∷ v.kept
  lists_of-live v live = rw live refl

  pub unused_is : (n : ℕ) (v : View E G) → is_unused n v ≡ true → (v.unused ≤ n) × (n < v.unused + v.left)
  unused_is n v h = (grind (arith, nat_tests), grind (arith, nat_tests))

  pub is_unused-in : (n : ℕ) (v : View E G) → v.unused ≤ n → n < v.unused + v.left → is_unused n v ≡ true
  is_unused-in n v a b = grind (arith, nat_tests)

  -- a live pass has its number at one place at least
  pub places-own : (v : View E G) → v.live ≡ true → 0 < places v.number v
  places-own v live =
      let here = counts_one (v.number == v.number) (grind (arith, nat_tests)) in
      let cons = sum_by-cons (λ (j : Joined E). cond {A = ℕ} (j.number == v.number) 1 0) (record { number = v.number; own = v.own }) v.kept in
      let all = ap (count_by (λ (j : Joined E). j.number == v.number)) (lists_of-live v live) in
      omega arith

-- the entries of a number in the journal are those that a list has
abbrev pub Listed : {E : Type 0} → (E → ℕ) → List E → Joined E → Type 0
Listed caller_of log j = own_calls caller_of j.number log ≡ j.own

module _ {E : Type 0} (caller_of : E → ℕ) where
  -- the entries of another number change no list
  listed_more : (m : ℕ) (log more : List E) (ls : List (Joined E)) → All (λ e. caller_of e ≡ m) more → count_by (λ j. j.number == m) ls ≡ 0 → AllByRecursion (λ j. own_calls caller_of j.number log ≡ j.own) ls
      → AllByRecursion (λ j. own_calls caller_of j.number (log ++ more) ≡ j.own) ls
  listed_more m log more [] by absent h = tt
  listed_more m log more (j ∷ ls) by absent h =
      let e = sum_by-cons (λ (i : Joined E). cond (i.number == m) 1 0) j ls in
      let rest : count_by (λ (i : Joined E). i.number == m) ls ≡ 0 = omega arith in
      let here : cond {A = ℕ} (j.number == m) 1 0 ≡ 0 = omega arith in
      let other : m ≢ j.number = λ same. grind (arith, nat_tests) in (
        own_calls-append caller_of j.number log more ∙ ap (λ l. own_calls caller_of j.number log ++ l) (own_calls-other caller_of m j.number more by other) ∙ append-nil (own_calls caller_of j.number log) ∙ h.0,
        listed_more m log more ls by rest h.1,
      )

  -- a listed number has the same entries wherever the list says so
  listed_agree : (n : ℕ) (A B : List E) (ls : List (Joined E)) → 0 < count_by (λ j. j.number == n) ls
      → AllByRecursion (λ j. own_calls caller_of j.number A ≡ j.own) ls → AllByRecursion (λ j. own_calls caller_of j.number B ≡ j.own) ls → own_calls caller_of n A ≡ own_calls caller_of n B
  listed_agree n A B [] placed a b = absurd (omega arith)
  listed_agree n A B (j ∷ ls) placed a b =
      let e = sum_by-cons (λ (i : Joined E). cond (i.number == n) 1 0) j ls in
      ⊎_elim
      (λ (yes : (j.number == n) ≡ true).
      let same : j.number ≡ n = grind (arith, nat_tests) in
      subst (λ k. own_calls caller_of k A ≡ own_calls caller_of k B) same (a.0 ∙ sym b.0))
      (λ (no : (j.number == n) ≡ false).
      let zero_here = counts_none (j.number == n) no in
      listed_agree n A B ls (omega arith) a.1 b.1)
      (cases_Bool (j.number == n))

  module _ {G : Type 0} where
    -- a number that has a place in the pass has its entries in what the pass has seen
    pub own_agrees : (n : ℕ) (g : G) (log : List E) (v : View E G) → HasSeen g log v → HasOwn caller_of log v → 0 < places n v → own_calls caller_of n log ≡ own_calls caller_of n v.seen
    own_agrees n g log v s h placed = ⊎_elim
        (λ (yes : is_unused n v ≡ true).
        let r = unused_is n v yes in
        let empty = h.unused n r.0 r.1 in
        empty ∙ sym (beginning_has_none (λ e. caller_of e == n) log v.seen s.seen empty))
        (λ (no : is_unused n v ≡ false).
        let zero_here = counts_none (is_unused n v) no in
        listed_agree n log v.seen (lists_of v) (omega arith) (recursion_from_All _ _ h.listed) (recursion_from_All _ _ h.seen))
        (cases_Bool (is_unused n v))

    -- a sole pass has seen the whole journal
    pub sole_saw_all : (g : G) (log : List E) (v : View E G) → HasSeen g log v → HasOwn caller_of log v → All (λ e. caller_of e ≤ last_number) log → IsSole v → log ≡ v.seen
    sole_saw_all g log v s h numbered sole =
        let rest = s.seen.0 in
        let all : AllByRecursion (λ e. caller_of e ≤ last_number) (v.seen ++ rest) = subst (AllByRecursion (λ e. caller_of e ≤ last_number)) s.seen.1 (recursion_from_All (λ e. caller_of e ≤ last_number) log numbered) in
        let nothing : rest ≡ [] = nothing_behind caller_of v.seen rest (all_behind (λ e. caller_of e ≤ last_number) v.seen rest all)
        (λ n low. subst (λ l. own_calls caller_of n l ≡ own_calls caller_of n v.seen) s.seen.1 (own_agrees n g log v s h (sole n low))) in
        s.seen.1 ∙ ap (λ l. v.seen ++ l) nothing ∙ append-nil v.seen

    -- entries of another's number
    pub HasOwn-other : (m : ℕ) (log more : List E) (v : View E G) → All (λ e. caller_of e ≡ m) more → places m v ≡ 0 → HasOwn caller_of log v → HasOwn caller_of (log ++ more) v
    HasOwn-other m log more v by absent h = record {
      listed = All-from_recursion _ (lists_of v) (listed_more m log more (lists_of v) by (omega arith) (recursion_from_All _ (lists_of v) h.listed));
      seen = h.seen;
      unused = λ n low high.
          let there = is_unused-in n v low high in
          let other : m ≢ n = λ same. let here = counts_one (is_unused n v) there in let zero : places n v ≡ 0 = subst (λ k. places k v ≡ 0) same absent in omega arith in
          own_calls-append caller_of n log more ∙ ap (λ l. own_calls caller_of n log ++ l) (own_calls-other caller_of m n more by other) ∙ append-nil (own_calls caller_of n log) ∙ h.unused n low high;
    }

    -- entries of its own number
    pub HasOwn-given : (log more : List E) (v : View E G) → v.live ≡ true → v.found ≡ log → All (λ e. caller_of e ≡ v.number) more → places v.number v ≤ 1 → HasOwn caller_of log v → HasOwn caller_of (log ++ more) (given (log ++ more) v)
    HasOwn-given log more v live found by once h =
        let m = v.number in
        let here : (m == m) ≡ true = grind (arith, nat_tests) in
        let cons = sum_by-cons (λ (j : Joined E). cond (j.number == m) 1 0) (record { number = m; own = v.own }) v.kept in
        let one = counts_one (m == m) here in
        let at_most : count_by (λ (j : Joined E). j.number == m) (record { number = m; own = v.own } ∷ v.kept) + cond (is_unused m v) 1 0 ≤ 1 = subst (λ l. count_by (λ (j : Joined E). j.number == m) l + cond (is_unused m v) 1 0 ≤ 1) (lists_of-live v live) once in
        let listed : All (Listed caller_of log) (record { number = m; own = v.own } ∷ v.kept) = subst (All (Listed caller_of log)) (lists_of-live v live) h.listed in
        let behind : drop (length v.found) (log ++ more) ≡ more = rw found (rest_is (log ++ more) log (more, refl)) in
        let own : own_calls caller_of m (log ++ more) ≡ v.own ++ drop (length v.found) (log ++ more) =
        own_calls-append caller_of m log more ∙ ap (λ l. l ++ own_calls caller_of m more) (All-head (Listed caller_of log) (record { number = m; own = v.own }) v.kept listed) ∙ ap (λ l. v.own ++ l) (own_calls-own caller_of m more by ∙ sym behind) in
        let kept : All (Listed caller_of (log ++ more)) v.kept =
        All-from_recursion (Listed caller_of (log ++ more)) v.kept (listed_more m log more v.kept by (omega arith) (recursion_from_All (Listed caller_of log) v.kept (All-tail (Listed caller_of log) (record { number = m; own = v.own }) v.kept listed))) in
        let both : All (Listed caller_of (log ++ more)) (lists_of (given (log ++ more) v)) =
        subst (All (Listed caller_of (log ++ more))) (sym (lists_of-live (given (log ++ more) v) live)) (All-cons (Listed caller_of (log ++ more)) (record { number = m; own = v.own ++ drop (length v.found) (log ++ more) }) v.kept own kept) in
        record {
          listed = both;
          seen = both;
          unused = λ n low high.
              let there = is_unused-in n v low high in
              let other : m ≢ n = λ same. let y = counts_one (is_unused m v) (ap (λ k. is_unused k v) same ∙ there) in omega arith in
              own_calls-append caller_of n log more ∙ ap (λ l. own_calls caller_of n log ++ l) (own_calls-other caller_of m n more by other) ∙ append-nil (own_calls caller_of n log) ∙ h.unused n low high;
        }

module _ {E G : Type 0} where
  -- the longest seen list stays where a pass that has it keeps it
  pub IsLongest-set : (log : List E) (views : List (View E G)) (id : ℕ) (v w : View E G) → get_elem? views id ≡ some v → (v.seen ≡ log → w.seen ≡ log) → IsLongest log views → IsLongest log (set views id w)
  IsLongest-set log views id v w at keeps l = ⊎_elim
      (λ (same : l.seat ≡ id). record { seat = id; view = w; there = put_here views id v w at; seen = keeps (ap (λ (u : View E G). u.seen) (some-injective v l.view (sym at ∙ ap (get_elem? views) (sym same) ∙ l.there)) ∙ l.seen) })
      (λ (other : l.seat ≢ id). record { seat = l.seat; view = l.view; there = set_else views id l.seat w other ∙ l.there; seen = l.seen })
      (cases_eq l.seat id)
