-- A new lock keeps the rule.
use Rattle.std.proofs.Common.{◌≡◌, ℕ, zero, suc, ◌*◌, ◌^◌, ◌≤◌, ◌<◌, List, [], ◌∷◌, map, length, false, refl, sym, ap, subst, arith, Option, Some, All}
use Rattle.std.proofs.lemmas.Bool.Decides.{nat_tests}
use Rattle.std.proofs.lemmas.List.Elements.{All-cons, All-nil, All-weaker}
use mathlib.Core.Option.{some, some-injective, some-ne-none}
use lib.ListN.{get_elem?}
use Rattle.atomic_table.specs.Table.{opening}
use Rattle.turn_lock.specs.declared.rule.View.{View}
use Rattle.turn_lock.specs.Calls.{last_number}
use Rattle.turn_lock.specs.Rule.{HasSeen, HasOwn, KeepsRule}
use Rattle.turn_lock.specs.Steps.{newcomer}
use Rattle.turn_lock.proofs.Journals.{starts_nil, starts_same, own_calls-own, own_calls-other}
use Rattle.turn_lock.proofs.Owning.{Listed}

only : {A : Type 0} (a b : A) (k : ℕ) → get_elem? (a ∷ []) k ≡ some b → a ≡ b
only a b zero e = some-injective a b e
only a b (suc k) e = absurd (some-ne-none b (sym e))

some_is : {G : Type 0} (a b : G) → Some a ≡ Some b → a ≡ b
some_is a b e = cc

module _ {S E G : Type 0} (journal_of : S → List E) (caller_of : E → ℕ) (ground_of : S → G) where
  pub new_keeps : (x : S) (n : ℕ) (slots : List (Option S)) → n ≡ length (journal_of x) → slots ≡ Some x ∷ [] → All (λ e. caller_of e ≡ 0) (journal_of x) → length (journal_of x) < 2 ^ 62
      → KeepsRule journal_of caller_of ground_of (ground_of x) (opening ((2 * n) ∷ []) slots (newcomer (ground_of x) (journal_of x)))
  new_keeps x n slots size home first short =
      let log = journal_of x in
      let v = newcomer (ground_of x) log in
      let each = λ (P : View E G → Type 0) (one : P v) (k : ℕ) (u : View E G) (there : get_elem? (v ∷ []) k ≡ some u). subst P (only v u k there) one in
      let own : All (Listed caller_of log) (record { number = 0; own = log } ∷ []) = All-cons (Listed caller_of log) (record { number = 0; own = log }) [] (own_calls-own caller_of 0 log first) (All-nil (Listed caller_of log)) in (
        2 * n,
        log,
        record {
          words = refl;
          longest = record { seat = 0; view = v; there = refl; seen = refl };
          short = short;
          counts = omega arith;
          free = λ _. record { nobody = each (λ u. u.holds ≡ false) refl; value = x; home = ap (map some) home; kept = refl; ground = refl };
          taken = λ odd. absurd (omega arith);
          seen = each (HasSeen (ground_of x) log) (record { seen = starts_same log; other = starts_nil log; ground = λ known e. some_is known (ground_of x) (sym e) });
          own = each (HasOwn caller_of log) (record { listed = own; seen = own; unused = λ m low high. own_calls-other caller_of 0 m log first (omega arith) });
          numbered = All-weaker (λ e. caller_of e ≡ 0) (λ e. caller_of e ≤ last_number) (λ e (is : caller_of e ≡ 0). omega arith) log first;
          different = λ m. grind (arith, nat_tests);
        },
      )
