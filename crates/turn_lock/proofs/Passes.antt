-- What a pass's fields keep, and what a wait leaves.
use Rattle.std.proofs.Common.{◌≡◌, ◌%◌, ◌==◌, ℕ, ◌+◌, List, [], ◌∷◌, true, false, Option, Some, None, refl, sym, ap, subst, ◌∙◌, arith}
use Rattle.atomic_table.specs.Table.{Me}
use Rattle.atomic_table.specs.Seated.{TableId}
use Rattle.turn_lock.specs.declared.rule.View.{View}
use Rattle.turn_lock.specs.Pass.{Known, Lock, Fits, IsPass}
use Rattle.turn_lock.specs.Steps.{looked, holding, Finds, Looked, Waits, Takes}

module _ {E G : Type 0} (lock : Lock G) (pass : Known E G) (seat table : TableId) (knows : View E G) (ground : G) where
  -- a seat is of the table of the lock that its pass fits
  pub table_fits : record { table = seat; knows = knows } ≡ pass → record { table = table; ground = ground } ≡ lock → Fits lock pass → seat ≡ table
  table_fits p l f = ap (λ (k : Known E G). k.table) p ∙ f.table ∙ sym (ap (λ (k : Lock G). k.table) l)

module _ {S E G : Type 0} (me : Me (Option S) (View E G)) (number unused left : ℕ) (p : IsPass me number unused left) where
  pub slots-idle : me.0.holds ≡ false → me.1 ≡ []
  slots-idle idle = rw idle at p.slots

  pub slots-turn : me.0.holds ≡ true → me.1 ≡ (0, None) ∷ []
  slots-turn held = rw held at p.slots

module _ {S E G : Type 0} (journal_of : S → List E) (caller_of : E → ℕ) (ground_of : S → G) where
  -- what a look that found an even word tells
  pub got : (m w : Me (Option S) (View E G)) (n : ℕ) → n % 2 ≡ 0 → Looked journal_of caller_of ground_of m n w
      → (value : S) × (w ≡ (holding n (journal_of value) m.0, (0, Some value) ∷ m.1)) × ((g : G) → m.0.ground ≡ Some g → Finds journal_of caller_of ground_of g m.0 value)
  got m w n even told = let is : (n % 2 == 0) ≡ true = rw even refl in rw is at told

  -- what a pass finds after a wait it would have found before
  pub finds_after : (g : G) (v w : View E G) (x : S) → Waits v w → Finds journal_of caller_of ground_of g w x → Finds journal_of caller_of ground_of g v x
  finds_after g v w x waited f =
      let h = subst (λ u. Finds journal_of caller_of ground_of g u x) waited.3 f in
      record { ground = h.ground; seen = h.seen; own = h.own; kept = h.kept; unused = h.unused; numbered = h.numbered; short = h.short; sole = h.sole }

module _ {E G : Type 0} where
  pub waits_more : (n : ℕ) (v w : View E G) → Waits v w → Waits v (looked n w)
  waits_more n v w waited = (waited.0 + 1, n, (let le = waited.2 in omega arith), ap (looked n) waited.3)

  pub takes_after : (n : ℕ) (log : List E) (v w : View E G) → n % 2 ≡ 0 → Waits v w → Takes log v (holding n log w)
  takes_after n log v w even waited = (waited.0 + 1, n, (let le = waited.2 in omega arith), even, ap (holding n log) waited.3)
