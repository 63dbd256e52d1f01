-- What a step asks of a seat, from what the pass around it keeps.
use Rattle.std.proofs.Common.{◌≡◌, ◌%◌, ◌*◌, ◌^◌, ◌<◌, ℕ, List, [], ◌∷◌, ◌++◌, length, Bool, true, false, Option, Some, sym, ap, subst, ◌∙◌, bit_or, All}
use Rattle.atomic_table.specs.Table.{Me, rest, Allows, Joins, opening}
use Rattle.atomic_table.specs.Seated.{TableId}
use Rattle.turn_lock.specs.declared.rule.View.{View}
use Rattle.turn_lock.specs.Pass.{Known, Lock, Fits, IsPass}
use Rattle.turn_lock.specs.Rule.{KeepsRule}
use Rattle.turn_lock.specs.Steps.{newcomer, nobody, joined, Continues, Looked, Gave}
use Rattle.turn_lock.proofs.Looking.{look_allows_as}
use Rattle.turn_lock.proofs.Giving.{give_allows_as}
use Rattle.turn_lock.proofs.Joining.{join_keeps}
use Rattle.turn_lock.proofs.Making.{new_keeps}
use Rattle.turn_lock.proofs.Passes.{slots-idle, slots-turn, got}

module _ {E G : Type 0} (lock : Lock G) (pass : Known E G) (seat table : TableId) (knows : View E G) (ground : G) where
  -- a seat is of the table of the lock that its pass fits
  pub table_fits : record { table = seat; knows = knows } ≡ pass → record { table = table; ground = ground } ≡ lock → Fits lock pass → seat ≡ table
  table_fits p l f = ap (λ (k : Known E G). k.table) p ∙ f.table ∙ sym (ap (λ (k : Lock G). k.table) l)

  -- and so it is after a step
  pub table_fits_after : (new : TableId) → new ≡ seat → record { table = seat; knows = knows } ≡ pass → record { table = table; ground = ground } ≡ lock → Fits lock pass → new ≡ table
  table_fits_after new e p l f = e ∙ table_fits p l f

module _ {S E G : Type 0} (journal_of : S → List E) (caller_of : E → ℕ) (ground_of : S → G) where
  pub new_asks : (x y : S) (n : ℕ) (start slots : List (Option S)) → y ≡ x → n ≡ length (journal_of x) → start ≡ [] → slots ≡ start ++ Some x ∷ [] → All (λ e. caller_of e ≡ 0) (journal_of x) → length (journal_of x) < 2 ^ 62
      → KeepsRule journal_of caller_of ground_of (ground_of y) (opening ((2 * n) ∷ []) slots (newcomer (ground_of y) (journal_of y)))
  new_asks x y n start slots same size none home first short =
      subst (λ z. KeepsRule journal_of caller_of ground_of (ground_of z) (opening ((2 * n) ∷ []) slots (newcomer (ground_of z) (journal_of z)))) (sym same)
      (new_keeps journal_of caller_of ground_of x n slots size (home ∙ ap (λ l. l ++ Some x ∷ []) none) first short)

  module _ (lock : Lock G) (pass : Known E G) (seat : TableId) (me : Me (Option S) (View E G)) (number unused left : ℕ) (opened : record { table = seat; knows = me.0 } ≡ pass) (kept : IsPass me number unused left) (fits : Fits lock pass) where
    knows_is : me.0 ≡ pass.knows
    knows_is = ap (λ (k : Known E G). k.knows) opened

    pub live_is : me.0.live ≡ true
    live_is = ap (λ (v : View E G). v.live) knows_is ∙ fits.live

    pub holds_is : (b : Bool) → pass.knows.holds ≡ b → me.0.holds ≡ b
    holds_is b e = ap (λ (v : View E G). v.holds) knows_is ∙ e

    pub look_asks : (g : G) (slots id : ℕ) → slots ≡ 1 → pass.knows.holds ≡ false → Allows (KeepsRule journal_of caller_of ground_of g) slots id me 0 (λ n. bit_or n 1) (Looked journal_of caller_of ground_of me)
    look_asks g slots id one idle = look_allows_as journal_of caller_of ground_of g slots id me one live_is (holds_is false idle) (slots-idle me number unused left kept (holds_is false idle))

    pub give_asks : (g : G) (slots id n : ℕ) (new : Me (Option S) (View E G)) (x : S) → slots ≡ 1 → new ≡ (me.0, (0, Some x) ∷ rest me.1) → n ≡ length (journal_of x) → pass.knows.holds ≡ true → ground_of x ≡ lock.ground
        → Continues caller_of pass.knows (journal_of x) → length (journal_of x) < 2 ^ 62 → Allows (KeepsRule journal_of caller_of ground_of g) slots id new 0 (λ _. 2 * n) (λ _ w. Gave journal_of new w)
    give_asks g slots id n new x one after size turn base on short =
        let same : new.0 ≡ me.0 = ap (λ (m : Me (Option S) (View E G)). m.0) after in
        give_allows_as journal_of caller_of ground_of g slots id (2 * n) new x one (ap (λ k. 2 * k) size)
        (ap (λ (v : View E G). v.live) same ∙ live_is)
        (ap (λ (v : View E G). v.holds) same ∙ holds_is true turn)
        (ap (λ (m : Me (Option S) (View E G)). m.1) after ∙ ap (λ l. (0, Some x) ∷ rest l) (slots-turn me number unused left kept (holds_is true turn)))
        lock.ground
        (ap (λ (v : View E G). v.ground) (same ∙ knows_is) ∙ fits.ground)
        base
        (subst (λ v. Continues caller_of v (journal_of x)) (sym (same ∙ knows_is)) on)
        short

    pub join_asks : (g : G) (id other : ℕ) (from : Known E G) (theirs : Me (Option S) (View E G)) → pass.knows.holds ≡ false → theirs ≡ (from.knows, []) → Fits lock from → from.knows.holds ≡ false
        → Joins (KeepsRule {S = S} journal_of caller_of ground_of g) id me.0 other theirs.0 (joined me.0 theirs.0) nobody
    join_asks g id other from theirs idle is f free =
        let same : theirs.0 ≡ from.knows = ap (λ (m : Me (Option S) (View E G)). m.0) is in
        join_keeps journal_of caller_of ground_of g id other me.0 theirs.0 live_is
        (ap (λ (v : View E G). v.live) same ∙ f.live)
        (holds_is false idle)
        (ap (λ (v : View E G). v.holds) same ∙ free)

  -- the slot that a look got has a value
  pub slot_got : (m w : Me (Option S) (View E G)) (n : ℕ) → n % 2 ≡ 0 → Looked journal_of caller_of ground_of m n w → (x : Option S) × (w.1 ≡ (0, x) ∷ rest w.1)
  slot_got m w n even told =
      let h = got journal_of caller_of ground_of m w n even told in
      let e : w.1 ≡ (0, Some h.0) ∷ m.1 = ap (λ (k : Me (Option S) (View E G)). k.1) h.1 in
      (Some h.0, e ∙ ap (λ l. (0, Some h.0) ∷ rest l) (sym e))
