-- What a pass knows, and what contracts see of it.
use Rattle.std.specs.Prelude.{◌≡◌, ◌==◌, ◌&&◌, ℕ, ◌+◌, ◌≤◌, ◌<◌, nat_le, nat_lt, if◌then◌else◌, List, [], ◌∷◌, Bool, true, Option, Some, None, count_by, MatchBool}
use Rattle.atomic_table.specs.Table.{Me}
use Rattle.atomic_table.specs.Seated.{TableId}
use Rattle.turn_lock.specs.declared.rule.Joined.{Joined}
use Rattle.turn_lock.specs.declared.rule.View.{View}
use Rattle.turn_lock.specs.Calls.{last_number}

-- the table of the lock that the pass fits, and what the pass knows
pub record Known (E G : Type 0) : Type 0 where
  pub table : TableId
  pub knows : View E G

-- the table of a lock, and the ground of the value over which the lock was made
pub record Lock (G : Type 0) : Type 0 where
  pub table : TableId
  pub ground : G

-- The pass fits the lock, and knows its ground
pub record Fits {E G : Type 0} (lock : Lock G) (pass : Known E G) : Type 0 where
  pub table : pass.table ≡ lock.table
  pub ground : pass.knows.ground ≡ Some lock.ground
  pub live : pass.knows.live ≡ true

module _ {E G : Type 0} where
  -- each number of the pass with its entries: its own, and those that were joined into it; a spent view has none
  abbrev pub lists_of : View E G → List (Joined E)
  lists_of v = if v.live then record { number = v.number; own = v.own } ∷ v.kept else []

  -- the number is one of the pass's unused ones
  abbrev pub is_unused : ℕ → View E G → Bool
  is_unused n v = nat_le v.unused n && nat_lt n (v.unused + v.left)

  -- at how many places the pass has the number: as its own, as a joined or as an unused one
  abbrev pub places : ℕ → View E G → ℕ
  places n v = count_by (λ j. j.number == n) (lists_of v) + (if is_unused n v then 1 else 0)

  -- its own number, the joined and the unused ones are together all the numbers
  abbrev pub IsSole : View E G → Type 0
  IsSole v = (n : ℕ) → n ≤ last_number → 0 < places n v

  -- What the fields of a pass keep: the numbers are those of its view, and while it holds the turn it has the empty slot
  pub record IsPass {S : Type 0} (me : Me (Option S) (View E G)) (number unused left : ℕ) : Type 0 where
    pub number_is : number ≡ me.0.number
    pub unused_is : unused ≡ me.0.unused
    pub left_is : left ≡ me.0.left
    pub in_range : unused + left ≤ last_number + 1
    pub slots : MatchBool me.0.holds (me.1 ≡ (0, None) ∷ []) (me.1 ≡ [])
