-- What the steps tell, and what they make of a view.
use Rattle.std.specs.Prelude.{◌≡◌, ℕ, ◌+◌, ◌-◌, ◌%◌, ◌==◌, ◌^◌, ◌≤◌, ◌<◌, List, [], ◌∷◌, ◌++◌, length, drop, true, false, Option, Some, None, All, MatchBool}
use Rattle.atomic_table.specs.Table.{Me}
use Rattle.turn_lock.specs.declared.rule.View.{View}
use Rattle.turn_lock.specs.Calls.{last_number, StartsWith, own_calls, longer, shorter}
use Rattle.turn_lock.specs.Pass.{IsSole}

module _ {E G : Type 0} where
  -- the first pass of a lock over a value with this ground and journal
  abbrev pub newcomer : G → List E → View E G
  newcomer g J = record { live = true; ground = Some g; number = 0; unused = 1; left = 1000000000; seen = J; other = []; own = J; kept = []; looks = 0; word = 0; holds = false; found = [] }

  -- a spent view
  abbrev pub nobody : View E G
  nobody = record { live = false; ground = None; number = 0; unused = 0; left = 0; seen = []; other = []; own = []; kept = []; looks = 0; word = 0; holds = false; found = [] }

  -- one look more, which found this word
  abbrev pub looked : ℕ → View E G → View E G
  looked n v = record v { looks = v.looks + 1; word = n }

  -- a look that got the turn, and found this journal
  abbrev pub holding : ℕ → List E → View E G → View E G
  holding n J v = record (looked n v) { holds = true; found = J }

  -- some looks more: nothing else has changed
  abbrev pub Waits : View E G → View E G → Type 0
  Waits v w = (looks word : ℕ) × (v.looks ≤ looks) × (w ≡ record v { looks = looks; word = word })

  -- one look or more, of which the last got the turn and found this journal
  abbrev pub Takes : List E → View E G → View E G → Type 0
  Takes J v w = (looks word : ℕ) × (v.looks < looks) × (word % 2 ≡ 0) × (w ≡ record v { looks = looks; word = word; holds = true; found = J })

  -- the journal J was given back: the pass has seen it, and its own list has the entries after the journal that it found
  abbrev pub given : List E → View E G → View E G
  given J v = record v { holds = false; seen = J; own = v.own ++ drop (length v.found) J }

  -- a split gives away the first unused number and `share` more
  abbrev pub split_left : ℕ → View E G → View E G
  split_left share v = record v { unused = v.unused + (share + 1); left = v.left - (share + 1) }

  abbrev pub split_right : ℕ → View E G → View E G
  split_right share v = record { live = true; ground = v.ground; number = v.unused; unused = v.unused + 1; left = share; seen = v.seen; other = []; own = []; kept = []; looks = 0; word = 0; holds = false; found = [] }

  -- the longer seen list stays, and the lists of both
  abbrev pub joined : View E G → View E G → View E G
  joined v w = record v { seen = longer v.seen w.seen; other = shorter v.seen w.seen; kept = v.kept ++ record { number = w.number; own = w.own } ∷ w.kept }

  -- the load changes nothing, and tells that the seen list begins with the other one
  abbrev pub Compared : {S : Type 0} → Me (Option S) (View E G) → Me (Option S) (View E G) → Type 0
  Compared m w = (w ≡ m) × StartsWith m.0.seen m.0.other

-- the value went back, and the pass has seen its journal
abbrev pub Gave : {S E G : Type 0} → (S → List E) → Me (Option S) (View E G) → Me (Option S) (View E G) → Type 0
Gave {S} journal_of m w = (value : S) × (m.1 ≡ (0, Some value) ∷ []) × (w ≡ (given (journal_of value) m.0, []))

-- The journal is the one found and further entries, each of the pass's number
pub record Continues {E G : Type 0} (caller_of : E → ℕ) (v : View E G) (J : List E) : Type 0 where
  pub begins : StartsWith J v.found
  pub by_me : All (λ e. caller_of e ≡ v.number) (drop (length v.found) J)

module _ {S E G : Type 0} (journal_of : S → List E) (caller_of : E → ℕ) (ground_of : S → G) where
  -- What a pass that takes the turn knows of the value
  pub record Finds (g : G) (v : View E G) (value : S) : Type 0 where
    -- the value's ground is the lock's
    pub ground : ground_of value ≡ g
    -- the journal begins with what the pass has seen
    pub seen : StartsWith (journal_of value) v.seen
    -- the journal's entries of its number are its own list
    pub own : own_calls caller_of v.number (journal_of value) ≡ v.own
    -- those of each number joined into it are the list kept for it
    pub kept : All (λ j. own_calls caller_of j.number (journal_of value) ≡ j.own) v.kept
    -- its unused numbers have no entries
    pub unused : (n : ℕ) → v.unused ≤ n → n < v.unused + v.left → own_calls caller_of n (journal_of value) ≡ []
    -- no entry carries a number above the last
    pub numbered : All (λ e. caller_of e ≤ last_number) (journal_of value)
    -- the journal is short enough to be put back
    pub short : length (journal_of value) < 2 ^ 62
    -- where the pass is sole, the journal is what it has seen
    pub sole : IsSole v → journal_of value ≡ v.seen

  -- a look got the turn and the value, or found an odd word
  abbrev pub Looked : Me (Option S) (View E G) → ℕ → Me (Option S) (View E G) → Type 0
  Looked m n w = MatchBool (n % 2 == 0)
      ((value : S) × (w ≡ (holding n (journal_of value) m.0, (0, Some value) ∷ m.1)) × ((g : G) → m.0.ground ≡ Some g → Finds g m.0 value))
      (w ≡ (looked n m.0, m.1))
