-- The lock's rule, which each step keeps.
use Rattle.std.specs.Prelude.{◌≡◌, ℕ, ◌+◌, ◌/◌, ◌%◌, ◌^◌, ◌≤◌, ◌<◌, nat_le, if◌then◌else◌, List, [], ◌∷◌, length, false, true, Option, Some, All, sum_by}
use Rattle.std.specs.Option.{ForSome}
use mathlib.Core.Option.{some, none}
use lib.ListN.{get_elem?}
use Rattle.atomic_table.specs.Table.{State}
use Rattle.turn_lock.specs.declared.rule.View.{View}
use Rattle.turn_lock.specs.Calls.{last_number, StartsWith, own_calls}
use Rattle.turn_lock.specs.Pass.{lists_of, places}

-- what holds of the view of each seat
abbrev pub EachView : {S E G : Type 0} → (View E G → Type 0) → State (Option S) (View E G) → Type 0
EachView {S} {E} {G} P s = (seat : ℕ) (v : View E G) → get_elem? s.views seat ≡ some v → P v

-- What a pass has seen is a beginning of J, and the ground that it knows is the common one
pub record HasSeen {E G : Type 0} (g : G) (J : List E) (v : View E G) : Type 0 where
  pub seen : StartsWith J v.seen
  pub other : StartsWith v.seen v.other
  pub ground : ForSome v.ground (λ known. known ≡ g)

-- In J and in its seen list, a pass's own number and those joined into it have the entries that the pass lists, and its unused numbers have none
pub record HasOwn {E G : Type 0} (caller_of : E → ℕ) (J : List E) (v : View E G) : Type 0 where
  pub listed : All (λ j. own_calls caller_of j.number J ≡ j.own) (lists_of v)
  pub seen : All (λ j. own_calls caller_of j.number v.seen ≡ j.own) (lists_of v)
  pub unused : (n : ℕ) → v.unused ≤ n → n < v.unused + v.left → own_calls caller_of n J ≡ []

-- One seat holds the turn or held it when it was dropped, it found J, and no value is at home: the slot is out with that seat
pub record IsTaken {S E G : Type 0} (J : List E) (s : State (Option S) (View E G)) : Type 0 where
  pub seat : ℕ
  pub holder : View E G
  pub there : get_elem? s.views seat ≡ some holder
  pub holds : holder.holds ≡ true
  pub found : holder.found ≡ J
  pub alone : (k : ℕ) (v : View E G) → get_elem? s.views k ≡ some v → v.holds ≡ true → k ≡ seat
  pub away : s.homes ≡ none ∷ []

-- One of the views has the seen list J. Where each seen list is a beginning of J, that is the longest
pub record IsLongest {E G : Type 0} (J : List E) (views : List (View E G)) : Type 0 where
  pub seat : ℕ
  pub view : View E G
  pub there : get_elem? views seat ≡ some view
  pub seen : view.seen ≡ J

-- No pass holds the turn, and the value is at home with the journal J and the common ground
pub record IsFree {S E G : Type 0} (journal_of : S → List E) (ground_of : S → G) (g : G) (J : List E) (s : State (Option S) (View E G)) : Type 0 where
  pub nobody : EachView (λ v. v.holds ≡ false) s
  pub value : S
  pub home : s.homes ≡ some (Some value) ∷ []
  pub kept : journal_of value ≡ J
  pub ground : ground_of value ≡ g

module _ {S E G : Type 0} (journal_of : S → List E) (caller_of : E → ℕ) (ground_of : S → G) where
  -- The six points, for a word and the longest seen list J, which is the journal last given back
  pub record Points (g : G) (word : ℕ) (J : List E) (s : State (Option S) (View E G)) : Type 0 where
    -- the word, and J, which one of the views has seen; it is short enough for twice its length to be a word
    pub words : s.words ≡ word ∷ []
    pub longest : IsLongest J s.views
    pub short : length J < 2 ^ 62
    -- 1. word 0, halved and rounded down, is the length of J
    pub counts : word / 2 ≡ length J
    -- 2. where the word is even, no pass holds the turn, and the value is at home with journal J
    pub free : word % 2 ≡ 0 → IsFree journal_of ground_of g J s
    -- 3. where it is odd, one seat has the turn and the slot
    pub taken : word % 2 ≡ 1 → IsTaken J s
    -- 4. each seen list is a beginning of J, and all passes know one ground
    pub seen : EachView (HasSeen g J) s
    -- 5. the entries in J of each number are those that its pass lists, and every entry carries a number from 0 to the last
    pub own : EachView (HasOwn caller_of J) s
    pub numbered : All (λ e. caller_of e ≤ last_number) J
    -- 6. live, joined and unused numbers are all different, and none is above the last
    pub different : (n : ℕ) → sum_by (places n) s.views ≤ (if nat_le n last_number then 1 else 0)

  -- there is a word and a journal for which the six points hold
  abbrev pub KeepsRule : G → State (Option S) (View E G) → Type 0
  KeepsRule g s = (word : ℕ) × (J : List E) × Points g word J s
