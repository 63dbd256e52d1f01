-- Deltas: what changes from one map to another.
use Rattle.std.specs.Prelude.{◌≡◌, ◌≢◌, ℕ, ◌+◌, ◌-◌, Option, Some, None, Bool, ◌&&◌, cond, count_by, is_some, is_none}
use Rattle.std.specs.Bool.{Decides}
use Rattle.std.specs.Option.{IfSome, option_eq}
use Rattle.std.specs.declared.cmp.Ordering.{Ordering}
use Rattle.std.specs.Coded.{Coded, coded×, coded_option}
use Rattle.std.specs.FinMap.{FinMap, get, values, code}
use Rattle.data_model.specs.Maps.{combined, key_by_key}

-- an old and a new value; None stands where there is no point
abbrev pub Pair : Type 0 → Type 0
Pair X = Option X × Option X

-- from keys to what was there and what comes there
abbrev pub DeltaOf : {K : Type 0} → (K → K → Ordering) → Type 0 → Type 0
DeltaOf R X = FinMap R (Pair X)

-- the new value where there is a change, and else the old one
abbrev pub after : {X : Type 0} → Option (Pair X) → Option X → Option X
after None x = x
after (Some c) x = c.1

-- the change, or none, is the one from x to y
abbrev pub LeadsAt : {X : Type 0} → Option (Pair X) → Option X → Option X → Type 0
LeadsAt None x y = y ≡ x
LeadsAt (Some c) x y = (x ≡ c.0) × (y ≡ c.1) × (c.0 ≢ c.1)

-- the test answers whether two values are equal
abbrev pub IsEqualityTest : {X : Type 0} → (X → X → Bool) → Type 0
IsEqualityTest {X} same = (x y : X) → Decides (same x y) (x ≡ y)

-- the change from x to y, if they differ
abbrev pub change_between : {X : Type 0} → (X → X → Bool) → Option X → Option X → Option (Pair X)
change_between same x y = cond (option_eq same x y) None (Some (x, y))

-- one change for two that come one after the other
abbrev pub composed_change : {X : Type 0} → (X → X → Bool) → Option (Pair X) → Option (Pair X) → Option (Pair X)
composed_change same None e = e
composed_change same (Some c) None = Some c
composed_change same (Some c) (Some e) = change_between same c.0 e.1

-- whether a change brings a point, or takes one away
abbrev pub is_gain : {X : Type 0} → Pair X → Bool
is_gain c = is_none c.0 && is_some c.1

abbrev pub is_loss : {X : Type 0} → Pair X → Bool
is_loss c = is_some c.0 && is_none c.1

module _ {K X : Type 0} {R : K → K → Ordering} where
  -- m with the new points of d in place of the old ones
  unfoldable pub apply : DeltaOf R X → FinMap R X → FinMap R X
  apply d m = combined (λ k. after) d m

  -- m has at each key of d the old point, or none where there is no old one
  abbrev pub BeginsAt : DeltaOf R X → FinMap R X → Type 0
  BeginsAt d m = (k : K) → IfSome (get d k) (λ c. get m k ≡ c.0)

  -- the old and the new value of each change differ
  abbrev pub Differs : DeltaOf R X → Type 0
  Differs d = (k : K) → IfSome (get d k) (λ c. c.0 ≢ c.1)

  -- d is the right delta from m to n
  pub record Leads (d : DeltaOf R X) (m n : FinMap R X) : Type 0 where
    pub begins : BeginsAt d m
    pub differs : Differs d
    pub ends : apply d m ≡ n

  -- the delta from m to n
  abbrev pub delta_between : (X → X → Bool) → FinMap R X → FinMap R X → DeltaOf R X
  delta_between same m n = combined (λ k. change_between same) m n

  -- the delta that builds m from nothing
  abbrev pub built : FinMap R X → DeltaOf R X
  built m = key_by_key (λ k x. Some (None, Some x)) m

  -- one delta for two that come one after the other; a key that comes back to its old value is not in it
  abbrev pub composed : (X → X → Bool) → DeltaOf R X → DeltaOf R X → DeltaOf R X
  composed same d e = combined (λ k. composed_change same) d e

  -- how many points a delta brings, and how many it takes away
  abbrev pub gained : DeltaOf R X → ℕ
  gained d = count_by is_gain (values d)

  abbrev pub lost : DeltaOf R X → ℕ
  lost d = count_by is_loss (values d)

  -- how many points there are after d, of so many before
  abbrev pub count_after : ℕ → DeltaOf R X → ℕ
  count_after before d = (before + gained d) - lost d

  abbrev pub coded_delta : Coded K → Coded X → Coded (DeltaOf R X)
  coded_delta k x = code k (coded× (coded_option x) (coded_option x))
