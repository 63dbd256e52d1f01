-- The outcome of an operator: a data set, the least key at which an evaluation is out of range, or too many points.
use Rattle.std.specs.Prelude.{◌≡◌, ◌≢◌, ℕ, ◌<◌, ◌≤◌, List, [], ◌∷◌, Option, Some, None, Bool, true, false, cond, nat_le}
use Rattle.std.specs.declared.cmp.Ordering.{Ordering}
use Rattle.std.specs.declared.cmp.Ordering.TheVariants.{Less}
use Rattle.std.specs.Ordering.{is_lt}
use Rattle.std.specs.FinMap.{FinMap, get, len}
use Rattle.data_model.specs.Maps.{is_listed, made_at}
use Rattle.data_model.specs.declared.TheConstants.{POINT_LIMIT}

-- what was to be made, or why there is none
pub data Answer (K A : Type 0) : Type 0 where
  Made : A → Answer K A
  Range : K → Answer K A
  TooMany : Answer K A

-- of an operator: its data set, or why it has none
abbrev pub Outcome : {K : Type 0} → (K → K → Ordering) → Type 0 → Type 0
Outcome {K} R X = Answer K (FinMap R X)

-- Range where a key is given; else a, unless there are too many points
abbrev pub settled : {K A : Type 0} → Option K → ℕ → A → Answer K A
settled (Some k) points a = Range k
settled None points a = cond (nat_le points POINT_LIMIT) (Made a) TooMany

module _ {K : Type 0} (R : K → K → Ordering) where
  -- the lesser of a key and one that may be there
  abbrev pub lesser : K → Option K → K
  lesser k None = k
  lesser k (Some j) = cond (is_lt (R j k)) j k

  -- the least of the keys that pass
  abbrev pub least : (K → Bool) → List K → Option K
  least p [] = None
  least p (k ∷ ks) = cond (p k) (Some (lesser k (least p ks))) (least p ks)

  -- k passes, and no lower key does
  pub record IsLeast (p : K → Bool) (k : K) : Type 0 where
    pub passes : p k ≡ true
    pub lowest : (j : K) → p j ≡ true → R j k ≢ Less

  -- of the listed keys that pass r is the least, or there is none
  abbrev pub IsLeastListed : (K → Bool) → List K → Option K → Type 0
  IsLeastListed p ks None = (j : K) → is_listed R ks j ≡ true → p j ≡ false
  IsLeastListed p ks (Some k) = (p k ≡ true) × ((j : K) → is_listed R ks j ≡ true → p j ≡ true → R j k ≢ Less)

  -- an evaluation at a key that isn't listed is never out of range, and there is no point at a key that isn't listed
  pub record Covers {X : Type 0} (evaluated : List K) (beyond : K → Bool) (keys : List K) (value : K → Option X) : Type 0 where
    pub evaluations : (k : K) → is_listed R evaluated k ≡ false → beyond k ≡ false
    pub points : (k : K) → is_listed R keys k ≡ false → value k ≡ None

module _ {K X : Type 0} {R : K → K → Ordering} where
  -- the three outcomes, of this order and these values
  abbrev pub made : FinMap R X → Outcome R X
  made m = Made m

  abbrev pub range_at : K → Outcome R X
  range_at k = Range k

  abbrev pub too_many : Outcome R X
  too_many = TooMany

  -- the outcome of an operator that is evaluated at some keys, out of range where `beyond` says so, and that has this value at the keys of its result
  unfoldable pub outcome : List K → (K → Bool) → List K → (K → Option X) → Outcome R X
  outcome evaluated beyond keys value =
      let m : FinMap R X = made_at keys value in
      settled (least R beyond evaluated) (len m) m

  -- no evaluation is out of range, and m has this value at each key
  pub record IsResult (beyond : K → Bool) (value : K → Option X) (m : FinMap R X) : Type 0 where
    pub in_range : (k : K) → beyond k ≡ false
    pub values : (k : K) → get m k ≡ value k

  -- the outcome in words: the result, if it has at most 200,000 points; the least key at which an evaluation is out of range; or that the result has more points
  abbrev pub IsOutcome : (K → Bool) → (K → Option X) → Outcome R X → Type 0
  IsOutcome beyond value (Made m) = IsResult beyond value m × (len m ≤ POINT_LIMIT)
  IsOutcome beyond value (Range k) = IsLeast R beyond k
  IsOutcome beyond value TooMany = (m : FinMap R X) × IsResult beyond value m × (POINT_LIMIT < len m)
