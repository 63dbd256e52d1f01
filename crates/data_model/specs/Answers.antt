-- The answers of delta rules.
use Rattle.std.specs.Prelude.{◌≡◌, Bool}
use Rattle.std.specs.declared.cmp.Ordering.{Ordering}
use Rattle.std.specs.FinMap.{FinMap}
use Rattle.data_model.specs.Deltas.{DeltaOf, Leads, delta_between}
use Rattle.data_model.specs.Outcomes.{Answer, Made, Range, TooMany, Outcome}

-- where the result was x and the outcome is now o, the right answer is the right delta from x to the new result, or the same fault
abbrev pub IsRight : {K X : Type 0} {R : K → K → Ordering} → Outcome R X → FinMap R X → Answer K (DeltaOf R X) → Type 0
IsRight (Made y) x (Made d) = Leads d x y
IsRight (Range k) x (Range j) = j ≡ k
IsRight TooMany x TooMany = Unit {0}
IsRight _ x _ = ⊥

-- the right answer, where a test of values is given
abbrev pub right_answer : {K X : Type 0} {R : K → K → Ordering} → (X → X → Bool) → Outcome R X → FinMap R X → Answer K (DeltaOf R X)
right_answer same (Made y) x = Made (delta_between same x y)
right_answer same (Range k) x = Range k
right_answer same TooMany x = TooMany
