-- Sums of the values of components.
use Rattle.std.specs.Prelude.{ℕ, ◌+◌, ◌*◌, ◌^◌, ◌≤◌, ℤ, pos, neg_ℤ, ◌+ℤ◌, ◌*ℤ◌, ◌≤ℤ◌, List, [], ◌∷◌, map, All, slice_get, unwrap_or}
use Rattle.vtl_values.specs.declared.value.Value.{Value}
use Rattle.vtl_values.specs.declared.value.Value.TheVariants.{Null, Truth, Integer, Number, Text}
use Rattle.held_index.specs.declared.want.SumOf.{SumOf}
use Rattle.held_index.specs.Walks.{PointValues, component_of}

-- no values
abbrev pub no_sum : SumOf
no_sum = record { sum = pos 0; found = 0 }

-- one value, in millionths
abbrev pub one_sum : ℤ → SumOf
one_sum z = record { sum = z; found = 1 }

-- the values of both
abbrev pub add_sums : SumOf → SumOf → SumOf
add_sums a b = record { sum = a.sum +ℤ b.sum; found = a.found + b.found }

-- what a value adds: a number in millionths, and nothing where it is null
abbrev pub sum_of_value : Value → SumOf
sum_of_value Null = no_sum
sum_of_value (Truth b) = no_sum
sum_of_value (Integer n) = one_sum (n *ℤ pos (10 ^ 6))
sum_of_value (Number d) = one_sum d
sum_of_value (Text cs) = no_sum

-- the exact sum of a component over points, of the values that aren't null, and how many these are
abbrev pub sum_over : ℕ → List PointValues → SumOf
sum_over c [] = no_sum
sum_over c (p ∷ ps) = add_sums (sum_of_value (component_of c p)) (sum_over c ps)

-- what a point adds to the sums that are kept
abbrev pub own_sums : List ℕ → PointValues → List SumOf
own_sums components p = map (λ c. sum_of_value (component_of c p)) components

-- sums that are kept, place by place; what isn't there is no sum
abbrev pub join_sums : List SumOf → List SumOf → List SumOf
join_sums [] ys = ys
join_sums (x ∷ xs) [] = x ∷ xs
join_sums (x ∷ xs) (y ∷ ys) = add_sums x y ∷ join_sums xs ys

abbrev pub sum_at : ℕ → List SumOf → SumOf
sum_at which xs = unwrap_or (slice_get xs which) no_sum

-- so many points have at most as many values, none of which is out of range
pub record FitsPoints (n : ℕ) (s : SumOf) : Type 0 where
  pub found : s.found ≤ n
  pub least : neg_ℤ (pos (n * 10 ^ 21)) ≤ℤ s.sum
  pub most : s.sum ≤ℤ pos (n * 10 ^ 21)

abbrev pub FitAll : ℕ → List SumOf → Type 0
FitAll n xs = All (FitsPoints n) xs
