-- What an aggregate makes of values of a kind is of the kind that it gives.
use Rattle.std.proofs.Common.{◌≡◌, ◌≤◌, ◌<◌, ◌*◌, ◌-◌, ◌/◌, ℕ, ℤ, pos, ◌+ℤ◌, nat_abs, nat_le, Bool, true, false, cond, not, List, [], ◌∷◌, map, length, Option, Some, None, option_map, refl, subst, arith}
use Rattle.std.specs.Prelude.{find}
use Rattle.std.specs.Option.{IfSome, unwrap_or}
use Rattle.std.specs.List.{AllByRecursion}
use Rattle.std.proofs.lemmas.Bool.Decides.{nat_tests}
use Rattle.std.proofs.lemmas.Int.{ints, unsigned_abs-mul}
use Rattle.std.proofs.lemmas.List.{length-map}
use Rattle.std.proofs.lemmas.List.Sums.{length-filter, count_by-le-length}
use Rattle.vtl_values.specs.declared.kind.Kind.{Kind}
use Rattle.vtl_values.specs.declared.kind.Kind.TheVariants as kind
use Rattle.vtl_values.specs.declared.value.Value.{Value}
use Rattle.vtl_values.specs.declared.value.Value.TheVariants.{Null, Truth, Integer, Number, Text}
use Rattle.vtl_values.specs.Ranges.{MOST_INTEGER, MOST_MILLIONTHS, IsNumber}
use Rattle.vtl_values.specs.Texts.{Fits}
use Rattle.vtl_syntax.specs.declared.words.AggregateFunction.{AggregateFunction}
use Rattle.vtl_syntax.specs.declared.words.AggregateFunction.TheVariants.{Sum, Avg, Count, Min, Max, Median}
use Rattle.data_model.specs.declared.TheConstants.{POINT_LIMIT}
use Rattle.vtl_decimals.specs.Arithmetic.{number_of, mean_of, nearest}
use Rattle.vtl_decimals.proofs.Rounding.{nearest-le, nat_abs-rounded_quotient}
use Rattle.scalar_trees.specs.Kinds.{NUMERIC, aggregate_gives, aggregate_takes, number_value}
use Rattle.scalar_trees.specs.WellTyped.{given, is_kind, is_some_kind}
use Rattle.scalar_trees.proofs.typing.Sound.{found-passes, is_kind-same}
use Rattle.scalar_meaning.specs.Comparisons.{is_null}
use Rattle.scalar_meaning.specs.Numbers.{integer_of}
use Rattle.scalar_meaning.proofs.Ranges.{integer-in, number-in}
use Rattle.operator_meaning.specs.aggregates.Reductions.{present, amount, exact_sum, sum, average, first, amount_at, middle, median, reduced}

pub null-fits : (k : Kind) → Fits k Null
null-fits kind.Integer = tt
null-fits kind.Number = tt
null-fits kind.Text = tt
null-fits kind.Truth = tt

abbrev pub AllFit : Kind → List Value → Type 0
AllFit k vs = AllByRecursion (Fits k) vs

present-fit : (k : Kind) (vs : List Value) → AllFit k vs → AllFit k (present vs)
present-fit k [] h = tt
present-fit k (v ∷ vs) h = elim (not (is_null v)) as (λ b. AllFit k (cond b (v ∷ present vs) (present vs))) [ true ↦ (h.0, present-fit k vs h.1) | false ↦ present-fit k vs h.1 ]

present-few : (vs : List Value) → length (present vs) ≤ length vs
present-few vs =
    let same = length-filter (λ v. not (is_null v)) vs in
    let less = count_by-le-length (λ v. not (is_null v)) vs in
    omega (arith, same, less)

-- ---- sum

test-le : (n most : ℕ) → nat_le n most ≡ true → n ≤ most
test-le n most h = grind (arith, nat_tests)

integer-made : (o : Option ℤ) → IfSome o (λ n. nat_le (nat_abs n) MOST_INTEGER ≡ true) → IfSome (option_map Integer o) (Fits kind.Integer)
integer-made None h = tt
integer-made (Some n) h = test-le (nat_abs n) MOST_INTEGER h

number-made : (o : Option ℤ) → IfSome o (λ n. nat_le (nat_abs n) MOST_MILLIONTHS ≡ true) → IfSome (option_map Number o) (Fits kind.Number)
number-made None h = tt
number-made (Some n) h = test-le (nat_abs n) MOST_MILLIONTHS h

integer-sum : (k : Kind) (n total : ℤ) → Fits k (Integer n) → IfSome (option_map Integer (integer_of total)) (Fits k)
integer-sum kind.Integer n total h = integer-made (integer_of total) (integer-in total)
integer-sum kind.Number n total h = absurd h
integer-sum kind.Text n total h = absurd h
integer-sum kind.Truth n total h = absurd h

number-sum : (k : Kind) (n total : ℤ) → Fits k (Number n) → IfSome (option_map Number (number_of total)) (Fits k)
number-sum kind.Number n total h = number-made (number_of total) (number-in total)
number-sum kind.Integer n total h = absurd h
number-sum kind.Text n total h = absurd h
number-sum kind.Truth n total h = absurd h

sum-fits : (k : Kind) (vs : List Value) → AllFit k vs → IfSome (sum vs) (Fits k)
sum-fits k [] h = null-fits k
sum-fits k (Integer n ∷ vs) h = integer-sum k n (exact_sum (Integer n ∷ vs)) h.0
sum-fits k (Number n ∷ vs) h = number-sum k n (exact_sum (Number n ∷ vs)) h.0
sum-fits k (Null ∷ vs) h = null-fits k
sum-fits k (Truth b ∷ vs) h = null-fits k
sum-fits k (Text cs ∷ vs) h = null-fits k

-- ---- means

amount-within : (v : Value) → Fits kind.Number v → IsNumber (amount v)
amount-within Null h = omega arith
amount-within (Number n) h = h
amount-within (Integer n) h = absurd h
amount-within (Truth b) h = absurd h
amount-within (Text cs) h = absurd h

sum-within : (vs : List Value) → AllFit kind.Number vs → nat_abs (exact_sum vs) ≤ length vs * MOST_MILLIONTHS
sum-within [] h = omega arith
sum-within (v ∷ vs) h =
    let own = amount-within v h.0 in
    let rest = sum-within vs h.1 in
    omega (arith, ints, own, rest)

-- a mean is no greater than what each number may be
mean-within : (total : ℤ) (count : ℕ) → 0 < count → nat_abs total ≤ count * MOST_MILLIONTHS → IsNumber (mean_of total count)
mean-within total count some h =
    let size = nat_abs-rounded_quotient total count in
    let bound : nearest (nat_abs total) count ≤ MOST_MILLIONTHS = nearest-le (nat_abs total) count MOST_MILLIONTHS some (omega (arith, h)) in
    omega (arith, size, bound)

-- an average or a median is worked out on numbers
as-number : (own k : Kind) → given (λ q. kind.Number) (is_kind own) NUMERIC k ≡ true → (v : Value) → Fits own v → Fits kind.Number (number_value v)
as-number kind.Integer k h Null f = tt
as-number kind.Integer k h (Integer n) f = let size = unsigned_abs-mul n (pos 1000000) in omega (arith, f, size)
as-number kind.Integer k h (Number n) f = absurd f
as-number kind.Integer k h (Truth b) f = absurd f
as-number kind.Integer k h (Text cs) f = absurd f
as-number kind.Number k h Null f = tt
as-number kind.Number k h (Number n) f = f
as-number kind.Number k h (Integer n) f = absurd f
as-number kind.Number k h (Truth b) f = absurd f
as-number kind.Number k h (Text cs) f = absurd f
as-number kind.Text k h v f = cc
as-number kind.Truth k h v f = cc

numbers-fit : (own : Kind) → ((v : Value) → Fits own v → Fits kind.Number (number_value v)) → (vs : List Value) → AllFit own vs → AllFit kind.Number (map number_value vs)
numbers-fit own each [] h = tt
numbers-fit own each (v ∷ vs) h = (each v h.0, numbers-fit own each vs h.1)

average-fits : (vs : List Value) → AllFit kind.Number (map number_value vs) → Fits kind.Number (average vs)
average-fits [] h = tt
average-fits (v ∷ vs) h =
    let all : List Value = map number_value (v ∷ vs) in
    let bound = sum-within all h in
    let long : length all ≡ length (v ∷ vs) = length-map (v ∷ vs) number_value in
    mean-within (exact_sum all) (length (v ∷ vs)) (omega arith) (omega (arith, bound, long))

-- ---- one of the values

first-has : (P : Value → Type 0) (p : Value → Bool) (vs : List Value) → P Null → AllByRecursion P vs → P (first p vs)
first-has P p [] none h = none
first-has P p (v ∷ vs) none h = elim (p v) as (λ b. P (unwrap_or (cond b (Some v) (find p vs)) Null)) [ true ↦ h.0 | false ↦ first-has P p vs none h.1 ]

at-within : (place : ℕ) (vs : List Value) → AllFit kind.Number vs → IsNumber (amount_at place vs)
at-within place vs h = amount-within _ (first-has (Fits kind.Number) _ vs tt h)

two-within : (a b : ℤ) → IsNumber a → IsNumber b → nat_abs (a +ℤ b) ≤ 2 * MOST_MILLIONTHS
two-within a b h i = omega (arith, ints, h, i)

middle-within : (vs : List Value) → AllFit kind.Number vs → IsNumber (middle vs)
middle-within vs h =
    let low : ℕ = (length vs - 1) / 2 in
    let high : ℕ = length vs / 2 in
    mean-within (amount_at low vs +ℤ amount_at high vs) 2 (omega arith) (two-within (amount_at low vs) (amount_at high vs) (at-within low vs h) (at-within high vs h))

median-fits : (vs : List Value) → AllFit kind.Number (map number_value vs) → Fits kind.Number (median vs)
median-fits [] h = tt
median-fits (v ∷ vs) h = middle-within (map number_value (v ∷ vs)) h

-- ---- an aggregate

-- what it gives of the kind of the values
gives-kind : (gives : Kind → Kind) (own : Kind) (takes : List Kind) (k : Kind) → given gives (is_kind own) takes k ≡ true → gives own ≡ k
gives-kind gives own takes k h = at (find (is_kind own) takes) refl h
  where
    at : (o : Option Kind) → find (is_kind own) takes ≡ o → is_some_kind k (option_map gives o) ≡ true → gives own ≡ k
    at None e i = cc
    at (Some q) e i = let same : own ≡ q = is_kind-same own q (found-passes (is_kind own) takes q e) in rw same (is_kind-same (gives q) k i)

fits-given : (f : AggregateFunction) (own k : Kind) (vs : List Value) → given (aggregate_gives f) (is_kind own) (aggregate_takes f) k ≡ true → AllFit own vs → length vs ≤ POINT_LIMIT → IfSome (reduced f vs) (Fits (aggregate_gives f own))
fits-given Sum own k vs h fit few = sum-fits own (present vs) (present-fit own vs fit)
fits-given Avg own k vs h fit few = average-fits (present vs) (numbers-fit own (as-number own k h) (present vs) (present-fit own vs fit))
fits-given Count own k vs h fit few = let less = present-few vs in omega (arith, few, less)
fits-given Min own k vs h fit few = first-has (Fits own) _ (present vs) (null-fits own) (present-fit own vs fit)
fits-given Max own k vs h fit few = first-has (Fits own) _ (present vs) (null-fits own) (present-fit own vs fit)
fits-given Median own k vs h fit few = median-fits (present vs) (numbers-fit own (as-number own k h) (present vs) (present-fit own vs fit))

pub reduced-fits : (f : AggregateFunction) (own k : Kind) (vs : List Value) → given (aggregate_gives f) (is_kind own) (aggregate_takes f) k ≡ true → AllFit own vs → length vs ≤ POINT_LIMIT → IfSome (reduced f vs) (Fits k)
reduced-fits f own k vs h fit few = subst (λ (q : Kind). IfSome (reduced f vs) (Fits q)) (gives-kind (aggregate_gives f) own (aggregate_takes f) k h) (fits-given f own k vs h fit few)
