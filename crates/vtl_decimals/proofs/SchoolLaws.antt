-- What school arithmetic says of ranges, quotients, remainders, whole numbers and places.
use Rattle.std.proofs.Common.{◌≡◌, ◌≢◌, ℕ, zero, suc, ◌+◌, ◌*◌, ◌%◌, ◌<◌, ◌≤◌, ℤ, pos, negsuc, ◌+ℤ◌, ◌-ℤ◌, ◌*ℤ◌, ◌≤ℤ◌, ◌<ℤ◌, neg_ℤ, nat_abs, int_div, Some, None, ◌⊎◌, inl, inr, ⊎_elim, refl, sym, ap, ◌∙◌, subst, arith}
use Rattle.std.proofs.lemmas.Bool.{cases_lt}
use Rattle.std.proofs.lemmas.Bool.Decides.{nat_tests}
use Rattle.std.proofs.lemmas.Int.{ints}
use Rattle.std.proofs.Math.Nat.{div-add-mod, mul-le-mul_right}
use Rattle.std.proofs.Math.IntN.{*ℤ-negsuc, *ℤ_comm, zero-*ℤ, +ℤ_idr}
use Rattle.vtl_values.specs.Ranges.{MOST_MILLIONTHS, IsNumber}
use Rattle.vtl_decimals.specs.Arithmetic.{ONE, number_of, nearest, rounded, rounded_quotient, IsNearest, floored, floor_quotient, remainder_of, unit_of, rounding_of, truncation_of, floor_of, ceiling_of}
use Rattle.vtl_decimals.proofs.Rounding.{unit-positive, nat_abs-neg, cut-not_further}

pub number_of-within : (z : ℤ) → IsNumber z → number_of z ≡ Some z
unfolding number_of
number_of-within z h = grind (arith, nat_tests)

pub number_of-beyond : (z : ℤ) → MOST_MILLIONTHS < nat_abs z → number_of z ≡ None
unfolding number_of
number_of-beyond z h = grind (arith, nat_tests)

pub number_of-made : (z x : ℤ) → number_of z ≡ Some x → (x ≡ z) × IsNumber x
number_of-made z x made = ⊎_elim
    (λ (beyond : MOST_MILLIONTHS < nat_abs z). let none : number_of z ≡ None = number_of-beyond z beyond in (cc, cc))
    (λ (h : IsNumber z).
    let some : number_of z ≡ Some z = number_of-within z h in
    let same : z ≡ x = cc in
    (sym same, subst IsNumber same h))
    (cases_lt MOST_MILLIONTHS (nat_abs z))

-- how near twice the rounded quotient of two sizes is
record Near (n b : ℕ) : Type 0 where
  over : 2 * (nearest n b * b) ≤ 2 * n + b
  under : 2 * n < 2 * (nearest n b * b) + b

near : (n b : ℕ) → 0 < b → Near n b
near n b positive =
    let parts : 2 * b * nearest n b + (2 * n + b) % (2 * b) ≡ 2 * n + b = div-add-mod (2 * n + b) (2 * b) in
    let rest : (2 * n + b) % (2 * b) < 2 * b = omega arith in
    record { over = omega arith; under = omega arith }

neg-mul : (n b : ℕ) → neg_ℤ (pos n) *ℤ pos b ≡ neg_ℤ (pos (n * b))
neg-mul zero b = let none : 0 * b ≡ 0 = omega arith in rw none refl
neg-mul (suc n) b = refl

rounded-near : (a : ℤ) (b : ℕ) → 0 < b → 2 * nat_abs (rounded a b *ℤ pos b -ℤ a) ≤ b
rounded-near (pos a) b positive = let h = near a b positive in omega (arith, ints, h.over, h.under)
rounded-near (negsuc a) b positive =
    let h = near (suc a) b positive in
    rw neg-mul (omega (arith, ints, h.over, h.under))

rounded-away : (a : ℤ) (b : ℕ) → 0 < b → 2 * nat_abs (rounded a b *ℤ pos b -ℤ a) ≡ b → nat_abs a < nat_abs (rounded a b *ℤ pos b)
rounded-away (pos a) b positive tie = let h = near a b positive in omega (arith, ints, h.over, h.under)
rounded-away (negsuc a) b positive tie =
    let h = near (suc a) b positive in
    let e : 2 * nat_abs (neg_ℤ (pos (nearest (suc a) b * b)) -ℤ negsuc a) ≡ b = rw neg-mul at tie in
    rw neg-mul (omega (arith, ints, h.over, h.under, e))

nat_abs-turned : (m a : ℤ) → nat_abs (neg_ℤ m -ℤ a) ≡ nat_abs (m -ℤ neg_ℤ a)
nat_abs-turned m a = omega (arith, ints)

-- a quotient by a negative divisor, both signs turned
turned : (q a : ℤ) (b : ℕ) → nat_abs (q *ℤ negsuc b -ℤ a) ≡ nat_abs (q *ℤ pos (suc b) -ℤ neg_ℤ a)
turned q a b = ap (λ m. nat_abs (m -ℤ a)) (*ℤ-negsuc q b) ∙ nat_abs-turned (q *ℤ pos (suc b)) a

rounded_quotient-near : (a b : ℤ) → b ≢ pos 0 → 2 * nat_abs (rounded_quotient a b *ℤ b -ℤ a) ≤ nat_abs b
unfolding rounded_quotient
rounded_quotient-near a (pos zero) nonzero = absurd (nonzero refl)
rounded_quotient-near a (pos (suc b)) nonzero = rounded-near a (suc b) (omega arith)
rounded_quotient-near a (negsuc b) nonzero = rw turned (rounded-near (neg_ℤ a) (suc b) (omega arith))

rounded_quotient-away : (a b : ℤ) → b ≢ pos 0 → 2 * nat_abs (rounded_quotient a b *ℤ b -ℤ a) ≡ nat_abs b → nat_abs a < nat_abs (rounded_quotient a b *ℤ b)
unfolding rounded_quotient
rounded_quotient-away a (pos zero) nonzero tie = absurd (nonzero refl)
rounded_quotient-away a (pos (suc b)) nonzero tie = rounded-away a (suc b) (omega arith) tie
rounded_quotient-away a (negsuc b) nonzero tie =
    let q = rounded (neg_ℤ a) (suc b) in
    let below : nat_abs (neg_ℤ a) < nat_abs (q *ℤ pos (suc b)) =
    rounded-away (neg_ℤ a) (suc b) (omega arith) (ap (λ n. 2 * n) (sym (turned q a b)) ∙ tie) in
    let size : nat_abs (q *ℤ negsuc b) ≡ nat_abs (q *ℤ pos (suc b)) = ap nat_abs (*ℤ-negsuc q b) ∙ nat_abs-neg (q *ℤ pos (suc b)) in
    let P : ℕ → Type 0 = λ n. n < nat_abs (q *ℤ pos (suc b)) in
    rw size (subst P (nat_abs-neg a) below)

-- a remainder is what the floor leaves
pub remainder_of-whole : (x y : ℤ) → y *ℤ floor_quotient x y +ℤ remainder_of x y ≡ x
remainder_of-whole x (pos zero) = rw zero-*ℤ (omega (arith, ints))
remainder_of-whole x (pos (suc y)) = omega (arith, ints)
remainder_of-whole x (negsuc y) = omega (arith, ints)

floored-whole : (a : ℤ) (b : ℕ) → 0 < b → ((floored a b *ℤ pos b) ≤ℤ a) × (a <ℤ (floored a b *ℤ pos b +ℤ pos b))
floored-whole (pos a) b positive = (omega (arith, ints), omega (arith, ints))
floored-whole (negsuc a) b positive = (omega (arith, ints), omega (arith, ints))

pub remainder_of-positive : (x y : ℤ) → pos 0 <ℤ y → (pos 0 ≤ℤ remainder_of x y) × (remainder_of x y <ℤ y)
unfolding floor_quotient
remainder_of-positive x (pos zero) h = absurd (omega (arith, ints))
remainder_of-positive x (pos (suc y)) h =
    let e = *ℤ_comm (pos (suc y)) (floored x (suc y)) in
    let f = floored-whole x (suc y) (omega arith) in
    (rw e (omega (arith, ints, f.0, f.1)), rw e (omega (arith, ints, f.0, f.1)))
remainder_of-positive x (negsuc y) h = absurd (omega (arith, ints))

pub remainder_of-negative : (x y : ℤ) → y <ℤ pos 0 → (y <ℤ remainder_of x y) × (remainder_of x y ≤ℤ pos 0)
unfolding floor_quotient
remainder_of-negative x (pos y) h = absurd (omega (arith, ints))
remainder_of-negative x (negsuc y) h =
    let e = *ℤ_comm (negsuc y) (floored (neg_ℤ x) (suc y)) ∙ *ℤ-negsuc (floored (neg_ℤ x) (suc y)) y in
    let f = floored-whole (neg_ℤ x) (suc y) (omega arith) in
    (rw e (omega (arith, ints, f.0, f.1)), rw e (omega (arith, ints, f.0, f.1)))

pub floor_of-near : (a : ℤ) → (floor_of a ≤ℤ a) × (a <ℤ (floor_of a +ℤ pos ONE))
unfolding floor_quotient
floor_of-near a = floored-whole a ONE (omega arith)

pub ceiling_of-near : (a : ℤ) → (a ≤ℤ ceiling_of a) × ((ceiling_of a -ℤ pos ONE) <ℤ a)
ceiling_of-near a =
    let f = floor_of-near (neg_ℤ a) in
    (omega (arith, ints, f.0, f.1), omega (arith, ints, f.0, f.1))

pub rounding_of-near : (a digits : ℤ) → 2 * nat_abs (rounding_of a digits -ℤ a) ≤ unit_of digits
unfolding rounded_quotient
rounding_of-near a digits = rounded-near a (unit_of digits) (unit-positive digits)

cut-near : (a : ℤ) (unit : ℕ) → 0 < unit → nat_abs (a -ℤ int_div a (pos unit) *ℤ pos unit) < unit
cut-near (pos a) unit positive = omega (arith, ints)
cut-near (negsuc a) unit positive = rw neg-mul (omega (arith, ints))

pub truncation_of-near : (a digits : ℤ) → nat_abs (a -ℤ truncation_of a digits) < unit_of digits
truncation_of-near a digits = cut-near a (unit_of digits) (unit-positive digits)

pub truncation_of-not_further : (a digits : ℤ) → nat_abs (truncation_of a digits) ≤ nat_abs a
truncation_of-not_further a digits = cut-not_further a (unit_of digits)

-- two multiples of b are one, or b apart
apart : (q r : ℤ) (b : ℕ) → (q ≡ r) ⊎ (b ≤ nat_abs (q *ℤ pos b -ℤ r *ℤ pos b))
apart (pos q) (pos r) b = ⊎_elim
    (λ (h : q < r). inr (omega (arith, ints, mul-le-mul_right b h)))
    (λ (h : r ≤ q). ⊎_elim
    (λ (k : r < q). inr (omega (arith, ints, mul-le-mul_right b k)))
    (λ (k : q ≤ r). let e : q ≡ r = omega arith in inl (ap pos e))
    (cases_lt r q))
    (cases_lt q r)
apart (negsuc q) (negsuc r) b = ⊎_elim
    (λ (h : q < r). inr (rw (neg-mul (suc q) b, neg-mul (suc r) b) (omega (arith, ints, mul-le-mul_right b h))))
    (λ (h : r ≤ q). ⊎_elim
    (λ (k : r < q). inr (rw (neg-mul (suc q) b, neg-mul (suc r) b) (omega (arith, ints, mul-le-mul_right b k))))
    (λ (k : q ≤ r). let e : q ≡ r = omega arith in inl (ap negsuc e))
    (cases_lt r q))
    (cases_lt q r)
apart (pos q) (negsuc r) b = inr (omega (arith, ints))
apart (negsuc q) (pos r) b = inr (omega (arith, ints))

multiple : (q : ℤ) (b : ℕ) → (q *ℤ pos b ≡ pos 0) ⊎ (b ≤ nat_abs (q *ℤ pos b))
multiple q b = ⊎_elim
    (λ (none : q ≡ pos 0). inl (ap (λ z. z *ℤ pos b) none ∙ zero-*ℤ (pos b)))
    (λ far. inr (subst (λ z. b ≤ nat_abs z) (ap (λ z. q *ℤ pos b -ℤ z) (zero-*ℤ (pos b)) ∙ +ℤ_idr (q *ℤ pos b)) far))
    (apart q (pos 0) b)

-- one whole number at most is nearest, for b > 0
one-nearest : (a q r : ℤ) (b : ℕ) → 0 < b → IsNearest a (pos b) q → IsNearest a (pos b) r → q ≡ r
one-nearest a q r b positive q_near r_near = ⊎_elim
    (λ same. same)
    (λ (far : b ≤ nat_abs (q *ℤ pos b -ℤ r *ℤ pos b)).
    let q_tie : 2 * nat_abs (q *ℤ pos b -ℤ a) ≡ b = omega (arith, ints, q_near.near, r_near.near) in
    let r_tie : 2 * nat_abs (r *ℤ pos b -ℤ a) ≡ b = omega (arith, ints, q_near.near, r_near.near) in
    let q_away = q_near.away q_tie in
    let r_away = r_near.away r_tie in
    ⊎_elim
    (λ (none : q *ℤ pos b ≡ pos 0). absurd (omega (arith, ints, none, q_away)))
    (λ (q_size : b ≤ nat_abs (q *ℤ pos b)). ⊎_elim
    (λ (none : r *ℤ pos b ≡ pos 0). absurd (omega (arith, ints, none, r_away)))
    (λ (r_size : b ≤ nat_abs (r *ℤ pos b)). absurd (omega (arith, ints, far, q_tie, r_tie, q_away, r_away)))
    (multiple r b))
    (multiple q b))
    (apart q r b)

pub rounded_quotient-nearest : (a b : ℤ) → b ≢ pos 0 → IsNearest a b (rounded_quotient a b)
rounded_quotient-nearest a b nonzero = record { near = rounded_quotient-near a b nonzero; away = rounded_quotient-away a b nonzero }

-- both signs turned
turned-nearest : (a q : ℤ) (b : ℕ) → IsNearest a (negsuc b) q → IsNearest (neg_ℤ a) (pos (suc b)) q
turned-nearest a q b h =
    let size : nat_abs (q *ℤ negsuc b) ≡ nat_abs (q *ℤ pos (suc b)) = ap nat_abs (*ℤ-negsuc q b) ∙ nat_abs-neg (q *ℤ pos (suc b)) in
    record {
      near = subst (λ n. 2 * n ≤ suc b) (turned q a b) h.near;
      away = λ tie. omega (arith, size, nat_abs-neg a, h.away (ap (λ n. 2 * n) (turned q a b) ∙ tie));
    }

pub rounded_quotient-only : (a b q : ℤ) → b ≢ pos 0 → IsNearest a b q → q ≡ rounded_quotient a b
rounded_quotient-only a (pos zero) q nonzero h = absurd (nonzero refl)
rounded_quotient-only a (pos (suc b)) q nonzero h = one-nearest a q _ (suc b) (omega arith) h (rounded_quotient-nearest a (pos (suc b)) nonzero)
rounded_quotient-only a (negsuc b) q nonzero h =
    one-nearest (neg_ℤ a) q _ (suc b) (omega arith) (turned-nearest a q b h) (turned-nearest a _ b (rounded_quotient-nearest a (negsuc b) nonzero))
