-- Laws of sums and products of weights.
use Rattle.std.proofs.Common.{◌≡◌, inl, inr, ℕ, zero, suc, ◌+◌, ◌*◌, ◌<◌, refl, sym, ap, ◌∙◌, arith}
use Rattle.std.proofs.Math.Nat.{add-mul, mul-add, mul_assoc, mul_comm, min-eq_left, min-eq_right, zero-min}
use Rattle.std.proofs.lemmas.Bool.Decides.{leb_tells}
use Rattle.std.specs.Prelude.{min, max}
use Rattle.written_sizes.specs.declared.measure.Measure.{Measure}
use Rattle.written_sizes.specs.declared.measure.Measure.TheVariants as measure
use Rattle.written_sizes.specs.Arithmetic.{limit, plus, deep, times, capped}

-- ---- of one under so many levels

max-start : (b : ℕ) → max 0 b ≡ b
max-start b = omega arith

max-end : (a : ℕ) → max a 0 ≡ a
max-end a = omega arith

max-suc : (a b : ℕ) → max (suc a) (suc b) ≡ suc (max a b)
max-suc a b = omega arith

max-add : (k a b : ℕ) → k + max a b ≡ max (k + a) (k + b)
max-add k a b = omega arith

add-max : (a b k : ℕ) → max a b + k ≡ max (a + k) (b + k)
add-max a b k = omega arith

added : (a b c : ℕ) → a + b + c ≡ a + (b + c)
added a b c = omega arith

start_add : (a : ℕ) → 0 + a ≡ a
start_add a = omega arith

pub deep-none : (a : ℕ) → deep a 0 ≡ 0
deep-none zero = refl
deep-none (suc a) = refl

deep-max : (k a b : ℕ) → deep k (max a b) ≡ max (deep k a) (deep k b)
deep-max zero a b = refl
deep-max (suc k) zero b = ap (deep (suc k)) (max-start b) ∙ sym (max-start (deep (suc k) b))
deep-max (suc k) (suc a) zero = ap (deep (suc k)) (max-end (suc a)) ∙ sym (max-end (suc (k + a)))
deep-max (suc k) (suc a) (suc b) = ap (deep (suc k)) (max-suc a b) ∙ ap suc (max-add k a b) ∙ sym (max-suc (k + a) (k + b))

max-deep : (a b k : ℕ) → deep (max a b) k ≡ max (deep a k) (deep b k)
max-deep a b zero = deep-none (max a b) ∙ sym (ap (λ (n : ℕ). max n (deep b 0)) (deep-none a) ∙ ap (max 0) (deep-none b))
max-deep zero b (suc k) = ap (λ (n : ℕ). deep n (suc k)) (max-start b) ∙ sym (max-start (deep b (suc k)))
max-deep (suc a) zero (suc k) = ap (λ (n : ℕ). deep n (suc k)) (max-end (suc a)) ∙ sym (max-end (suc (a + k)))
max-deep (suc a) (suc b) (suc k) = ap (λ (n : ℕ). deep n (suc k)) (max-suc a b) ∙ ap suc (add-max a b k) ∙ sym (max-suc (a + k) (b + k))

deep-deep : (a b c : ℕ) → deep (deep a b) c ≡ deep a (deep b c)
deep-deep zero b c = refl
deep-deep (suc a) zero c = refl
deep-deep (suc a) (suc b) zero = refl
deep-deep (suc a) (suc b) (suc c) = ap suc (added a b c)

-- ---- of sums and products

pub plus-four : (m : Measure) (a b c d : ℕ) → plus m (plus m a b) (plus m c d) ≡ plus m (plus m a c) (plus m b d)
plus-four measure.Expressions a b c d = omega arith
plus-four measure.Levels a b c d = omega arith

pub times-plus : (m : Measure) (k a b : ℕ) → times m k (plus m a b) ≡ plus m (times m k a) (times m k b)
times-plus measure.Expressions k a b = mul-add k a b
times-plus measure.Levels k a b = deep-max k a b

pub plus-times : (m : Measure) (a b k : ℕ) → times m (plus m a b) k ≡ plus m (times m a k) (times m b k)
plus-times measure.Expressions a b k = add-mul a b k
plus-times measure.Levels a b k = max-deep a b k

pub times-times : (m : Measure) (a b c : ℕ) → times m (times m a b) c ≡ times m a (times m b c)
times-times measure.Expressions a b c = mul_assoc a b c
times-times measure.Levels a b c = deep-deep a b c

pub times-none : (m : Measure) (a : ℕ) → times m a 0 ≡ 0
times-none measure.Expressions a = omega arith
times-none measure.Levels a = deep-none a

pub none-times : (m : Measure) (a : ℕ) → times m 0 a ≡ 0
none-times measure.Expressions a = omega arith
none-times measure.Levels a = refl

pub one-times : (m : Measure) (a : ℕ) → times m 1 a ≡ a
one-times measure.Expressions a = omega arith
one-times measure.Levels zero = refl
one-times measure.Levels (suc a) = ap suc (start_add a)

end_add : (a : ℕ) → a + 0 ≡ a
end_add a = omega arith

pub times-one : (m : Measure) (a : ℕ) → times m a 1 ≡ a
times-one measure.Expressions a = omega arith
times-one measure.Levels zero = refl
times-one measure.Levels (suc a) = ap suc (end_add a)

pub plus-none : (m : Measure) (a : ℕ) → plus m a 0 ≡ a
plus-none measure.Expressions a = omega arith
plus-none measure.Levels a = omega arith

pub none-plus : (m : Measure) (a : ℕ) → plus m 0 a ≡ a
none-plus measure.Expressions a = omega arith
none-plus measure.Levels a = omega arith

-- ---- none above the limit

min-plus : (l a b : ℕ) → min (a + b) l ≡ min (min a l + min b l) l
min-plus l a b = omega arith

min-max : (l a b : ℕ) → min (max a b) l ≡ min (max (min a l) (min b l)) l
min-max l a b = omega arith

pub capped-plus : (m : Measure) (a b : ℕ) → capped m (plus m a b) ≡ capped m (plus m (capped m a) (capped m b))
capped-plus measure.Expressions a b = min-plus (limit measure.Expressions) a b
capped-plus measure.Levels a b = min-max (limit measure.Levels) a b

times-zero : (b : ℕ) → 0 ≡ 0 * b
times-zero b = omega arith

large : (l a b : ℕ) → l < b → min (suc a * b) l ≡ min (suc a * l) l
large l a b above = omega arith

min-suc : (a l : ℕ) → min (suc a) (suc l) ≡ suc (min a l)
min-suc a l = omega arith

few : (l a b : ℕ) → min (suc (a + b)) (suc l) ≡ min (suc (a + min b l)) (suc l)
few l a b = omega arith

fewer : (l a b : ℕ) → min (suc (a + b)) (suc l) ≡ min (suc (min a l + b)) (suc l)
fewer l a b = omega arith

-- a factor that isn't 0 takes nothing back that is beyond the limit
min-product : (l a b : ℕ) → min (a * b) l ≡ min (a * min b l) l
min-product l zero b = ap (λ (n : ℕ). min n l) (sym (times-zero b) ∙ times-zero (min b l))
min-product l (suc a) b = elim (leb_tells b l) [
  | inl t ↦ ap (λ (n : ℕ). min (suc a * n) l) (sym (min-eq_left t.1))
  | inr t ↦ let above : l < b = t.1 in let is : min b l ≡ l = min-eq_right (omega arith) in large l a b above ∙ ap (λ (n : ℕ). min (suc a * n) l) (sym is)
]

min-deep : (l a b : ℕ) → min (deep a b) (suc l) ≡ min (deep a (min b (suc l))) (suc l)
min-deep l zero b = refl
min-deep l (suc a) zero = ap (λ (n : ℕ). min (deep (suc a) n) (suc l)) (sym (zero-min (suc l)))
min-deep l (suc a) (suc b) = few l a b ∙ ap (λ (n : ℕ). min (deep (suc a) n) (suc l)) (sym (min-suc b l))

deep-min : (l a b : ℕ) → min (deep a b) (suc l) ≡ min (deep (min a (suc l)) b) (suc l)
deep-min l a zero = ap (λ (n : ℕ). min n (suc l)) (deep-none a ∙ sym (deep-none (min a (suc l))))
deep-min l zero (suc b) = ap (λ (n : ℕ). min (deep n (suc b)) (suc l)) (sym (zero-min (suc l)))
deep-min l (suc a) (suc b) = fewer l a b ∙ ap (λ (n : ℕ). min (deep n (suc b)) (suc l)) (sym (min-suc a l))

pub capped-times : (m : Measure) (a b : ℕ) → capped m (times m a b) ≡ capped m (times m a (capped m b))
capped-times measure.Expressions a b = min-product (limit measure.Expressions) a b
capped-times measure.Levels a b = min-deep 65 a b

pub times-capped : (m : Measure) (a b : ℕ) → capped m (times m a b) ≡ capped m (times m (capped m a) b)
times-capped measure.Expressions a b =
    let l = limit measure.Expressions in
    ap (λ (n : ℕ). min n l) (mul_comm a b) ∙ min-product l b a ∙ ap (λ (n : ℕ). min n l) (mul_comm b (min a l))
times-capped measure.Levels a b = deep-min 65 a b
