-- Sums and products of weights. The weight of an outline is the number of its expressions, or one more than its levels.
-- Those of parts add up, or the largest counts; one that stands so many times, or so deep, is multiplied.
use Rattle.std.specs.Prelude.{ℕ, zero, suc, ◌+◌, ◌*◌, min, max}
use Rattle.operator_faults.specs.declared.outline.What.{What}
use Rattle.written_sizes.specs.declared.measure.Measure.{Measure}
use Rattle.written_sizes.specs.declared.measure.Measure.TheVariants as measure
use Rattle.written_sizes.specs.Sizes.{own_expressions, own_levels}

abbrev pub most_expressions : ℕ
most_expressions = 1000000

abbrev pub most_levels : ℕ
most_levels = 64

-- the weights that tell whether there are too many: a larger one is as good as the last
abbrev pub limit : Measure → ℕ
limit measure.Expressions = most_expressions + 1
limit measure.Levels = most_levels + 2

abbrev pub plus : Measure → ℕ → ℕ → ℕ
plus measure.Expressions a b = a + b
plus measure.Levels a b = max a b

-- 0 stands for what isn't there; one who stands under a levels is weighed as a + 1
abbrev pub deep : ℕ → ℕ → ℕ
deep zero b = 0
deep (suc a) zero = 0
deep (suc a) (suc b) = suc (a + b)

abbrev pub times : Measure → ℕ → ℕ → ℕ
times measure.Expressions a b = a * b
times measure.Levels a b = deep a b

-- how often parts count that stand below
abbrev pub factor : Measure → What → ℕ
factor measure.Expressions w = 1
factor measure.Levels w = own_levels w + 1

-- what stands there without parts
abbrev pub alone : Measure → What → ℕ
alone measure.Expressions w = own_expressions w
alone measure.Levels w = 1

-- ---- with weights as they are, or none above the limit

pub record Arithmetic : Type 0 where
  pub add : ℕ → ℕ → ℕ
  pub multiply : ℕ → ℕ → ℕ

abbrev pub exact : Measure → Arithmetic
exact m = record { add = plus m; multiply = times m }

abbrev pub capped : Measure → ℕ → ℕ
capped m n = min n (limit m)

abbrev pub limited : Measure → Arithmetic
limited m = record { add = λ a b. capped m (plus m a b); multiply = λ a b. capped m (times m a b) }
