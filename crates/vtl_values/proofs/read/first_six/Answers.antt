use Rattle.std.proofs.Common.{◌≡◌, ◌<◌, ◌++◌, ◌∙◌, ap, sym, get_or, replicate, unwrap_or, arith}
use Rattle.vtl_values.specs.Numerals.{ZERO}
use Rattle.vtl_values.proofs.Digits.{digit_at, first-lt, digits_value-step, get_or-filled, all-filled, length-filled}
use Rattle.vtl_values.proofs.read.first_six.Goals as goal

so_far : (c : goal.After-from) → c.loop-place.value < 1000000
so_far c = omega (arith, first-lt c.args.decimals.now c.loop-place.place c.requires (omega arith), c.loop-place.invariant)

pub overflow_mul-value : goal.overflow_mul-value
overflow_mul-value c = omega (arith, first-lt c.args.decimals.now c.loop-place.place c.requires (omega arith), c.loop-place.invariant)

-- the digit that is read, or a zero
digit : (c : goal.After-from) → c.unwrap_or-digit.result ≡ get_or (c.args.decimals.now ++ replicate 6 ZERO) c.loop-place.place 0
digit c = c.unwrap_or-digit.ensures ∙ ap (λ o. unwrap_or o 48) c.copied.ensures ∙ c.get.ensures.lookup.4 (omega arith) 48 ∙ sym (get_or-filled c.args.decimals.now c.loop-place.place c.loop-place-test.true)

pub overflow_add-value : goal.overflow_add-value
overflow_add-value c = omega (arith, so_far c, c.from.ensures, digit c, digit_at (c.args.decimals.now ++ replicate 6 ZERO) c.loop-place.place 0 (all-filled c.args.decimals.now c.requires) (omega (arith, length-filled c.args.decimals.now)))

pub loop-place-preserved : goal.loop-place-preserved
loop-place-preserved c = omega (arith, c.from.ensures, digit c, c.loop-place.invariant, digits_value-step (c.args.decimals.now ++ replicate 6 ZERO) c.loop-place.place (all-filled c.args.decimals.now c.requires) (omega (arith, length-filled c.args.decimals.now)))

pub returns-clause-below : goal.returns-clause-below
returns-clause-below c = omega (arith, first-lt c.args.decimals.now c.loop-place.place c.requires (omega arith), c.loop-place.invariant)
