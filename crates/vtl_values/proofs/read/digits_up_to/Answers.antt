use Rattle.std.proofs.Common.{◌≡◌, ◌+◌, ◌*◌, take, arith}
use Rattle.std.specs.Str.Parse.{digits_value}
use Rattle.vtl_values.proofs.Digits.{digits_value-step, digits_value-take}
use Rattle.vtl_values.proofs.read.digits_up_to.Goals as goal

pub returns-then-value-most : goal.returns-then-value-most
returns-then-value-most c = λ within.
    let step : c.loop-digit.value * 10 + c.from.result ≡ digits_value 10 (take (c.loop-digit.digit-index + 1) c.args.digits.now) =
    omega (arith, digits_value-step c.args.digits.now c.loop-digit.digit-index c.requires.digits c.loop-digit-test.true, c.from.ensures) in
    omega (arith, digits_value-take c.args.digits.now (c.loop-digit.digit-index + 1))

pub loop-digit-preserved : goal.loop-digit-preserved
loop-digit-preserved c = record {
  so_far = omega (arith, digits_value-step c.args.digits.now c.loop-digit.digit-index c.requires.digits c.loop-digit-test.true, c.from.ensures);
  within = omega arith;
}
