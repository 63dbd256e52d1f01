use Rattle.std.proofs.Common.{◌≡◌, ◌++◌, take, replicate}
use Rattle.std.specs.Str.Parse.{digits_value}
use Rattle.vtl_values.specs.Numerals.{ZERO}
use Rattle.vtl_values.proofs.read.first_six.Given as goal

abbrev pub invariant-loop-place : goal.invariant-loop-place
invariant-loop-place l = l.value ≡ digits_value 10 (take l.place (l.decimals ++ replicate 6 ZERO))
