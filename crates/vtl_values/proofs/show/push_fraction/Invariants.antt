use Rattle.std.proofs.Common.{◌≡◌, ◌<◌, ◌≤◌, ◌^◌, ◌++◌, string_bytes}
use Rattle.vtl_values.specs.Numerals.{fraction_digits}
use Rattle.vtl_values.proofs.show.push_fraction.Given as goal

abbrev pub invariant-loop-rest : goal.invariant-loop-rest
invariant-loop-rest l = record {
  left : l.rest < 10 ^ l.places;
  few : l.places ≤ 6;
  so_far : string_bytes l.text ++ fraction_digits l.places l.rest ≡ string_bytes l.initial.text ++ fraction_digits 6 l.millionths;
}

abbrev pub decreases-loop-rest : goal.decreases-loop-rest
decreases-loop-rest l = l.places
