use Rattle.std.proofs.Common.{◌≡◌, ℤ, FitsSigned, ◌∙◌, sym, subst, to_z, of_z, arith}
use Rattle.std.proofs.lemmas.Int.{to_z-of_z, fits_signed_from_abs}
use Rattle.std.specs.Int.{w64, w128}
use Rattle.vtl_values.specs.Ranges.{MOST_INTEGER, IsInteger}
use Rattle.vtl_decimals.specs.Arithmetic.{remainder_of}
use Rattle.vtl_decimals.proofs.Rounding.{number-fits}
use Rattle.scalar_meaning.proofs.Ranges.{remainder-within}
use Rattle.scalar_eval.proofs.numbers.remainder.Goals as goal

integer-fits : (z : ℤ) → IsInteger z → FitsSigned w64 z
integer-fits z h = fits_signed_from_abs w64 z (omega arith)

-- what is handed on and comes back are the two integers and their remainder
first-is : (c : goal.After-struct_told-1) → to_z w128 (of_z w128 c.from.result) ≡ c.args.a
first-is c = to_z-of_z w128 _ (record { sfits = c.from.type_inv }) ∙ c.from.ensures ∙ to_z-of_z w64 _ (integer-fits _ c.a.invariant) ∙ c.a.view_is

second-is : (c : goal.After-struct_told-1) → to_z w128 (of_z w128 c.from-2.result) ≡ c.args.b
second-is c = to_z-of_z w128 _ (record { sfits = c.from-2.type_inv }) ∙ c.from-2.ensures ∙ to_z-of_z w64 _ (integer-fits _ c.b.invariant) ∙ c.b.view_is

rest-is : (c : goal.After-struct_told-1) → to_z w128 (of_z w128 c.rest.inside.millionths) ≡ remainder_of c.args.a c.args.b
rest-is c = to_z-of_z w128 _ (number-fits _ c.rest.invariant) ∙ c.rest.view_is ∙ c.modulo-rest.ensures ∙ (λ i. remainder_of (first-is c i) (second-is c i))

in_range : (c : goal.After-struct_told-1) → IsInteger (remainder_of c.args.a c.args.b)
in_range c = remainder-within c.args.a c.args.b MOST_INTEGER (subst IsInteger c.a.view_is c.a.invariant) (subst IsInteger c.b.view_is c.b.invariant)

pub overflow_cast-result : goal.overflow_cast-result
overflow_cast-result c = subst (FitsSigned w64) (sym (rest-is c)) (integer-fits _ (in_range c))

pub invariant_of-result : goal.invariant_of-result
invariant_of-result c = subst IsInteger (sym (to_z-of_z w64 _ (overflow_cast-result c) ∙ rest-is c)) (in_range c)

pub returns : goal.returns
returns c = to_z-of_z w64 _ (overflow_cast-result c) ∙ rest-is c
