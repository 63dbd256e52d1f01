use Rattle.std.proofs.Common.{◌≡◌, ◌<◌, ◌/◌, ◌++◌, ◌∷◌, [], ◌∙◌, ap, string_bytes, arith}
use Rattle.std.proofs.lemmas.Str.{encode_ascii}
use Rattle.vtl_values.proofs.Fractions.{GoesOn, one_more, quotient-lt, unit_pos, all_written}
use Rattle.vtl_values.proofs.show.push_fraction.Goals as goal

pub nonzero_div-rest : goal.nonzero_div-rest
nonzero_div-rest c = omega (arith, unit_pos c.loop-rest.places c.pow-unit.result c.pow-unit.ensures)

pub nonzero_rem-rest : goal.nonzero_rem-rest
nonzero_rem-rest c = omega (arith, unit_pos c.loop-rest.places c.pow-unit.result c.pow-unit.ensures)

pub overflow_cast-rest : goal.overflow_cast-rest
overflow_cast-rest c = omega (arith, quotient-lt c.loop-rest.places c.loop-rest.rest c.pow-unit.result c.loop-rest.invariant.left (omega arith) c.pow-unit.ensures)

pub overflow_add-rest : goal.overflow_add-rest
overflow_add-rest c = omega (arith, quotient-lt c.loop-rest.places c.loop-rest.rest c.pow-unit.result c.loop-rest.invariant.left (omega arith) c.pow-unit.ensures)

pub loop-rest-preserved : goal.loop-rest-preserved
loop-rest-preserved c =
    let digit : c.loop-rest.rest / c.pow-unit.result < 10 = quotient-lt c.loop-rest.places c.loop-rest.rest c.pow-unit.result c.loop-rest.invariant.left (omega arith) c.pow-unit.ensures in
    let is : string_bytes c.push.new.self ≡ string_bytes c.loop-rest.text ++ c.from.result ∷ [] = c.in_ok-push.ensures.bytes ∙ ap (λ l. string_bytes c.loop-rest.text ++ l) (encode_ascii c.from.result (omega (arith, c.from.ensures))) in
    let next : GoesOn _ (string_bytes c.push.new.self) c.loop-rest.places c.loop-rest.rest c.pow-unit.result = one_more _ (string_bytes c.loop-rest.text) (string_bytes c.push.new.self) c.loop-rest.places c.loop-rest.rest c.pow-unit.result c.from.result c.loop-rest.invariant.left (omega arith) c.pow-unit.ensures c.from.ensures is c.loop-rest.invariant.so_far in
    record { left = next.left; few = omega arith; so_far = next.so_far }

pub returns : goal.returns
returns c = all_written _ (string_bytes c.loop-rest.text) c.loop-rest.places c.loop-rest.rest c.loop-rest.invariant.so_far (omega arith)
