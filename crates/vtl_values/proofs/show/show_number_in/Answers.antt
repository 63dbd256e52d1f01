use Rattle.std.proofs.Common.{◌≡◌, ◌++◌, ◌%◌, [], ◌∷◌, ◌∙◌, ap, sym, nat_abs, string_bytes, if◌then◌else◌, true, false, refl, FitsSigned, to_z, of_z, rules, arith}
use Rattle.std.proofs.Math.Utf8.{encode}
use Rattle.std.proofs.lemmas.Int.{to_z-of_z}
use Rattle.std.proofs.lemmas.Str.{encode_ascii}
use Rattle.std.specs.Int.{w128}
use Rattle.std.specs.Str.{chars}
use Rattle.vtl_values.specs.Numerals.{MINUS, is_negative, pointed, fraction_digits}
use Rattle.vtl_values.proofs.Shown.{chars-number, negative-test}
use Rattle.vtl_values.proofs.show.show_number_in.Goals as goal
use Rattle.vtl_values.proofs.show.show_number_in.Goals.{then-number-lt0+in_ok-push, else-number-lt0}

pub returns : goal.returns
returns c =
    let fits : FitsSigned w128 c.number.inside.millionths = search rules in
    let same : to_z w128 (of_z w128 c.number.inside.millionths) ≡ c.args.number = to_z-of_z w128 c.number.inside.millionths fits ∙ c.number.view_is in
    let sign : string_bytes c.if-number-lt0.text ≡ (if is_negative c.args.number then MINUS ∷ [] else []) =
    elim c.if-number-lt0.branch [
      | then-number-lt0+in_ok-push w ↦
          let negative : is_negative c.args.number ≡ true = ap is_negative (sym same) ∙ sym (negative-test (to_z w128 (of_z w128 c.number.inside.millionths))) ∙ w.if-number-lt0.true in
          ap string_bytes w.text-is ∙ w.in_ok-push.ensures.bytes ∙ ap (λ t. t ++ encode MINUS) c.clear.ensures.bytes ∙ encode_ascii MINUS (omega arith) ∙ sym (rw negative refl)
      | else-number-lt0 w ↦
          let positive : is_negative c.args.number ≡ false = ap is_negative (sym same) ∙ sym (negative-test (to_z w128 (of_z w128 c.number.inside.millionths))) ∙ w.if-number-lt0.false in
          ap string_bytes w.text-is ∙ c.clear.ensures.bytes ∙ sym (rw positive refl)
    ] in
    let magnitude : c.unsigned_abs-magnitude.result ≡ nat_abs c.args.number = c.unsigned_abs-magnitude.ensures.value ∙ ap nat_abs same in
    ap chars (c.in_ok-push_decimals.ensures ∙ ap (λ t. t ++ pointed (fraction_digits 6 (c.unsigned_abs-magnitude.result % 1000000))) c.in_ok-write.ensures.bytes)
    ∙ chars-number c.args.number (string_bytes c.if-number-lt0.text) c.unsigned_abs-magnitude.result sign magnitude (omega (arith, c.unsigned_abs-magnitude.ensures.bound))
