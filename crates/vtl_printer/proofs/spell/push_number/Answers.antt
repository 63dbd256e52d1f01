use Rattle.std.proofs.Common.{◌≡◌, ◌++◌, [], ◌∷◌, nat_abs, string_bytes, sym, ap, subst, ◌∙◌, FitsSigned, rules}
use Rattle.std.proofs.lemmas.Int.{to_z-of_z}
use Rattle.std.specs.Int.{w128}
use Rattle.vtl_values.specs.Numerals.{POINT, ZERO, number_text}
use Rattle.vtl_values.specs.Ranges.{IsNumber}
use Rattle.vtl_printer.specs.Spellings.{number_literal}
use Rattle.vtl_printer.proofs.Pushes.{pushed_behind, number_pushed, whole_literal, fine_literal}
use Rattle.vtl_printer.proofs.spell.push_number.Goals as goal

pub returns-then-unsigned_abs-eq0 : goal.returns-then-unsigned_abs-eq0
returns-then-unsigned_abs-eq0 c =
    let z = c.args.number in
    let fits : FitsSigned w128 c.number.inside.millionths = search rules in
    let magnitude : c.unsigned_abs.result ≡ nat_abs z = c.unsigned_abs.ensures.value ∙ ap nat_abs (to_z-of_z w128 c.number.inside.millionths fits ∙ c.number.view_is) in
    let within : IsNumber z = subst (λ w. IsNumber w) c.number.view_is c.number.invariant in
    let shown : string_bytes c.push_str.new.self ≡ string_bytes c.args.text.now ++ number_text z =
    number_pushed z c.in_ok-shown.shown c.as_str.result.now (string_bytes c.args.text.now) (string_bytes c.push_str.new.self) within c.in_ok-shown.ensures c.as_str.ensures.bytes c.in_ok-push_str.ensures.bytes in
    pushed_behind c.push_str-then-unsigned_abs-eq0.result (string_bytes c.push_str-then-unsigned_abs-eq0.new.self) (string_bytes c.push_str.new.self) (string_bytes c.args.text.now) (number_text z) (number_literal z) (POINT ∷ ZERO ∷ [])
    c.push_str-then-unsigned_abs-eq0.ensures.bytes shown (whole_literal z c.unsigned_abs.result magnitude c.if-unsigned_abs-eq0.true)

pub returns : goal.returns
returns c =
    let z = c.args.number in
    let fits : FitsSigned w128 c.number.inside.millionths = search rules in
    let magnitude : c.unsigned_abs.result ≡ nat_abs z = c.unsigned_abs.ensures.value ∙ ap nat_abs (to_z-of_z w128 c.number.inside.millionths fits ∙ c.number.view_is) in
    let within : IsNumber z = subst (λ w. IsNumber w) c.number.view_is c.number.invariant in
    let shown : string_bytes c.push_str.new.self ≡ string_bytes c.args.text.now ++ number_text z =
    number_pushed z c.in_ok-shown.shown c.as_str.result.now (string_bytes c.args.text.now) (string_bytes c.push_str.new.self) within c.in_ok-shown.ensures c.as_str.ensures.bytes c.in_ok-push_str.ensures.bytes in
    shown ∙ ap (λ l. string_bytes c.args.text.now ++ l) (sym (fine_literal z c.unsigned_abs.result magnitude c.if-unsigned_abs-eq0.false))
