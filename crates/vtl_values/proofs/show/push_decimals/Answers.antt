use Rattle.std.proofs.Common.{◌++◌, ◌∷◌, [], ◌∙◌, ap, sym, string_bytes, append-nil, append_assoc, arith}
use Rattle.std.proofs.lemmas.Str.{encode_ascii}
use Rattle.vtl_values.specs.Numerals.{POINT, fraction_digits}
use Rattle.vtl_values.proofs.Fractions.{fraction_digits-zero}
use Rattle.vtl_values.proofs.Shown.{instead_on, pointed-fraction}
use Rattle.vtl_values.proofs.show.push_decimals.Goals as goal

pub returns-then-millionths-eq0 : goal.returns-then-millionths-eq0
returns-then-millionths-eq0 c = rw (c.if-millionths-eq0.true, fraction_digits-zero 6) (sym (append-nil (string_bytes c.args.text.now)))

pub returns : goal.returns
returns c = instead_on c.push_fraction.result (string_bytes c.push_fraction.new.text) _ _
    (ap (λ t. t ++ fraction_digits 6 c.args.millionths) (c.in_ok-push.ensures.bytes ∙ ap (λ t. string_bytes c.args.text.now ++ t) (encode_ascii POINT (omega arith)))
    ∙ append_assoc (string_bytes c.args.text.now) (POINT ∷ []) (fraction_digits 6 c.args.millionths)
    ∙ ap (λ t. string_bytes c.args.text.now ++ t) (sym (pointed-fraction c.args.millionths (omega arith))))
    c.push_fraction.ensures
