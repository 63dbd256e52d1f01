use Rattle.std.proofs.Common.{◌≡◌, ◌<◌, ◌^◌, ap, ◌∙◌, arith}
use Rattle.std.specs.Prelude.{chars, string_bytes, decimal}
use Rattle.std.proofs.lemmas.Fmt.{IsAscii-decimal}
use Rattle.std.proofs.lemmas.Result.{IfOk-weaker}
use Rattle.std.proofs.lemmas.Str.{chars-IsAscii}
use Rattle.rule_typing.proofs.told.number_text.Goals as goal

pub returns : goal.returns
returns c =
    let number = c.args.number in
    let within : number < 2 ^ 64 = omega arith in
    let same : chars (string_bytes c.in_ok-format.field-0) ≡ decimal number = ap chars c.in_ok-format.ensures.ok ∙ chars-IsAscii (decimal number) (IsAscii-decimal number within) in
    IfOk-weaker c.from_string.result _ (λ name. name ≡ decimal number) (λ name is. is ∙ same) c.from_string.ensures
