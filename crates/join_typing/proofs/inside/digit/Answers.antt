use Rattle.std.proofs.Common.{◌≡◌, ℕ, ◌+◌, ◌++◌, List, [], ◌∷◌, ap, ◌∙◌, arith}
use Rattle.std.specs.Prelude.{encode_utf8}
use Rattle.std.specs.Str.{chars}
use Rattle.std.proofs.lemmas.Result.{IfOk-weaker}
use Rattle.join_typing.proofs.Named.{digit_chars}
use Rattle.join_typing.proofs.inside.digit.Goals as goal

pub returns : goal.returns
returns c =
    let n = 48 + c.args.number in
    let same = ap chars c.in_ok-push.ensures.bytes ∙ ap (λ (before : List ℕ). chars (before ++ encode_utf8 n)) c.new-text.ensures.bytes ∙ digit_chars n (omega arith) in
    IfOk-weaker c.from_string.result _ (λ name. name ≡ n ∷ []) (λ name is. is ∙ same) c.from_string.ensures
