use Rattle.std.proofs.Common.{rules, ◌≡◌, IfOk, string_bytes, chars, ap, ◌∙◌}
use Rattle.std.proofs.lemmas.Result.{IfOk-weaker}
use Rattle.scalar_texts.specs.Patterns.{anchored}
use Rattle.scalar_texts.proofs.PatternLemmas.{chars-anchored}
use Rattle.scalar_texts.proofs.patterns.between_anchors.Goals as goal

pub returns : goal.returns
returns c =
    let made : IfOk c.format.result (λ t. string_bytes t ≡ anchored c.args.text.now) = search rules in
    IfOk-weaker c.format.result
    (λ t. string_bytes t ≡ anchored c.args.text.now)
    (λ t. chars (string_bytes t) ≡ anchored (chars c.args.text.now))
    (λ t e. ap chars e ∙ chars-anchored c.args.text.now c.utf8.text) made
