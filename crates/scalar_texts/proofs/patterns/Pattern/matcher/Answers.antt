use Rattle.std.proofs.Common.{◌∙◌, ap, is_some}
use Rattle.regex.specs.Patterns.{find_str}
use Rattle.scalar_texts.specs.Patterns.{finds_in}
use Rattle.scalar_texts.proofs.patterns.Pattern.matcher.Goals as goal

pub invariant_of-result : goal.invariant_of-result
invariant_of-result c = λ bytes small.
    ap (λ re. is_some (find_str re bytes 0)) c.in_ok-matcher.ensures.pattern
    ∙ c.self.invariant bytes small
    ∙ ap (λ t. finds_in t bytes) c.self.view_is
