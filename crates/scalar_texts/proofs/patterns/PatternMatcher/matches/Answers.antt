use Rattle.std.proofs.Common.{◌∙◌, sym, ap}
use Rattle.std.proofs.lemmas.Str.{encodes-chars}
use Rattle.scalar_texts.specs.Patterns.{finds_in}
use Rattle.scalar_texts.proofs.patterns.PatternMatcher.matches.Goals as goal

pub returns-clause-value : goal.returns-clause-value
returns-clause-value c =
    c.is_match.ensures.found
    ∙ c.self.invariant c.args.s.now (λ k. (c.type_inv.s k).fits)
    ∙ ap (λ t. finds_in t c.args.s.now) c.self.view_is
    ∙ ap (finds_in c.args.self.now) (sym (encodes-chars c.args.s.now c.utf8.s))
