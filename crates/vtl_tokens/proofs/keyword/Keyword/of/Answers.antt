use Rattle.std.proofs.Common.{◌≡◌, sym, ◌∙◌, ap}
use Rattle.vtl_tokens.specs.Keywords.{keyword_of}
use Rattle.vtl_tokens.proofs.KeywordLemmas.{written_word_is_found, found_word_is_written, none_is_written}
use Rattle.vtl_tokens.proofs.keyword.Keyword.of.Goals as goal

pub returns-then-not-is_small-clause-value : goal.returns-then-not-is_small-clause-value
returns-then-not-is_small-clause-value c = sym (none_is_written c.args.text.now (sym c.is_small.ensures ∙ c.if-not-is_small.true))

pub returns-clause-exact : goal.returns-clause-exact
unfolding keyword_of
returns-clause-exact c =
    let text = c.args.text.now in
    let value : c.first_written.result ≡ keyword_of text = c.first_written.ensures in
    λ word. (λ is. found_word_is_written text word (sym value ∙ is), λ written. value ∙ ap keyword_of written ∙ written_word_is_found word)

pub returns-clause-value : goal.returns-clause-value
unfolding keyword_of
returns-clause-value c = c.first_written.ensures
