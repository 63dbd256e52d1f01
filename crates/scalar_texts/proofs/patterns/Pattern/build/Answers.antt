use Rattle.std.proofs.Common.{◌≡◌, ◌∙◌, sym, ap, subst, true, chars}
use Rattle.std.proofs.lemmas.Result.{err_from_is_err_and}
use Rattle.regex.specs.Strings.{regex_pattern, regex_source}
use Rattle.scalar_texts.specs.declared.patterns.PatternStop.TheVariants.{BadPattern}
use Rattle.scalar_texts.specs.Patterns.{meaning_of, anchored, unanchored, is_pattern, FindsSame}
use Rattle.scalar_texts.specs.Stops.{stop_of}
use Rattle.scalar_texts.proofs.PatternLemmas.{finds_same, regex_meaning, bad_meaning, no_pattern_alone, no_pattern_anchored, pattern_both, unanchored-anchored}
use Rattle.scalar_texts.proofs.patterns.Pattern.build.Goals as goal

pub returns-in_err-_alone-clause-bad : goal.returns-in_err-_alone-clause-bad
returns-in_err-_alone-clause-bad c bad =
    let made = c.in_err-_alone.ensures in
    let p = err_from_is_err_and c.from_residual.result c.from_residual.ensures.1 in
    let is_bad : stop_of c.in_err-_alone.field-0.0 ≡ BadPattern = cc (p.1, p.2, bad) in
    no_pattern_alone (chars c.args.text.now) (bad_meaning c.args.text.now c.in_err-_alone.field-0.0 is_bad made.by_grammar made.kind)

pub returns-in_err-regex-clause-bad : goal.returns-in_err-regex-clause-bad
returns-in_err-regex-clause-bad c bad =
    let made = c.in_err-regex.ensures in
    let p = err_from_is_err_and c.from_residual-in_err-regex.result c.from_residual-in_err-regex.ensures.1 in
    let is_bad : stop_of c.in_err-regex.field-0.0 ≡ BadPattern = cc (p.1, p.2, bad) in
    let whole : chars c.as_str.result.now ≡ anchored (chars c.args.text.now) = ap chars c.as_str.ensures.value ∙ c.in_ok-whole.ensures in
    no_pattern_anchored (chars c.args.text.now)
    (ap meaning_of (sym whole) ∙ bad_meaning c.as_str.result.now c.in_err-regex.field-0.0 is_bad made.by_grammar made.kind)

pub invariant_of-result : goal.invariant_of-result
invariant_of-result c =
    let made = c.in_ok-regex.ensures in
    let source : chars (regex_source c.in_ok-regex.regex) ≡ anchored (chars c.args.text.now) =
    ap chars (made.source ∙ c.as_str.ensures.value) ∙ c.in_ok-whole.ensures in
    let inside : unanchored (chars (regex_source c.in_ok-regex.regex)) ≡ chars c.args.text.now = ap unanchored source ∙ unanchored-anchored (chars c.args.text.now) in
    subst (FindsSame (regex_pattern c.in_ok-regex.regex)) (sym inside)
    (finds_same c.in_ok-regex.regex (chars c.args.text.now) made.config made.read source)

pub returns-clause-pattern : goal.returns-clause-pattern
returns-clause-pattern c =
    let made = c.in_ok-regex.ensures in
    let alone = c.in_ok-_alone.ensures in
    let first = regex_meaning c.in_ok-_alone._alone alone.config alone.read in
    let second = regex_meaning c.in_ok-regex.regex made.config made.read in
    let source : chars (regex_source c.in_ok-regex.regex) ≡ anchored (chars c.args.text.now) =
    ap chars (made.source ∙ c.as_str.ensures.value) ∙ c.in_ok-whole.ensures in
    let both : is_pattern (chars c.args.text.now) ≡ true =
    pattern_both (chars c.args.text.now) first.0 second.0 (ap meaning_of (ap chars (sym alone.source)) ∙ first.1) (ap meaning_of (sym source) ∙ second.1) in
    both
