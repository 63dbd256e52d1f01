use Rattle.std.proofs.Common.{◌≡◌, max, refl, arith}
use Rattle.vtl_grammar.specs.Operators.{operator_of}
use Rattle.vtl_cursor.proofs.Shown.{shown_deep}
use Rattle.vtl_parser.specs.RuleParts.{rule_read}
use Rattle.vtl_parser.proofs.operators.DefinedOperatorDefinition.parse.Goals as goal

pub returns : goal.returns
unfolding rule_read
returns g c =
    let levels : max 0 (max 0 (max 0 (max 0 (max 0 (max 0 c.in_ok-body.levels))))) ≡ c.in_ok-body.levels = omega arith in
    shown_deep (operator_of c.args.place) _ _ _ _ (rw (c.in_ok-word.ensures, c.in_ok-name.ensures, c.in_ok-sign.ensures, c.in_ok-params.ensures.reads, c.in_ok-sign-2.ensures, c.in_ok-returns.ensures.reads, c.in_ok-body.ensures.reads, levels, c.in_ok-params.ensures.shows, c.in_ok-returns.ensures.shows, c.in_ok-body.ensures.shows, c.into_inner.ensures) refl)
