use Rattle.std.proofs.Common.{◌≡◌, max, refl, arith}
use Rattle.vtl_grammar.specs.Scripts.{statement_of}
use Rattle.vtl_cursor.proofs.Shown.{shown_deep}
use Rattle.vtl_parser.specs.RuleParts.{rule_read}
use Rattle.vtl_parser.proofs.parser.Parser.statement.Goals as goal

pub returns : goal.returns
unfolding rule_read
returns g c =
    let levels : max 0 (max 0 (max c.in_ok-expr.levels 0)) ≡ c.in_ok-expr.levels = omega arith in
    shown_deep statement_of _ _ _ _ (rw (c.in_ok-name.ensures, c.in_ok-persistent.ensures.reads, c.in_ok-expr.ensures, c.in_ok-sign.ensures, levels, c.in_ok-persistent.ensures.shows, c.into_inner.ensures) refl)
