use Rattle.std.proofs.Common.{◌≡◌, max, refl, arith}
use Rattle.vtl_parser.specs.RuleParts.{conditions_of}
use Rattle.vtl_cursor.proofs.Shown.{shown_deep}
use Rattle.vtl_parser.proofs.parser.Parser.conditions_and_rules.Goals as goal

pub returns : goal.returns
returns g c =
    let levels : max 0 (max 0 (max 0 c.in_ok-parts.levels)) ≡ c.in_ok-parts.levels = omega arith in
    shown_deep (conditions_of g.T.ListItem.rule g.T.ListItem.of) _ _ _ _ (rw (c.in_ok-sign.ensures, c.in_ok-word.ensures, c.in_ok-variables.ensures.reads, c.in_ok-parts.ensures.reads, levels, c.in_ok-variables.ensures.shows, c.in_ok-parts.ensures.shows) refl)
