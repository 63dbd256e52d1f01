use Rattle.std.proofs.Common.{◌≡◌, max, refl, arith}
use Rattle.vtl_parser.specs.RuleParts.{component_of}
use Rattle.vtl_cursor.proofs.Shown.{shown_deep}
use Rattle.vtl_parser.proofs.parser.Parser.component_and_rules.Goals as goal

pub returns : goal.returns
returns g c =
    let levels : max 0 (max 0 (max 0 c.in_ok-rules.levels)) ≡ c.in_ok-rules.levels = omega arith in
    shown_deep (component_of g.T.ListItem.rule g.T.ListItem.of) _ _ _ _ (rw (c.in_ok-word.ensures, c.in_ok-component.ensures, c.in_ok-sign.ensures, c.in_ok-rules.ensures.reads, levels, c.in_ok-rules.ensures.shows) refl)
