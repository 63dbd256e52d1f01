use Rattle.std.proofs.Common.{◌≡◌, max, refl, arith}
use Rattle.vtl_parser.specs.RuleParts.{rule_read, datapoint_parts_of}
use Rattle.vtl_cursor.proofs.Shown.{shown_deep}
use Rattle.vtl_parser.proofs.parser.Parser.datapoint_parts.Goals as goal

pub returns : goal.returns
unfolding rule_read
returns g c =
    let levels : max 0 (max 0 (max 0 c.in_ok-parts.levels)) ≡ c.in_ok-parts.levels = omega arith in
    shown_deep (datapoint_parts_of g.T.ListItem.rule g.T.ListItem.of) _ _ _ _ (rw (c.in_ok-word.ensures, c.in_ok-word-2.ensures, c.in_ok-name.ensures, c.in_ok-parts.ensures.reads, levels, c.in_ok-parts.ensures.shows) refl)
