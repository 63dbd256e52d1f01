use Rattle.std.proofs.Common.{◌≡◌, max, refl, arith}
use Rattle.vtl_parser.specs.Joins.{whole_join_of}
use Rattle.vtl_cursor.proofs.Shown.{shown_deep}
use Rattle.vtl_parser.proofs.parser.Parser.join_parts.Goals as goal

pub returns : goal.returns
returns g c =
    let levels : max 0 (max c.in_ok-first.in_first (max 0 c.in_ok-rest.in_rest)) ≡ c.max.result = omega (arith, c.max.ensures) in
    shown_deep (whole_join_of g.T.ListItem.rule g.T.ListItem.of) _ _ _ _
    (rw (c.in_ok-sign.ensures, c.in_ok-first.ensures.reads, c.in_ok-sign-2.ensures, c.in_ok-rest.ensures.reads, levels, c.in_ok-first.ensures.shows, c.in_ok-rest.ensures.shows, c.in_ok-first-2.ensures) refl)
