use Rattle.std.proofs.Common.{◌≡◌, max, refl, arith}
use Rattle.vtl_parser.specs.RuleParts.{body_of}
use Rattle.vtl_cursor.proofs.Shown.{shown_deep}
use Rattle.vtl_parser.proofs.parser.Parser.body.Goals as goal

pub returns : goal.returns
returns g c =
    let levels : max 0 (max c.in_ok-rules.levels (max 0 (max 0 0))) ≡ c.in_ok-rules.levels = omega arith in
    shown_deep (body_of g.T.ListItem.rule c.args.kind g.T.ListItem.of) _ _ _ _ (rw (c.in_ok-word.ensures, c.in_ok-rules.ensures.reads, c.in_ok-word-2.ensures, c.in_ok-word-3.ensures, c.in_ok-word-4.ensures, levels, c.in_ok-rules.ensures.shows) refl)
