use Rattle.std.proofs.Common.{refl}
use Rattle.vtl_parser.specs.Operands.{first_and_others_of}
use Rattle.vtl_cursor.proofs.Shown.{shown_deep}
use Rattle.vtl_parser.proofs.parser.Parser.first_and_others.Goals as goal

pub returns : goal.returns
returns g c =
    shown_deep (first_and_others_of g.T.ListItem.of) _ _ _ _
    (rw (c.in_ok-item.ensures.reads, c.in_ok-others.ensures.reads, c.in_ok-item.ensures.shows, c.in_ok-others.ensures.shows, c.in_ok-first.ensures, c.max.ensures) refl)
