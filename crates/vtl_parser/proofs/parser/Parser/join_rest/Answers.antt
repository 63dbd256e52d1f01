use Rattle.std.proofs.Common.{refl}
use Rattle.vtl_parser.specs.Joins.{join_rest_of}
use Rattle.vtl_cursor.proofs.Shown.{shown_deep}
use Rattle.vtl_parser.proofs.parser.Parser.join_rest.Goals as goal

pub returns : goal.returns
returns g c =
    shown_deep (join_rest_of g.T.ListItem.rule g.T.ListItem.of) _ _ _ _
    (rw (c.in_ok-operands.ensures.reads, c.in_ok-clauses.ensures.reads, c.in_ok-operands.ensures.shows, c.in_ok-clauses.ensures.shows, c.max.ensures) refl)
