use Rattle.std.proofs.Common.{◌≡◌, max, arith, refl}
use Rattle.vtl_grammar.specs.Rules.{first_place}
use Rattle.vtl_parser.proofs.join.JoinOperandListItem.parse.Goals as goal

pub returns : goal.returns
returns g c =
    let levels : max c.in_ok-expr.levels 0 ≡ c.in_ok-expr.levels = omega arith in
    let s = c.in_ok-alias.ensures in
    record { value = (first_place c.args.cursor.now.tokens.now, (c.in_ok-expr.expr, s.value)); reads = rw (c.in_ok-expr.ensures, s.reads, levels) refl; shows = rw (s.shows, ← c.first_place-place.ensures) refl }
