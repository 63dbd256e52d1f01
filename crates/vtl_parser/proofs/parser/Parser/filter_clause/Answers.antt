use Rattle.std.proofs.Common.{◌≡◌, max, refl, sym, arith}
use Rattle.vtl_parser.proofs.parser.Parser.filter_clause.Goals as goal

pub returns : goal.returns
returns g c =
    let levels : max 0 c.in_ok-condition.levels ≡ c.in_ok-condition.levels = omega arith in
    record { value = (c.in_ok-place.place, c.in_ok-condition.condition); reads = rw (c.in_ok-place.ensures, c.in_ok-condition.ensures, levels) refl; shows = sym c.in_ok-new.ensures }
