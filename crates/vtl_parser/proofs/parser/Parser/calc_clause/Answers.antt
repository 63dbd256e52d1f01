use Rattle.std.proofs.Common.{◌≡◌, max, refl, sym, arith}
use Rattle.vtl_parser.proofs.parser.Parser.calc_clause.Goals as goal

pub returns : goal.returns
returns g c =
    let levels : max 0 c.in_ok-items.levels ≡ c.in_ok-items.levels = omega arith in
    let s = c.in_ok-items.ensures in
    record { value = (c.in_ok-place.place, s.value); reads = rw (c.in_ok-place.ensures, s.reads, levels) refl; shows = rw s.shows (sym c.in_ok-new.ensures) }
