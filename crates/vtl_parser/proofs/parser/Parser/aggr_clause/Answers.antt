use Rattle.std.proofs.Common.{◌≡◌, max, refl, sym, arith}
use Rattle.vtl_parser.proofs.parser.Parser.aggr_clause.Goals as goal

pub returns : goal.returns
returns g c =
    let levels : max 0 (max c.in_ok-items.in_items c.in_ok-groups.in_groups) ≡ c.max.result = omega arith in
    let s = c.in_ok-items.ensures in
    let g = c.in_ok-groups.ensures in
    record { value = (c.in_ok-place.place, (s.value, g.value)); reads = rw (c.in_ok-place.ensures, s.reads, g.reads, levels) refl; shows = rw (s.shows, g.shows) (sym c.in_ok-new.ensures) }
