use Rattle.std.proofs.Common.{◌≡◌, max, refl, arith}
use Rattle.vtl_grammar.specs.Rules.{first_place}
use Rattle.vtl_parser.proofs.clause.ItemListItem.parse.Goals as goal

pub returns : goal.returns
returns g c =
    let levels : max 0 (max 0 (max 0 c.in_ok-expr.levels)) ≡ c.in_ok-expr.levels = omega arith in
    let s = c.optional_choice-role.ensures in
    record {
      value = (first_place c.args.cursor.now.tokens.now, (s.value, (record { value = c.in_ok-name.name.value; place = c.in_ok-name.name.place }, (c.in_ok-sign.field-0, c.in_ok-expr.expr))));
      reads = rw (s.reads, c.in_ok-name.ensures, c.in_ok-sign.ensures, c.in_ok-expr.ensures, levels) refl;
      shows = rw (s.shows, ← c.first_place-place.ensures) refl;
    }
