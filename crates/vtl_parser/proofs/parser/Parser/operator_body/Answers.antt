use Rattle.std.proofs.Common.{◌≡◌, max, refl, arith}
use Rattle.vtl_parser.proofs.parser.Parser.operator_body.Goals as goal

pub returns : goal.returns
returns g c =
    let levels : max 0 (max c.in_ok-body.levels (max 0 0)) ≡ c.in_ok-body.levels = omega arith in
    record {
      value = (c.in_ok-word.field-0, (c.in_ok-body.body, (c.in_ok-word-2.field-0, c.in_ok-word-3.field-0)));
      reads = rw (c.in_ok-word.ensures, c.in_ok-body.ensures, c.in_ok-word-2.ensures, c.in_ok-word-3.ensures, levels) refl;
      shows = refl;
    }
