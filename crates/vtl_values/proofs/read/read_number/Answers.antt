use Rattle.std.proofs.Common.{◌∙◌, ap, sym}
use Rattle.std.specs.Char.{is_ascii_digit}
use Rattle.std.specs.List.{list_all}
use Rattle.vtl_values.proofs.Numbers.{is_written}
use Rattle.vtl_values.proofs.read.read_number.Goals as goal

pub millionths-requires-clause-decimals : goal.millionths-requires-clause-decimals
millionths-requires-clause-decimals c =
    let found = rw c.in_ok-written.ensures.ok_part at c.written_number.ensures.found in
    let decimals = rw c.in_ok-written.ensures.ok_part at c.written_number.ensures.decimals in
    ap (list_all is_ascii_digit) decimals ∙ (is_written c.args.text.now (sym found)).decimal_digits
