use Rattle.std.proofs.Common.{◌≡◌, ◌∙◌, ap, sym, is_some, false}
use Rattle.std.specs.List.{list_any}
use Rattle.vtl_values.specs.Numerals.{MINUS, is_point, without_first}
use Rattle.vtl_values.proofs.Numbers.{decimals_of-none}
use Rattle.vtl_values.proofs.read.written_number.Goals as goal

pub returns-in-None-clause-decimals : goal.returns-in-None-clause-decimals
returns-in-None-clause-decimals c =
    let none : list_any is_point (without_first MINUS c.args.text.now) ≡ false = ap (list_any is_point) (sym c.split_sign-negative.ensures.digits) ∙ sym c.split_point.ensures.pointed ∙ ap is_some c.in-None.is in
    sym (decimals_of-none c.args.text.now none)
