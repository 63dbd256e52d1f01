use Rattle.std.proofs.Common.{◌≡◌, ◌∙◌, ap, sym, arith, take, drop, length, ◌+◌, ◌-◌, ◌≤◌, ◌<◌, length-drop, nat_lt, true, false}
use Rattle.std.proofs.lemmas.Bool.Decides.{nat_tests}
use Rattle.std.proofs.lemmas.List.{take_all}
use Rattle.std.specs.List.{position_or_len}
use Rattle.vtl_values.specs.Numerals.{is_point}
use Rattle.vtl_values.proofs.Numbers.{point_found, point_missing, list_any-is, before_first-all}
use Rattle.vtl_values.proofs.read.split_point.Goals as goal

pub returns-in-Some-clause-whole : goal.returns-in-Some-clause-whole
returns-in-Some-clause-whole c = ap (λ n. take n c.args.text.now) (point_found c.args.text.now c.in-Some.at (sym c.in-Some.is ∙ c.point_at.ensures)).0

pub returns-in-Some-clause-pointed : goal.returns-in-Some-clause-pointed
returns-in-Some-clause-pointed c =
    let lt : position_or_len is_point c.args.text.now < length c.args.text.now = (point_found c.args.text.now c.in-Some.at (sym c.in-Some.is ∙ c.point_at.ensures)).1 in
    let e : true ≡ nat_lt (position_or_len is_point c.args.text.now) (length c.args.text.now) = grind (arith, nat_tests) in
    e ∙ sym (list_any-is is_point c.args.text.now)

pub returns-in-Some-clause-decimals : goal.returns-in-Some-clause-decimals
returns-in-Some-clause-decimals c =
    take_all (length c.args.text.now - (c.in-Some.at + 1)) (drop (c.in-Some.at + 1) c.args.text.now) (omega (arith, length-drop (c.in-Some.at + 1) c.args.text.now))
    ∙ ap (λ n. drop (n + 1) c.args.text.now) (point_found c.args.text.now c.in-Some.at (sym c.in-Some.is ∙ c.point_at.ensures)).0

pub returns-in-None-clause-whole : goal.returns-in-None-clause-whole
returns-in-None-clause-whole c = sym (before_first-all c.args.text.now (point_missing c.args.text.now (sym c.in-None.is ∙ c.point_at.ensures)))

pub returns-in-None-clause-pointed : goal.returns-in-None-clause-pointed
returns-in-None-clause-pointed c =
    let le : length c.args.text.now ≤ position_or_len is_point c.args.text.now = point_missing c.args.text.now (sym c.in-None.is ∙ c.point_at.ensures) in
    let e : false ≡ nat_lt (position_or_len is_point c.args.text.now) (length c.args.text.now) = grind (arith, nat_tests) in
    e ∙ sym (list_any-is is_point c.args.text.now)
