use Rattle.std.proofs.lemmas.Result.{err_from_is_err_and}
use Rattle.vtl_parser.proofs.parser.Parser.join_part_clause.Goals as goal

pub returns-in-Filter : goal.returns-in-Filter
returns-in-Filter g c = rw c.in-Filter.is c.filter_clause.ensures

pub returns-in-Calc : goal.returns-in-Calc
returns-in-Calc g c = rw c.in-Calc.is c.calc_clause.ensures

pub returns-in_ok-clause-in-Keep : goal.returns-in_ok-clause-in-Keep
returns-in_ok-clause-in-Keep g c =
    let s = c.in_ok-clause-in-Keep.ensures in
    rw c.in-Keep.is (record { value = s.value; reads = s.reads; shows = s.shows })

pub returns-in_ok-clause-in-Rename : goal.returns-in_ok-clause-in-Rename
returns-in_ok-clause-in-Rename g c =
    let s = c.in_ok-clause-in-Rename.ensures in
    rw c.in-Rename.is (record { value = s.value; reads = s.reads; shows = s.shows })

pub returns-in_err-clause-in-Keep : goal.returns-in_err-clause-in-Keep
returns-in_err-clause-in-Keep g c =
    let p = err_from_is_err_and c.from_residual.result c.from_residual.ensures.1 in
    rw (p.1, p.2, c.in-Keep.is) c.in_err-clause-in-Keep.ensures

pub returns-in_err-clause-in-Rename : goal.returns-in_err-clause-in-Rename
returns-in_err-clause-in-Rename g c =
    let p = err_from_is_err_and c.from_residual-in_err-clause-in-Rename.result c.from_residual-in_err-clause-in-Rename.ensures.1 in
    rw (p.1, p.2, c.in-Rename.is) c.in_err-clause-in-Rename.ensures
