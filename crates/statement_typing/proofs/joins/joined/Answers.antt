use Rattle.std.proofs.Common.{map, ap, sym, ◌∙◌}
use Rattle.operator_typing.proofs.Steps.{stops_same}
use Rattle.expression_rules.specs.JoinClauses.{inside, join_typed, after_all}
use Rattle.join_typing.specs.Joining.{placed, finished}
use Rattle.join_typing.proofs.Fitting.{keeps_fitting}
use Rattle.statement_typing.specs.Joins.{clauses_in}
use Rattle.statement_typing.proofs.Inside.{walk_gave, walk_refused, join_is, join_refused, clause_refused}
use Rattle.statement_typing.proofs.Steps.{answers_same, answers_as, stopped}
use Rattle.statement_typing.proofs.joins.joined.Goals as goal

pub finish-requires-clause-fits : goal.finish-requires-clause-fits
finish-requires-clause-fits c =
    let own = c.args.clauses in
    let cs = clauses_in own.filter.now own.calc.now own.keep.now own.rename.now in
    let walked = walk_gave own.filter.now own.calc.now own.keep.now own.rename.now c.in_ok-frame.frame c.in_ok-inside.inside c.in_ok-inside.ensures.ok in
    keeps_fitting cs c.in_ok-join.join.frame (map placed c.in_ok-inside.inside.clauses) c.in_ok-join.ensures.fits (ap (inside cs) (sym c.in_ok-frame.ensures) ∙ walked.checked)

pub finish-requires-clause-ends : goal.finish-requires-clause-ends
finish-requires-clause-ends c =
    let own = c.args.clauses in
    let walked = walk_gave own.filter.now own.calc.now own.keep.now own.rename.now c.in_ok-frame.frame c.in_ok-inside.inside c.in_ok-inside.ensures.ok in
    walked.ends ∙ ap (after_all (map placed c.in_ok-inside.inside.clauses)) c.in_ok-frame.ensures

pub returns : goal.returns
returns c =
    let own = c.args.clauses in
    let cs = clauses_in own.filter.now own.calc.now own.keep.now own.rename.now in
    let join = c.in_ok-join.join in
    let checked = map placed c.in_ok-inside.inside.clauses in
    let walked = walk_gave own.filter.now own.calc.now own.keep.now own.rename.now c.in_ok-frame.frame c.in_ok-inside.inside c.in_ok-inside.ensures.ok in
    let whole = join_typed c.args.function c.args.place c.args.aliases.now cs c.args.operands in
    answers_same (finished join checked) whole c.finish.result
    (join_is c.args.function c.args.place c.args.aliases.now cs c.args.operands join checked c.in_ok-join.ensures.ok (ap (inside cs) (sym c.in_ok-frame.ensures) ∙ walked.checked))
    (answers_as (finished join checked) c.finish.result c.finish.ensures.ok c.finish.ensures.err)

pub returns-in_err-join : goal.returns-in_err-join
returns-in_err-join c =
    let own = c.args.clauses in
    let cs = clauses_in own.filter.now own.calc.now own.keep.now own.rename.now in
    let stop = c.in_err-join.field-0.0 in
    let whole = join_typed c.args.function c.args.place c.args.aliases.now cs c.args.operands in
    stopped whole stop c.from_residual.result (join_refused c.args.function c.args.place c.args.aliases.now cs c.args.operands stop c.in_err-join.ensures.err) c.from_residual.ensures.1

pub returns-in_err-inside : goal.returns-in_err-inside
returns-in_err-inside c =
    let own = c.args.clauses in
    let cs = clauses_in own.filter.now own.calc.now own.keep.now own.rename.now in
    let frame = c.in_ok-frame.frame in
    let join = c.in_ok-join.join in
    let stop = c.in_err-inside.field-0.0 in
    let whole = join_typed c.args.function c.args.place c.args.aliases.now cs c.args.operands in
    let refuses = walk_refused own.filter.now own.calc.now own.keep.now own.rename.now frame stop c.in_err-inside.ensures.err in
    let there = stops_same (inside cs frame) (inside cs join.frame) stop (ap (inside cs) c.in_ok-frame.ensures) refuses in
    stopped whole stop c.from_residual-in_err-inside.result (clause_refused c.args.function c.args.place c.args.aliases.now cs c.args.operands join stop c.in_ok-join.ensures.ok there) c.from_residual-in_err-inside.ensures.1
