use Rattle.std.proofs.lemmas.Result.{err_from_is_err_and}
use Rattle.vtl_cursor.proofs.Shown.{fails-too}
use Rattle.vtl_parser.proofs.Ends.{one-goes, one-halts}
use Rattle.vtl_parser.proofs.parser.Parser.one_operand.Goals as goal

pub returns : goal.returns
returns g c = one-goes c.args.call c.args.place c.args.self.now.depth c.args.cursor.now.tokens.now c.sign.new.self.tokens.now c.operand.new.cursor.tokens.now c.one_operand_end.new.cursor.tokens.now c.in_ok-sign.field-0 c.in_ok-operand.operand c.in_ok-operand.levels c.in_ok-sign.ensures c.in_ok-operand.ensures c.in_ok-expr.expr c.in_ok-expr.ensures

pub returns-in_err-expr : goal.returns-in_err-expr
returns-in_err-expr g c =
    let p = err_from_is_err_and c.from_residual-in_err-expr.result c.from_residual-in_err-expr.ensures.1 in
    rw (p.1, p.2) (fails-too c.in_err-expr.field-0.0 c.one_operand_end.new.cursor.tokens.now _ _
    (λ k is. one-halts c.args.call c.args.place c.args.self.now.depth c.args.cursor.now.tokens.now c.sign.new.self.tokens.now c.operand.new.cursor.tokens.now c.one_operand_end.new.cursor.tokens.now c.in_ok-sign.field-0 c.in_ok-operand.operand c.in_ok-operand.levels c.in_ok-sign.ensures c.in_ok-operand.ensures k is)
    c.in_err-expr.ensures)
