use Rattle.std.proofs.Common.{◌≡◌, max}
use Rattle.std.proofs.lemmas.Result.{err_from_is_err_and}
use Rattle.vtl_cursor.proofs.Shown.{fails-too}
use Rattle.vtl_parser.proofs.Ends.{two-goes, two-halts}
use Rattle.vtl_parser.proofs.parser.Parser.two_operands.Goals as goal

pub returns : goal.returns
returns g c =
    let most : c.max.result ≡ max c.in_ok-left.in_left c.in_ok-right.in_right = c.max.ensures in
    rw most (two-goes c.args.call c.args.place c.args.self.now.depth c.args.cursor.now.tokens.now c.sign.new.self.tokens.now c.operand.new.cursor.tokens.now c.sign-2.new.self.tokens.now c.operand-2.new.cursor.tokens.now c.two_operands_end.new.cursor.tokens.now c.in_ok-sign.field-0 c.in_ok-sign-2.field-0 c.in_ok-left.left c.in_ok-right.right c.in_ok-left.in_left c.in_ok-right.in_right c.in_ok-sign.ensures c.in_ok-left.ensures c.in_ok-sign-2.ensures c.in_ok-right.ensures c.in_ok-expr.expr c.in_ok-expr.ensures)

pub returns-in_err-expr : goal.returns-in_err-expr
returns-in_err-expr g c =
    let p = err_from_is_err_and c.from_residual-in_err-expr.result c.from_residual-in_err-expr.ensures.1 in
    rw (p.1, p.2) (fails-too c.in_err-expr.field-0.0 c.two_operands_end.new.cursor.tokens.now _ _
    (λ k is. two-halts c.args.call c.args.place c.args.self.now.depth c.args.cursor.now.tokens.now c.sign.new.self.tokens.now c.operand.new.cursor.tokens.now c.sign-2.new.self.tokens.now c.operand-2.new.cursor.tokens.now c.two_operands_end.new.cursor.tokens.now c.in_ok-sign.field-0 c.in_ok-sign-2.field-0 c.in_ok-left.left c.in_ok-right.right c.in_ok-left.in_left c.in_ok-right.in_right c.in_ok-sign.ensures c.in_ok-left.ensures c.in_ok-sign-2.ensures c.in_ok-right.ensures k is)
    c.in_err-expr.ensures)
