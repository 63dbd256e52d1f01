use Rattle.std.proofs.lemmas.Result.{err_from_is_err_and}
use Rattle.vtl_cursor.proofs.Shown.{fails-too}
use Rattle.vtl_parser.proofs.RuleParts.{define_halts, kind_halts, semicolon_halts, definition_is}
use Rattle.vtl_parser.proofs.parser.Parser.definition.Goals as goal

pub returns : goal.returns
returns g c = definition_is c.args.self.now.depth g.T.Definition.rule c.args.cursor.now.tokens.now c.word.new.self.tokens.now c.in_ok-place.place c.in_ok-place.ensures g.T.Definition.of _ _ c.parse.new.cursor.tokens.now c.sign.new.self.tokens.now c.in_ok-defined.ensures _ c.in_ok-sign.ensures

pub returns-in_err-place : goal.returns-in_err-place
returns-in_err-place g c =
    let p = err_from_is_err_and c.from_residual.result c.from_residual.ensures.1 in
    rw (p.1, p.2) (fails-too c.in_err-place.field-0.0 c.word.new.self.tokens.now _ _ (λ k is. define_halts c.args.self.now.depth g.T.Definition.rule k c.args.cursor.now.tokens.now c.word.new.self.tokens.now is) c.in_err-place.ensures)

pub returns-in_err-defined : goal.returns-in_err-defined
returns-in_err-defined g c =
    let p = err_from_is_err_and c.from_residual-in_err-defined.result c.from_residual-in_err-defined.ensures.1 in
    rw (p.1, p.2) (fails-too c.in_err-defined.field-0.0 c.parse.new.cursor.tokens.now _ _
    (λ k is. kind_halts c.args.self.now.depth g.T.Definition.rule c.args.cursor.now.tokens.now c.word.new.self.tokens.now c.in_ok-place.place c.in_ok-place.ensures k c.parse.new.cursor.tokens.now is)
    c.in_err-defined.ensures)

pub returns-in_err-sign : goal.returns-in_err-sign
returns-in_err-sign g c =
    let p = err_from_is_err_and c.from_residual-in_err-sign.result c.from_residual-in_err-sign.ensures.1 in
    rw (p.1, p.2) (fails-too c.in_err-sign.field-0.0 c.sign.new.self.tokens.now _ _
    (λ k is. semicolon_halts c.args.self.now.depth g.T.Definition.rule c.args.cursor.now.tokens.now c.word.new.self.tokens.now c.in_ok-place.place c.in_ok-place.ensures g.T.Definition.of c.in_ok-defined.defined c.in_ok-defined.levels c.parse.new.cursor.tokens.now c.sign.new.self.tokens.now c.in_ok-defined.ensures k is)
    c.in_err-sign.ensures)
