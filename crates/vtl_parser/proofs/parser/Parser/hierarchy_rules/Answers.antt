use Rattle.std.proofs.lemmas.Result.{err_from_is_err_and}
use Rattle.vtl_cursor.proofs.Shown.{fails-too}
use Rattle.vtl_parser.proofs.RuleParts.{hierarchy_is, hierarchy_halts}
use Rattle.vtl_parser.proofs.parser.Parser.hierarchy_rules.Goals as goal

pub returns : goal.returns
returns g c = hierarchy_is c.args.self.now.depth c.args.place c.args.cursor.now.tokens.now c.hierarchy_parts.new.cursor.tokens.now _ _ c.in_ok-name.ensures

pub returns-in_err-name : goal.returns-in_err-name
returns-in_err-name g c =
    let p = err_from_is_err_and c.from_residual.result c.from_residual.ensures.1 in
    rw (p.1, p.2) (fails-too c.in_err-name.field-0.0 c.hierarchy_parts.new.cursor.tokens.now _ _ (λ k is. hierarchy_halts c.args.self.now.depth k c.args.cursor.now.tokens.now c.hierarchy_parts.new.cursor.tokens.now is) c.in_err-name.ensures)
