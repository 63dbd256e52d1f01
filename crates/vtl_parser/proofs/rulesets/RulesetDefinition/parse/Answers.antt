use Rattle.std.proofs.Common.{sym, ◌∙◌}
use Rattle.std.proofs.lemmas.Result.{err_from_is_err_and}
use Rattle.vtl_cursor.proofs.Shown.{fails-too}
use Rattle.vtl_parser.proofs.RuleParts.{datapoint_kind_is, datapoint_kind_halts, hierarchy_kind_is, hierarchy_kind_halts}
use Rattle.vtl_parser.proofs.rulesets.RulesetDefinition.parse.Goals as goal

pub returns-then-is_word : goal.returns-then-is_word
returns-then-is_word g c = datapoint_kind_is c.args.parser.now.depth c.args.place c.args.cursor.now.tokens.now c.datapoint_rules.new.cursor.tokens.now _ _ (sym c.is_word.ensures ∙ c.if-is_word.true) c.in_ok-rules.ensures

pub returns-in_err-rules : goal.returns-in_err-rules
returns-in_err-rules g c =
    let p = err_from_is_err_and c.from_residual.result c.from_residual.ensures.1 in
    rw (p.1, p.2) (fails-too c.in_err-rules.field-0.0 c.datapoint_rules.new.cursor.tokens.now _ _ (λ k is. datapoint_kind_halts c.args.parser.now.depth k c.args.cursor.now.tokens.now c.datapoint_rules.new.cursor.tokens.now (sym c.is_word.ensures ∙ c.if-is_word.true) is) c.in_err-rules.ensures)

pub returns : goal.returns
returns g c = hierarchy_kind_is c.args.parser.now.depth c.args.place c.args.cursor.now.tokens.now c.hierarchy_rules.new.cursor.tokens.now _ _ (sym c.is_word.ensures ∙ c.if-is_word.false) c.in_ok-rules-2.ensures

pub returns-in_err-rules-2 : goal.returns-in_err-rules-2
returns-in_err-rules-2 g c =
    let p = err_from_is_err_and c.from_residual-in_err-rules-2.result c.from_residual-in_err-rules-2.ensures.1 in
    rw (p.1, p.2) (fails-too c.in_err-rules-2.field-0.0 c.hierarchy_rules.new.cursor.tokens.now _ _ (λ k is. hierarchy_kind_halts c.args.parser.now.depth k c.args.cursor.now.tokens.now c.hierarchy_rules.new.cursor.tokens.now (sym c.is_word.ensures ∙ c.if-is_word.false) is) c.in_err-rules-2.ensures)
