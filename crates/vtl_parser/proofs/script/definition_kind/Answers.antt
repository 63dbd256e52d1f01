use Rattle.std.proofs.Common.{sym, ◌∙◌, arith}
use Rattle.vtl_parser.proofs.PieceKinds.{ruleset-told, ruleset-full, operator-told, operator-full, nothing-told}
use Rattle.vtl_parser.proofs.script.definition_kind.Goals as goal

pub returns-then-len-eq-MOST_RULESETS : goal.returns-then-len-eq-MOST_RULESETS
returns-then-len-eq-MOST_RULESETS c = ruleset-full c.args.script.now c.args.cursor.now.tokens.now (sym c.is_ruleset.ensures ∙ c.if-is_ruleset.true) (omega arith)

pub returns-then-is_ruleset : goal.returns-then-is_ruleset
returns-then-is_ruleset c = (omega arith, ruleset-told c.args.script.now c.args.cursor.now.tokens.now (sym c.is_ruleset.ensures ∙ c.if-is_ruleset.true) (omega arith))

pub returns-then-not-is_word : goal.returns-then-not-is_word
returns-then-not-is_word c = nothing-told c.args.script.now c.args.cursor.now.tokens.now (sym c.is_ruleset.ensures ∙ c.if-is_ruleset.false) (sym c.is_word.ensures ∙ c.if-not-is_word.true)

pub returns-then-len-eq-MOST_OPERATORS : goal.returns-then-len-eq-MOST_OPERATORS
returns-then-len-eq-MOST_OPERATORS c = operator-full c.args.script.now c.args.cursor.now.tokens.now (sym c.is_ruleset.ensures ∙ c.if-is_ruleset.false) (sym c.is_word.ensures ∙ c.if-not-is_word.false) (omega arith)

pub returns : goal.returns
returns c = (omega arith, operator-told c.args.script.now c.args.cursor.now.tokens.now (sym c.is_ruleset.ensures ∙ c.if-is_ruleset.false) (sym c.is_word.ensures ∙ c.if-not-is_word.false) (omega arith))
