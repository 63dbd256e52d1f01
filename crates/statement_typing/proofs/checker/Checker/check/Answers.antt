use Rattle.std.proofs.Common.{[], ◌∷◌, ◌++◌, subst}
use Rattle.data_set_trees.specs.declared.rules.rules.RuleError.{RuleError}
use Rattle.expression_rules.specs.Expressions.{typing, all_typed}
use Rattle.expression_rules.specs.OnChecks.{check_typed}
use Rattle.statement_typing.specs.Names.{naming_of}
use Rattle.statement_typing.specs.Parts.{Answers, of_optional}
use Rattle.statement_typing.proofs.Operands.{both_typed}
use Rattle.statement_typing.proofs.Steps.{answers_after, answers_as}
use Rattle.statement_typing.proofs.checker.Checker.check.Goals as goal

pub returns : goal.returns
returns g c =
    let naming = naming_of c.args.self.now.names.now in
    let one = typing c.args.operand.now ∷ [] in
    let more = of_optional c.args.imbalance.now in
    let next = λ (error : RuleError). check_typed error c.args.output c.args.place in
    let said : RuleError = record { code = c.args.code.now; level = c.args.level } in
    let all = c.append.new.self in
    answers_after (all_typed (one ++ more) naming) (next said) all c.check.result
    (both_typed naming one more c.in_ok-operands.operands c.in_ok-optional.field-0 all c.in_ok-operands.ensures.ok c.in_ok-optional.ensures.ok c.in_ok-append.ensures)
    (subst (λ (error : RuleError). Answers (next error all) c.check.result) c.in_ok-error.ensures
    (answers_as (next c.in_ok-error.error all) c.check.result c.check.ensures.ok c.check.ensures.err))
