use Rattle.std.proofs.Common.{[], ◌∷◌, ◌++◌}
use Rattle.data_set_trees.specs.declared.form.Form.TheVariants as form
use Rattle.expression_rules.specs.Expressions.{typing, all_typed}
use Rattle.data_set_trees.specs.Pairs.{lifted}
use Rattle.statement_typing.specs.Names.{naming_of}
use Rattle.statement_typing.specs.Parts.{of_optional_range}
use Rattle.statement_typing.proofs.Operands.{both_typed}
use Rattle.statement_typing.proofs.Steps.{answers_after, answers_as}
use Rattle.statement_typing.proofs.checker.Checker.substr.Goals as goal

pub returns : goal.returns
returns g c =
    let naming = naming_of c.args.self.now.names.now in
    let one = typing c.args.operand.now ∷ [] in
    let more = of_optional_range c.args.range.now in
    let next = lifted form.Substr c.args.place in
    let all = c.append.new.self in
    answers_after (all_typed (one ++ more) naming) next all c.lifted.result
    (both_typed naming one more c.in_ok-operands.operands c.in_ok-range.field-0 all c.in_ok-operands.ensures.ok c.in_ok-range.ensures.ok c.in_ok-append.ensures)
    (answers_as (next all) c.lifted.result c.lifted.ensures.ok c.lifted.ensures.err)
