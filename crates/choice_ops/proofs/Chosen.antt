-- The conditional that an operator is.
use Rattle.std.proofs.Common.{◌≡◌, ◌≤◌, List, ◌∷◌, length, Option, Some, None, true, ◌||◌, refl, sym, subst, arith}
use Rattle.std.specs.Prelude.{is_some}
use Rattle.vtl_values.specs.declared.structure.Component.{Component}
use Rattle.data_set_trees.specs.declared.tree.DataSetOperator.{DataSetOperator}
use Rattle.data_set_trees.specs.checked.Choices.{branches}
use Rattle.data_set_trees.specs.checked.Operators as checked
use Rattle.data_set_trees.specs.checked.Operators.{an_operator, Operator, IsTyped, TakesOperands}
use Rattle.operator_meaning.specs.Operators.{meaning_of}
use Rattle.operator_meaning.specs.choices.Choices.{choice_meaning}
use Rattle.operator_meaning.specs.choices.Typed.{IsTypedChoice}
use Rattle.choice_ops.specs.Plans.{choice_in, fails_in, holds_in, measures_in}
use Rattle.choice_ops.specs.Rules.{IsChoice}

-- it is well typed where the operator is
pub typed-choice : (o : Operator) → IsTyped o → IsChoice o.operator → IsTypedChoice (choice_in o)
typed-choice o typed choice =
    let takes : checked.IsTypedChoice choice.holds choice.fails choice.measures o.operands o.structure = subst (λ (operator : DataSetOperator). TakesOperands (an_operator operator o.operands o.structure)) choice.is typed.takes in
    record {
      structures = typed.structures;
      structure_is = typed.result;
      choice = subst (λ (operator : DataSetOperator). checked.IsTypedChoice (holds_in operator) (fails_in operator) (measures_in operator) o.operands o.structure) (sym choice.is) takes;
    }

-- and gives what the operator gives
pub choice-means : (o : Operator) → IsChoice o.operator → choice_meaning (choice_in o) ≡ meaning_of o
choice-means o choice = subst (λ (operator : DataSetOperator). choice_meaning (choice_in (an_operator operator o.operands o.structure)) ≡ meaning_of (an_operator operator o.operands o.structure)) (sym choice.is) refl

-- there are at least two operands
pub some-branches : (o : Operator) → IsTyped o → IsChoice o.operator → 2 ≤ length o.operands
some-branches o typed choice =
    let own = (typed-choice o typed choice).choice in
    subst (λ (ss : List (List Component)). 2 ≤ length ss) (sym own.operands_are) (by_branches own.condition own.when_holds own.when_fails own.choice.some)
  where
    by_branches : (c : List Component) (s t : Option (List Component)) → (is_some s || is_some t) ≡ true → 2 ≤ length (c ∷ branches s t)
    by_branches c None None h = cc
    by_branches c None (Some t) h = omega arith
    by_branches c (Some s) t h = omega arith
