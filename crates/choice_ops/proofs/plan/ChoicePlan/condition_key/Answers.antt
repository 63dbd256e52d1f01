use Rattle.std.proofs.Common.{◌≡◌, ◌<◌, ℕ, List, length, get_or, sym, ap, subst, ◌∙◌}
use Rattle.std.proofs.lemmas.Result.{IfOk-weaker}
use Rattle.data_set_trees.specs.checked.Operators.{Operator, an_operator}
use Rattle.clause_meaning.specs.Clauses.{values_at}
use Rattle.operator_meaning.specs.choices.Choices.{condition_key}
use Rattle.choice_ops.specs.Plans.{choice_in}
use Rattle.choice_ops.specs.declared.plan.KeyNumbers.{KeyNumbers}
use Rattle.choice_ops.proofs.Places.{condition-numbered}
use Rattle.choice_ops.proofs.plan.ChoicePlan.condition_key.Goals as goal

pub returns : goal.returns
returns c =
    let own : Operator = an_operator c.self.inside.operator c.self.inside.operands c.self.inside.structure in
    let key = c.args.key.now in
    let k : KeyNumbers = c.index-as_slice-number.result in
    let within : c.args.number < length own.operands = subst (λ (q : Operator). c.args.number < length q.operands) (sym c.self.view_is) c.requires in
    let at : k ≡ get_or c.self.inside.keys c.args.number k = c.index-as_slice-number.is ∙ ap (λ (ks : List KeyNumbers). get_or ks c.args.number k) c.as_slice.ensures in
    IfOk-weaker c.key_at.result _ _
    (λ picked h. h ∙ ap (λ (ns : List ℕ). values_at ns key) c.as_slice-2.ensures
    ∙ condition-numbered (choice_in own) c.self.inside.keys c.args.number k c.self.invariant.keys_are within at key
    ∙ ap (λ (q : Operator). condition_key (choice_in q) c.args.number key) c.self.view_is)
    c.key_at.ensures
