use Rattle.std.proofs.Common.{◌≡◌, List, Option, sym, subst, ◌∙◌, IfSome}
use Rattle.data_set_trees.specs.declared.operand.Operand.{Operand}
use Rattle.data_set_typing.specs.declared.plan.Plan.TheVariants as plan
use Rattle.data_set_typing.specs.Known.{by_structures}
use Rattle.data_set_typing.proofs.Anywhere.{known_here}
use Rattle.data_set_typing.proofs.known.Known.of.Goals as goal

pub invariant_of-result : goal.invariant_of-result
invariant_of-result c =
    let os = c.args.operands.now in
    let kept : c.in-Some-2.operands ≡ by_structures os = subst (λ (found : Option (List Operand)). IfSome found (λ all. all ≡ by_structures os)) c.in-Some-2.is c.in_ok-operands.ensures in
    known_here c.args.form.now c.in-Some.form c.args.place os c.in-Some-2.operands c.args.plan.now (plan.Applied c.in_ok-copy.field-0 c.in_ok-copy-2.field-0) c.requires c.in-Some.ensures kept
    ((λ i. plan.Applied (c.in_ok-copy.ensures i) (c.in_ok-copy-2.ensures i)) ∙ sym c.in-Applied.is)
