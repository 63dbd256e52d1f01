use Rattle.std.proofs.Common.{◌≡◌, List, Option, Result, ◌∷◌, Ok, map, subst, ◌∙◌}
use Rattle.std.specs.Prelude.{IfOk, IfErr}
use Rattle.vtl_values.specs.declared.kind.Kind.{Kind}
use Rattle.scalar_trees.specs.declared.typing.stop.Refusal.{Refusal}
use Rattle.scalar_trees.specs.Kinds.{ANY, literal_kind}
use Rattle.scalar_trees.specs.typing.Steps.{Refuses}
use Rattle.scalar_trees.specs.typing.Scalars.{joint}
use Rattle.operator_typing.proofs.sets.set_kind.Goals as goal

pub returns-clause-ok : goal.returns-clause-ok
returns-clause-ok c =
    let kinds : List (Option Kind) = c.args.operand ∷ map literal_kind c.args.set.now in
    let same : c.as_slice.result.now ≡ kinds = c.as_slice.ensures ∙ c.in_ok-all.ensures.kinds in
    let both : joint c.args.place c.any_kind.result.now c.as_slice.result.now ≡ joint c.args.place ANY kinds = λ i. joint c.args.place (c.any_kind.ensures i) (same i) in
    subst (λ (m : Result Kind Refusal). IfOk c.joint.result (λ k. m ≡ Ok k)) both c.joint.ensures.ok

pub returns-clause-err : goal.returns-clause-err
returns-clause-err c =
    let kinds : List (Option Kind) = c.args.operand ∷ map literal_kind c.args.set.now in
    let same : c.as_slice.result.now ≡ kinds = c.as_slice.ensures ∙ c.in_ok-all.ensures.kinds in
    let both : joint c.args.place c.any_kind.result.now c.as_slice.result.now ≡ joint c.args.place ANY kinds = λ i. joint c.args.place (c.any_kind.ensures i) (same i) in
    subst (λ (m : Result Kind Refusal). IfErr c.joint.result (Refuses m)) both c.joint.ensures.err
