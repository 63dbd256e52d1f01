use Rattle.std.proofs.Common.{◌≡◌, ◌++◌, List, ℕ, ap, subst, ◌∙◌}
use Rattle.std.specs.Prelude.{IfOk}
use Rattle.vtl_values.specs.declared.kind.Role.TheVariants.{Identifier, Viral}
use Rattle.vtl_values.specs.declared.structure.Component.{Component}
use Rattle.data_set_trees.specs.clauses.Frames.{picked, numbers_of}
use Rattle.clause_typing.proofs.after.staying.Goals as goal

pub returns : goal.returns
returns c =
    let staying : List Component → List ℕ = λ cs. numbers_of Identifier cs ++ numbers_of Viral cs in
    let numbers : c.as_slice-2.result.now ≡ staying c.args.frame.now.components = c.as_slice-2.ensures ∙ c.in_ok-numbers.ensures ∙ ap staying c.as_slice.ensures in
    subst (λ (ns : List ℕ). IfOk c.picked.result (λ p. p ≡ picked ns c.args.frame.now)) numbers c.picked.ensures
