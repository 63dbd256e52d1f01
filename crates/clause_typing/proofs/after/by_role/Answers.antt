use Rattle.std.proofs.Common.{◌≡◌, List, ℕ, ap, subst, ◌∙◌}
use Rattle.std.specs.Prelude.{IfOk}
use Rattle.data_set_trees.specs.clauses.Frames.{picked, numbers_by_role}
use Rattle.clause_typing.proofs.after.by_role.Goals as goal

pub returns : goal.returns
returns c =
    let numbers : c.as_slice-2.result.now ≡ numbers_by_role c.args.frame.now.components = c.as_slice-2.ensures ∙ c.in_ok-numbers.ensures ∙ ap numbers_by_role c.as_slice.ensures in
    subst (λ (ns : List ℕ). IfOk c.picked.result (λ p. p ≡ picked ns c.args.frame.now)) numbers c.picked.ensures
