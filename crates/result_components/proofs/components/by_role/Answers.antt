use Rattle.std.proofs.Common.{◌≡◌, List, ℕ, subst, ◌∙◌}
use Rattle.std.specs.Prelude.{IfOk}
use Rattle.data_set_trees.specs.aggregates.Results.{with_numbers}
use Rattle.data_set_trees.specs.clauses.Frames.{numbers_by_role}
use Rattle.result_components.proofs.components.by_role.Goals as goal

pub returns : goal.returns
returns c =
    let cs = c.args.components.now in
    let numbers : c.as_slice.result.now ≡ numbers_by_role cs = c.as_slice.ensures ∙ c.in_ok-numbers.ensures in
    subst (λ (ns : List ℕ). IfOk c.with_numbers.result (λ found. found ≡ with_numbers cs ns)) numbers c.with_numbers.ensures
