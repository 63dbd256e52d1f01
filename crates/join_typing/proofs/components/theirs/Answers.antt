use Rattle.std.proofs.Common.{◌≡◌, sym, subst}
use Rattle.std.specs.List.{All, filter}
use Rattle.std.proofs.lemmas.Result.{IfOk-weaker}
use Rattle.vtl_values.specs.Structures.{IsStructure}
use Rattle.data_set_trees.specs.clauses.Frames.{has_role}
use Rattle.data_set_parts.specs.Joins.{IsOf}
use Rattle.data_set_parts.proofs.Fits.{all_of}
use Rattle.join_typing.proofs.components.theirs.Goals as goal

pub returns-clause-sound : goal.returns-clause-sound
returns-clause-sound c =
    let r = c.args.role in
    let cs = c.components.result.now in
    let is = subst IsStructure (sym c.components.ensures.value) c.components.ensures.structure in
    IfOk-weaker c.of_role.result (λ all. all ≡ filter (has_role r) cs) (All (IsOf r)) (λ all same. subst (All (IsOf r)) (sym same) (all_of r cs is)) c.of_role.ensures
