use Rattle.std.proofs.Common.{◌≡◌, sym, subst}
use Rattle.std.specs.List.{All}
use Rattle.std.proofs.lemmas.Result.{IfOk-weaker}
use Rattle.vtl_values.specs.declared.kind.Role.TheVariants.{Viral}
use Rattle.vtl_values.specs.Structures.{IsStructure}
use Rattle.data_set_trees.specs.Components.{virals}
use Rattle.data_set_parts.specs.Joins.{IsOf}
use Rattle.data_set_parts.proofs.Fits.{all_of}
use Rattle.set_typing.proofs.results.virals_of.Goals as goal

pub returns-clause-sound : goal.returns-clause-sound
returns-clause-sound c =
    let cs = c.components.result.now in
    let is = subst IsStructure (sym c.components.ensures.value) c.components.ensures.structure in
    IfOk-weaker c.virals.result (λ all. all ≡ virals cs) (All (IsOf Viral)) (λ all same. subst (All (IsOf Viral)) (sym same) (all_of Viral cs is)) c.virals.ensures
