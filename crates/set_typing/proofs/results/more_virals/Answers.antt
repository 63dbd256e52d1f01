use Rattle.std.proofs.Common.{◌≡◌, not, ap, sym, subst, ◌∙◌}
use Rattle.std.specs.List.{All}
use Rattle.std.proofs.lemmas.List.Elements.{All-filter}
use Rattle.std.proofs.lemmas.Result.{IfOk-weaker}
use Rattle.vtl_values.specs.declared.kind.Role.TheVariants.{Viral}
use Rattle.data_set_trees.specs.Components.{virals, further, is_taken}
use Rattle.data_set_parts.specs.Joins.{IsOf}
use Rattle.data_set_parts.proofs.Fits.{all_of}
use Rattle.set_typing.proofs.results.more_virals.Goals as goal

pub returns-clause-sound : goal.returns-clause-sound
returns-clause-sound c =
    let before = c.args.before.now in
    let cs = c.as_slice.result.now in
    let theirs : cs ≡ virals c.args.structure.now = c.as_slice.ensures ∙ c.in_ok-theirs.ensures ∙ ap virals c.components.ensures.value in
    let sound = subst (All (IsOf Viral)) (sym theirs) (all_of Viral c.args.structure.now c.components.ensures.structure) in
    IfOk-weaker c.further.result (λ more. more ≡ further before cs) (All (IsOf Viral)) (λ more same. subst (All (IsOf Viral)) (sym same) (All-filter (λ d. not (is_taken d.name before)) (IsOf Viral) cs sound)) c.further.ensures
