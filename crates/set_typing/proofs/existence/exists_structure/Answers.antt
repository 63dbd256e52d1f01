use Rattle.std.proofs.Common.{◌≡◌, [], ◌∷◌, true, List, ap, sym, subst, ◌∙◌}
use Rattle.std.proofs.lemmas.List.Elements.{All-nil, All-cons}
use Rattle.vtl_values.specs.declared.kind.Kind.TheVariants.{Truth}
use Rattle.vtl_values.specs.declared.kind.Role.TheVariants.{Identifier, Measure, Viral}
use Rattle.vtl_values.specs.declared.structure.Component.{Component}
use Rattle.vtl_values.specs.Structures.{IsStructure}
use Rattle.data_set_trees.specs.clauses.After.{made}
use Rattle.data_set_trees.specs.Components.{identifiers, virals, names_differ, BOOL_VAR}
use Rattle.data_set_trees.specs.Exists.{exists_structure}
use Rattle.data_set_parts.specs.Joins.{IsOf}
use Rattle.data_set_parts.proofs.Fits.{all_of, measure_made, parts_are}
use Rattle.set_typing.proofs.Plans.{fits_ok, fits_err}
use Rattle.set_typing.proofs.existence.exists_structure.Goals as goal

pub fitting-requires : goal.fitting-requires
fitting-requires c =
    let s = c.args.structure.now in
    let is = c.components.ensures.structure in
    let all : c.as_slice.result.now ≡ exists_structure s = c.as_slice.ensures ∙ c.in_ok-components.ensures ∙ ap exists_structure c.components.ensures.value in
    subst (λ (cs : List Component). names_differ cs ≡ true → IsStructure cs) (sym all)
    (parts_are (identifiers s) (made Measure Truth BOOL_VAR ∷ []) (virals s) (all_of Identifier s is) (All-cons (IsOf Measure) (made Measure Truth BOOL_VAR) [] (measure_made Truth BOOL_VAR) (All-nil (IsOf Measure))) (all_of Viral s is))

pub returns-clause-ok : goal.returns-clause-ok
returns-clause-ok c =
    let s = c.args.structure.now in
    let all : c.as_slice.result.now ≡ exists_structure s = c.as_slice.ensures ∙ c.in_ok-components.ensures ∙ ap exists_structure c.components.ensures.value in
    fits_ok c.args.place c.as_slice.result.now (exists_structure s) c.fitting.result all c.fitting.ensures.fits c.fitting.ensures.ok

pub returns-clause-err : goal.returns-clause-err
returns-clause-err c =
    let s = c.args.structure.now in
    let all : c.as_slice.result.now ≡ exists_structure s = c.as_slice.ensures ∙ c.in_ok-components.ensures ∙ ap exists_structure c.components.ensures.value in
    fits_err c.args.place c.as_slice.result.now (exists_structure s) c.fitting.result all c.fitting.ensures.err
