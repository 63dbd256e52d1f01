use Rattle.std.proofs.Common.{◌≡◌, true, List, ap, sym, subst, ◌∙◌}
use Rattle.std.specs.List.{All}
use Rattle.vtl_values.specs.declared.kind.Role.TheVariants.{Measure}
use Rattle.vtl_values.specs.declared.structure.Component.{Component}
use Rattle.vtl_values.specs.Structures.{IsStructure}
use Rattle.data_set_trees.specs.Checks as checks
use Rattle.data_set_trees.specs.Components.{names_differ}
use Rattle.data_set_parts.specs.Joins.{IsOf, by_parts}
use Rattle.data_set_parts.proofs.Fits.{parts_are}
use Rattle.expression_rules.specs.OnChecks.{imbalance_in}
use Rattle.set_typing.proofs.Checked.{told_of}
use Rattle.set_typing.proofs.Plans.{fits_ok, fits_err}
use Rattle.set_typing.proofs.checks.check_structure.Goals as goal

pub fitting-requires : goal.fitting-requires
fitting-requires c =
    let ids = c.in_ok-staying.staying in
    let ms = c.in_ok-measures.measures in
    let vs = c.in_ok-attributes.attributes in
    let all : c.as_slice-2.result.now ≡ by_parts ids ms vs = c.as_slice-2.ensures ∙ c.in_ok-all.ensures ∙ (λ i. by_parts (c.as_slice.ensures i) ms vs) in
    subst (λ (cs : List Component). names_differ cs ≡ true → IsStructure cs) (sym all)
    (parts_are ids ms vs c.in_ok-staying.ensures.sound (subst (All (IsOf Measure)) (sym c.in_ok-measures.ensures) (told_of c.in_ok-kind.kind)) c.in_ok-attributes.ensures.sound)

pub returns-clause-ok : goal.returns-clause-ok
returns-clause-ok c =
    let meant = checks.check_structure c.args.structure.now (imbalance_in c.args.others.now) in
    let all : c.as_slice-2.result.now ≡ meant = c.as_slice-2.ensures ∙ c.in_ok-all.ensures ∙ (λ i. by_parts ((c.as_slice.ensures ∙ c.in_ok-staying.ensures.value) i) ((c.in_ok-measures.ensures ∙ ap checks.check_measures c.in_ok-kind.ensures) i) (c.in_ok-attributes.ensures.value i)) in
    fits_ok c.args.place c.as_slice-2.result.now meant c.fitting.result all c.fitting.ensures.fits c.fitting.ensures.ok

pub returns-clause-err : goal.returns-clause-err
returns-clause-err c =
    let meant = checks.check_structure c.args.structure.now (imbalance_in c.args.others.now) in
    let all : c.as_slice-2.result.now ≡ meant = c.as_slice-2.ensures ∙ c.in_ok-all.ensures ∙ (λ i. by_parts ((c.as_slice.ensures ∙ c.in_ok-staying.ensures.value) i) ((c.in_ok-measures.ensures ∙ ap checks.check_measures c.in_ok-kind.ensures) i) (c.in_ok-attributes.ensures.value i)) in
    fits_err c.args.place c.as_slice-2.result.now meant c.fitting.result all c.fitting.ensures.err
