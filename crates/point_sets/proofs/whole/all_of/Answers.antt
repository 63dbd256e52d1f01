use Rattle.std.proofs.Common.{◌≡◌, ◌∙◌, ◌+◌, ◌++◌, ◌∷◌, [], List, map, ap, subst, sym, take, take_all}
use Rattle.std.proofs.lemmas.List.{take_more}
use Rattle.std.specs.declared.sync.Arc.{Arc}
use Rattle.std.specs.declared.alloc.Global.{Global}
use Rattle.point_sets.specs.declared.point.Point.{Point}
use Rattle.point_sets.specs.declared.delta.Change.{Change}
use Rattle.std.specs.FinMap.{empty}
use Rattle.data_model.specs.Deltas.{Leads}
use Rattle.point_sets.specs.DataSets.{entry_of}
use Rattle.point_sets.specs.Changes.{Changes}
use Rattle.point_sets.proofs.WholeLemmas.{Come, come-none, come-more, are_changes-come, leads-come}
use Rattle.point_sets.proofs.whole.all_of.Goals as goal

pub loop-point-init : goal.loop-point-init
loop-point-init c = subst (λ (cs : List Change). Come [] cs) (sym c.new-changes.ensures.items) come-none

pub loop-point-preserved : goal.loop-point-preserved
loop-point-preserved c =
    let i = c.loop-point.point-index in
    let points = c.as_slice-point-items.result.now in
    let point = c.point-item.result in
    let next : take i points ++ point ∷ [] ≡ take (i + 1) points = ap (λ (p : Arc Point Global). take i points ++ p ∷ []) c.point-item.is ∙ sym (take_more points i point c.loop-point-test.true) in
    let more = come-more (take i points) c.loop-point.changes.items point c.in_ok-coming.field-0 c.loop-point.invariant c.in_ok-coming.ensures in
    subst (λ (cs : List Change). Come (take (i + 1) points) cs) (sym c.in_ok-push.ensures.items) (subst (λ (ps : List (Arc Point Global)). Come ps (c.loop-point.changes.items ++ c.in_ok-coming.field-0 ∷ [])) next more)

pub of-requires : goal.of-requires
of-requires c = are_changes-come _ c.args.set.now c.loop-point.changes.items (ap (map entry_of) (take_all c.loop-point.point-index c.as_slice-point-items.result.now c.loop-point-test.false ∙ c.as_slice-point-items.ensures.value) ∙ c.in_ok-points.ensures) c.loop-point.invariant

pub returns : goal.returns
returns c = subst (λ (d : Changes). Leads d empty c.args.set.now) (sym c.of.ensures) (leads-come _ c.args.set.now c.loop-point.changes.items (ap (map entry_of) (take_all c.loop-point.point-index c.as_slice-point-items.result.now c.loop-point-test.false ∙ c.as_slice-point-items.ensures.value) ∙ c.in_ok-points.ensures) c.loop-point.invariant)
