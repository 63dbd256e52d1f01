use Rattle.std.proofs.Common.{◌≡◌, ◌∙◌}
use Rattle.data_model.specs.Deltas.{composed}
use Rattle.point_sets.specs.Changes.{values_eq, of_changes}
use Rattle.point_sets.proofs.Changes.{of_changes-entries, leads_composed}
use Rattle.point_sets.proofs.delta.compose.Goals as goal

pub returns : goal.returns
returns c =
    let first = of_changes-entries c.changes.result.now c.args.first.now c.changes.ensures.entries in
    let next = of_changes-entries c.changes-2.result.now c.args.then.now c.changes-2.ensures.entries in
    let both : of_changes c.in_ok-composed_changes.field-0.items ≡ composed values_eq c.args.first.now c.args.then.now = c.in_ok-composed_changes.ensures.composed ∙ (λ i. composed values_eq (first i) (next i)) in
    record {
      composed = both;
      leads = λ l m n h k. leads_composed c.args.first.now c.args.then.now (of_changes c.in_ok-composed_changes.field-0.items) both l m n h k;
    }
