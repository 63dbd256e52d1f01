use Rattle.std.proofs.Common.{◌∙◌, rules, sym}
use Rattle.data_model.specs.Deltas.{apply}
use Rattle.point_sets.specs.DataSets.{of_points}
use Rattle.point_sets.proofs.Changes.{of_changes-entries, leads_applied, none_from_length, length_from_none, leads_nowhere}
use Rattle.point_sets.proofs.point_set.PointSet.apply.Goals as goal

pub returns-then-is_empty-clause-ok : goal.returns-then-is_empty-clause-ok
returns-then-is_empty-clause-ok c =
    let none = none_from_length c.changes-changes.result.now c.args.delta.now c.changes-changes.ensures.entries (search rules) in
    sym (leads_nowhere c.args.delta.now c.args.self.now none).ends

pub returns-then-is_empty-clause-leads : goal.returns-then-is_empty-clause-leads
returns-then-is_empty-clause-leads c begins =
    let none = none_from_length c.changes-changes.result.now c.args.delta.now c.changes-changes.ensures.entries (search rules) in
    leads_nowhere c.args.delta.now c.args.self.now none

pub returns-then-not-has_room-clause-nothing : goal.returns-then-not-has_room-clause-nothing
returns-then-not-has_room-clause-nothing c e =
    let none = length_from_none c.changes-changes.result.now c.args.delta.now c.changes-changes.ensures.entries e in
    absurd (search rules)

pub returns-in_err-self-inside-clause-nothing : goal.returns-in_err-self-inside-clause-nothing
returns-in_err-self-inside-clause-nothing c e =
    let none = length_from_none c.changes-changes.result.now c.args.delta.now c.changes-changes.ensures.entries e in
    absurd (search rules)

pub returns-clause-ok : goal.returns-clause-ok
returns-clause-ok c = c.in_ok-self-inside.ensures.applied ∙ (λ i. apply (of_changes-entries c.changes-changes.result.now c.args.delta.now c.changes-changes.ensures.entries i) (c.self.view_is i))

pub returns-clause-leads : goal.returns-clause-leads
returns-clause-leads c = leads_applied c.args.delta.now c.args.self.now (of_points c.in_ok-self-inside.field-0) c.changes-changes.ensures.differs (returns-clause-ok c)
