use Rattle.std.proofs.Common.{◌≡◌, ap, ◌∙◌}
use Rattle.std.specs.Arc.{arc_value}
use Rattle.std.specs.FinMap.{find}
use Rattle.vtl_values.specs.Order.{key_cmp}
use Rattle.point_sets.specs.Changes.{values_of}
use Rattle.held_index.specs.WalkedPoints.{points_of, without_old, with_new}
use Rattle.held_index.proofs.EntryLemmas.{ascends_entries, changed_entries, points-changed}
use Rattle.held_index.proofs.walk.Walk.changed.Goals as goal

pub without_old-requires : goal.without_old-requires
without_old-requires c = record { ascends = rw c.deref.ensures (ascends_entries (arc_value c.self.inside.want) c.self.inside.entries c.self.invariant.walk.ascends) }

pub with_new-requires-clause-ascends : goal.with_new-requires-clause-ascends
with_new-requires-clause-ascends c = rw (c.deref-2.ensures, ← c.deref.ensures) c.in_ok-without.ensures.ascends

pub invariant_of-result : goal.invariant_of-result
invariant_of-result c =
    let w = arc_value c.self.inside.want in
    let es = c.self.inside.entries in
    let change = c.args.change.now in
    let begins : find key_cmp change.key (points_of es) ≡ values_of change.old = rw (← c.self.view_is) at c.requires.begins in
    let is : c.in_ok-with_new.field-0 ≡ with_new w change.new (without_old w change.old es) = cc (c.in_ok-with_new.ensures.entries, c.in_ok-without.ensures.entries, c.deref.ensures, c.deref-2.ensures) in
    rw (c.in_ok-clone.ensures.cases, is) (changed_entries w es change c.self.invariant c.requires.old c.requires.new begins)

pub returns-clause-points : goal.returns-clause-points
returns-clause-points c =
    let w = arc_value c.self.inside.want in
    let es = c.self.inside.entries in
    let change = c.args.change.now in
    let is : c.in_ok-with_new.field-0 ≡ with_new w change.new (without_old w change.old es) = cc (c.in_ok-with_new.ensures.entries, c.in_ok-without.ensures.entries, c.deref.ensures, c.deref-2.ensures) in
    rw (← c.self.view_is) (ap points_of is ∙ points-changed w change.old change.new es)

pub returns-clause-walk : goal.returns-clause-walk
returns-clause-walk c =
    let w = arc_value c.self.inside.want in
    let es = c.self.inside.entries in
    let change = c.args.change.now in
    let begins : find key_cmp change.key (points_of es) ≡ values_of change.old = rw (← c.self.view_is) at c.requires.begins in
    let is : c.in_ok-with_new.field-0 ≡ with_new w change.new (without_old w change.old es) = cc (c.in_ok-with_new.ensures.entries, c.in_ok-without.ensures.entries, c.deref.ensures, c.deref-2.ensures) in
    rw (c.in_ok-clone.ensures.cases, is) (changed_entries w es change c.self.invariant c.requires.old c.requires.new begins).walk
