use Rattle.std.proofs.Common.{List, length, sym, subst}
use Rattle.vtl_values.specs.declared.value.Value.{Value}
use Rattle.point_sets.specs.declared.notes.Noted.{Noted}
use Rattle.point_sets.specs.Changes.{IsChange}
use Rattle.point_sets.proofs.Changes.{All-more, All-parts}
use Rattle.point_sets.specs.Noted.{change_of}
use Rattle.point_sets.proofs.NotedLemmas.{taken-more, taken-all, are_changes-taken, none_left}
use Rattle.point_sets.proofs.notes.changes_of.Goals as goal

pub loop-key-preserved : goal.loop-key-preserved
loop-key-preserved c =
    let taken : List Value × Noted = (c.in-Some.key, c.in-Some.values) in
    let parts = All-parts (λ d. IsChange (change_of d)) c.loop-key.noted.entries taken c.pop_first.new.self.entries c.in-Some.ensures.removal c.loop-key.invariant.rest in
    rw c.in_ok-push.ensures.items record {
      taken = taken-more c.loop-key.changes.items c.change_at.result taken c.loop-key.noted.entries c.pop_first.new.self.entries c.args.noted.entries c.in-Some.ensures.removal (sym c.change_at.ensures) c.loop-key.invariant.taken;
      each = All-more IsChange c.loop-key.changes.items c.change_at.result c.loop-key.invariant.each (subst IsChange (sym c.change_at.ensures) parts.0);
      rest = parts.1;
    }

pub returns-clause-changes : goal.returns-clause-changes
returns-clause-changes c = are_changes-taken c.loop-key.changes.items c.args.noted.entries (taken-all c.loop-key.changes.items c.loop-key.noted.entries c.args.noted.entries (none_left (length c.loop-key.noted.entries) c.in_default.ensures.variant.1) c.loop-key.invariant.taken) c.len.ensures.ordered c.loop-key.invariant.each
