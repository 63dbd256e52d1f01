use Rattle.std.proofs.Common.{◌≡◌, false, sym, ◌∙◌, rules}
use Rattle.point_sets.specs.Changes.{IsChange}
use Rattle.point_sets.proofs.Changes.{All-more, IsChange-joined}
use Rattle.point_sets.proofs.delta.push_composed.Goals as goal

pub returns-in_ok-push-2-clause-all : goal.returns-in_ok-push-2-clause-all
returns-in_ok-push-2-clause-all c =
    let apart : c.have_same_values.result ≡ false = search rules in
    let next = rw c.in-Some.is at c.requires.next in
    rw c.in_ok-push-2.ensures.items
    (All-more IsChange c.args.all.now.items _ c.requires.all (IsChange-joined c.args.change.now c.in-Some.next.now _ c.requires.change next.0 next.1 c.in_ok-copy.ensures c.in_ok-copy_point.ensures c.in_ok-copy_point-2.ensures (sym c.have_same_values.ensures ∙ apart)))
