use Rattle.std.proofs.Common.{◌≡◌, ap, ◌∙◌}
use Rattle.std.proofs.lemmas.Result.{IfOk-weaker}
use Rattle.std.specs.Arc.{arc_value}
use Rattle.ordered_tree.specs.Orders.{put_in}
use Rattle.point_sets.specs.DataSets.{entry_of}
use Rattle.held_index.specs.Walks.{WalkEntry, entry_cmp}
use Rattle.held_index.specs.Sums.{own_sums}
use Rattle.held_index.proofs.walk.with_new.Goals as goal

pub returns-in_ok-new-in-Some-clause-entries : goal.returns-in_ok-new-in-Some-clause-entries
returns-in_ok-new-in-Some-clause-entries c =
    let w = c.args.want.now in
    let p = c.in-Some.point in
    let item : arc_value c.in_ok-new-in-Some.field-0 ≡ (entry_of p, own_sums w.sums (entry_of p)) = cc (c.in_ok-new-in-Some.ensures.ok, c.in_ok-entry-in-Some.ensures, c.as_slice.ensures) in
    rw c.in-Some.is (IfOk-weaker c.put.result (λ tree. tree ≡ put_in (entry_cmp w) (arc_value c.in_ok-new-in-Some.field-0) c.args.entries) (λ tree. tree ≡ put_in (entry_cmp w) (entry_of p, own_sums w.sums (entry_of p)) c.args.entries)
    (λ tree e. e ∙ ap (λ (x : WalkEntry). put_in (entry_cmp w) x c.args.entries) item) c.put.ensures.items)
