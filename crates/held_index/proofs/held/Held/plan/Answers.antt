use Rattle.std.proofs.Common.{◌≡◌, ◌≤◌, length, refl, sym, ap, subst, arith}
use Rattle.std.specs.FinMap.{len}
use Rattle.data_model.specs.Deltas.{apply, BeginsAt}
use Rattle.data_model.specs.declared.TheConstants.{POINT_LIMIT}
use Rattle.point_sets.specs.Changes.{IsChange}
use Rattle.held_index.specs.WalkedPoints.{Walked}
use Rattle.held_index.proofs.HoldingLemmas.{set_of, walk_count}
use Rattle.held_index.proofs.PlanLemmas.{begins, changes_few, IsUnderWay, under_way_first, under_way_begins, under_way_next, under_way_last}
use Rattle.held_index.proofs.held.Held.plan.Goals as goal

pub loop-change-init : goal.loop-change-init
loop-change-init c =
    let start = c.self.inside.walk in
    let d = c.args.delta.now in
    let cs = c.changes-change-items.result.now in
    let begin : BeginsAt d (set_of start.points) = rw (← c.self.view_is) at c.requires.begins in
    subst (λ (walk : Walked). IsUnderWay walk cs 0 walk) (sym c.in_ok-walk.ensures.is)
    (under_way_first start cs c.in_ok-walk.ensures.walk (begins start.points d cs c.changes-change-items.ensures.entries c.changes-change-items.ensures.changes begin))

pub changed-requires : goal.changed-requires
changed-requires c =
    let start = c.in_ok-walk.walk in
    let walk = c.self.inside.walk in
    let d = c.args.delta.now in
    let cs = c.changes-change-items.result.now in
    let i = c.loop-change.change-index in
    let change = c.change-item.result in
    let u = c.loop-change.invariant in
    let is : IsChange change = subst IsChange (sym c.change-item.is) (c.changes-change-items.ensures.changes.each i change c.loop-change-test.true) in
    let begin : BeginsAt d (set_of walk.points) = rw (← c.self.view_is) at c.requires.begins in
    let after : len (apply d (set_of walk.points)) ≤ POINT_LIMIT = rw (← c.self.view_is) at c.requires.few in
    let many = changes_few walk.points d cs c.changes-change-items.ensures.entries c.changes-change-items.ensures.changes begin in
    let before : length walk.points ≤ POINT_LIMIT = c.self.invariant in
    let same : length start.points ≡ length walk.points = ap (λ (w : Walked). length w.points) c.in_ok-walk.ensures.is in
    let limit : POINT_LIMIT ≡ 200000 = refl in
    let so_far = u.few in
    let within = c.loop-change-test.true in
    record {
      old = is.old;
      new = is.new;
      begins = under_way_begins start c.loop-change.walk cs i change u within c.change-item.is;
      few = omega arith;
    }

pub loop-change-preserved : goal.loop-change-preserved
loop-change-preserved c =
    let cs = c.changes-change-items.result.now in
    under_way_next c.in_ok-walk.walk c.loop-change.walk cs c.loop-change.change-index c.change-item.result c.loop-change.invariant c.loop-change-test.true c.change-item.is
    c.in_ok-walk-2.walk c.changes-change-items.ensures.changes.ascend c.in_ok-walk-2.ensures.want c.in_ok-walk-2.ensures.points c.in_ok-walk-2.ensures.few c.in_ok-walk-2.ensures.walk

pub invariant_of-result : goal.invariant_of-result
invariant_of-result c =
    let start = c.self.inside.walk in
    let walk = c.loop-change.walk in
    let d = c.args.delta.now in
    let cs = c.changes-change-items.result.now in
    let i = c.loop-change.change-index in
    let u : IsUnderWay start cs i walk = subst (λ (w : Walked). IsUnderWay w cs i walk) c.in_ok-walk.ensures.is c.loop-change.invariant in
    let begin : BeginsAt d (set_of start.points) = rw (← c.self.view_is) at c.requires.begins in
    let few : len (apply d (set_of start.points)) ≤ POINT_LIMIT = rw (← c.self.view_is) at c.requires.few in
    let last = under_way_last start walk d cs i u c.loop-change-test.false c.in_ok-walk.ensures.walk c.changes-change-items.ensures.entries c.changes-change-items.ensures.changes begin in
    let count = walk_count walk.want walk.points u.is in
    let size = ap len last in
    omega (arith, count, size, few)

pub returns : goal.returns
returns c =
    let start = c.self.inside.walk in
    let walk = c.loop-change.walk in
    let d = c.args.delta.now in
    let cs = c.changes-change-items.result.now in
    let i = c.loop-change.change-index in
    let u : IsUnderWay start cs i walk = subst (λ (w : Walked). IsUnderWay w cs i walk) c.in_ok-walk.ensures.is c.loop-change.invariant in
    let begin : BeginsAt d (set_of start.points) = rw (← c.self.view_is) at c.requires.begins in
    let last = under_way_last start walk d cs i u c.loop-change-test.false c.in_ok-walk.ensures.walk c.changes-change-items.ensures.entries c.changes-change-items.ensures.changes begin in
    let want = u.want in
    rw (← c.self.view_is) (λ j. record { want = want j; content = last j })
