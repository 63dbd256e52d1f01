use Rattle.std.proofs.Common.{◌≡◌, length, sym, arith}
use Rattle.std.proofs.lemmas.List.{take_all}
use Rattle.transform_nodes.proofs.SettleLemmas.{put-none, put-more}
use Rattle.transform_nodes.proofs.settle.put_all.Goals as goal

pub loop-patch-init : goal.loop-patch-init
loop-patch-init c =
    let pending = c.args.pending.now.items in
    record { few = omega arith; left = sym (take_all (length pending) pending (omega arith)); put = put-none c.args.held.now.items pending c.requires }

pub loop-patch-preserved : goal.loop-patch-preserved
loop-patch-preserved c =
    let first = c.pop.new.self.items in
    let at : c.len-at.result ≡ length first = let count = c.len-at.ensures in omega (arith, count, c.pop.new.self.ok.0) in
    let more = put-more c.args.held.now.items c.loop-patch.held.items c.args.pending.now.items c.loop-patch.pending.items first c.in-Some.patch c.requires c.in-Some.ensures.items c.loop-patch.invariant.left c.loop-patch.invariant.put in
    rw (at, c.apply.ensures) record { few = more.few; left = more.left; put = more.put }
