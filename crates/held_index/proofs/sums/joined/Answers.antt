use Rattle.std.proofs.Common.{◌≡◌, min, length, ◌∙◌, arith}
use Rattle.std.proofs.lemmas.List.{take_rest}
use Rattle.held_index.specs.SumLaws.{join_more, join_rest}
use Rattle.held_index.proofs.sums.joined.Goals as goal

pub loop-i-preserved : goal.loop-i-preserved
loop-i-preserved c = rw (c.in_ok-push.ensures.items, c.added.ensures) (join_more c.args.one.now c.args.other.now c.loop-i.all.items c.loop-i.i _ _ (omega arith) (omega arith) ∙ c.loop-i.invariant)

pub returns : goal.returns
returns c =
    let both : c.min-both.result ≡ c.loop-i.i = omega arith in
    let end : c.loop-i.i ≡ min (length c.args.one.now) (length c.args.other.now) = omega arith in
    rw (c.in_ok-extend_from_slice-2.ensures.items, c.in_ok-extend_from_slice.ensures.items, both, take_rest c.args.one.now c.loop-i.i, take_rest c.args.other.now c.loop-i.i) (join_rest c.args.one.now c.args.other.now c.loop-i.all.items c.loop-i.i end ∙ c.loop-i.invariant)
