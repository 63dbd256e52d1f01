use Rattle.std.proofs.Common.{sym, ◌∙◌, ◌++◌, ◌∷◌, [], arith}
use Rattle.std.proofs.lemmas.List.FromFn.{map-range_with_len_more}
use Rattle.held_index.specs.Wants.{whole}
use Rattle.held_index.proofs.want.all_whole.Goals as goal

pub loop-number-preserved : goal.loop-number-preserved
loop-number-preserved c =
    let n = c.loop-number.number in
    c.in_ok-push.ensures.ok ∙ (λ i. c.loop-number.invariant i ++ c.whole.ensures i ∷ []) ∙ sym (map-range_with_len_more whole 0 n n (omega arith))
