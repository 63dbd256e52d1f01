use Rattle.std.proofs.Common.{take_all}
use Rattle.std.proofs.lemmas.List.{take_more}
use Rattle.release_text.proofs.table.words_row.Goals as goal

pub loop-word-preserved : goal.loop-word-preserved
loop-word-preserved c =
    let after = c.in_ok-push.ensures _ _ c.loop-word.invariant in
    let one_more = take_more c.args.words.now c.loop-word.word-index c.word-item.result c.loop-word-test.true in
    rw one_more (rw c.word-item.is at after)

pub returns : goal.returns
returns c =
    let written = c.in_ok-end_row.ensures _ _ c.loop-word.invariant in
    let text = c.into_text.ensures _ _ written in
    rw (take_all c.loop-word.word-index c.args.words.now c.loop-word-test.false) at text
