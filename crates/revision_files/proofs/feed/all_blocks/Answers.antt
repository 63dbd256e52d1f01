use Rattle.std.proofs.Common.{◌≡◌, ◌∷◌, sym, ap, ◌∙◌}
use Rattle.revision_files.specs.Answers.{one_by_one}
use Rattle.revision_files.specs.Blocks.{cut}
use Rattle.revision_files.specs.Feeds.{next_block, no_blocks}
use Rattle.revision_files.specs.Seen.{seen}
use Rattle.revision_files.proofs.Cuts.{begins}
use Rattle.revision_files.proofs.Steps.{one_read, passed_on, stops, stops_same}
use Rattle.revision_files.proofs.feed.all_blocks.Goals as goal

pub with_block-requires-clause-text : goal.with_block-requires-clause-text
with_block-requires-clause-text c =
    let kept = c.loop-rest.invariant in
    let start = begins c.loop-rest.rest.now c.in-len1-up.len_at_least kept.1 kept.2 in
    c.split_block.ensures.text_before start.text

pub returns-in_err-feed-clause-err : goal.returns-in_err-feed-clause-err
returns-in_err-feed-clause-err c =
    let kept = c.loop-rest.invariant in
    let start = begins c.loop-rest.rest.now c.in-len1-up.len_at_least kept.1 kept.2 in
    let next = next_block c.args.structures.now in
    let stop = c.in_err-feed.field-0.0 in
    let block = c.split_block.result.0.now in
    let blocks : (cut c.loop-rest.rest.now).blocks ≡ block ∷ (cut c.split_block.result.1.now).blocks = start.blocks ∙ (λ i. sym c.split_block.ensures.before i ∷ sym c.split_block.ensures.blocks i) in
    passed_on _ c.from_residual.result stop
    (stops_same (one_by_one next (seen c.loop-rest.feed) (cut c.loop-rest.rest.now).blocks) _ stop (sym kept.0)
    (stops_same (one_by_one next (seen c.loop-rest.feed) (block ∷ (cut c.split_block.result.1.now).blocks)) _ stop (ap (one_by_one next (seen c.loop-rest.feed)) (sym blocks))
    (stops next (seen c.loop-rest.feed) block (cut c.split_block.result.1.now).blocks stop c.in_err-feed.ensures.err)))
    c.from_residual.ensures.1

pub loop-rest-preserved : goal.loop-rest-preserved
loop-rest-preserved c =
    let kept = c.loop-rest.invariant in
    let start = begins c.loop-rest.rest.now c.in-len1-up.len_at_least kept.1 kept.2 in
    let next = next_block c.args.structures.now in
    let block = c.split_block.result.0.now in
    let blocks : (cut c.loop-rest.rest.now).blocks ≡ block ∷ (cut c.split_block.result.1.now).blocks = start.blocks ∙ (λ i. sym c.split_block.ensures.before i ∷ sym c.split_block.ensures.blocks i) in (
      kept.0
          ∙ (ap (one_by_one next (seen c.loop-rest.feed)) blocks
          ∙ one_read next (seen c.loop-rest.feed) (seen c.in_ok-feed.feed) block (cut c.split_block.result.1.now).blocks c.in_ok-feed.ensures.ok),
      c.split_block.ensures.starts,
      c.split_block.ensures.text_after start.text,
      c.in_ok-feed.ensures.few,
    )
