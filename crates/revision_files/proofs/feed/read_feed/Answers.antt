use Rattle.std.proofs.Common.{◌≡◌, true, false, Ok, sym, ap, ◌∙◌}
use Rattle.std.specs.Str.{IsUtf8, IsValidUpTo, valid_up_to}
use Rattle.csv.specs.Reading.{strip_bom}
use Rattle.revision_files.specs.Answers.{◌>>=◌, one_by_one}
use Rattle.revision_files.specs.Blocks.{cut, is_blank_text}
use Rattle.revision_files.specs.Feeds.{next_block, no_blocks}
use Rattle.revision_files.proofs.FewLemmas.{feed-few}
use Rattle.revision_files.proofs.Steps.{goes_on, passed_on, stops_same, stops_there}
use Rattle.revision_files.proofs.WholeFeeds.{feed-blocks, feed-line, feed-not_utf8, no_text_by, text_by}
use Rattle.revision_files.proofs.feed.read_feed.Goals as goal

pub returns-then-is_err-clause-err : goal.returns-then-is_err-clause-err
returns-then-is_err-clause-err c =
    let bytes = c.args.bytes.now in
    feed-not_utf8 c.args.structures.now bytes (no_text_by c.from_utf8.result bytes (λ s. s.now ≡ bytes) (λ e. IsValidUpTo bytes (valid_up_to e)) (sym c.is_err.ensures.value ∙ c.if-is_err.true) c.from_utf8.ensures.cases)

pub returns-then-not-is_blank_text-clause-err : goal.returns-then-not-is_blank_text-clause-err
returns-then-not-is_blank_text-clause-err c =
    let bytes = c.args.bytes.now in
    let text : IsUtf8 bytes = text_by c.from_utf8.result bytes (λ s. s.now ≡ bytes) (λ e. IsValidUpTo bytes (valid_up_to e)) (sym c.is_err.ensures.value ∙ c.if-is_err.false) c.from_utf8.ensures.cases in
    let before : c.split_block.result.0.now ≡ (cut (strip_bom bytes)).before = c.split_block.ensures.before ∙ ap (λ t. (cut t).before) c.without_mark.ensures.rest in
    feed-line c.args.structures.now bytes text (ap is_blank_text (sym before) ∙ (sym c.is_blank_text.ensures ∙ c.if-not-is_blank_text.true))

pub returns-in_err-all_blocks-clause-err : goal.returns-in_err-all_blocks-clause-err
returns-in_err-all_blocks-clause-err c =
    let bytes = c.args.bytes.now in
    let stop = c.in_err-all_blocks.field-0.0 in
    let next = next_block c.args.structures.now in
    let text : IsUtf8 bytes = text_by c.from_utf8.result bytes (λ s. s.now ≡ bytes) (λ e. IsValidUpTo bytes (valid_up_to e)) (sym c.is_err.ensures.value ∙ c.if-is_err.false) c.from_utf8.ensures.cases in
    let before : c.split_block.result.0.now ≡ (cut (strip_bom bytes)).before = c.split_block.ensures.before ∙ ap (λ t. (cut t).before) c.without_mark.ensures.rest in
    let blank : is_blank_text (cut (strip_bom bytes)).before ≡ true = ap is_blank_text (sym before) ∙ (sym c.is_blank_text.ensures ∙ c.if-not-is_blank_text.false) in
    let blocks : (cut c.split_block.result.1.now).blocks ≡ (cut (strip_bom bytes)).blocks = c.split_block.ensures.blocks ∙ ap (λ t. (cut t).blocks) c.without_mark.ensures.rest in
    passed_on _ c.from_residual.result stop
    (stops_same (one_by_one next no_blocks (cut (strip_bom bytes)).blocks >>= (λ feed. Ok feed.revisions)) _ stop (sym (feed-blocks c.args.structures.now bytes text blank))
    (stops_there (one_by_one next no_blocks (cut (strip_bom bytes)).blocks) (λ feed. Ok feed.revisions) stop
    (stops_same (one_by_one next no_blocks (cut c.split_block.result.1.now).blocks) _ stop (ap (one_by_one next no_blocks) blocks) c.in_err-all_blocks.ensures.err)))
    c.from_residual.ensures.1

pub returns-clause-ok : goal.returns-clause-ok
returns-clause-ok c =
    let bytes = c.args.bytes.now in
    let next = next_block c.args.structures.now in
    let text : IsUtf8 bytes = text_by c.from_utf8.result bytes (λ s. s.now ≡ bytes) (λ e. IsValidUpTo bytes (valid_up_to e)) (sym c.is_err.ensures.value ∙ c.if-is_err.false) c.from_utf8.ensures.cases in
    let before : c.split_block.result.0.now ≡ (cut (strip_bom bytes)).before = c.split_block.ensures.before ∙ ap (λ t. (cut t).before) c.without_mark.ensures.rest in
    let blank : is_blank_text (cut (strip_bom bytes)).before ≡ true = ap is_blank_text (sym before) ∙ (sym c.is_blank_text.ensures ∙ c.if-not-is_blank_text.false) in
    let blocks : (cut c.split_block.result.1.now).blocks ≡ (cut (strip_bom bytes)).blocks = c.split_block.ensures.blocks ∙ ap (λ t. (cut t).blocks) c.without_mark.ensures.rest in
    feed-blocks c.args.structures.now bytes text blank
    ∙ ap (λ feed. feed >>= (λ feed. Ok feed.revisions)) (ap (one_by_one next no_blocks) (sym blocks) ∙ c.in_ok-all_blocks.ensures.ok)

pub returns-clause-few : goal.returns-clause-few
returns-clause-few c = feed-few c.args.structures.now c.args.bytes.now _ (returns-clause-ok c)
