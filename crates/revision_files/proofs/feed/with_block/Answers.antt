use Rattle.std.proofs.Common.{◌≡◌, ◌+◌, ◌≤◌, false, nat_lt, option_map, sym, ap, ◌∙◌, arith}
use Rattle.std.specs.Prelude.{◌==◌, ◌&&◌}
use Rattle.std.proofs.lemmas.Bool.Decides.{nat_tests}
use Rattle.vtl_values.specs.Structures.{structure_of}
use Rattle.revision_files.specs.Blocks.{after_line, is_further, set_of}
use Rattle.revision_files.specs.Feeds.{MOST_BLOCKS, rows_in}
use Rattle.revision_files.specs.Seen.{seen}
use Rattle.revision_files.proofs.Nexts.{block_stops, lone_not}
use Rattle.revision_files.proofs.Steps.{passed_on, stops_same}
use Rattle.revision_files.proofs.feed.with_block.Goals as goal
use Rattle.revision_files.proofs.feed.with_block.Goals.{else-further-via-then-further+else-before-eq0, else-further-via-else-further}

pub returns-in_err-rows-clause-err : goal.returns-in_err-rows-clause-err
returns-in_err-rows-clause-err c =
    let structures = c.args.structures.now in
    let block = c.args.block.now in
    let few : nat_lt MOST_BLOCKS (c.args.before.blocks + 1) ≡ false = grind (arith, nat_tests, c.if-number-gt-MOST_BLOCKS.false) in
    let placed : (is_further block && (c.args.before.blocks == 0)) ≡ false =
    elim c.else-further.branch [
      | else-further-via-then-further+else-before-eq0 w ↦ lone_not (is_further block) c.args.before.blocks w.if-before-eq0.false
      | else-further-via-else-further w ↦ ap (λ further. further && (c.args.before.blocks == 0)) (sym c.is_further-further.ensures ∙ w.if-further.false)
    ] in
    let structure : option_map (λ s. s.now) c.get.result ≡ structure_of structures (set_of block) = c.get.ensures ∙ ap (structure_of structures) c.in_ok-set.ensures in
    passed_on _ c.from_residual-in_err-rows.result c.in_err-rows.field-0.0
    (block_stops structures (seen c.args.before) block c.in_err-rows.field-0.0 few placed
    (stops_same (rows_in (option_map (λ s. s.now) c.get.result) (c.args.before.blocks + 1) c.args.before.fields c.after_line.result.now) (rows_in (structure_of structures (set_of block)) (c.args.before.blocks + 1) c.args.before.fields (after_line block)) c.in_err-rows.field-0.0
    (λ i. rows_in (structure i) (c.args.before.blocks + 1) c.args.before.fields (c.after_line.ensures.rest i)) c.in_err-rows.ensures.err))
    c.from_residual-in_err-rows.ensures.1
