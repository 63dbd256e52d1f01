use Rattle.std.proofs.Common.{◌≡◌, ◌<◌, true, false, length, drop, arith}
use Rattle.std.proofs.lemmas.List.{take_rest}
use Rattle.revision_files.specs.Blocks.{ends_line}
use Rattle.revision_files.proofs.Lines.{ends_low_at, line_more}
use Rattle.revision_files.proofs.Utf8Cuts.{IsUtf8-cut}
use Rattle.revision_files.proofs.blocks.first_line.Goals as goal

pub returns-then-ends_line-clause-text : goal.returns-then-ends_line-clause-text
returns-then-ends_line-clause-text c =
    let ends : ends_line (drop c.loop-at.at c.args.text.now) ≡ true = cc (take_rest c.args.text.now c.loop-at.at) in
    λ text. (IsUtf8-cut c.args.text.now c.loop-at.at (omega arith) (λ inside. ends_low_at c.args.text.now c.loop-at.at ends inside) text).0

pub loop-at-preserved : goal.loop-at-preserved
loop-at-preserved c =
    let goes : ends_line (drop c.loop-at.at c.args.text.now) ≡ false = cc (take_rest c.args.text.now c.loop-at.at) in
    line_more c.args.text.now c.loop-at.at c.loop-at-test.true c.loop-at.invariant goes
