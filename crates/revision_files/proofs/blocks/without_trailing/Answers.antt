use Rattle.std.proofs.Common.{◌≡◌, true, get_or, sym, ◌∙◌, rules, arith}
use Rattle.revision_files.specs.Blocks.{is_blank}
use Rattle.revision_files.proofs.Lines.{trailing_step}
use Rattle.revision_files.proofs.blocks.without_trailing.Goals as goal

pub loop-front-preserved : goal.loop-front-preserved
loop-front-preserved c =
    let blank : c.is_blank.result ≡ true = first_of (search rules, grind arith, cc) in
    let step = trailing_step c.loop-front.front.now c.in-len1-up.len_at_least (sym c.is_blank.ensures ∙ blank) in
    (c.loop-front.invariant.0 ∙ step.0, λ text. step.1 (c.loop-front.invariant.1 text))
