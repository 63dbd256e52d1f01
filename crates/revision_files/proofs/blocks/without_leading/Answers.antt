use Rattle.std.proofs.Common.{◌≡◌, true, get_or, sym, ◌∙◌, rules, arith}
use Rattle.revision_files.specs.Blocks.{is_blank}
use Rattle.revision_files.proofs.Lines.{leading_step}
use Rattle.revision_files.proofs.blocks.without_leading.Goals as goal

pub loop-rest-preserved : goal.loop-rest-preserved
loop-rest-preserved c =
    let blank : c.is_blank.result ≡ true = first_of (search rules, grind arith, cc) in
    let step = leading_step c.loop-rest.rest.now c.in-len1-up.len_at_least (sym c.is_blank.ensures ∙ blank) in
    (c.loop-rest.invariant.0 ∙ step.0, λ text. step.1 (c.loop-rest.invariant.1 text))
