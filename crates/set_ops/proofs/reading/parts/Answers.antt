use Rattle.std.proofs.Common.{ap, drop, take, ◌∙◌}
use Rattle.set_ops.proofs.Parts.{first-part, last-part}
use Rattle.set_ops.proofs.reading.parts.Goals as goal

pub returns-clause-identifiers : goal.returns-clause-identifiers
returns-clause-identifiers c =
    let cs = c.args.components.now in
    c.split_at.ensures.front ∙ ap (λ n. take n cs) c.count_identifiers-count.ensures ∙ first-part cs c.requires

pub returns-clause-others : goal.returns-clause-others
returns-clause-others c =
    let cs = c.args.components.now in
    c.split_at.ensures.back ∙ ap (λ n. drop n cs) c.count_identifiers-count.ensures ∙ last-part cs c.requires
