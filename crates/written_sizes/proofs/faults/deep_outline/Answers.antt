use Rattle.std.proofs.Common.{List, ◌++◌, map, ap, ◌∙◌}
use Rattle.operator_faults.specs.declared.outline.Outline.{Outline}
use Rattle.written_sizes.specs.Outermost.{told_levels}
use Rattle.written_sizes.specs.SizeFaults.{deep_number}
use Rattle.written_sizes.proofs.Telling.{deep-numbers, in-turn}
use Rattle.written_sizes.proofs.faults.deep_outline.Goals as goal

pub returns : goal.returns
returns c =
    let os = c.args.operators.now in
    let s = c.args.sketch.now in
    let a = c.new-levels.result in
    let b = c.put_levels.new.out in
    c.deep_number.ensures
    ∙ ap (deep_number 0)
    (c.as_slice-3.ensures
    ∙ in-turn (told_levels os) s.statements s.rulesets a b c.put_levels-2.new.out c.new-levels.ensures
    ((c.in_ok-put_levels.ensures {u = tt}) ∙ ap (λ (ps : List Outline). a ++ map (told_levels os) ps) c.as_slice.ensures)
    ((c.in_ok-put_levels-2.ensures {u = tt}) ∙ ap (λ (ps : List Outline). b ++ map (told_levels os) ps) c.as_slice-2.ensures))
    ∙ deep-numbers os (s.statements ++ s.rulesets) 0
