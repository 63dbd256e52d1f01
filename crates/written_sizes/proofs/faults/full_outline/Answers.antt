use Rattle.std.proofs.Common.{List, ◌++◌, map, ap, ◌∙◌}
use Rattle.operator_faults.specs.declared.outline.Outline.{Outline}
use Rattle.written_sizes.specs.Outermost.{told_expressions}
use Rattle.written_sizes.specs.SizeFaults.{full_number}
use Rattle.written_sizes.proofs.Telling.{all-full, in-turn}
use Rattle.written_sizes.proofs.faults.full_outline.Goals as goal

pub returns : goal.returns
returns c =
    let os = c.args.operators.now in
    let s = c.args.sketch.now in
    let a = c.new-expressions.result in
    let b = c.put_expressions.new.out in
    c.full_number.ensures
    ∙ ap (full_number 0 0)
    (c.as_slice-3.ensures
    ∙ in-turn (told_expressions os) s.statements s.rulesets a b c.put_expressions-2.new.out c.new-expressions.ensures
    ((c.in_ok-put_expressions.ensures {u = tt}) ∙ ap (λ (ps : List Outline). a ++ map (told_expressions os) ps) c.as_slice.ensures)
    ((c.in_ok-put_expressions-2.ensures {u = tt}) ∙ ap (λ (ps : List Outline). b ++ map (told_expressions os) ps) c.as_slice-2.ensures))
    ∙ all-full os (s.statements ++ s.rulesets)
