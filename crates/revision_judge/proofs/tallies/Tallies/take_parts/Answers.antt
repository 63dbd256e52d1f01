use Rattle.revision_judge.specs.Judging.{part_judged}
use Rattle.revision_judge.proofs.StandingLemmas.{parts-refuse, parts-stand, so_far-and, so_far-stops}
use Rattle.revision_judge.proofs.tallies.Tallies.take_parts.Goals as goal

pub loop-n-preserved : goal.loop-n-preserved
loop-n-preserved c =
    let so_far = c.loop-n.invariant in
    let part = c.index-parts-n.result in
    let meaning = part_judged c.args.structures.now so_far.after part in
    so_far-and c.args.structures.now c.args.inputs.now c.args.parts.now c.loop-n.n part c.loop-n.self so_far c.loop-n-test.true c.index-parts-n.is c.take_part.new.self
    (parts-stand c.args.inputs.now c.take_part.new.self meaning c.in_ok-refusal.field-0 (c.in_ok-refusal.ensures so_far.after so_far.count so_far.stand) c.in-None.is)

pub returns-in-Some : goal.returns-in-Some
returns-in-Some c =
    let so_far = c.loop-n.invariant in
    let part = c.index-parts-n.result in
    let meaning = part_judged c.args.structures.now so_far.after part in
    so_far-stops c.args.structures.now c.args.inputs.now c.args.parts.now c.loop-n.n part c.loop-n.self so_far c.loop-n-test.true c.index-parts-n.is c.in-Some.refusal
    (parts-refuse c.args.inputs.now c.take_part.new.self meaning c.in_ok-refusal.field-0 c.in-Some.refusal (c.in_ok-refusal.ensures so_far.after so_far.count so_far.stand) c.in-Some.is)
