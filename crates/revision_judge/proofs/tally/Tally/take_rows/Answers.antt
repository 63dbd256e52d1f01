use Rattle.revision_judge.proofs.RowLemmas.{refused-row, so_far-first, so_far-more, so_far-refused, so_far-all}
use Rattle.std.proofs.Common.{ap, ◌∙◌}
use Rattle.revision_judge.specs.Rows.{refused_at, row_judged}
use Rattle.revision_judge.proofs.tally.Tally.take_rows.Goals as goal

pub take_row-requires : goal.take_row-requires
take_row-requires c =
    let so_far = c.loop-n.invariant c.requires.0 c.requires.1 in
    (so_far.after, so_far.stands)

pub loop-n-preserved : goal.loop-n-preserved
loop-n-preserved c = λ p h.
    let so_far = c.loop-n.invariant p h in
    so_far-more c.args.components.now c.args.set.now c.args.part p c.args.rows.now c.loop-n.n c.index-rows-n.result c.loop-n.self so_far c.loop-n-test.true c.index-rows-n.is c.take_row.new.self (c.in-Ok.ensures so_far.after so_far.stands)

pub returns-in-Err-Refused : goal.returns-in-Err-Refused
returns-in-Err-Refused c = λ p h.
    let so_far = c.loop-n.invariant p h in
    let meaning = row_judged c.args.components.now so_far.after c.index-rows-n.result in
    so_far-refused c.args.components.now c.args.set.now c.args.part p c.args.rows.now c.loop-n.n c.index-rows-n.result c.loop-n.self so_far c.loop-n-test.true c.index-rows-n.is c.in-Err-Refused.cause c.in_ok-refusal-in-Err-Refused.field-0
    (refused-row c.args.set.now c.take_row.new.self meaning c.in-Err-Refused.field-0 _ (c.in-Err-Refused.ensures so_far.after so_far.stands) c.in-Err-Refused.field-0-is)
    (c.in_ok-refusal-in-Err-Refused.ensures so_far.after so_far.count ∙ ap (refused_at c.args.components.now c.args.part so_far.after c.index-rows-n.result) c.in-Err-Refused.cause-is)

pub loop-n-init : goal.loop-n-init
loop-n-init c = λ p h. so_far-first c.args.components.now c.args.set.now c.args.part p c.args.rows.now c.args.self.now h
