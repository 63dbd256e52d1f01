use Rattle.std.proofs.Common.{List, subst}
use Rattle.vtl_values.specs.declared.structure.Component.{Component}
use Rattle.std.specs.Ordering.{nat_cmp}
use Rattle.std.specs.BTreeMap.{get}
use Rattle.revision_judge.specs.Rows.{in_new_part, rows_judged}
use Rattle.revision_judge.specs.Standings.{AnswersSet}
use Rattle.revision_judge.proofs.StandingLemmas.{told-set}
use Rattle.revision_judge.proofs.tallies.Tallies.take_rows.Goals as goal

pub take_rows-requires : goal.take_rows-requires
take_rows-requires c = (c.requires.stands.0, c.take_out-tally.ensures.taken c.requires.stands.0 c.requires.stands.1)

pub returns-clause-told : goal.returns-clause-told
returns-clause-told c = λ p h.
    let set = c.args.set.now in
    let found = get nat_cmp c.insert.new.self c.args.number in
    subst (λ (cs : List Component). AnswersSet set found (rows_judged cs c.args.part (in_new_part p) c.args.rows.now) c.in_ok-told.told) c.components.ensures.value
    (told-set set c.take_rows.new.self found (rows_judged c.components.result.now c.args.part (in_new_part p) c.args.rows.now) c.in_ok-told.told c.in_ok-insert.ensures.updates.1 (c.in_ok-told.ensures p (c.take_out-tally.ensures.taken p h)))
