use Rattle.std.proofs.Common.{List, sym, subst, ◌≤◌, ◌+◌, ap, ◌∙◌}
use Rattle.std.specs.FinMap.{len}
use Rattle.std.specs.Ordering.{nat_cmp}
use Rattle.std.specs.BTreeMap.{get}
use Rattle.data_model.specs.declared.TheConstants.{POINT_LIMIT}
use Rattle.point_sets.specs.DataSets.{DataSet}
use Rattle.revision_judge.specs.Standings.{StandsSo, AnswersSet}
use Rattle.revision_judge.specs.Rows.{in_new_part, rows_judged}
use Rattle.point_sets.specs.declared.revision.RawRow.{RawRow}
use Rattle.revision_judge.specs.Judging.{progress_at}
use Rattle.revision_judge.proofs.Judgements.{number-within, input-at}
use Rattle.revision_judge.proofs.StandingLemmas.{both-say, part-taken}
use Rattle.revision_judge.proofs.tallies.Tallies.take_part.Goals as goal

pub input_at-set-requires : goal.input_at-set-requires
input_at-set-requires c = number-within c.args.structures.now c.args.inputs.now c.args.part.now.set c.in-Some.number c.requires.inputs (sym c.in-Some.ensures)

pub take_rows-requires-clause-few : goal.take_rows-requires-clause-few
take_rows-requires-clause-few c =
    let within = number-within c.args.structures.now c.args.inputs.now c.args.part.now.set c.in-Some.number c.requires.inputs (sym c.in-Some.ensures) in
    subst (λ (x : DataSet). len x ≤ POINT_LIMIT) (sym c.input_at-set.ensures) (input-at c.args.structures.now c.args.inputs.now c.in-Some.number c.requires.inputs within).1

pub take_rows-requires-clause-stands : goal.take_rows-requires-clause-stands
take_rows-requires-clause-stands c =
    let within = number-within c.args.structures.now c.args.inputs.now c.args.part.now.set c.in-Some.number c.requires.inputs (sym c.in-Some.ensures) in
    let n = c.in-Some.number in
    let s = c.requires.stand.0 in
    (progress_at s n, subst (λ (x : DataSet). StandsSo x (get nat_cmp c.args.self.now.tallies n) (progress_at s n)) (sym c.input_at-set.ensures) (c.requires.stand.1.each n within))

pub returns-in-Some : goal.returns-in-Some
returns-in-Some c =
    let structures = c.args.structures.now in
    let inputs = c.args.inputs.now in
    let n = c.in-Some.number in
    let set = c.input_at-set.result.now in
    let found = get nat_cmp c.args.self.now.tallies n in
    let within = number-within structures inputs c.args.part.now.set n c.requires.inputs (sym c.in-Some.ensures) in
    both-say _ _ _ c.take_rows.result c.take_rows.ensures.told c.take_rows.ensures.others (λ told answers others s count stand.
    part-taken inputs c.args.self.now c.take_rows.new.self s n stand within others structures set c.args.part.now (c.args.n + 1) c.structure_at-structure.result.now told (sym c.in-Some.ensures) c.structure_at-structure.ensures (sym c.input_at-set.ensures) (ap (λ m. m + 1) count)
    (subst (λ (rows : List RawRow). AnswersSet set (get nat_cmp c.take_rows.new.self.tallies n) (rows_judged c.structure_at-structure.result.now (c.args.n + 1) (in_new_part (progress_at s n)) rows) told) c.as_slice.ensures
    (answers (progress_at s n) (subst (λ (x : DataSet). StandsSo x found (progress_at s n)) (sym c.input_at-set.ensures) (stand.each n within)))))
