use Rattle.std.proofs.Common.{◌≤◌, List, length, sym, ◌∙◌, ap, subst, ◌++◌, ◌∷◌, []}
use Rattle.point_sets.specs.declared.revision.Part.{Part}
use Rattle.round_journal.specs.declared.entry.What.TheVariants.{Judged}
use Rattle.round_journal.specs.declared.verdict.Verdict.{Verdict}
use Rattle.round_journal.specs.declared.verdict.Verdict.TheVariants.{Refused}
use Rattle.std.specs.Arc.{arc_value}
use Rattle.round_journal.specs.Journals.{inputs_now, name_of_part}
use Rattle.round_core.specs.Kept.{state_at}
use Rattle.revision_judge.specs.Judging.{judged}
use Rattle.round_core.proofs.JudgeLemmas.{refused_so, part_within, kept_refused}
use Rattle.round_core.proofs.machine.Machine.refuse.Goals as goal

pub name_of_part-requires-clause-first : goal.name_of_part-requires-clause-first
name_of_part-requires-clause-first c =
    let a = c.args.self.now in
    let h = refused_so (inputs_now (state_at a)) c.args.refusal (judged (arc_value a.first).inputs (inputs_now (state_at a)) c.args.revision) c.requires.judged in
    (part_within a c.args.revision c.args.refusal h).0

pub name_of_part-requires-clause-last : goal.name_of_part-requires-clause-last
name_of_part-requires-clause-last c =
    let a = c.args.self.now in
    let h = refused_so (inputs_now (state_at a)) c.args.refusal (judged (arc_value a.first).inputs (inputs_now (state_at a)) c.args.revision) c.requires.judged in
    subst (λ (parts : List Part). c.args.refusal.part ≤ length parts) (sym c.as_slice.ensures) (part_within a c.args.revision c.args.refusal h).1

pub returns-clause-ok : goal.returns-clause-ok
returns-clause-ok c =
    let a = c.args.self.now in
    let r = c.args.revision in
    let parts = c.len-parts.result in
    let h = refused_so (inputs_now (state_at a)) c.args.refusal (judged (arc_value a.first).inputs (inputs_now (state_at a)) r) c.requires.judged in
    let named = c.in_ok-set.ensures ∙ ap (λ (ps : List Part). name_of_part ps c.args.refusal.part) c.as_slice.ensures in
    let same = ap (λ w. Refused w parts c.in_ok-copy-2.field-0) c.in_ok-copy.ensures ∙ ap (Refused c.in_ok-set.set parts) c.in_ok-copy-2.ensures in
    kept_refused a c.note.new.journal c.args.by r c.args.refusal c.in_ok-set.set parts c.count_fields.result c.requires.kept c.requires.room h named c.len-parts.ensures
    (c.note.ensures.items ∙ ap (λ (v : Verdict). a.journal.items ++ (record { by = c.args.by; what = Judged r v }) ∷ []) same) c.note.ensures.capacity c.count_fields.ensures
