use Rattle.std.proofs.Common.{◌∙◌, ap, subst, refl}
use Rattle.data_set_trees.specs.checked.Scripts.{Script, IsChecked}
use Rattle.round_core.specs.declared.limits.Full.{Full}
use Rattle.round_core.specs.Seen.{Seen}
use Rattle.round_runs.specs.declared.round.RoundEnd.{RoundEnd}
use Rattle.round_runs.specs.declared.round.RoundEnd.TheVariants as round
use Rattle.round_runs.specs.Rounds.{RunsWhole}
use Rattle.round_runs.specs.Runs.{JudgedSo}
use Rattle.round_runs.proofs.EvalLemmas.{has_room, ran_so}
use Rattle.round_runs.proofs.OpenLemmas.{not_full}
use Rattle.round_runs.proofs.eval.eval.Goals as goal

pub end_of_round-requires : goal.end_of_round-requires
end_of_round-requires g c full is =
    let p = c.judge_revisions.new.production in
    let verdicts = c.in_ok-verdicts.verdicts in
    let script = ap (λ (s : Seen). s.script) c.in_ok-production.ensures in
    let judged : JudgedSo c.args.script c.args.revisions.items verdicts p = subst (λ (s : Script). JudgedSo s c.args.revisions.items verdicts p) script c.in_ok-verdicts.ensures in
    let checked : IsChecked c.args.script = subst IsChecked (c.script.ensures ∙ judged.script_is) c.statements.ensures.checked in
    let room = has_room c.args.script c.args.revisions.items verdicts p judged c.requires.few checked in
    not_full p full room (subst (λ (e : RoundEnd). RunsWhole p 0 e c.run_whole-round.new.production) is c.run_whole-round.ensures).1

pub returns : goal.returns
returns g c =
    let p = c.judge_revisions.new.production in
    let verdicts = c.in_ok-verdicts.verdicts in
    let script = ap (λ (s : Seen). s.script) c.in_ok-production.ensures in
    let judged : JudgedSo c.args.script c.args.revisions.items verdicts p = subst (λ (s : Script). JudgedSo s c.args.revisions.items verdicts p) script c.in_ok-verdicts.ensures in
    let checked : IsChecked c.args.script = subst IsChecked (c.script.ensures ∙ judged.script_is) c.statements.ensures.checked in
    let room = has_room c.args.script c.args.revisions.items verdicts p judged c.requires.few checked in
    ran_so c.args.script c.args.revisions.items verdicts p c.run_whole-round.new.production c.run_whole-round.result
    (record { production = c.run_whole-round.new.production; lines = verdicts.lines; end = c.in_ok-end.end })
    judged checked room c.journal.ensures.legal c.run_whole-round.ensures c.journal-2.ensures.legal c.in_ok-end.ensures refl refl
