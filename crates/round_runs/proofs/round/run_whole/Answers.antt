use Rattle.std.proofs.Common.{◌≡◌, Err, ap, sym, subst, ◌∙◌}
use Rattle.round_runs.specs.declared.round.RoundEnd.{RoundEnd}
use Rattle.round_runs.specs.Rounds.{RunsWhole}
use Rattle.round_runs.proofs.OpenLemmas.{not_running, could_open}
use Rattle.round_runs.proofs.RoundLemmas.{ran_ended, ran_whole, unopened}
use Rattle.round_runs.proofs.round.run_whole.Goals as goal

pub run_opened-requires-clause-open_round : goal.run_opened-requires-clause-open_round
run_opened-requires-clause-open_round g c κs within = (c.args.production.now, c.in-Ok.ensures.opened.1)

pub end_given-requires : goal.end_given-requires
end_given-requires g c = ran_ended _ c.run_opened.new.production c.args.by c.run_opened.result (c.run_opened.ensures c.args.production.now c.in-Ok.ensures.opened.1)

pub returns-in-Ok : goal.returns-in-Ok
returns-in-Ok g c =
    let old = c.args.production.now in
    let ran = c.run_opened.ensures old c.in-Ok.ensures.opened.1 in
    subst (λ (e : RoundEnd). RunsWhole old c.args.by e c.run_opened.new.production) (sym c.end_given.ensures)
    (ran_whole old c.run_opened.new.production c.args.by c.run_opened.result (could_open old c.open_round.result _ c.open_round.ensures.refused c.in-Ok.is) ran)

pub not_opened-requires : goal.not_opened-requires
not_opened-requires g c rounds is = not_running c.args.production.now c.open_round.result rounds c.requires.rests c.open_round.ensures.refused (c.in-Err.is ∙ ap Err is)

pub returns-in-Err : goal.returns-in-Err
returns-in-Err g c =
    let old = c.args.production.now in
    subst (λ (e : RoundEnd). RunsWhole old c.args.by e c.open_round.new.self) (sym c.not_opened.ensures)
    (unopened old c.open_round.new.self c.args.by c.open_round.result c.in-Err.stop c.in-Err.ensures.err c.open_round.ensures.refused c.in-Err.is)
