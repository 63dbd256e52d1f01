use Rattle.std.proofs.Common.{◌∙◌, sym}
use Rattle.round_runs.proofs.RoundLemmas.{at_once, opens_round, ran_on}
use Rattle.round_runs.proofs.round.run_opened.Goals as goal

pub returns-then-not-is_open : goal.returns-then-not-is_open
returns-then-not-is_open g c = λ before is. at_once before c.args.production.now c.args.by c.latest.result.now.number is (sym c.is_open.ensures ∙ c.if-not-is_open.true) c.latest.ensures.release.number_is

pub run_uncounted-requires-clause-open_round : goal.run_uncounted-requires-clause-open_round
run_uncounted-requires-clause-open_round g c κs within =
    let (before, is) = c.requires.open_round in
    opens_round before c.args.production.now c.args.by is (sym c.is_open.ensures ∙ c.if-not-is_open.false)

pub returns : goal.returns
returns g c = ran_on c.args.production.now c.run_uncounted.new.production c.args.by c.run_uncounted.result (sym c.is_open.ensures ∙ c.if-not-is_open.false) c.run_uncounted.ensures
