use Rattle.std.proofs.Common.{ap, arith}
use Rattle.round_runs.proofs.RoundLemmas.{open_more, works_more, longer, ends_so}
use Rattle.round_runs.proofs.round.run_round.Goals as goal

pub works-preserved : goal.works-preserved
works-preserved g c =
    let p = c.works.production in
    let q = c.run_next.new.production in
    let next = c.in-Counted.ensures in
    record {
      open_round = open_more p q c.args.by next.statement next.what c.works.invariant.open_round next.back next.gives;
      works = works_more c.args.by c.args.production.now p q next.statement next.what c.works.invariant.works next.back next.gives;
    }

pub works-smaller : goal.works-smaller
works-smaller g c =
    let next = c.in-Counted.ensures in
    let (long, same) = longer c.works.production c.run_next.new.production c.args.by next.statement next.what next.gives in
    let limits = ap (λ l. l.entries) same in
    let fits = next.fits in
    omega (arith, long, limits, fits)

pub returns-in_default : goal.returns-in_default
returns-in_default g c = ends_so c.args.by c.args.production.now c.works.production c.run_next.new.production c.run_next.result c.in_default.not-Counted c.works.invariant.works c.run_next.ensures
