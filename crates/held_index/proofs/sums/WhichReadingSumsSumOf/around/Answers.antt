use Rattle.held_index.specs.Sums.{sum_at}
use Rattle.held_index.specs.SumLaws.{sum_at-fits, add_sums-fits}
use Rattle.held_index.proofs.sums.WhichReadingSumsSumOf.around.Goals as goal

pub added-rest-requires-clause-other : goal.added-rest-requires-clause-other
added-rest-requires-clause-other c = let r = c.requires.right in rw r.2 (sum_at-fits c.args.after c.args.self.now.which r.0 r.1)

pub added-requires-clause-one : goal.added-requires-clause-one
added-requires-clause-one c = let l = c.requires.left in rw l.2 (sum_at-fits c.args.before c.args.self.now.which l.0 l.1)

pub added-requires-clause-other : goal.added-requires-clause-other
added-requires-clause-other c =
    let r = c.requires.right in
    let x = c.requires.item in
    rw (c.added-rest.ensures, r.2, x.2) (add_sums-fits 1 c.args.after (sum_at c.args.self.now.which x.0) (sum_at c.args.self.now.which r.0) (sum_at-fits 1 c.args.self.now.which x.0 x.1) (sum_at-fits c.args.after c.args.self.now.which r.0 r.1))
