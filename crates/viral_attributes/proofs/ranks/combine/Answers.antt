use Rattle.std.proofs.Common.{◌≡◌, length, arith, subst, ℕ}
use Rattle.viral_attributes.proofs.Highest.{IsBest, best_is, none_exactly}
use Rattle.viral_attributes.proofs.ranks.combine.Goals as goal

pub returns : goal.returns
returns c =
    let all : c.loop-i.i ≡ length c.args.values.now = omega arith in
    let best : IsBest c.args.ranks.now c.args.values.now (length c.args.values.now) c.loop-i.place c.loop-i.highest = subst (λ (n : ℕ). IsBest c.args.ranks.now c.args.values.now n c.loop-i.place c.loop-i.highest) all c.loop-i.invariant in
    record {
      place = best_is c.args.ranks.now c.args.values.now c.loop-i.place c.loop-i.highest best;
      none = none_exactly c.args.ranks.now c.args.values.now c.loop-i.place c.loop-i.highest c.requires best;
    }
