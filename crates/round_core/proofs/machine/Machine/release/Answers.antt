use Rattle.std.proofs.Common.{◌-◌, arith}
use Rattle.round_core.specs.Kept.{state_at}
use Rattle.round_core.proofs.ReleaseLemmas.{at_earlier, earlier_few}
use Rattle.round_core.proofs.machine.Machine.release.Goals as goal

pub returns-clause-found : goal.returns-clause-found
returns-clause-found c =
    let a = c.args.self.now in
    let k = c.requires.sound in
    let few = earlier_few (state_at a) a.earlier.items k.earlier in
    let number = k.release.number_is in
    at_earlier (state_at a) a.earlier.items c.args.number (c.args.number - (a.latest.number - c.len.result)) c.index.result.now k.earlier
    (omega (arith, few, number, c.len.ensures, c.if-latest-number.false, c.if-latest-number-2.false, c.if-number-oldest.false))
    (omega (arith, few, number, c.len.ensures, c.if-latest-number.false, c.if-latest-number-2.false, c.if-number-oldest.false)) c.index.ensures
