use Rattle.std.proofs.Common.{◌≡◌, ◌<◌, ◌∷◌, [], ◌++◌, List, length, sym, subst, arith}
use Rattle.std.proofs.lemmas.Bool.Decides.{nat_tests}
use Rattle.point_sets.specs.declared.delta.Change.{Change}
use Rattle.revision_judge.specs.declared.ruling.Share.{Share}
use Rattle.revision_judge.proofs.Finished.{AreFinished, finished-same, finished-more}
use Rattle.revision_judge.proofs.tallies.Tallies.finish.Goals as goal

pub loop-number-preserved : goal.loop-number-preserved
loop-number-preserved c = λ inputs s h.
    let at = c.loop-number in
    let popped = c.in-Some.ensures in
    let short : length c.changes.result.now ≡ 0 = grind (arith, nat_tests, c.is_empty.ensures, c.if-not-is_empty.false) in
    finished-same inputs s at.shares.items at.tallies c.pop_first.new.self (at.invariant inputs s h) c.in-Some.number c.in-Some.tally popped.value popped.least popped.updates.0 popped.updates.1 c.in_ok-delta.delta c.in_ok-delta.ensures c.changes.result.now c.changes.ensures.entries short

pub loop-number-preserved-in-Continue-branch-2 : goal.loop-number-preserved-in-Continue-branch-2
loop-number-preserved-in-Continue-branch-2 c = λ inputs s h.
    let at = c.loop-number in
    let popped = c.in-Some.ensures in
    let long : 0 < length c.changes.result.now = grind (arith, nat_tests, c.is_empty.ensures, c.if-not-is_empty.true) in
    subst (λ (shares : List Share). AreFinished inputs s shares c.pop_first.new.self) (sym c.in_ok-push.ensures.items)
    (finished-more inputs s at.shares.items at.tallies c.pop_first.new.self (at.invariant inputs s h) c.in-Some.number c.in-Some.tally popped.value popped.least popped.updates.0 popped.updates.1 c.in_ok-delta.delta c.in_ok-delta.ensures c.changes.result.now c.changes.ensures.entries long)
