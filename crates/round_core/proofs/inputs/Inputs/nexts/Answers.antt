use Rattle.std.proofs.Common.{◌≡◌, ◌++◌, ◌∷◌, [], sym, subst}
use Rattle.std.specs.List.{All}
use Rattle.revision_judge.specs.declared.ruling.Share.{Share}
use Rattle.revision_judge.proofs.Finished.{one-more, front}
use Rattle.round_core.specs.declared.inputs.Next.{Next}
use Rattle.round_core.specs.Inputs.{HasInput}
use Rattle.round_core.proofs.NextLemmas.{AreSoFar, share_taken, all_taken}
use Rattle.round_core.proofs.inputs.Inputs.nexts.Goals as goal

pub loop-share-preserved : goal.loop-share-preserved
loop-share-preserved c =
    let a = c.args.self.now in
    let at = c.loop-share in
    let share = c.in-Some.share in
    let left = c.pop.new.self in
    let next = c.in_ok-next.field-0 in
    let popped : at.left ≡ left ++ share ∷ [] = c.in-Some.ensures in
    let coming = front (λ (s : Share). HasInput a s.set) left share (subst (All (λ (s : Share). HasInput a s.set)) popped at.invariant.coming) in
    record {
      numbers = subst (All (λ (n : Next). HasInput a n.set)) (sym c.in_ok-push.ensures.items) (one-more (λ (n : Next). HasInput a n.set) at.nexts.items next at.invariant.numbers (subst (HasInput a) (sym c.in_ok-next.ensures.number) coming.1));
      coming = coming.0;
      made = λ bases tos nows afters kept shares. subst (AreSoFar tos nows afters left) (sym c.in_ok-push.ensures.items) (share_taken tos nows afters at.left left share at.nexts.items next popped (at.invariant.made bases tos nows afters kept shares) c.in_ok-next.ensures.number (c.in_ok-next.ensures.value bases tos nows afters kept));
    }

pub returns-clause-values : goal.returns-clause-values
returns-clause-values c = λ bases tos nows afters kept shares.
    all_taken tos nows afters c.loop-share.left c.loop-share.nexts.items c.in_default.ensures.0 (c.loop-share.invariant.made bases tos nows afters kept shares)
