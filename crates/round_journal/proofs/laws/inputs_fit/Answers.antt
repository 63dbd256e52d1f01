use Rattle.std.proofs.Common.{take}
use Rattle.revision_judge.proofs.Judgements.{inputs_after-fit}
use Rattle.round_journal.proofs.InputLemmas.{AreInputs-judged, AreInputs-at}
use Rattle.round_journal.proofs.laws.inputs_fit.Goals as goal

pub returns-clause-judged : goal.returns-clause-judged
returns-clause-judged c = λ n s. inputs_after-fit s.first.inputs (take n s.accepted)

pub returns-clause-same : goal.returns-clause-same
returns-clause-same c = λ s xs h. AreInputs-judged s.inputs xs h

pub returns-clause-fit : goal.returns-clause-fit
returns-clause-fit c = AreInputs-at
