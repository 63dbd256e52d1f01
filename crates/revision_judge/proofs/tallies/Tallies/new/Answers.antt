use Rattle.revision_judge.proofs.StandingLemmas.{none-yet}
use Rattle.revision_judge.proofs.tallies.Tallies.new.Goals as goal

pub returns : goal.returns
returns c = λ inputs. none-yet inputs (record { tallies = c.new.result }) c.new.ensures.empty
