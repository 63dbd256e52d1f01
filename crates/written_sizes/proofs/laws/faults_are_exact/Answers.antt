use Rattle.written_sizes.proofs.Exact.{faults_exact}
use Rattle.written_sizes.proofs.laws.faults_are_exact.Goals as goal

pub returns : goal.returns
returns c = faults_exact
