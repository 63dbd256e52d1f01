use Rattle.vtl_values.proofs.Spelled.{read_back, fits}
use Rattle.vtl_values.proofs.laws.written_values_are_read_back.Goals as goal

pub returns-clause-read_back : goal.returns-clause-read_back
returns-clause-read_back c = read_back

pub returns-clause-fits : goal.returns-clause-fits
returns-clause-fits c = fits
