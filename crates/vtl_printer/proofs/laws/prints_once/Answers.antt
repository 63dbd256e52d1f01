use Rattle.vtl_printer.proofs.PrintLaws as law
use Rattle.vtl_printer.proofs.laws.prints_once.Goals as goal

pub returns : goal.returns
returns c = law.prints_once
