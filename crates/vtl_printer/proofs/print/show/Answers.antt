use Rattle.std.proofs.Common.{◌∙◌}
use Rattle.vtl_printer.proofs.PrintLaws.{shown_back}
use Rattle.vtl_printer.proofs.print.show.Goals as goal

pub returns-clause-read_back : goal.returns-clause-read_back
returns-clause-read_back c = shown_back c.args.script.now c.as_slice.result.now c.write_tokens.result (c.as_slice.ensures.value ∙ c.in_ok-kinds.ensures) c.write_tokens.ensures.read_back
