use Rattle.std.proofs.Common.{string_bytes}
use Rattle.vtl_printer.proofs.CharBytes.{doubled-more}
use Rattle.vtl_printer.proofs.spell.push_doubled.Goals as goal

pub loop-c-preserved : goal.loop-c-preserved
loop-c-preserved c = doubled-more (string_bytes c.loop-c.text) (string_bytes c.push_twice_if_quote.new.text) (string_bytes c.args.text.now) c.loop-c.yielded c.in-Some.c c.loop-c.invariant c.in_ok-push_twice_if_quote.ensures
