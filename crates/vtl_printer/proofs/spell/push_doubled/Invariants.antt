use Rattle.std.proofs.Common.{◌≡◌, ◌++◌, string_bytes, encode_utf8_all}
use Rattle.vtl_printer.specs.Spellings.{doubled}
use Rattle.vtl_printer.proofs.spell.push_doubled.Given as goal

abbrev pub invariant-loop-c : goal.invariant-loop-c
invariant-loop-c l = string_bytes l.text ≡ string_bytes l.fn.text ++ doubled (encode_utf8_all l.yielded)
