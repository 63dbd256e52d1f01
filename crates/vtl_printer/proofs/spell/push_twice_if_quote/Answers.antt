use Rattle.std.proofs.Common.{◌≡◌, ◌==◌, false, string_bytes, encode_utf8, arith}
use Rattle.std.proofs.lemmas.Bool.Decides.{nat_tests}
use Rattle.vtl_lexer.specs.Starts.{QUOTE}
use Rattle.vtl_printer.specs.Spellings.{doubled}
use Rattle.vtl_printer.proofs.CharBytes.{doubled-encode}
use Rattle.vtl_printer.proofs.Pushes.{pushed}
use Rattle.vtl_printer.proofs.spell.push_twice_if_quote.Goals as goal

pub returns : goal.returns
returns c =
    let ch = c.args.c in
    let plain : (ch == QUOTE) ≡ false = grind (arith, nat_tests) in
    pushed c.push.result (string_bytes c.push.new.self) (string_bytes c.args.text.now) (doubled (encode_utf8 ch)) (encode_utf8 ch) c.push.ensures.bytes (doubled-encode ch plain)
