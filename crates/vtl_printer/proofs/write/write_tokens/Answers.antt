use Rattle.std.proofs.Common.{◌≡◌, ℕ, List, chars, string_bytes, encode_utf8_all}
use Rattle.std.proofs.lemmas.Result.{IfOk-weaker}
use Rattle.std.proofs.lemmas.Str.{IsUtf8-string_bytes}
use Rattle.vtl_printer.specs.Layouts.{layout}
use Rattle.vtl_printer.specs.LexedBack.{AreReadBack}
use Rattle.vtl_printer.proofs.Pushes.{all_written}
use Rattle.vtl_printer.proofs.ReadsBack.{layout_read_back}
use Rattle.vtl_printer.proofs.write.write_tokens.Goals as goal

pub returns : goal.returns
returns c =
    let text = string_bytes c.loop-rest.text in
    let kinds = c.args.kinds.now in
    let is_layout : (word : List ℕ) → word ≡ chars text → encode_utf8_all word ≡ layout kinds = λ word is. all_written text word kinds c.loop-rest.rest.now (IsUtf8-string_bytes c.loop-rest.text) c.loop-rest.invariant c.in_default.len_below is in
    record {
      layout = IfOk-weaker c.from_string.result _ (λ word. encode_utf8_all word ≡ layout kinds) is_layout c.from_string.ensures;
      read_back = IfOk-weaker c.from_string.result _ (λ word. AreReadBack kinds (encode_utf8_all word)) (λ word is. layout_read_back kinds (encode_utf8_all word) (is_layout word is)) c.from_string.ensures;
    }
