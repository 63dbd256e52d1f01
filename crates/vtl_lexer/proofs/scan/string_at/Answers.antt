use Rattle.std.proofs.Common.{◌≡◌, ◌+◌, Some, None, drop, ap, sym, ◌∙◌, arith, length-drop}
use Rattle.vtl_lexer.specs.Scans.{string_at, string_byte, ahead}
use Rattle.vtl_lexer.proofs.ScanLemmas.{string_at-more, string_at-end, string_byte-fits, ahead-nothing, rest-is}
use Rattle.vtl_lexer.proofs.scan.string_at.Goals as goal

pub loop-byte-preserved : goal.loop-byte-preserved
loop-byte-preserved c =
    let text = c.args.text.now in
    let at = c.loop-byte.at in
    let byte = c.in-Some.byte in
    let len = c.in-Some.len in
    let found : string_byte (drop at text) ≡ Some (byte, len) = ap string_byte (sym (rest-is text at)) ∙ sym c.string_byte.ensures ∙ c.in-Some.is in
    let fits = string_byte-fits (drop at text) (byte, len) found in
    record {
      within = omega (arith, fits.1, length-drop at text, c.loop-byte.invariant.within);
      so_far =
          ap (λ xs. ahead xs (at + len) (string_at (drop (at + len) text))) c.in_ok-push.ensures.items
          ∙ sym (string_at-more text at c.loop-byte.bytes.items (byte, len) found)
          ∙ c.loop-byte.invariant.so_far;
    }

pub returns-clause-read : goal.returns-clause-read
returns-clause-read c =
    let text = c.args.text.now in
    let at = c.loop-byte.at in
    let none : string_byte (drop at text) ≡ None = ap string_byte (sym (rest-is text at)) ∙ sym c.string_byte.ensures ∙ c.in_default.is in
    ahead-nothing c.loop-byte.bytes.items at
    ∙ ap (ahead c.loop-byte.bytes.items at) (sym (string_at-end (drop at text) none))
    ∙ c.loop-byte.invariant.so_far
