use Rattle.std.proofs.Common.{◌≡◌, ◌+◌, ◌<◌, false, length, drop, ap, sym, ◌∙◌, arith, length-drop}
use Rattle.std.proofs.lemmas.List.{drop-drop}
use Rattle.vtl_lexer.specs.Scans.{is_close, before_close}
use Rattle.vtl_lexer.proofs.ScanLemmas.{before_close-later, rest-is}
use Rattle.vtl_lexer.proofs.scan.before_close.Goals as goal

pub loop-at-preserved : goal.loop-at-preserved
loop-at-preserved c =
    let text = c.args.text.now in
    let at = c.loop-at.at in
    let some : 0 < length (drop at text) = omega (arith, length-drop at text, c.loop-at-test.true) in
    let open_still : is_close (drop at text) ≡ false = ap is_close (sym (rest-is text at)) ∙ sym c.is_close.ensures.close ∙ c.if-not-is_close.true in
    let later : before_close (drop at text) ≡ before_close (drop 1 (drop at text)) + 1 = before_close-later (drop at text) open_still some in
    let next : before_close (drop 1 (drop at text)) ≡ before_close (drop (at + 1) text) = ap before_close (drop-drop 1 at text) in
    record { within = omega (arith, c.loop-at-test.true); so_far = omega (arith, later, next, c.loop-at.invariant.so_far) }
