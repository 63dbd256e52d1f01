use Rattle.std.proofs.Common.{◌≡◌, ◌+◌, Bool, List, Option, Some, None, drop, get_or, ap, sym, ◌∙◌}
use Rattle.std.specs.Prelude.{find}
use Rattle.std.specs.Option.{option_copied, option_to_list}
use Rattle.operator_faults.specs.declared.outline.Outline.{Outline, out-Outline}
use Rattle.operator_faults.specs.declared.outline.CallSite.{CallSite}
use Rattle.shortest_cycles.specs.Firsts.{or_else}
use Rattle.operator_faults.specs.Calls.{is_wrong, own_call, sites, all_sites}
use Rattle.operator_faults.proofs.Finds.{find-drop, find-sites}
use Rattle.operator_faults.proofs.calls.+wrong.Goals as goal

pub first_wrong-returns-in-Some : goal.first_wrong-returns-in-Some
first_wrong-returns-in-Some t c =
    let p : CallSite → Bool = is_wrong c.args.fault c.args.operators.now in
    let xs = c.args.outlines.now in
    let i = c.loop-outline.outline-index in
    let x = c.outline-item.result in
    let here : find p (sites (get_or xs i x)) ≡ Some c.in-Some.call.now = ap (λ (y : Outline). find p (sites y)) (sym c.outline-item.is) ∙ sym c.in-Some.ensures in
    sym (c.loop-outline.invariant ∙ find-drop p sites xs i x c.loop-outline-test.true ∙ ap (λ (o : Option CallSite). or_else o (find p (all_sites (drop (i + 1) xs)))) here)

pub first_wrong-loop-outline-preserved : goal.first_wrong-loop-outline-preserved
first_wrong-loop-outline-preserved t c =
    let p : CallSite → Bool = is_wrong c.args.fault c.args.operators.now in
    let xs = c.args.outlines.now in
    let i = c.loop-outline.outline-index in
    let x = c.outline-item.result in
    let here : find p (sites (get_or xs i x)) ≡ None = ap (λ (y : Outline). find p (sites y)) (sym c.outline-item.is) ∙ sym c.in_default.ensures in
    c.loop-outline.invariant ∙ find-drop p sites xs i x c.loop-outline-test.true ∙ ap (λ (o : Option CallSite). or_else o (find p (all_sites (drop (i + 1) xs)))) here

pub wrong_call-returns-in-None : goal.wrong_call-returns-in-None
wrong_call-returns-in-None t c =
    let p : CallSite → Bool = is_wrong c.args.fault c.args.operators.now in
    let o = c.args.outline.now in
    let none : find p (option_to_list (own_call (out-Outline o).what)) ≡ None = sym c.own_wrong.ensures ∙ ap option_copied c.in-None.is in
    c.first_wrong.ensures
    ∙ ap (λ (os : List Outline). find p (all_sites os)) c.as_slice.ensures
    ∙ sym (find-sites p o ∙ ap (λ (q : Option CallSite). or_else q (find p (all_sites (out-Outline o).parts))) none)
