use Rattle.std.proofs.Common.{◌∙◌, ap, refl}
use Rattle.std.specs.Result.{result_map_both}
use Rattle.vtl_values.specs.declared.value.Value.TheVariants.{Null, Truth, Integer, Number}
use Rattle.vtl_values.proofs.CharsOfTexts.{reads-integer, reads-number, reads-truth, reads-text, reads-empty, bad_if_ok, bad_if_bad}
use Rattle.vtl_values.proofs.read.read_value.Goals as goal

pub returns-then-is_empty-clause-ok : goal.returns-then-is_empty-clause-ok
returns-then-is_empty-clause-ok c = reads-empty c.args.kind c.args.text.now c.if-is_empty.ensures

pub returns-then-is_empty-clause-bad : goal.returns-then-is_empty-clause-bad
returns-then-is_empty-clause-bad c = bad_if_ok _ _ Null Null (reads-empty c.args.kind c.args.text.now c.if-is_empty.ensures) refl

pub returns-in_ok-read_integer-in-Integer-clause-ok : goal.returns-in_ok-read_integer-in-Integer-clause-ok
returns-in_ok-read_integer-in-Integer-clause-ok c =
    reads-integer c.args.kind c.args.text.now _ _ c.in-Integer.is c.utf8.text c.if-is_empty.ensures c.as_bytes.ensures.value c.read_integer.ensures ∙ ap (result_map_both Integer (λ e. e)) c.in_ok-read_integer-in-Integer.was

pub returns-in_ok-read_integer-in-Integer-clause-bad : goal.returns-in_ok-read_integer-in-Integer-clause-bad
returns-in_ok-read_integer-in-Integer-clause-bad c =
    bad_if_ok _ _ (Integer c.in_ok-read_integer-in-Integer.field-0) (Integer c.in_ok-read_integer-in-Integer.field-0)
    (reads-integer c.args.kind c.args.text.now _ _ c.in-Integer.is c.utf8.text c.if-is_empty.ensures c.as_bytes.ensures.value c.read_integer.ensures ∙ ap (result_map_both Integer (λ e. e)) c.in_ok-read_integer-in-Integer.was) refl

pub returns-in_err-read_integer-in-Integer-clause-bad : goal.returns-in_err-read_integer-in-Integer-clause-bad
returns-in_err-read_integer-in-Integer-clause-bad c =
    bad_if_bad _ c.from_residual.result c.in_err-read_integer-in-Integer.field-0.0
    (reads-integer c.args.kind c.args.text.now _ _ c.in-Integer.is c.utf8.text c.if-is_empty.ensures c.as_bytes.ensures.value c.read_integer.ensures ∙ ap (result_map_both Integer (λ e. e)) c.in_err-read_integer-in-Integer.was)
    c.from_residual.ensures.1

pub returns-in_ok-read_number-in-Number-clause-ok : goal.returns-in_ok-read_number-in-Number-clause-ok
returns-in_ok-read_number-in-Number-clause-ok c =
    reads-number c.args.kind c.args.text.now _ _ c.in-Number.is c.utf8.text c.if-is_empty.ensures c.as_bytes-in-Number.ensures.value c.read_number.ensures ∙ ap (result_map_both Number (λ e. e)) c.in_ok-read_number-in-Number.was

pub returns-in_ok-read_number-in-Number-clause-bad : goal.returns-in_ok-read_number-in-Number-clause-bad
returns-in_ok-read_number-in-Number-clause-bad c =
    bad_if_ok _ _ (Number c.in_ok-read_number-in-Number.field-0) (Number c.in_ok-read_number-in-Number.field-0)
    (reads-number c.args.kind c.args.text.now _ _ c.in-Number.is c.utf8.text c.if-is_empty.ensures c.as_bytes-in-Number.ensures.value c.read_number.ensures ∙ ap (result_map_both Number (λ e. e)) c.in_ok-read_number-in-Number.was) refl

pub returns-in_err-read_number-in-Number-clause-bad : goal.returns-in_err-read_number-in-Number-clause-bad
returns-in_err-read_number-in-Number-clause-bad c =
    bad_if_bad _ c.from_residual-in_err-read_number-in-Number.result c.in_err-read_number-in-Number.field-0.0
    (reads-number c.args.kind c.args.text.now _ _ c.in-Number.is c.utf8.text c.if-is_empty.ensures c.as_bytes-in-Number.ensures.value c.read_number.ensures ∙ ap (result_map_both Number (λ e. e)) c.in_err-read_number-in-Number.was)
    c.from_residual-in_err-read_number-in-Number.ensures.1

pub returns-in_ok-read_truth-in-Truth-clause-ok : goal.returns-in_ok-read_truth-in-Truth-clause-ok
returns-in_ok-read_truth-in-Truth-clause-ok c =
    reads-truth c.args.kind c.args.text.now _ _ c.in-Truth.is c.utf8.text c.if-is_empty.ensures c.as_bytes-in-Truth.ensures.value c.read_truth.ensures ∙ ap (result_map_both Truth (λ e. e)) c.in_ok-read_truth-in-Truth.was

pub returns-in_ok-read_truth-in-Truth-clause-bad : goal.returns-in_ok-read_truth-in-Truth-clause-bad
returns-in_ok-read_truth-in-Truth-clause-bad c =
    bad_if_ok _ _ (Truth c.in_ok-read_truth-in-Truth.field-0) (Truth c.in_ok-read_truth-in-Truth.field-0)
    (reads-truth c.args.kind c.args.text.now _ _ c.in-Truth.is c.utf8.text c.if-is_empty.ensures c.as_bytes-in-Truth.ensures.value c.read_truth.ensures ∙ ap (result_map_both Truth (λ e. e)) c.in_ok-read_truth-in-Truth.was) refl

pub returns-in_err-read_truth-in-Truth-clause-bad : goal.returns-in_err-read_truth-in-Truth-clause-bad
returns-in_err-read_truth-in-Truth-clause-bad c =
    bad_if_bad _ c.from_residual-in_err-read_truth-in-Truth.result c.in_err-read_truth-in-Truth.field-0.0
    (reads-truth c.args.kind c.args.text.now _ _ c.in-Truth.is c.utf8.text c.if-is_empty.ensures c.as_bytes-in-Truth.ensures.value c.read_truth.ensures ∙ ap (result_map_both Truth (λ e. e)) c.in_err-read_truth-in-Truth.was)
    c.from_residual-in_err-read_truth-in-Truth.ensures.1

pub returns-in_ok-from_str-in-Text-clause-ok : goal.returns-in_ok-from_str-in-Text-clause-ok
returns-in_ok-from_str-in-Text-clause-ok c = reads-text c.args.kind c.args.text.now _ c.in-Text.is c.utf8.text c.if-is_empty.ensures (c.in_ok-from_str-in-Text.ensures ∙ c.without_backslash.ensures)
