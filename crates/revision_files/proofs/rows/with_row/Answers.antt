use Rattle.std.proofs.Common.{◌≡◌, ◌+◌, ◌<◌, ◌≤◌, true, false, ℕ, List, ◌∷◌, [], ◌++◌, length, map, nat_lt, Ok, Some, refl, sym, ap, ◌∙◌, arith}
use Rattle.std.specs.Prelude.{◌==◌, ◌||◌}
use Rattle.std.specs.Str.{chars}
use Rattle.std.proofs.lemmas.Bool.{eq-eqb}
use Rattle.std.proofs.lemmas.Bool.Decides.{nat_tests}
use Rattle.std.proofs.lemmas.List.{length-map}
use Rattle.csv.specs.Records.{fields_of}
use Rattle.revision_files.specs.Rows.{MOST_FIELDS, MOST_ROWS, action_of, fields_counted, raw_field, row_with, text_in}
use Rattle.revision_files.specs.Texts.{texts_of}
use Rattle.revision_files.proofs.Nexts.{row_read}
use Rattle.revision_files.proofs.rows.with_row.Goals as goal

pub returns-clause-ok : goal.returns-clause-ok
returns-clause-ok c =
    let texts : List (List ℕ) = texts_of c.args.row.now in
    let rows_few : nat_lt MOST_ROWS (length c.args.before.rows + 1) ≡ false = grind (arith, nat_tests) in
    let after : c.in-Some.fields ≡ c.args.before.fields + fields_counted c.args.columns.now = c.in-Some.ensures.1 in
    let fields_few : nat_lt MOST_FIELDS (c.args.before.fields + fields_counted c.args.columns.now) ≡ false = grind (arith, nat_tests, c.in-Some.ensures.0) in
    let same : (length texts == c.args.columns.now.width) ≡ true = eq-eqb (length texts) c.args.columns.now.width (length-map (fields_of c.args.row.now) chars ∙ (sym c.len-3.ensures ∙ c.if-len-columns.false)) in
    let action : action_of (text_in texts c.args.columns.now.action) ≡ Some c.in-Some-action_of.action = ap action_of (sym c.text_in.ensures) ∙ sym c.in-Some-action_of.ensures in
    let fields : map (λ column. raw_field (text_in texts column)) c.args.columns.now.fields ≡ c.in_ok-raw_fields.field-0 = sym (c.in_ok-raw_fields.ensures ∙ ap (map (λ column. raw_field (text_in texts column))) c.as_slice.ensures) in
    let rows : c.args.before.rows ++ row_with c.args.columns.now texts c.in-Some-action_of.action ∷ [] ≡ c.push.new.self =
    ap (λ given. c.args.before.rows ++ (record { action = c.in-Some-action_of.action; fields = given }) ∷ []) fields ∙ sym c.in_ok-push.ensures.ok in
    row_read c.args.block c.args.columns.now c.args.before texts c.in-Some-action_of.action (λ i. rows_few i || fields_few i) same action
    ∙ (λ i. Ok (record { rows = rows i; fields = sym after i }))
