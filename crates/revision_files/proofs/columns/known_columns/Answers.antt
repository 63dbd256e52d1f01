use Rattle.std.proofs.Common.{◌≡◌, false, true, List, ℕ, Some, length, map, sym, ap, ◌∙◌}
use Rattle.std.proofs.lemmas.List.{length-map}
use Rattle.std.specs.Prelude.{position}
use Rattle.std.specs.List.{list_all}
use Rattle.std.specs.Str.{chars}
use Rattle.csv.specs.Records.{fields_of}
use Rattle.vtl_values.specs.Texts.{same_text}
use Rattle.std.proofs.lemmas.Str.{chars-IsAscii}
use Rattle.revision_files.specs.Columns.{ACTION, column_of, is_among, names_of}
use Rattle.revision_files.specs.Texts.{texts_of}
use Rattle.revision_files.proofs.Actions.{ascii_action}
use Rattle.revision_files.proofs.Headers.{known_all, known_lacks_action}
use Rattle.revision_files.proofs.columns.known_columns.Goals as goal

pub returns-in_default-get_index_of : goal.returns-in_default-get_index_of
returns-in_default-get_index_of c =
    let texts : List (List ℕ) = texts_of c.args.header.now in
    let names = rw c.in-Some.is at c.in_ok-names.ensures in
    let word : c.in_ok-from_str.field-0 ≡ ACTION = c.in_ok-from_str.ensures ∙ chars-IsAscii ACTION ascii_action in
    let lacks : is_among texts ACTION ≡ false = ap (λ keys. is_among keys ACTION) (sym names.0) ∙ (ap (is_among c.in-Some.names.keys) (sym word) ∙ sym c.in_default-get_index_of.ensures.found) in
    sym (known_lacks_action c.args.components.now texts lacks)

pub returns : goal.returns
returns c =
    let texts : List (List ℕ) = texts_of c.args.header.now in
    let components = c.args.components.now in
    let names = rw c.in-Some.is at c.in_ok-names.ensures in
    let given = rw c.in-Some-2.is at c.in_ok-fields.ensures in
    let word : c.in_ok-from_str.field-0 ≡ ACTION = c.in_ok-from_str.ensures ∙ chars-IsAscii ACTION ascii_action in
    let there : is_among texts ACTION ≡ true = ap (λ keys. is_among keys ACTION) (sym names.0) ∙ (ap (is_among c.in-Some.names.keys) (sym word) ∙ sym c.in-Some-get_index_of.ensures.found) in
    let at : position (same_text ACTION) texts ≡ Some c.in-Some-get_index_of.action = (λ i. position (same_text (sym word i)) (sym names.0 i)) ∙ sym c.in-Some-get_index_of.ensures.index in
    let all : list_all (is_among texts) (names_of components) ≡ true = ap (λ keys. list_all (is_among keys) (names_of components)) (sym names.0) ∙ given.1 in
    let width : length texts ≡ c.len.result = length-map (fields_of c.args.header.now) chars ∙ sym c.len.ensures in
    let fields : map (column_of texts) (names_of components) ≡ c.in-Some-2.fields = ap (λ keys. map (column_of keys) (names_of components)) (sym names.0) ∙ sym given.0 in
    sym (known_all c.in_ok-wanted.wanted.keys components texts c.in-Some-get_index_of.action c.in_ok-wanted.ensures names.1 there at all
    ∙ (λ i. Some (record { width = width i; action = c.in-Some-get_index_of.action; fields = fields i })))
