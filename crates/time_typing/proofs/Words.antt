-- Names that are written out.
use Rattle.std.proofs.Common.{◌≡◌, ℕ, List, true, ap, sym, ◌∙◌}
use Rattle.std.specs.Prelude.{chars, encode_utf8_all}
use Rattle.std.specs.Bool.{Decides, one_answer}
use Rattle.std.specs.Char.{is_ascii}
use Rattle.std.specs.List.{list_all}
use Rattle.std.specs.Str.{IsAscii}
use Rattle.std.proofs.lemmas.Str.{chars-IsAscii, encodes-IsAscii}
use Rattle.vtl_values.specs.Texts.{same_text}
use Rattle.vtl_values.proofs.CharsOfTexts.{IsAscii-from_test}
use Rattle.vtl_values.proofs.StructureNames.{same_text-Decides}

-- the bytes of a text are those of this word where it is the word
pub word_told : (bytes name word : List ℕ) → list_all is_ascii word ≡ true → chars bytes ≡ name → bytes ≡ encode_utf8_all name → same_text bytes word ≡ same_text word name
word_told bytes name word plain characters encoded =
    let ascii : IsAscii word = IsAscii-from_test word plain in
    let told : Decides (same_text bytes word) (bytes ≡ word) = same_text-Decides bytes word in
    let by_bytes : Decides (same_text bytes word) (word ≡ name) = (
      λ h. sym (sym characters ∙ ap chars (told.0 h) ∙ chars-IsAscii word ascii),
      λ same. told.1 (encoded ∙ ap encode_utf8_all (sym same) ∙ encodes-IsAscii word ascii),
    ) in
    one_answer (same_text bytes word) (same_text word name) by_bytes (same_text-Decides word name)
