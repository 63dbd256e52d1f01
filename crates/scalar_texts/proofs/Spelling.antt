-- Texts as characters and as their bytes.
use Rattle.std.proofs.Common.{◌≡◌, ℕ, ◌<◌, List, [], ◌∷◌, ◌++◌, length, map, Result, String, IfOk, string_bytes, refl, sym, ap, ◌∙◌, arith}
use Rattle.std.specs.Prelude.{chars, IsUtf8, encode_utf8_all}
use Rattle.std.proofs.Math.Utf8.{encode}
use Rattle.std.proofs.lemmas.Bool.Decides.{nat_tests}
use Rattle.std.proofs.lemmas.List.{map-append}
use Rattle.std.proofs.lemmas.Result.{IfOk-weaker}
use Rattle.std.proofs.lemmas.Str.{chars-nil, chars_from_encodes, encodes-chars, IsUtf8-string_bytes}
use Rattle.std.specs.Char.{to_ascii_uppercase, to_ascii_lowercase}

-- the ASCII letters of a character's bytes are those of the character
uppercase-encode : (c : ℕ) → map to_ascii_uppercase (encode c) ≡ encode (to_ascii_uppercase c)
unfolding encode
uppercase-encode c = grind (arith, nat_tests)

lowercase-encode : (c : ℕ) → map to_ascii_lowercase (encode c) ≡ encode (to_ascii_lowercase c)
unfolding encode
lowercase-encode c = grind (arith, nat_tests)

-- f works on a text's bytes as on its characters, where it does so on the bytes of each character
module _ (f : ℕ → ℕ) (each : (c : ℕ) → map f (encode c) ≡ encode (f c)) where
  map-encodes : (cs : List ℕ) → map f (encode_utf8_all cs) ≡ encode_utf8_all (map f cs)
  map-encodes [] = refl
  map-encodes (c ∷ cs) =
      map-append f (encode c) (encode_utf8_all cs) ∙ ap (λ t. t ++ map f (encode_utf8_all cs)) (each c)
      ∙ ap (λ t. encode (f c) ++ t) (map-encodes cs)

  chars-map : (s t : List ℕ) → IsUtf8 s → IsUtf8 t → t ≡ map f s → chars t ≡ map f (chars s)
  chars-map s t text made e =
      sym (chars_from_encodes (map f (chars s)) t made
      (sym (map-encodes (chars s)) ∙ ap (map f) (encodes-chars s text) ∙ sym e))

pub chars-uppercase : (s t : List ℕ) → IsUtf8 s → IsUtf8 t → t ≡ map to_ascii_uppercase s → chars t ≡ map to_ascii_uppercase (chars s)
chars-uppercase = chars-map to_ascii_uppercase uppercase-encode

pub chars-lowercase : (s t : List ℕ) → IsUtf8 s → IsUtf8 t → t ≡ map to_ascii_lowercase s → chars t ≡ map to_ascii_lowercase (chars s)
chars-lowercase = chars-map to_ascii_lowercase lowercase-encode

-- the characters of a text that was made of characters
pub IfOk-chars : {Z E : Type 0} (r : Result (String Z) E) (cs ds : List ℕ) → cs ≡ ds →
    IfOk r (λ t. string_bytes t ≡ encode_utf8_all cs) → IfOk r (λ t. chars (string_bytes t) ≡ ds)
IfOk-chars r cs ds same = IfOk-weaker r (λ t. string_bytes t ≡ encode_utf8_all cs) (λ t. chars (string_bytes t) ≡ ds)
    (λ t e. sym (chars_from_encodes cs (string_bytes t) (IsUtf8-string_bytes t) (sym e)) ∙ same)

-- a text has characters where it has bytes
some_spelled : (cs : List ℕ) → 0 < length (encode_utf8_all cs) → 0 < length cs
some_spelled [] some = some
some_spelled (c ∷ cs) some = omega arith

pub some_characters : (s : List ℕ) → IsUtf8 s → 0 < length s → 0 < length (chars s)
some_characters s text some = some_spelled (chars s) (omega (arith, some, ap length (encodes-chars s text)))

pub no_characters : (s : List ℕ) → length s ≡ 0 → chars s ≡ []
no_characters [] none = chars-nil
no_characters (b ∷ s) none = absurd (omega (arith, none))
