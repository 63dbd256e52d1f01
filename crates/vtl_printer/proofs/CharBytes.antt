-- Texts with their quotes doubled.
use Rattle.std.proofs.Common.{◌≡◌, ◌==◌, ℕ, ◌<◌, ◌≤◌, Bool, true, false, ◌||◌, List, [], ◌∷◌, ◌++◌, length, get_or, if◌then◌else◌, inl, inr, refl, sym, ap, ◌∙◌, arith, append_assoc, append-nil}
use Rattle.std.proofs.Math.Utf8.{encodes, encode}
use Rattle.std.proofs.lemmas.Bool.{cases_lt}
use Rattle.std.proofs.lemmas.Bool.Decides.{nat_tests}
use Rattle.std.proofs.lemmas.List.Elements.{All-from_get_or}
use Rattle.std.proofs.lemmas.List.Folds.{list_any-append, list_any_none}
use Rattle.std.proofs.lemmas.Str.{encode_ascii, inside_one, encodes-append}
use Rattle.std.specs.List.{list_any}
use Rattle.vtl_lexer.specs.Starts.{QUOTE}
use Rattle.vtl_lexer.specs.Scans.{ends_name}
use Rattle.vtl_lexer.proofs.CharBytes.{PassesAscii, any-encode}
use Rattle.vtl_printer.specs.Spellings.{doubled}

pub neither : (a b : Bool) → (a || b) ≡ false → (a ≡ false) × (b ≡ false)
neither false b none = (refl, none)
neither true b none = cc

abbrev pub is_quote : ℕ → Bool
is_quote b = b == QUOTE

is_quote-PassesAscii : PassesAscii is_quote
is_quote-PassesAscii b high = grind (arith, nat_tests)

-- quotes doubled, one text behind another
pub doubled-append : (xs ys : List ℕ) → doubled (xs ++ ys) ≡ doubled xs ++ doubled ys
doubled-append [] ys = refl
doubled-append (x ∷ xs) ys =
    ap (λ l. (if x == QUOTE then QUOTE ∷ QUOTE ∷ [] else x ∷ []) ++ l) (doubled-append xs ys)
    ∙ sym (append_assoc (if x == QUOTE then QUOTE ∷ QUOTE ∷ [] else x ∷ []) (doubled xs) (doubled ys))

doubled-plain : (xs : List ℕ) → list_any is_quote xs ≡ false → doubled xs ≡ xs
doubled-plain [] none = refl
doubled-plain (x ∷ xs) none =
    let two : (is_quote x ≡ false) × (list_any is_quote xs ≡ false) = neither (is_quote x) (list_any is_quote xs) none in
    rw two.0 (ap (λ l. x ∷ l) (doubled-plain xs two.1))

-- a character that is no quote
pub doubled-encode : (c : ℕ) → (c == QUOTE) ≡ false → doubled (encode c) ≡ encode c
doubled-encode c plain = doubled-plain (encode c) (any-encode is_quote is_quote-PassesAscii c ∙ plain)

-- one character more
pub doubled-more : (before after start cs : List ℕ) (c : ℕ) → before ≡ start ++ doubled (encodes cs) → after ≡ before ++ doubled (encode c) → after ≡ start ++ doubled (encodes (cs ++ c ∷ []))
doubled-more before after start cs c so_far pushed =
    let more : encodes (cs ++ c ∷ []) ≡ encodes cs ++ encode c = encodes-append cs (c ∷ []) ∙ ap (λ l. encodes cs ++ l) (append-nil (encode c)) in
    pushed
    ∙ ap (λ l. l ++ doubled (encode c)) so_far
    ∙ append_assoc start (doubled (encodes cs)) (doubled (encode c))
    ∙ ap (λ l. start ++ l) (sym (ap doubled more ∙ doubled-append (encodes cs) (encode c)))
