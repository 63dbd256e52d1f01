-- One piece of a text after another.
use Rattle.std.proofs.Common.{◌≡◌, ℕ, zero, suc, ◌-◌, ◌<◌, ◌≤◌, List, [], ◌∷◌, ◌++◌, length, take, drop, Option, Ok, Err, refl, sym, ◌∙◌, ap, arith, append_assoc}
use Rattle.vtl_values.specs.declared.place.Place.{Place}
use Rattle.vtl_tokens.specs.declared.token.Token.{Token}
use Rattle.vtl_tokens.specs.declared.token.TokenKind.{TokenKind}
use Rattle.vtl_lexer.specs.declared.stop.LexFault.{LexFault}
use Rattle.vtl_lexer.specs.Pieces.{piece_of}
use Rattle.vtl_lexer.specs.Places.{place_behind, place_after}
use Rattle.vtl_lexer.specs.Texts.{Lexed, tokens_in, joined, piece_then, tokens_from}

pub joined-joined : (before more : List Token) (after : Lexed) → joined before (joined more after) ≡ joined (before ++ more) after
joined-joined before more (Ok after) = ap Ok (sym (append_assoc before more after))
joined-joined before more (Err fault) = refl

-- once the bytes are passed, the text begins after them
pub tokens_from-passed : (n : ℕ) (place : Place) (text : List ℕ) → n ≤ length text → tokens_from n place text ≡ tokens_from 0 (place_after place (take n text)) (drop n text)
tokens_from-passed zero place [] le = refl
tokens_from-passed zero place (b ∷ bs) le = refl
tokens_from-passed (suc n) place [] le = absurd (omega arith)
tokens_from-passed (suc n) place (b ∷ bs) le = tokens_from-passed n (place_behind place b) bs (omega arith)

-- after a piece the text goes on
pub tokens_from-piece : (place : Place) (text : List ℕ) (kind : Option TokenKind) (n : ℕ) → piece_of text ≡ Ok (kind, n) → 0 < n → n ≤ length text → tokens_from 0 place text ≡ joined (tokens_in place kind) (tokens_from 0 (place_after place (take n text)) (drop n text))
tokens_from-piece place [] kind n is some le = absurd (omega arith)
tokens_from-piece place (b ∷ bs) kind zero is some le = absurd (omega arith)
tokens_from-piece place (b ∷ bs) kind (suc n) is some le =
    let read : piece_then place (piece_of (b ∷ bs)) (λ m. tokens_from (m - 1) (place_behind place b) bs) ≡ joined (tokens_in place kind) (tokens_from (suc n - 1) (place_behind place b) bs) = ap (λ r. piece_then place r (λ m. tokens_from (m - 1) (place_behind place b) bs)) is in
    let less : suc n - 1 ≡ n = omega arith in
    read
    ∙ ap (λ m. joined (tokens_in place kind) (tokens_from m (place_behind place b) bs)) less
    ∙ ap (joined (tokens_in place kind)) (tokens_from-passed n (place_behind place b) bs (omega arith))

pub tokens_from-fault : (place : Place) (text : List ℕ) (fault : LexFault) → piece_of text ≡ Err fault → 0 < length text → tokens_from 0 place text ≡ Err (fault, place)
tokens_from-fault place [] fault is some = absurd (omega arith)
tokens_from-fault place (b ∷ bs) fault is some = ap (λ r. piece_then place r (λ m. tokens_from (m - 1) (place_behind place b) bs)) is

-- what was read and what is left, before a piece and after it
pub joined-piece : (before after : List Token) (place next : Place) (text rest : List ℕ) (kind : Option TokenKind) (n : ℕ) → piece_of text ≡ Ok (kind, n) → (0 < n) × (n ≤ length text) → after ≡ before ++ tokens_in place kind → next ≡ place_after place (take n text) → rest ≡ drop n text → joined after (tokens_from 0 next rest) ≡ joined before (tokens_from 0 place text)
joined-piece before after place next text rest kind n is within after_is next_is rest_is =
    let here : joined after (tokens_from 0 next rest) ≡ joined (before ++ tokens_in place kind) (tokens_from 0 (place_after place (take n text)) (drop n text)) = cc in
    here ∙ sym (joined-joined before (tokens_in place kind) (tokens_from 0 (place_after place (take n text)) (drop n text))) ∙ ap (joined before) (sym (tokens_from-piece place text kind n is within.0 within.1))
