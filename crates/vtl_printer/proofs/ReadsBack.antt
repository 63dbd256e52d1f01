-- A layout is read as the tokens that it lays out.
use Rattle.std.proofs.Common.{◌≡◌, ℕ, ◌-◌, ◌<◌, Bool, true, false, ◌||◌, if◌then◌else◌, List, [], ◌∷◌, ◌++◌, length, take, drop, Some, None, Ok, Err, refl, sym, ap, subst, ◌∙◌, arith, length-append}
use Rattle.std.proofs.lemmas.List.{drop_at}
use Rattle.std.proofs.lemmas.List.Elements.{All-head, All-tail}
use Rattle.std.specs.List.{All}
use Rattle.vtl_values.specs.declared.place.Place.{Place}
use Rattle.vtl_tokens.specs.declared.sign.Sign.{Sign as SignOf}
use Rattle.vtl_tokens.specs.declared.sign.Sign.TheVariants.{Semicolon, Comma, LeftParen, RightParen, RightBracket, Hash, Colon}
use Rattle.vtl_tokens.specs.declared.token.TokenKind.{TokenKind}
use Rattle.vtl_tokens.specs.declared.token.TokenKind.TheVariants.{Name, Reserved, Text, Integer, Number, Sign, End}
use Rattle.vtl_lexer.specs.Starts.{LINE_END}
use Rattle.vtl_lexer.specs.Scans.{sign_of}
use Rattle.vtl_lexer.specs.Places.{place_at, place_behind, place_after}
use Rattle.vtl_lexer.specs.Pieces.{piece_of, sign_piece}
use Rattle.vtl_lexer.specs.Texts.{Lexed, tokens_in, joined, piece_then, tokens_from, tokens_of}
use Rattle.vtl_lexer.proofs.TextLemmas.{tokens_from-piece}
use Rattle.vtl_lexer.specs.Tokens.{IsToken}
use Rattle.vtl_printer.specs.Spellings.{token_text}
use Rattle.vtl_printer.specs.Layouts.{BLANK, ends_line, is_opening, is_closing, is_call, is_joined, gap, layout}
use Rattle.vtl_printer.specs.LexedBack.{ReadsAs, AreReadBack}
use Rattle.vtl_printer.proofs.Fronts.{Rest, bytes, nothing, blank, line_end, semicolon, comma, left_paren, right_paren, right_bracket, hash, colon}
use Rattle.vtl_printer.proofs.Words.{Reads, reserved_read, name_read, text_read}
use Rattle.vtl_printer.proofs.Literals.{integer_read, number_read}
use Rattle.vtl_printer.proofs.Signs.{sign_read, opening_read}

-- a token is read before what goes on with none
token_read : (kind : TokenKind) (rest : Rest) → IsToken kind → Reads (token_text kind) (bytes rest) kind
token_read (Name name) rest is = name_read name rest is
token_read (Reserved word) rest is = reserved_read word rest
token_read (Text text) rest is = text_read text rest is
token_read (Integer value) rest is = integer_read value rest is
token_read (Number millionths) rest is = number_read millionths rest is
token_read (Sign sign) rest is = sign_read sign rest
token_read End rest is = absurd is

-- nothing is no token
some_read : (front : List ℕ) (kind : TokenKind) → Reads front [] kind → 0 < length front
unfolding sign_piece sign_of
some_read [] kind read = cc read
some_read (b ∷ bs) kind read = omega arith

-- what stands directly behind a token goes on with none
closing_rest : (next : TokenKind) (behind : List ℕ) → is_closing next ≡ true → (rest : Rest) × (token_text next ++ behind ≡ bytes rest)
closing_rest next behind is = (elim next as (λ k. is_closing k ≡ true → (rest : Rest) × (token_text k ++ behind ≡ bytes rest)) [ Sign sign ↦ of_sign sign | _ ↦ λ e. cc ]) is
  where
    of_sign : (sign : SignOf) → is_closing (Sign sign) ≡ true → (rest : Rest) × (token_text (Sign sign) ++ behind ≡ bytes rest)
    of_sign sign = elim sign as (λ s. is_closing (Sign s) ≡ true → (rest : Rest) × (token_text (Sign s) ++ behind ≡ bytes rest)) [
      | Semicolon ↦ λ e. (semicolon behind, refl)
      | Comma ↦ λ e. (comma behind, refl)
      | RightParen ↦ λ e. (right_paren behind, refl)
      | RightBracket ↦ λ e. (right_bracket behind, refl)
      | Hash ↦ λ e. (hash behind, refl)
      | Colon ↦ λ e. (colon behind, refl)
      | _ ↦ λ e. cc
    ]

call_rest : (before next : TokenKind) (behind : List ℕ) → is_call before next ≡ true → (rest : Rest) × (token_text next ++ behind ≡ bytes rest)
call_rest before next behind is = (elim before as (λ b. is_call b next ≡ true → (rest : Rest) × (token_text next ++ behind ≡ bytes rest)) [
  | Name name ↦ (elim next as (λ k. is_call (Name name) k ≡ true → (rest : Rest) × (token_text k ++ behind ≡ bytes rest)) [
    | Sign sign ↦ (elim sign as (λ s. is_call (Name name) (Sign s) ≡ true → (rest : Rest) × (token_text (Sign s) ++ behind ≡ bytes rest)) [ LeftParen ↦ λ e. (left_paren behind, refl) | _ ↦ λ e. cc ])
    | _ ↦ λ e. cc
  ])
  | Reserved word ↦ (elim next as (λ k. is_call (Reserved word) k ≡ true → (rest : Rest) × (token_text k ++ behind ≡ bytes rest)) [
    | Sign sign ↦ (elim sign as (λ s. is_call (Reserved word) (Sign s) ≡ true → (rest : Rest) × (token_text (Sign s) ++ behind ≡ bytes rest)) [ LeftParen ↦ λ e. (left_paren behind, refl) | _ ↦ λ e. cc ])
    | _ ↦ λ e. cc
  ])
  | _ ↦ λ e. cc
]) is

-- a token is read before one that is joined to it
joined_read : (before next : TokenKind) (behind : List ℕ) → IsToken before → (opening closing : Bool) → is_opening before ≡ opening → is_closing next ≡ closing → (opening || (closing || is_call before next)) ≡ true → Reads (token_text before) (token_text next ++ behind) before
joined_read before next behind is true closing opens closes one = opening_read before (token_text next ++ behind) opens
joined_read before next behind is false true opens closes one =
    let rest : (rest : Rest) × (token_text next ++ behind ≡ bytes rest) = closing_rest next behind closes in
    subst (λ l. Reads (token_text before) l before) (sym rest.1) (token_read before rest.0 is)
joined_read before next behind is false false opens closes one =
    let rest : (rest : Rest) × (token_text next ++ behind ≡ bytes rest) = call_rest before next behind one in
    subst (λ l. Reads (token_text before) l before) (sym rest.1) (token_read before rest.0 is)

-- a token is read before the layout of those behind it
last_read : (kind : TokenKind) → IsToken kind → (ends : Bool) → Reads (token_text kind) ((if ends then LINE_END ∷ [] else []) ++ []) kind
last_read kind is true = token_read kind (line_end []) is
last_read kind is false = token_read kind nothing is

next_read : (kind next : TokenKind) (behind : List ℕ) → IsToken kind → (ends joins : Bool) → is_joined kind next ≡ joins → Reads (token_text kind) ((if ends then LINE_END ∷ [] else if joins then [] else BLANK ∷ []) ++ (token_text next ++ behind)) kind
next_read kind next behind is true joins e = token_read kind (line_end (token_text next ++ behind)) is
next_read kind next behind is false true e = joined_read kind next behind is (is_opening kind) (is_closing next) refl refl e
next_read kind next behind is false false e = token_read kind (blank (token_text next ++ behind)) is

read_before : (kind : TokenKind) (kinds : List TokenKind) → IsToken kind → Reads (token_text kind) (gap kind kinds ++ layout kinds) kind
read_before kind [] is = last_read kind is (ends_line kind)
read_before kind (next ∷ kinds) is = next_read kind next (gap next kinds ++ layout kinds) is (ends_line kind) (is_joined kind next) refl

-- the text is read as these kinds, wherever it begins
abbrev ReadsAnywhere : List TokenKind → List ℕ → Type 0
ReadsAnywhere kinds text = (place : Place) → ReadsAs kinds (tokens_from 0 place text)

joined-ReadsAs : (place : Place) (kind : TokenKind) (kinds : List TokenKind) (behind : Lexed) → ReadsAs kinds behind → ReadsAs (kind ∷ kinds) (joined (tokens_in place (Some kind)) behind)
joined-ReadsAs place kind kinds (Ok tokens) reads = ap (λ ks. kind ∷ ks) reads
joined-ReadsAs place kind kinds (Err fault) reads = absurd reads

none-ReadsAs : (kinds : List TokenKind) (behind : Lexed) → ReadsAs kinds behind → ReadsAs kinds (joined [] behind)
none-ReadsAs kinds (Ok tokens) reads = reads
none-ReadsAs kinds (Err fault) reads = absurd reads

token_step : (kind : TokenKind) (kinds : List TokenKind) (front rest : List ℕ) → Reads front rest kind → 0 < length front → ReadsAnywhere kinds rest → ReadsAnywhere (kind ∷ kinds) (front ++ rest)
token_step kind kinds front rest read some behind place =
    let text = front ++ rest in
    let next = place_after place (take (length front) text) in
    let step : tokens_from 0 place text ≡ joined (tokens_in place (Some kind)) (tokens_from 0 next (drop (length front) text)) = tokens_from-piece place text (Some kind) (length front) read some (omega (arith, length-append front rest)) in
    let left : drop (length front) text ≡ rest = drop_at front rest (length front) refl in
    subst (ReadsAs (kind ∷ kinds)) (sym (step ∙ ap (λ l. joined (tokens_in place (Some kind)) (tokens_from 0 next l)) left)) (joined-ReadsAs place kind kinds (tokens_from 0 next rest) (behind next))

-- a blank or a line end before a text
blank_piece : (rest : List ℕ) → piece_of (BLANK ∷ rest) ≡ Ok (None, 1)
blank_piece [] = refl
blank_piece (b ∷ bs) = refl

line_end_piece : (rest : List ℕ) → piece_of (LINE_END ∷ rest) ≡ Ok (None, 1)
line_end_piece [] = refl
line_end_piece (b ∷ bs) = refl

blank_step : (b : ℕ) (kinds : List TokenKind) (rest : List ℕ) → piece_of (b ∷ rest) ≡ Ok (None, 1) → ReadsAnywhere kinds rest → ReadsAnywhere kinds (b ∷ rest)
blank_step b kinds rest read behind place =
    subst (ReadsAs kinds) (sym (ap (λ r. piece_then place r (λ n. tokens_from (n - 1) (place_behind place b) rest)) read))
    (none-ReadsAs kinds (tokens_from 0 (place_behind place b) rest) (behind (place_behind place b)))

last_gap : (kinds : List TokenKind) (rest : List ℕ) → ReadsAnywhere kinds rest → (ends : Bool) → ReadsAnywhere kinds ((if ends then LINE_END ∷ [] else []) ++ rest)
last_gap kinds rest reads true = blank_step LINE_END kinds rest (line_end_piece rest) reads
last_gap kinds rest reads false = reads

next_gap : (kinds : List TokenKind) (rest : List ℕ) → ReadsAnywhere kinds rest → (ends joins : Bool) → ReadsAnywhere kinds ((if ends then LINE_END ∷ [] else if joins then [] else BLANK ∷ []) ++ rest)
next_gap kinds rest reads true joins = blank_step LINE_END kinds rest (line_end_piece rest) reads
next_gap kinds rest reads false true = reads
next_gap kinds rest reads false false = blank_step BLANK kinds rest (blank_piece rest) reads

gap_step : (kind : TokenKind) (kinds : List TokenKind) → ReadsAnywhere kinds (layout kinds) → ReadsAnywhere kinds (gap kind kinds ++ layout kinds)
gap_step kind [] reads = last_gap [] [] reads (ends_line kind)
gap_step kind (next ∷ kinds) reads = next_gap (next ∷ kinds) (layout (next ∷ kinds)) reads (ends_line kind) (is_joined kind next)

layout_reads : (kinds : List TokenKind) → All IsToken kinds → ReadsAnywhere kinds (layout kinds)
layout_reads [] each = λ place. refl
layout_reads (kind ∷ kinds) each =
    let is : IsToken kind = All-head IsToken kind kinds each in
    token_step kind kinds (token_text kind) (gap kind kinds ++ layout kinds) (read_before kind kinds is) (some_read (token_text kind) kind (token_read kind nothing is))
    (gap_step kind kinds (layout_reads kinds (All-tail IsToken kind kinds each)))

pub layout_read_back : (kinds : List TokenKind) (text : List ℕ) → text ≡ layout kinds → AreReadBack kinds text
layout_read_back kinds text is each = subst (λ (t : List ℕ). ReadsAs kinds (tokens_of t)) (sym is) (layout_reads kinds each (place_at 1 1))
