-- What is read of a text is tokens that texts have.
use Rattle.std.proofs.Common.{◌≡◌, ◌==◌, ℕ, zero, suc, ◌+◌, ◌-◌, ◌<◌, Bool, true, false, not, nat_lt, if◌then◌else◌, List, [], ◌∷◌, length, take, drop, get_or, Option, Some, None, Result, Ok, Err, chars, ℤ, refl, sym, ap, subst, ◌∙◌, arith}
use Rattle.std.proofs.Math.Utf8.{encodes}
use Rattle.std.proofs.lemmas.Bool.Decides.{nat_tests}
use Rattle.std.proofs.lemmas.List.{get_or-take, length-take}
use Rattle.std.proofs.lemmas.List.Elements.{All-nil, All-cons, All-from_get_or}
use Rattle.std.proofs.lemmas.List.Folds.{list_any_none}
use Rattle.std.proofs.lemmas.List.Sums.{fails_before_first, prefix_len-le-length}
use Rattle.std.proofs.lemmas.Str.{encodes-chars, scalars-chars, IsUtf8-from_is_utf8, IsUtf8-from_ascii}
use Rattle.std.specs.Bool.{⊤}
use Rattle.std.specs.Char.{is_ascii_digit, is_ascii_alphabetic}
use Rattle.std.specs.List.{position_or_len, list_any}
use Rattle.std.specs.Result.{result_map_both}
use Rattle.std.specs.Str.{IsUtf8, is_utf8}
use Rattle.vtl_values.specs.declared.kind.Kind.TheVariants.{Integer as IntegerKind, Number as NumberKind}
use Rattle.vtl_values.specs.declared.place.Place.{Place}
use Rattle.vtl_values.specs.declared.read.BadText.{BadText}
use Rattle.vtl_values.specs.declared.read.BadText.TheVariants.{NotANumber, TooFine, OutOfRange, NotAnInteger}
use Rattle.vtl_values.specs.declared.value.Value.TheVariants.{Integer as IntegerValue, Number as NumberValue}
use Rattle.vtl_values.specs.Numerals.{MINUS, signed, begins_with, without_first, is_digits, is_number, is_negative, is_too_fine, whole_of, decimals_of, millionths_of, integer_of, number_of}
use Rattle.vtl_values.specs.Ranges.{MOST_INTEGER, MOST_MILLIONTHS}
use Rattle.std.specs.Str.Parse.{digits_value}
use Rattle.vtl_values.proofs.Spelled.{fits}
use Rattle.vtl_tokens.specs.declared.keyword.Keyword.{Keyword}
use Rattle.vtl_tokens.specs.declared.sign.Sign.{Sign as SignOf}
use Rattle.vtl_tokens.specs.declared.token.Token.{Token}
use Rattle.vtl_tokens.specs.declared.token.TokenKind.{TokenKind}
use Rattle.vtl_tokens.specs.declared.token.TokenKind.TheVariants.{Name, Text, Integer, Number}
use Rattle.vtl_tokens.specs.Keywords.{keyword_of}
use Rattle.vtl_lexer.specs.declared.start.Start.TheVariants.{Blank, LineComment, BlockComment, QuotedName, Text as TextStart, Literal, Word, Other}
use Rattle.vtl_lexer.specs.declared.stop.LexFault.{LexFault}
use Rattle.vtl_lexer.specs.declared.stop.LexFault.TheVariants.{BadByte, OpenString, OpenComment}
use Rattle.vtl_lexer.specs.Starts.{APOSTROPHE, QUOTE, STAR, SLASH, is_blank, is_name_byte, first_passes, slash_start}
use Rattle.vtl_lexer.specs.Scans.{is_line_end, ends_name, word_len, digits_len, has_decimals, number_len, before_close, string_at, sign_of}
use Rattle.vtl_lexer.specs.Literals.{numeral, literal_token}
use Rattle.vtl_lexer.specs.Pieces.{Piece, line_comment, block_comment, quoted_name, text_piece, word_kind, word_piece, literal_piece, sign_piece, piece_at, piece_of}
use Rattle.vtl_lexer.specs.Places.{place_at, place_behind}
use Rattle.vtl_lexer.specs.Texts.{Lexed, tokens_in, joined, piece_then, tokens_from, tokens_of}
use Rattle.vtl_lexer.proofs.PieceLemmas.{word-IsAscii, word_len-some}
use Rattle.vtl_lexer.specs.Tokens.{IsName, IsIntegerLiteral, IsNumberLiteral, IsToken, AreOfText}
use Rattle.vtl_lexer.proofs.CharBytes.{any-encodes, ends_name-PassesAscii}

-- what is read is a token that texts have, or stands between tokens
abbrev IsTokenIfAny : Option TokenKind → Type 0
IsTokenIfAny None = ⊤
IsTokenIfAny (Some kind) = IsToken kind

abbrev IsReadRightly : Result Piece LexFault → Type 0
IsReadRightly (Ok piece) = IsTokenIfAny piece.0
IsReadRightly (Err fault) = ⊤

-- comments

line_by : (utf8 : Bool) (n : ℕ) → IsReadRightly (if utf8 then Ok (None, n) else Err BadByte)
line_by true n = tt
line_by false n = tt

line_is : (behind : List ℕ) → IsReadRightly (line_comment behind)
unfolding line_comment
line_is behind = line_by (is_utf8 (take (position_or_len is_line_end behind) behind)) _

block_by : (utf8 closed : Bool) (n : ℕ) → IsReadRightly (if not utf8 then Err BadByte else if closed then Ok (None, n) else Err OpenComment)
block_by false closed n = tt
block_by true true n = tt
block_by true false n = tt

block_is : (behind : List ℕ) → IsReadRightly (block_comment behind)
unfolding block_comment
block_is behind = block_by (is_utf8 (take (before_close behind) behind)) (nat_lt (before_close behind) (length behind)) _

-- names

-- none passes before the first that does
none_before : (test : ℕ → Bool) (xs : List ℕ) → list_any test (take (position_or_len test xs) xs) ≡ false
none_before test xs =
    let n = position_or_len test xs in
    list_any_none test (take n xs)
    (All-from_get_or (λ x. test x ≡ false) (take n xs) 0 (λ k inside.
    let below : k < n = omega (arith, length-take n xs) in
    ap test (get_or-take n xs k 0 below) ∙ fails_before_first test xs k 0 below))

length-front : (test : ℕ → Bool) (xs : List ℕ) → length (take (position_or_len test xs) xs) ≡ position_or_len test xs
length-front test xs = omega (arith, length-take (position_or_len test xs) xs, prefix_len-le-length (λ x. not (test x)) xs)

some_chars : (text cs : List ℕ) → encodes cs ≡ text → 0 < length text → 0 < length cs
some_chars text [] is some = (let none : 0 ≡ length text = ap length is in absurd (omega arith))
some_chars text (c ∷ cs) is some = omega arith

name_is : (text : List ℕ) → IsUtf8 text → 0 < length text → list_any ends_name text ≡ false → IsName (chars text)
name_is text utf8 some unbroken = record {
  characters = scalars-chars text utf8;
  some = some_chars text (chars text) (encodes-chars text utf8) some;
  unbroken = sym (any-encodes ends_name ends_name-PassesAscii (chars text)) ∙ ap (list_any ends_name) (encodes-chars text utf8) ∙ unbroken;
}

quoted_is : (behind : List ℕ) → IsReadRightly (quoted_name behind)
unfolding quoted_name
quoted_is behind = by (is_utf8 front) (first_passes (λ b. b == APOSTROPHE) (drop n behind)) (n == 0) refl refl
  where
    n : ℕ
    n = position_or_len ends_name behind

    front : List ℕ
    front = take n behind

    by : (utf8 closed none : Bool) → is_utf8 front ≡ utf8 → (n == 0) ≡ none → IsReadRightly (if not utf8 then Err BadByte else if not closed then Err OpenString else if none then Err BadByte else Ok (Some (Name (chars front)), 2 + n))
    by false closed none u z = tt
    by true false none u z = tt
    by true true true u z = tt
    by true true false u z =
        let some : 0 < n = grind (arith, nat_tests) in
        name_is front (IsUtf8-from_is_utf8 front u) (omega (arith, length-front ends_name behind)) (none_before ends_name behind)

name_byte : (b : ℕ) → not (is_name_byte b) ≡ false → ends_name b ≡ false
name_byte b is = grind (arith, nat_tests)

word_unbroken : (text : List ℕ) → list_any ends_name (take (word_len text) text) ≡ false
word_unbroken text =
    let n = word_len text in
    list_any_none ends_name (take n text)
    (All-from_get_or (λ b. ends_name b ≡ false) (take n text) 0 (λ k inside.
    let below : k < n = omega (arith, length-take n text) in
    ap ends_name (get_or-take n text k 0 below) ∙ name_byte (get_or text k 0) (fails_before_first (λ b. not (is_name_byte b)) text k 0 below)))

word_is : (text : List ℕ) → first_passes is_ascii_alphabetic text ≡ true → IsReadRightly (word_piece text)
unfolding word_piece
word_is text letter = by (keyword_of word)
  where
    word : List ℕ
    word = take (word_len text) text

    by : (found : Option Keyword) → IsToken (word_kind word found)
    by None = name_is word (IsUtf8-from_ascii word (word-IsAscii text)) (omega (arith, word_len-some text letter, length-front (λ b. not (is_name_byte b)) text)) (word_unbroken text)
    by (Some keyword) = tt

-- texts

text_is : (behind : List ℕ) → IsReadRightly (text_piece behind)
unfolding text_piece
text_is behind = by (string_at behind) (is_utf8 (string_at behind).0) (nat_lt (string_at behind).1 (length behind)) refl
  where
    by : (read : List ℕ × ℕ) (utf8 closed : Bool) → is_utf8 read.0 ≡ utf8 → IsReadRightly (if not utf8 then Err BadByte else if closed then Ok (Some (Text (chars read.0)), 2 + read.1) else Err OpenString)
    by read false closed u = tt
    by read true false u = tt
    by read true true u = scalars-chars read.0 (IsUtf8-from_is_utf8 read.0 u)

-- literals

-- what begins with a digit has no sign
unsigned_front : (n : ℕ) (text : List ℕ) → first_passes is_ascii_digit text ≡ true → begins_with MINUS (take n text) ≡ false
unsigned_front n [] digit = cc
unsigned_front zero (b ∷ bs) digit = refl
unsigned_front (suc n) (b ∷ bs) digit = grind (arith, nat_tests)

signed_is : (sign : Bool) (n : ℕ) (z : ℤ) → sign ≡ false → signed sign n ≡ z → is_negative z ≡ false
signed_is sign n z none is = sym (ap is_negative is) ∙ ap (λ s. is_negative (signed s n)) none

number_unsigned : (text : List ℕ) (z : ℤ) → begins_with MINUS text ≡ false → number_of text ≡ Ok z → is_negative z ≡ false
number_unsigned text z none is = by (is_number text) (is_too_fine (decimals_of text)) (nat_lt MOST_MILLIONTHS millionths) is
  where
    millionths : ℕ
    millionths = millionths_of (whole_of text) (decimals_of text)

    answer : Bool → Bool → Bool → Result ℤ BadText
    answer number fine out = if not number then Err NotANumber else if fine then Err TooFine else if out then Err OutOfRange else Ok (signed (begins_with MINUS text) millionths)

    by : (number fine out : Bool) → answer number fine out ≡ Ok z → is_negative z ≡ false
    by false fine out e = cc
    by true true out e = cc
    by true false true e = cc
    by true false false e = signed_is (begins_with MINUS text) millionths z none cc

integer_unsigned : (text : List ℕ) (z : ℤ) → begins_with MINUS text ≡ false → integer_of text ≡ Ok z → is_negative z ≡ false
integer_unsigned text z none is = by (is_digits digits) (nat_lt MOST_INTEGER (digits_value 10 digits)) is
  where
    digits : List ℕ
    digits = without_first MINUS text

    by : (all out : Bool) → (if not all then Err NotAnInteger else if out then Err OutOfRange else Ok (signed (begins_with MINUS text) (digits_value 10 digits))) ≡ Ok z → is_negative z ≡ false
    by false out e = cc
    by true true e = cc
    by true false e = signed_is (begins_with MINUS text) (digits_value 10 digits) z none cc

number_is : (text : List ℕ) (z : ℤ) → begins_with MINUS text ≡ false → number_of text ≡ Ok z → IsNumberLiteral z
number_is [] z none is = cc
number_is (c ∷ cs) z none is = record {
  unsigned = number_unsigned (c ∷ cs) z none is;
  within = fits NumberKind (c ∷ cs) (NumberValue z) (ap (result_map_both NumberValue (λ e. e)) is);
}

integer_is : (text : List ℕ) (z : ℤ) → begins_with MINUS text ≡ false → integer_of text ≡ Ok z → IsIntegerLiteral z
integer_is [] z none is = cc
integer_is (c ∷ cs) z none is = record {
  unsigned = integer_unsigned (c ∷ cs) z none is;
  within = fits IntegerKind (c ∷ cs) (IntegerValue z) (ap (result_map_both IntegerValue (λ e. e)) is);
}

literal_by : (kind : ℤ → TokenKind) (n : ℕ) (read : Result ℤ BadText) → ((z : ℤ) → read ≡ Ok z → IsToken (kind z)) → IsReadRightly (literal_token kind n (numeral read))
literal_by kind n (Ok z) is = is z refl
literal_by kind n (Err bad) is = tt

literal_is : (text : List ℕ) → first_passes is_ascii_digit text ≡ true → IsReadRightly (literal_piece text)
unfolding literal_piece
literal_is text digit = by (has_decimals text)
  where
    number : List ℕ
    number = take (number_len text) text

    integer : List ℕ
    integer = take (digits_len text) text

    by : (decimals : Bool) → IsReadRightly (if decimals then literal_token Number (number_len text) (numeral (number_of number)) else literal_token Integer (digits_len text) (numeral (integer_of integer)))
    by true = literal_by Number (number_len text) (number_of number) (λ z read. number_is number z (unsigned_front (number_len text) text digit) read)
    by false = literal_by Integer (digits_len text) (integer_of integer) (λ z read. integer_is integer z (unsigned_front (digits_len text) text digit) read)

-- signs

sign_is : (found : Option SignOf) → IsReadRightly (sign_piece found)
unfolding sign_piece
sign_is None = tt
sign_is (Some sign) = tt

slash_is : (next : Option ℕ) (text : List ℕ) → IsReadRightly (piece_at (slash_start next) text)
slash_is None text = sign_is (sign_of text)
slash_is (Some c) text = by (c == SLASH) (c == STAR)
  where
    by : (slash star : Bool) → IsReadRightly (piece_at (if slash then LineComment else if star then BlockComment else Other) text)
    by true star = line_is (drop 2 text)
    by false true = block_is (drop 2 text)
    by false false = sign_is (sign_of text)

-- any piece, by what its first byte is

piece_by : (text : List ℕ) (next : Option ℕ) (blank slash apostrophe quote digit letter : Bool) → first_passes is_ascii_digit text ≡ digit → first_passes is_ascii_alphabetic text ≡ letter → IsReadRightly (piece_at (if blank then Blank else if slash then slash_start next else if apostrophe then QuotedName else if quote then TextStart else if digit then Literal else if letter then Word else Other) text)
piece_by text next true slash apostrophe quote digit letter d l = tt
piece_by text next false true apostrophe quote digit letter d l = slash_is next text
piece_by text next false false true quote digit letter d l = quoted_is (drop 1 text)
piece_by text next false false false true digit letter d l = text_is (drop 1 text)
piece_by text next false false false false true letter d l = literal_is text d
piece_by text next false false false false false true d l = word_is text l
piece_by text next false false false false false false d l = sign_is (sign_of text)

piece_is : (text : List ℕ) → IsReadRightly (piece_of text)
piece_is [] = sign_is (sign_of [])
piece_is (b ∷ []) = piece_by (b ∷ []) None (is_blank b) (b == SLASH) (b == APOSTROPHE) (b == QUOTE) (is_ascii_digit b) (is_ascii_alphabetic b) refl refl
piece_is (b ∷ c ∷ bs) = piece_by (b ∷ c ∷ bs) (Some c) (is_blank b) (b == SLASH) (b == APOSTROPHE) (b == QUOTE) (is_ascii_digit b) (is_ascii_alphabetic b) refl refl

-- all tokens

abbrev AreReadRightly : Lexed → Type 0
AreReadRightly (Ok tokens) = AreOfText tokens
AreReadRightly (Err fault) = ⊤

joined_are : (place : Place) (kind : Option TokenKind) (behind : Lexed) → IsTokenIfAny kind → AreReadRightly behind → AreReadRightly (joined (tokens_in place kind) behind)
joined_are place kind (Err fault) is are = tt
joined_are place None (Ok tokens) is are = are
joined_are place (Some kind) (Ok tokens) is are = record { before = kind ∷ are.before; ended = ap (λ kinds. kind ∷ kinds) are.ended; each = All-cons IsToken kind are.before is are.each }

piece_then_are : (place : Place) (read : Result Piece LexFault) (behind : ℕ → Lexed) → IsReadRightly read → ((n : ℕ) → AreReadRightly (behind n)) → AreReadRightly (piece_then place read behind)
piece_then_are place (Ok piece) behind is are = joined_are place piece.0 (behind piece.1) is (are piece.1)
piece_then_are place (Err fault) behind is are = tt

tokens_are : (text : List ℕ) (passed : ℕ) (place : Place) → AreReadRightly (tokens_from passed place text)
tokens_are [] zero place = record { before = []; ended = refl; each = All-nil IsToken }
tokens_are [] (suc passed) place = record { before = []; ended = refl; each = All-nil IsToken }
tokens_are (b ∷ bs) (suc passed) place = tokens_are bs passed (place_behind place b)
tokens_are (b ∷ bs) zero place = piece_then_are place (piece_of (b ∷ bs)) (λ n. tokens_from (n - 1) (place_behind place b) bs) (piece_is (b ∷ bs)) (λ n. tokens_are bs (n - 1) (place_behind place b))

pub read_are : (text : List ℕ) (tokens : List Token) → tokens_of text ≡ Ok tokens → AreOfText tokens
read_are text tokens is = subst AreReadRightly is (tokens_are text 0 (place_at 1 1))
