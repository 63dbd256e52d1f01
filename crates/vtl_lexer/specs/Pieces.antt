-- What stands at the front of a text: a token, or what may stand between tokens (docs/language.md, "Tokens").
use Rattle.std.specs.Prelude.{ℕ, ◌+◌, ◌==◌, not, nat_lt, if◌then◌else◌, List, length, take, drop, chars, Option, Some, None, Result, Ok, Err}
use Rattle.std.specs.List.{position_or_len}
use Rattle.std.specs.Str.{is_utf8}
use Rattle.vtl_values.specs.Numerals.{integer_of, number_of}
use Rattle.vtl_tokens.specs.declared.sign.Sign.{Sign as SignOf}
use Rattle.vtl_tokens.specs.declared.keyword.Keyword.{Keyword}
use Rattle.vtl_tokens.specs.declared.token.TokenKind.{TokenKind}
use Rattle.vtl_tokens.specs.declared.token.TokenKind.TheVariants.{Name, Reserved, Text, Integer, Number, Sign}
use Rattle.vtl_tokens.specs.Keywords.{keyword_of}
use Rattle.vtl_tokens.specs.Signs.{sign_text}
use Rattle.vtl_lexer.specs.declared.start.Start.{Start}
use Rattle.vtl_lexer.specs.declared.start.Start.TheVariants.{Blank, LineComment, BlockComment, QuotedName, Text as TextStart, Literal, Word, Other}
use Rattle.vtl_lexer.specs.declared.stop.LexFault.{LexFault}
use Rattle.vtl_lexer.specs.declared.stop.LexFault.TheVariants.{BadByte, OpenString, OpenComment}
use Rattle.vtl_lexer.specs.Literals.{numeral, literal_token}
use Rattle.vtl_lexer.specs.Starts.{APOSTROPHE, first_passes, start_of}
use Rattle.vtl_lexer.specs.Scans.{is_line_end, ends_name, word_len, digits_len, has_decimals, number_len, before_close, string_at, sign_of}

-- a token, or none where it stands between tokens, and how many bytes it takes
abbrev pub Piece : Type 0
Piece = Option TokenKind × ℕ

-- after `//` goes a comment to the line's end
unfoldable pub line_comment : List ℕ → Result Piece LexFault
line_comment behind =
    let n = position_or_len is_line_end behind in
    if is_utf8 (take n behind) then Ok (None, 2 + n) else Err BadByte

-- after `/*` goes a comment to the first `*/`
unfoldable pub block_comment : List ℕ → Result Piece LexFault
block_comment behind =
    let n = before_close behind in
    if not (is_utf8 (take n behind)) then Err BadByte
    else if nat_lt n (length behind) then Ok (None, 4 + n)
    else Err OpenComment

-- after a single quote goes a name to the next one in the line
unfoldable pub quoted_name : List ℕ → Result Piece LexFault
quoted_name behind =
    let n = position_or_len ends_name behind in
    if not (is_utf8 (take n behind)) then Err BadByte
    else if not (first_passes (λ b. b == APOSTROPHE) (drop n behind)) then Err OpenString
    else if n == 0 then Err BadByte
    else Ok (Some (Name (chars (take n behind))), 2 + n)

-- after a double quote goes a string to the next one that isn't doubled
unfoldable pub text_piece : List ℕ → Result Piece LexFault
text_piece behind =
    let read = string_at behind in
    if not (is_utf8 read.0) then Err BadByte
    else if nat_lt read.1 (length behind) then Ok (Some (Text (chars read.0)), 2 + read.1)
    else Err OpenString

-- a word is reserved, or a name
abbrev pub word_kind : List ℕ → Option Keyword → TokenKind
word_kind word None = Name (chars word)
word_kind word (Some keyword) = Reserved keyword

unfoldable pub word_piece : List ℕ → Result Piece LexFault
word_piece text =
    let word = take (word_len text) text in
    Ok (Some (word_kind word (keyword_of word)), word_len text)

-- a literal is read as the numerals of fields are; one that is refused there is too long
unfoldable pub literal_piece : List ℕ → Result Piece LexFault
literal_piece text =
    if has_decimals text
    then literal_token Number (number_len text) (numeral (number_of (take (number_len text) text)))
    else literal_token Integer (digits_len text) (numeral (integer_of (take (digits_len text) text)))

unfoldable pub sign_piece : Option SignOf → Result Piece LexFault
sign_piece None = Err BadByte
sign_piece (Some sign) = Ok (Some (Sign sign), length (sign_text sign))

abbrev pub piece_at : Start → List ℕ → Result Piece LexFault
piece_at Blank text = Ok (None, 1)
piece_at LineComment text = line_comment (drop 2 text)
piece_at BlockComment text = block_comment (drop 2 text)
piece_at QuotedName text = quoted_name (drop 1 text)
piece_at TextStart text = text_piece (drop 1 text)
piece_at Literal text = literal_piece text
piece_at Word text = word_piece text
piece_at Other text = sign_piece (sign_of text)

-- the piece at the front of a text
abbrev pub piece_of : List ℕ → Result Piece LexFault
piece_of text = piece_at (start_of text) text
