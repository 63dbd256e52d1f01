-- Words, names and texts are read back.
use Rattle.std.proofs.Common.{◌≡◌, ◌==◌, ℕ, ◌+◌, ◌<◌, Bool, true, false, not, nat_lt, is_none, if◌then◌else◌, List, [], ◌∷◌, ◌++◌, length, take, drop, chars, Option, Some, None, Result, Ok, Err, refl, sym, ap, ◌∙◌, arith, append_assoc, length-append}
use Rattle.std.proofs.Math.Utf8.{encodes}
use Rattle.std.proofs.lemmas.Bool.Decides.{nat_tests}
use Rattle.std.proofs.lemmas.List.{take_at, drop_at}
use Rattle.std.proofs.lemmas.Str.{chars-encodes, is_utf8-from_IsUtf8, length-le-encodes}
use Rattle.std.specs.Char.{is_ascii_alphabetic}
use Rattle.std.specs.List.{position_or_len, list_any}
use Rattle.std.specs.Str.{is_utf8, all_scalars}
use Rattle.vtl_tokens.specs.declared.keyword.Keyword.{Keyword}
use Rattle.vtl_tokens.specs.declared.keyword.Keyword.TheVariants.{Define}
use Rattle.vtl_tokens.specs.declared.token.TokenKind.{TokenKind}
use Rattle.vtl_tokens.specs.declared.token.TokenKind.TheVariants.{Name, Reserved, Text}
use Rattle.vtl_tokens.specs.Keywords.{word_of, keyword_of}
use Rattle.vtl_tokens.proofs.KeywordLemmas.{written_word_is_found}
use Rattle.vtl_lexer.specs.declared.start.Start.{Start}
use Rattle.vtl_lexer.specs.declared.start.Start.TheVariants.{QuotedName, Text as TextStart, Word}
use Rattle.vtl_lexer.specs.declared.stop.LexFault.{LexFault}
use Rattle.vtl_lexer.specs.declared.stop.LexFault.TheVariants.{BadByte, OpenString}
use Rattle.vtl_lexer.specs.Starts.{QUOTE, APOSTROPHE, first_passes, start_of}
use Rattle.vtl_lexer.specs.Scans.{ends_name, word_len, string_at, ahead}
use Rattle.vtl_lexer.specs.Pieces.{Piece, piece_of, piece_at, quoted_name, text_piece, word_kind, word_piece}
use Rattle.vtl_lexer.specs.Tokens.{IsName}
use Rattle.vtl_printer.specs.Spellings.{between, has_name_shape, is_bare, name_text, doubled}
use Rattle.vtl_lexer.proofs.CharBytes.{any-encodes, ends_name-PassesAscii}
use Rattle.vtl_printer.proofs.CharBytes.{is_quote}
use Rattle.vtl_lexer.proofs.PieceLemmas.{both}
use Rattle.vtl_printer.proofs.Fronts.{Rest, bytes, no_quote, word_stops, position-first, word_start}

-- the text is read as this kind, before that
abbrev pub Reads : List ℕ → List ℕ → TokenKind → Type 0
Reads front rest kind = piece_of (front ++ rest) ≡ Ok (Some kind, length front)

pub at_start : (text : List ℕ) (start : Start) (read : Result Piece LexFault) → start_of text ≡ start → piece_at start text ≡ read → piece_of text ≡ read
at_start text start read is at = ap (λ s. piece_at s text) is ∙ at

-- words

word_piece-is : (word : List ℕ) (rest : Rest) → word_len word ≡ length word → word_piece (word ++ bytes rest) ≡ Ok (Some (word_kind word (keyword_of word)), length word)
unfolding word_piece
word_piece-is word rest all =
    let len : word_len (word ++ bytes rest) ≡ length word = word_stops word rest all in
    let front : take (word_len (word ++ bytes rest)) (word ++ bytes rest) ≡ word = ap (λ n. take n (word ++ bytes rest)) len ∙ take_at word (bytes rest) (length word) refl in
    λ i. Ok (Some (word_kind (front i) (keyword_of (front i))), len i)

word_read : (word : List ℕ) (rest : Rest) (kind : TokenKind) → first_passes is_ascii_alphabetic word ≡ true → word_len word ≡ length word → word_kind word (keyword_of word) ≡ kind → Reads word (bytes rest) kind
word_read [] rest kind letter all is = cc
word_read (b ∷ bs) rest kind letter all is =
    at_start ((b ∷ bs) ++ bytes rest) Word (Ok (Some kind, length (b ∷ bs))) (word_start b (bs ++ bytes rest) letter)
    (word_piece-is (b ∷ bs) rest all ∙ ap (λ k. Ok (Some k, length (b ∷ bs))) is)

word_begins : (word : Keyword) → first_passes is_ascii_alphabetic (word_of word) ≡ true
word_begins word = elim word as (λ w. first_passes is_ascii_alphabetic (word_of w) ≡ true) [ Define ↦ refl | _ ↦ refl ]

word_through : (word : Keyword) → word_len (word_of word) ≡ length (word_of word)
word_through word = elim word as (λ w. word_len (word_of w) ≡ length (word_of w)) [ Define ↦ refl | _ ↦ refl ]

pub reserved_read : (word : Keyword) (rest : Rest) → Reads (word_of word) (bytes rest) (Reserved word)
reserved_read word rest = word_read (word_of word) rest (Reserved word) (word_begins word) (word_through word) (ap (word_kind (word_of word)) (written_word_is_found word))

-- names

none_found : (found : Option Keyword) → is_none found ≡ true → found ≡ None
none_found None is = refl
none_found (Some word) is = cc

bare_read : (name : List ℕ) (rest : Rest) → all_scalars name ≡ true → is_bare (encodes name) ≡ true → Reads (encodes name) (bytes rest) (Name name)
bare_read name rest characters bare =
    let text = encodes name in
    let two : (has_name_shape text ≡ true) × (is_none (keyword_of text) ≡ true) = both (has_name_shape text) (is_none (keyword_of text)) bare in
    let shape : (first_passes is_ascii_alphabetic text ≡ true) × ((word_len text == length text) ≡ true) = both (first_passes is_ascii_alphabetic text) (word_len text == length text) two.0 in
    let through : word_len text ≡ length text = (let e : (word_len text == length text) ≡ true = shape.1 in grind (arith, nat_tests)) in
    word_read text rest (Name name) shape.0 through (ap (word_kind text) (none_found (keyword_of text) two.1) ∙ ap Name (chars-encodes name characters))

-- what is read behind a single quote, by how far the name goes
abbrev quoted_by : ℕ → List ℕ → List ℕ → Result Piece LexFault
quoted_by n front back =
    if not (is_utf8 front) then Err BadByte
    else if not (first_passes (λ b. b == APOSTROPHE) back) then Err OpenString
    else if n == 0 then Err BadByte
    else Ok (Some (Name (chars front)), 2 + n)

quoted_name-is : (name rest : List ℕ) → is_utf8 name ≡ true → list_any ends_name name ≡ false → 0 < length name → quoted_name (name ++ APOSTROPHE ∷ rest) ≡ Ok (Some (Name (chars name)), 2 + length name)
unfolding quoted_name
quoted_name-is name rest utf8 unbroken some =
    let behind = name ++ APOSTROPHE ∷ rest in
    let n : position_or_len ends_name behind ≡ length name = position-first ends_name name rest APOSTROPHE unbroken refl in
    let front : take (position_or_len ends_name behind) behind ≡ name = ap (λ m. take m behind) n ∙ take_at name (APOSTROPHE ∷ rest) (length name) refl in
    let back : drop (position_or_len ends_name behind) behind ≡ APOSTROPHE ∷ rest = ap (λ m. drop m behind) n ∙ drop_at name (APOSTROPHE ∷ rest) (length name) refl in
    let filled : (length name == 0) ≡ false = grind (arith, nat_tests) in
    (λ i. quoted_by (n i) (front i) (back i)) ∙ rw (utf8, filled) refl

quoted_start : (xs : List ℕ) → start_of (APOSTROPHE ∷ xs) ≡ QuotedName
quoted_start [] = refl
quoted_start (x ∷ xs) = refl

length-between : (quote : ℕ) (text : List ℕ) → length (between quote text) ≡ 2 + length text
length-between quote text = omega (arith, length-append text (quote ∷ []))

utf8 : (cs : List ℕ) → all_scalars cs ≡ true → is_utf8 (encodes cs) ≡ true
utf8 cs characters = is_utf8-from_IsUtf8 (encodes cs) (cs, (characters, refl))

quoted_read : (name rest : List ℕ) → IsName name → Reads (between APOSTROPHE (encodes name)) rest (Name name)
quoted_read name rest is =
    let text = encodes name in
    let unbroken : list_any ends_name text ≡ false = any-encodes ends_name ends_name-PassesAscii name ∙ is.unbroken in
    let some : 0 < length text = omega (arith, is.some, length-le-encodes name) in
    at_start (between APOSTROPHE text ++ rest) QuotedName (Ok (Some (Name name), length (between APOSTROPHE text))) (quoted_start ((text ++ APOSTROPHE ∷ []) ++ rest))
    (ap quoted_name (append_assoc text (APOSTROPHE ∷ []) rest)
    ∙ quoted_name-is text rest (utf8 name is.characters) unbroken some
    ∙ (λ i. Ok (Some (Name (chars-encodes name is.characters i)), sym (length-between APOSTROPHE text) i)))

pub name_read : (name : List ℕ) (rest : Rest) → IsName name → Reads (name_text (encodes name)) (bytes rest) (Name name)
name_read name rest is = by (is_bare (encodes name)) refl
  where
    by : (b : Bool) → is_bare (encodes name) ≡ b → Reads (if b then encodes name else between APOSTROPHE (encodes name)) (bytes rest) (Name name)
    by true bare = bare_read name rest is.characters bare
    by false quoted = quoted_read name (bytes rest) is

-- texts

string_at-plain : (b : ℕ) (behind : List ℕ) → (b == QUOTE) ≡ false → string_at (b ∷ behind) ≡ ahead (b ∷ []) 1 (string_at behind)
string_at-plain b [] plain = rw plain refl
string_at-plain b (c ∷ cs) plain = rw plain refl

-- a text with its quotes doubled, before a quote
string_at-doubled : (text rest : List ℕ) → first_passes is_quote rest ≡ false → string_at (doubled text ++ QUOTE ∷ rest) ≡ (text, length (doubled text))
string_at-doubled [] [] apart = refl
string_at-doubled [] (c ∷ cs) apart = rw apart refl
string_at-doubled (b ∷ bs) rest apart = by (b == QUOTE) refl (string_at-doubled bs rest apart)
  where
    by : (v : Bool) → (b == QUOTE) ≡ v → string_at (doubled bs ++ QUOTE ∷ rest) ≡ (bs, length (doubled bs)) → string_at (((if v then QUOTE ∷ QUOTE ∷ [] else b ∷ []) ++ doubled bs) ++ QUOTE ∷ rest) ≡ (b ∷ bs, length ((if v then QUOTE ∷ QUOTE ∷ [] else b ∷ []) ++ doubled bs))
    by true quote later =
        let same : QUOTE ≡ b = grind (arith, nat_tests) in
        let n : 2 + length (doubled bs) ≡ length (QUOTE ∷ QUOTE ∷ doubled bs) = omega arith in
        ap (ahead (QUOTE ∷ []) 2) later ∙ (λ i. (same i ∷ bs, n i))
    by false plain later =
        let n : 1 + length (doubled bs) ≡ length (b ∷ doubled bs) = omega arith in
        string_at-plain b (doubled bs ++ QUOTE ∷ rest) plain ∙ ap (ahead (b ∷ []) 1) later ∙ (λ i. (b ∷ bs, n i))

-- what is read behind a double quote, by what is spelled there
abbrev text_by : List ℕ × ℕ → ℕ → Result Piece LexFault
text_by read len =
    if not (is_utf8 read.0) then Err BadByte
    else if nat_lt read.1 len then Ok (Some (Text (chars read.0)), 2 + read.1)
    else Err OpenString

text_piece-is : (text rest : List ℕ) → is_utf8 text ≡ true → first_passes is_quote rest ≡ false → text_piece (doubled text ++ QUOTE ∷ rest) ≡ Ok (Some (Text (chars text)), 2 + length (doubled text))
unfolding text_piece
text_piece-is text rest utf8 apart =
    let behind = doubled text ++ QUOTE ∷ rest in
    let len = length-append (doubled text) (QUOTE ∷ rest) in
    let within : nat_lt (length (doubled text)) (length behind) ≡ true = grind (arith, nat_tests) in
    ap (λ read. text_by read (length behind)) (string_at-doubled text rest apart) ∙ rw (utf8, within) refl

text_start : (xs : List ℕ) → start_of (QUOTE ∷ xs) ≡ TextStart
text_start [] = refl
text_start (x ∷ xs) = refl

pub text_read : (text : List ℕ) (rest : Rest) → all_scalars text ≡ true → Reads (between QUOTE (doubled (encodes text))) (bytes rest) (Text text)
text_read text rest characters =
    let written = doubled (encodes text) in
    at_start (between QUOTE written ++ bytes rest) TextStart (Ok (Some (Text text), length (between QUOTE written))) (text_start ((written ++ QUOTE ∷ []) ++ bytes rest))
    (ap text_piece (append_assoc written (QUOTE ∷ []) (bytes rest))
    ∙ text_piece-is (encodes text) (bytes rest) (utf8 text characters) (no_quote rest)
    ∙ (λ i. Ok (Some (Text (chars-encodes text characters i)), sym (length-between QUOTE written) i)))
