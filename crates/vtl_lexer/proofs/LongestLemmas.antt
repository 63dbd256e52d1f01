-- No front of a text that is a piece by itself is longer than the piece that is read there.
use Rattle.std.proofs.Common.{◌≡◌, ◌==◌, ℕ, ◌+◌, ◌<◌, ◌≤◌, Bool, true, false, eqb, not, cond, nat_lt, nat_eq, ◌&&◌, List, [], ◌∷◌, ◌++◌, length, take, drop, Option, Some, None, Result, Ok, Err, ℤ, refl, sym, ap, ◌∙◌, arith}
use Rattle.std.proofs.lemmas.Bool.Decides.{nat_tests, Decides-eqb}
use Rattle.std.proofs.lemmas.List.{drop-append-le, length-drop, take_all}
use Rattle.std.proofs.lemmas.List.Folds.{prefix_len-append}
use Rattle.std.proofs.lemmas.List.Sums.{prefix_len-le-length}
use Rattle.std.proofs.lemmas.Slice.Eq.{slice_eq-Decides}
use Rattle.std.specs.List.{prefix_len, position_or_len, starts_with}
use Rattle.std.specs.Option.{IfSome}
use Rattle.std.specs.Char.{is_ascii_digit}
use Rattle.std.specs.Str.{is_utf8, chars}
use Rattle.vtl_values.specs.Numerals.{integer_of, number_of}
use Rattle.vtl_tokens.specs.declared.token.TokenKind.{TokenKind}
use Rattle.vtl_tokens.specs.declared.token.TokenKind.TheVariants.{Name, Text, Integer, Number}
use Rattle.vtl_tokens.specs.Keywords.{keyword_of}
use Rattle.vtl_tokens.specs.declared.token.TokenKind.TheVariants as token
use Rattle.vtl_tokens.specs.declared.sign.Sign.{Sign as SignOf}
use Rattle.vtl_tokens.specs.declared.sign.Sign.TheVariants.{Arrow, Assign, Bars, NotEqual, AtMost, AtLeast}
use Rattle.vtl_tokens.specs.Signs.{sign_text}
use Rattle.vtl_tokens.proofs.KeywordLemmas.{find_passes}
use Rattle.vtl_lexer.specs.declared.start.Start.{Start}
use Rattle.vtl_lexer.specs.declared.start.Start.TheVariants.{Blank, LineComment, BlockComment, QuotedName, Text as TextStart, Literal, Word, Other}
use Rattle.vtl_lexer.specs.declared.stop.LexFault.{LexFault}
use Rattle.vtl_lexer.specs.declared.stop.LexFault.TheVariants.{BadByte, OpenString, OpenComment}
use Rattle.vtl_lexer.specs.Starts.{QUOTE, APOSTROPHE, STAR, SLASH, first_passes, is_blank, is_name_byte, start_of}
use Rattle.vtl_lexer.specs.Scans.{is_line_end, ends_name, is_point_byte, word_len, digits_len, has_decimals, number_len, before_close, string_at, ahead, SIGNS, sign_of}
use Rattle.vtl_lexer.specs.Literals.{numeral, literal_token}
use Rattle.vtl_lexer.specs.Pieces.{Piece, line_comment, block_comment, quoted_name, text_piece, word_kind, word_piece, literal_piece, sign_piece, piece_at, piece_of}
use Rattle.vtl_lexer.specs.Laws.{IsLongest}
use Rattle.vtl_lexer.proofs.PieceLemmas.{both, some_passes}

-- ---- scans

-- a scan goes no less far where more follows
grows : (test : ℕ → Bool) (xs ys : List ℕ) → prefix_len test xs ≤ prefix_len test (xs ++ ys)
grows test xs ys = by_end (eqb (prefix_len test xs) (length xs)) (prefix_len-append test xs ys)
  where
    by_end : (c : Bool) → prefix_len test (xs ++ ys) ≡ cond c (length xs + prefix_len test ys) (prefix_len test xs) → prefix_len test xs ≤ prefix_len test (xs ++ ys)
    by_end true whole = omega (arith, whole, prefix_len-le-length test xs)
    by_end false whole = omega (arith, whole)

-- and no further where it has ended
stays : (test : ℕ → Bool) (xs ys : List ℕ) → prefix_len test xs < length xs → prefix_len test (xs ++ ys) ≡ prefix_len test xs
stays test xs ys ended =
    let apart : eqb (prefix_len test xs) (length xs) ≡ false = grind (arith, nat_tests) in
    prefix_len-append test xs ys ∙ rw apart refl

-- a string goes no less far
abbrev choose : Bool → List ℕ × ℕ → List ℕ × ℕ → List ℕ × ℕ
choose c x y = cond c x y

string-grows : (xs ys : List ℕ) → (string_at xs).1 ≤ (string_at (xs ++ ys)).1
string-grows [] ys = omega arith
string-grows (b ∷ []) [] = omega arith
string-grows (b ∷ []) (c ∷ ys) = by_quote (b == QUOTE) (c == QUOTE)
  where
    by_quote : (q d : Bool) → (choose q ([], 0) (b ∷ [], 1)).1 ≤ (choose q (choose d (ahead (QUOTE ∷ []) 2 (string_at ys)) ([], 0)) (ahead (b ∷ []) 1 (string_at (c ∷ ys)))).1
    by_quote true d = omega arith
    by_quote false d = omega arith
string-grows (b ∷ c ∷ bs) ys = by_quote (b == QUOTE) (c == QUOTE) (string-grows bs ys) (string-grows (c ∷ bs) ys)
  where
    by_quote : (q d : Bool) → (string_at bs).1 ≤ (string_at (bs ++ ys)).1 → (string_at (c ∷ bs)).1 ≤ (string_at (c ∷ bs ++ ys)).1
        → (choose q (choose d (ahead (QUOTE ∷ []) 2 (string_at bs)) ([], 0)) (ahead (b ∷ []) 1 (string_at (c ∷ bs)))).1 ≤ (choose q (choose d (ahead (QUOTE ∷ []) 2 (string_at (bs ++ ys))) ([], 0)) (ahead (b ∷ []) 1 (string_at (c ∷ bs ++ ys)))).1
    by_quote true true two one = omega (arith, two)
    by_quote true false two one = omega arith
    by_quote false d two one = omega (arith, one)

-- a comment that is closed is closed there also where more follows
close-stays : (xs ys : List ℕ) → before_close xs < length xs → before_close (xs ++ ys) ≡ before_close xs
close-stays [] ys closed = absurd (omega arith)
close-stays (b ∷ []) ys closed = absurd (by_star (b == STAR) closed)
  where
    by_star : (s : Bool) → cond (s && false) 0 1 < 1 → ⊥
    by_star true closed = omega (arith, closed)
    by_star false closed = omega (arith, closed)
close-stays (b ∷ c ∷ bs) ys closed = by_here (b == STAR) (c == SLASH) closed (close-stays (c ∷ bs) ys)
  where
    by_here : (s t : Bool) → cond (s && t) 0 (before_close (c ∷ bs) + 1) < length (b ∷ c ∷ bs) → (before_close (c ∷ bs) < length (c ∷ bs) → before_close (c ∷ bs ++ ys) ≡ before_close (c ∷ bs))
        → cond (s && t) 0 (before_close (c ∷ bs ++ ys) + 1) ≡ cond (s && t) 0 (before_close (c ∷ bs) + 1)
    by_here true true closed later = refl
    by_here true false closed later = ap (λ (n : ℕ). n + 1) (later (omega (arith, closed)))
    by_here false t closed later = ap (λ (n : ℕ). n + 1) (later (omega (arith, closed)))

-- ---- pieces

-- a front that is one piece by itself is no longer than the piece that is read of the whole
abbrev pub NoLonger : List ℕ → Result Piece LexFault → Result Piece LexFault → Type 0
NoLonger front whole alone = (piece longer : Piece) → whole ≡ Ok piece → alone ≡ Ok longer → longer.1 ≡ length front → length front ≤ piece.1

-- how long a piece is that was told
abbrev read_as : Piece → Result Piece LexFault
read_as piece = Ok piece

told : (k : Option TokenKind) (n : ℕ) (piece : Piece) → read_as (k, n) ≡ Ok piece → piece.1 ≡ n
told k n piece is = let same : (k, n) ≡ piece = cc in ap (λ (p : Piece). p.1) (sym same)

line_len : (ok : Bool) (n : ℕ) (piece : Piece) → cond ok (Ok (None, 2 + n)) (Err BadByte) ≡ Ok piece → piece.1 ≡ 2 + n
line_len true n piece is = told None (2 + n) piece is
line_len false n piece is = absurd cc

line-told : (behind : List ℕ) (piece : Piece) → line_comment behind ≡ Ok piece → piece.1 ≡ 2 + position_or_len is_line_end behind
unfolding line_comment
line-told behind piece is = line_len (is_utf8 (take (position_or_len is_line_end behind) behind)) (position_or_len is_line_end behind) piece is

line-longest : (front rest : List ℕ) → NoLonger front (line_comment (drop 2 (front ++ rest))) (line_comment (drop 2 front))
line-longest [] rest piece longer whole alone all = omega arith
line-longest (b ∷ []) rest piece longer whole alone all = absurd (omega (arith, all, line-told [] longer alone))
line-longest (b ∷ c ∷ bs) rest piece longer whole alone all = omega (arith, all, line-told bs longer alone, line-told (bs ++ rest) piece whole, grows (λ b. not (is_line_end b)) bs rest)

block_len : (fine closed : Bool) (n : ℕ) (piece : Piece) → cond (not fine) (Err BadByte) (cond closed (Ok (None, 4 + n)) (Err OpenComment)) ≡ Ok piece → (piece.1 ≡ 4 + n) × (closed ≡ true)
block_len true true n piece is = (told None (4 + n) piece is, refl)
block_len true false n piece is = absurd cc
block_len false closed n piece is = absurd cc

block-told : (behind : List ℕ) (piece : Piece) → block_comment behind ≡ Ok piece → (piece.1 ≡ 4 + before_close behind) × (nat_lt (before_close behind) (length behind) ≡ true)
unfolding block_comment
block-told behind piece is = block_len (is_utf8 (take (before_close behind) behind)) (nat_lt (before_close behind) (length behind)) (before_close behind) piece is

block-longest : (front rest : List ℕ) → NoLonger front (block_comment (drop 2 (front ++ rest))) (block_comment (drop 2 front))
block-longest [] rest piece longer whole alone all = omega arith
block-longest (b ∷ []) rest piece longer whole alone all = absurd (omega (arith, all, (block-told [] longer alone).0))
block-longest (b ∷ c ∷ bs) rest piece longer whole alone all =
    let one = block-told bs longer alone in
    let closed : before_close bs < length bs = grind (arith, nat_tests, one.1) in
    omega (arith, all, one.0, (block-told (bs ++ rest) piece whole).0, close-stays bs rest closed)

name_len : (fine closed empty : Bool) (kind : TokenKind) (n : ℕ) (piece : Piece) → cond (not fine) (Err BadByte) (cond (not closed) (Err OpenString) (cond empty (Err BadByte) (Ok (Some kind, 2 + n)))) ≡ Ok piece → piece.1 ≡ 2 + n
name_len true true false kind n piece is = told (Some kind) (2 + n) piece is
name_len true true true kind n piece is = absurd cc
name_len true false empty kind n piece is = absurd cc
name_len false closed empty kind n piece is = absurd cc

name-told : (behind : List ℕ) (piece : Piece) → quoted_name behind ≡ Ok piece → piece.1 ≡ 2 + position_or_len ends_name behind
unfolding quoted_name
name-told behind piece is =
    let n = position_or_len ends_name behind in
    name_len (is_utf8 (take n behind)) (first_passes (λ b. b == APOSTROPHE) (drop n behind)) (n == 0) (Name (chars (take n behind))) n piece is

name-longest : (front rest : List ℕ) → NoLonger front (quoted_name (drop 1 (front ++ rest))) (quoted_name (drop 1 front))
name-longest [] rest piece longer whole alone all = omega arith
name-longest (b ∷ bs) rest piece longer whole alone all = omega (arith, all, name-told bs longer alone, name-told (bs ++ rest) piece whole, grows (λ b. not (ends_name b)) bs rest)

text_len : (fine closed : Bool) (kind : TokenKind) (n : ℕ) (piece : Piece) → cond (not fine) (Err BadByte) (cond closed (Ok (Some kind, 2 + n)) (Err OpenString)) ≡ Ok piece → piece.1 ≡ 2 + n
text_len true true kind n piece is = told (Some kind) (2 + n) piece is
text_len true false kind n piece is = absurd cc
text_len false closed kind n piece is = absurd cc

text-told : (behind : List ℕ) (piece : Piece) → text_piece behind ≡ Ok piece → piece.1 ≡ 2 + (string_at behind).1
unfolding text_piece
text-told behind piece is = text_len (is_utf8 (string_at behind).0) (nat_lt (string_at behind).1 (length behind)) (Text (chars (string_at behind).0)) (string_at behind).1 piece is

text-longest : (front rest : List ℕ) → NoLonger front (text_piece (drop 1 (front ++ rest))) (text_piece (drop 1 front))
text-longest [] rest piece longer whole alone all = omega arith
text-longest (b ∷ bs) rest piece longer whole alone all = omega (arith, all, text-told bs longer alone, text-told (bs ++ rest) piece whole, string-grows bs rest)

word-told : (text : List ℕ) (piece : Piece) → word_piece text ≡ Ok piece → piece.1 ≡ word_len text
unfolding word_piece
word-told text piece is = told (Some (word_kind (take (word_len text) text) (keyword_of (take (word_len text) text)))) (word_len text) piece is

word-longest : (front rest : List ℕ) → NoLonger front (word_piece (front ++ rest)) (word_piece front)
word-longest front rest piece longer whole alone all = omega (arith, all, word-told front longer alone, word-told (front ++ rest) piece whole, grows (λ b. not (not (is_name_byte b))) front rest)

-- ---- literals

-- how many bytes a literal takes
abbrev literal_len : List ℕ → ℕ
literal_len text = cond (has_decimals text) (number_len text) (digits_len text)

token_len : (kind : ℤ → TokenKind) (n : ℕ) (read : Result ℤ LexFault) (piece : Piece) → literal_token kind n read ≡ Ok piece → piece.1 ≡ n
token_len kind n (Ok z) piece is = told (Some (kind z)) n piece is
token_len kind n (Err e) piece is = absurd cc

literal-told : (text : List ℕ) (piece : Piece) → literal_piece text ≡ Ok piece → piece.1 ≡ literal_len text
unfolding literal_piece
literal-told text piece is = by_decimals (has_decimals text) is
  where
    by_decimals : (c : Bool) → cond c (literal_token Number (number_len text) (numeral (number_of (take (number_len text) text)))) (literal_token Integer (digits_len text) (numeral (integer_of (take (digits_len text) text)))) ≡ Ok piece → piece.1 ≡ cond c (number_len text) (digits_len text)
    by_decimals true is = token_len Number (number_len text) (numeral (number_of (take (number_len text) text))) piece is
    by_decimals false is = token_len Integer (digits_len text) (numeral (integer_of (take (digits_len text) text))) piece is

-- where decimals follow, they follow also where more does
passes-on : (test : ℕ → Bool) (xs ys : List ℕ) → first_passes test xs ≡ true → first_passes test (xs ++ ys) ≡ true
passes-on test [] ys is = absurd cc
passes-on test (x ∷ xs) ys is = is

digits-grow : (xs ys : List ℕ) → digits_len xs ≤ digits_len (xs ++ ys)
digits-grow xs ys = grows (λ b. not (not (is_ascii_digit b))) xs ys

literal-grows : (front rest : List ℕ) → literal_len front ≡ length front → length front ≤ literal_len (front ++ rest)
literal-grows front rest all = by_decimals (has_decimals front) refl all
  where
    at_least : (c : Bool) → digits_len (front ++ rest) ≤ cond c (number_len (front ++ rest)) (digits_len (front ++ rest))
    at_least true = omega arith
    at_least false = omega arith

    by_decimals : (c : Bool) → has_decimals front ≡ c → cond c (number_len front) (digits_len front) ≡ length front → length front ≤ literal_len (front ++ rest)
    by_decimals false is all = omega (arith, all, digits-grow front rest, at_least (has_decimals (front ++ rest)))
    by_decimals true is all =
        let d = digits_len front in
        let parts : (first_passes is_point_byte (drop d front) ≡ true) × (first_passes is_ascii_digit (drop (d + 1) front) ≡ true) = both (first_passes is_point_byte (drop d front)) (first_passes is_ascii_digit (drop (d + 1) front)) is in
        let more : d + 1 < length front = omega (arith, some_passes (drop (d + 1) front) is_ascii_digit parts.1, length-drop (d + 1) front) in
        let same : digits_len (front ++ rest) ≡ d = stays (λ b. not (not (is_ascii_digit b))) front rest (omega (arith, more)) in
        let one : drop d (front ++ rest) ≡ drop d front ++ rest = drop-append-le d front rest (omega (arith, more)) in
        let two : drop (d + 1) (front ++ rest) ≡ drop (d + 1) front ++ rest = drop-append-le (d + 1) front rest (omega (arith, more)) in
        let decimals : has_decimals (front ++ rest) ≡ true = rw (same, one, two, passes-on is_point_byte (drop d front) rest parts.0, passes-on is_ascii_digit (drop (d + 1) front) rest parts.1) refl in
        rw (decimals, same, two) (omega (arith, all, digits-grow (drop (d + 1) front) rest))

literal-longest : (front rest : List ℕ) → NoLonger front (literal_piece (front ++ rest)) (literal_piece front)
literal-longest front rest piece longer whole alone all = omega (arith, literal-told (front ++ rest) piece whole, literal-grows front rest (sym (literal-told front longer alone) ∙ all))

-- ---- signs

sign-some : (s : SignOf) → 0 < length (sign_text s)
sign-some s = elim s as (λ s. 0 < length (sign_text s)) [ Arrow ↦ omega arith | _ ↦ omega arith ]

sign-told : (found : Option SignOf) (piece : Piece) → sign_piece found ≡ Ok piece → IfSome found (λ s. piece.1 ≡ length (sign_text s)) × (found ≡ None → ⊥)
unfolding sign_piece
sign-told None piece is = absurd cc
sign-told (Some s) piece is = (told (Some (token.Sign s)) (length (sign_text s)) piece is, λ none. absurd cc)

-- a sign of two characters is found before those of one
same_len : (s t : SignOf) → Some s ≡ Some t → length (sign_text s) ≤ length (sign_text t)
same_len s t is = let same : s ≡ t = cc in omega (arith, ap (λ (x : SignOf). length (sign_text x)) same)

two-first : (rest : List ℕ) (t s : SignOf) → sign_of (sign_text s ++ rest) ≡ Some t → length (sign_text s) ≤ length (sign_text t)
unfolding sign_of
two-first rest t s = elim s as (λ s. sign_of (sign_text s ++ rest) ≡ Some t → length (sign_text s) ≤ length (sign_text t)) [
  | Arrow ↦ (λ is. same_len Arrow t is)
  | Assign ↦ (λ is. same_len Assign t is)
  | Bars ↦ (λ is. same_len Bars t is)
  | NotEqual ↦ (λ is. same_len NotEqual t is)
  | AtMost ↦ (λ is. same_len AtMost t is)
  | AtLeast ↦ (λ is. same_len AtLeast t is)
  | _ ↦ (λ is. omega (arith, sign-some t))
]

-- a sign that is the whole of a text
whole-sign : (text : List ℕ) (s : SignOf) → sign_of text ≡ Some s → length (sign_text s) ≡ length text → sign_text s ≡ text
unfolding sign_of
whole-sign text s is all =
    let passes : starts_with nat_eq text (sign_text s) ≡ true = find_passes (λ s. starts_with nat_eq text (sign_text s)) SIGNS s is in
    let front : sign_text s ≡ take (length (sign_text s)) text = (slice_eq-Decides Decides-eqb (sign_text s) (take (length (sign_text s)) text) (starts_with nat_eq text (sign_text s)) refl).0 passes in
    front ∙ take_all (length (sign_text s)) text (omega (arith, all))

sign-longest : (front rest : List ℕ) → NoLonger front (sign_piece (sign_of (front ++ rest))) (sign_piece (sign_of front))
sign-longest front rest piece longer whole alone all = by_signs (sign_of front) (sign_of (front ++ rest)) refl refl (sign-told (sign_of front) longer alone) (sign-told (sign_of (front ++ rest)) piece whole)
  where
    by_signs : (a w : Option SignOf) → sign_of front ≡ a → sign_of (front ++ rest) ≡ w → IfSome a (λ s. longer.1 ≡ length (sign_text s)) × (a ≡ None → ⊥) → IfSome w (λ s. piece.1 ≡ length (sign_text s)) × (w ≡ None → ⊥) → length front ≤ piece.1
    by_signs None w is is' one two = absurd (one.1 refl)
    by_signs (Some s) None is is' one two = absurd (two.1 refl)
    by_signs (Some s) (Some t) is is' one two =
        let text : sign_text s ≡ front = whole-sign front s is (omega (arith, one.0, all)) in
        omega (arith, one.0, two.0, all, two-first rest t s (rw text is'))

-- ---- all starts

blank-longest : (front rest : List ℕ) → NoLonger front (Ok (None, 1)) (Ok (None, 1))
blank-longest front rest piece longer whole alone all = omega (arith, told None 1 longer alone, told None 1 piece whole, all)

piece-longest : (start : Start) (front rest : List ℕ) → NoLonger front (piece_at start (front ++ rest)) (piece_at start front)
piece-longest Blank front rest = blank-longest front rest
piece-longest LineComment front rest = line-longest front rest
piece-longest BlockComment front rest = block-longest front rest
piece-longest QuotedName front rest = name-longest front rest
piece-longest TextStart front rest = text-longest front rest
piece-longest Literal front rest = literal-longest front rest
piece-longest Word front rest = word-longest front rest
piece-longest Other front rest = sign-longest front rest

-- one byte before another: a slash may begin a comment
first-longest : (b c : ℕ) (cs : List ℕ) → NoLonger (b ∷ []) (piece_of (b ∷ c ∷ cs)) (piece_of (b ∷ []))
first-longest b c cs = by_tests (is_blank b) (b == SLASH) (c == SLASH) (c == STAR) _
  where
    by_tests : (blank slash line block : Bool) (rest_is : Start)
        → NoLonger (b ∷ []) (piece_at (cond blank Blank (cond slash (cond line LineComment (cond block BlockComment Other)) rest_is)) (b ∷ c ∷ cs)) (piece_at (cond blank Blank (cond slash Other rest_is)) (b ∷ []))
    by_tests true slash line block rest_is = piece-longest Blank (b ∷ []) (c ∷ cs)
    by_tests false false line block rest_is = piece-longest rest_is (b ∷ []) (c ∷ cs)
    by_tests false true true block rest_is = λ piece longer whole alone all. omega (arith, line-told cs piece whole)
    by_tests false true false true rest_is = λ piece longer whole alone all. omega (arith, (block-told cs piece whole).0)
    by_tests false true false false rest_is = piece-longest Other (b ∷ []) (c ∷ cs)

pub longest : IsLongest
longest [] rest = λ piece longer whole alone all. omega arith
longest (b ∷ []) [] = piece-longest (start_of (b ∷ [])) (b ∷ []) []
longest (b ∷ []) (c ∷ cs) = first-longest b c cs
longest (b ∷ c ∷ bs) rest = piece-longest (start_of (b ∷ c ∷ bs)) (b ∷ c ∷ bs) rest
