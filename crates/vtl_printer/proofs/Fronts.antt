-- Where a token ends, and what a text begins with.
use Rattle.std.proofs.Common.{◌≡◌, ◌==◌, ℕ, Bool, true, false, eqb, ◌&&◌, List, [], ◌∷◌, ◌++◌, length, None, refl, ◌∙◌, arith}
use Rattle.std.proofs.lemmas.Bool.Decides.{nat_tests}
use Rattle.std.proofs.lemmas.List.Folds.{prefix_len-append}
use Rattle.std.specs.Char.{is_ascii_digit, is_ascii_alphabetic}
use Rattle.std.specs.List.{prefix_len, position_or_len, list_any, list_all}
use Rattle.vtl_lexer.specs.declared.start.Start.TheVariants.{Literal, Word}
use Rattle.vtl_lexer.specs.Starts.{APOSTROPHE, QUOTE, SLASH, is_blank, first_passes, start_at, start_of}
use Rattle.vtl_lexer.specs.Scans.{word_len, digits_len, is_point_byte}
use Rattle.vtl_lexer.proofs.PieceLemmas.{both}
use Rattle.vtl_printer.proofs.CharBytes.{neither, is_quote}

-- what goes on with no token: nothing, or one of these bytes and more
pub data Rest : Type 0 where
  nothing : Rest
  blank : List ℕ → Rest
  line_end : List ℕ → Rest
  semicolon : List ℕ → Rest
  comma : List ℕ → Rest
  left_paren : List ℕ → Rest
  right_paren : List ℕ → Rest
  right_bracket : List ℕ → Rest
  hash : List ℕ → Rest
  colon : List ℕ → Rest

abbrev pub bytes : Rest → List ℕ
bytes nothing = []
bytes (blank more) = 32 ∷ more
bytes (line_end more) = 10 ∷ more
bytes (semicolon more) = 59 ∷ more
bytes (comma more) = 44 ∷ more
bytes (left_paren more) = 40 ∷ more
bytes (right_paren more) = 41 ∷ more
bytes (right_bracket more) = 93 ∷ more
bytes (hash more) = 35 ∷ more
bytes (colon more) = 58 ∷ more

no_word : (rest : Rest) → word_len (bytes rest) ≡ 0
no_word rest = elim rest as (λ r. word_len (bytes r) ≡ 0) [ nothing ↦ refl | _ ↦ refl ]

no_digits : (rest : Rest) → digits_len (bytes rest) ≡ 0
no_digits rest = elim rest as (λ r. digits_len (bytes r) ≡ 0) [ nothing ↦ refl | _ ↦ refl ]

pub no_point : (rest : Rest) → first_passes is_point_byte (bytes rest) ≡ false
no_point rest = elim rest as (λ r. first_passes is_point_byte (bytes r) ≡ false) [ nothing ↦ refl | _ ↦ refl ]

pub no_quote : (rest : Rest) → first_passes is_quote (bytes rest) ≡ false
no_quote rest = elim rest as (λ r. first_passes is_quote (bytes r) ≡ false) [ nothing ↦ refl | _ ↦ refl ]

-- what passes to its end goes no further where the rest doesn't go on
stops : (test : ℕ → Bool) (front rest : List ℕ) → prefix_len test front ≡ length front → prefix_len test rest ≡ 0 → prefix_len test (front ++ rest) ≡ length front
stops test front rest all none =
    let whole : eqb (prefix_len test front) (length front) ≡ true = grind (arith, nat_tests) in
    prefix_len-append test front rest ∙ rw whole (omega arith)

pub word_stops : (word : List ℕ) (rest : Rest) → word_len word ≡ length word → word_len (word ++ bytes rest) ≡ length word
word_stops word rest all = stops _ word (bytes rest) all (no_word rest)

-- none passes
pub position-none : (test : ℕ → Bool) (xs : List ℕ) → list_any test xs ≡ false → position_or_len test xs ≡ length xs
position-none test [] none = refl
position-none test (x ∷ xs) none =
    let two : (test x ≡ false) × (list_any test xs ≡ false) = neither (test x) (list_any test xs) none in
    rw two.0 (omega (arith, position-none test xs two.1))

-- the first that passes stands behind those that don't
pub position-first : (test : ℕ → Bool) (xs ys : List ℕ) (y : ℕ) → list_any test xs ≡ false → test y ≡ true → position_or_len test (xs ++ y ∷ ys) ≡ length xs
position-first test xs ys y none passes = stops _ xs (y ∷ ys) (position-none test xs none) (rw passes refl)

digits_len-all : (digits : List ℕ) → list_all is_ascii_digit digits ≡ true → digits_len digits ≡ length digits
digits_len-all [] all = refl
digits_len-all (d ∷ ds) all =
    let two : (is_ascii_digit d ≡ true) × (list_all is_ascii_digit ds ≡ true) = both (is_ascii_digit d) (list_all is_ascii_digit ds) all in
    rw two.0 (omega (arith, digits_len-all ds two.1))

pub digits_stop : (digits : List ℕ) (rest : Rest) → list_all is_ascii_digit digits ≡ true → digits_len (digits ++ bytes rest) ≡ length digits
digits_stop digits rest all = stops _ digits (bytes rest) (digits_len-all digits all) (no_digits rest)

pub digits_stop_at : (digits rest : List ℕ) (b : ℕ) → list_all is_ascii_digit digits ≡ true → is_ascii_digit b ≡ false → digits_len (digits ++ b ∷ rest) ≡ length digits
digits_stop_at digits rest b all other = stops _ digits (b ∷ rest) (digits_len-all digits all) (rw other refl)

-- a letter or a digit begins a word or a literal, whatever follows
start_of-cons : (b : ℕ) (rest : List ℕ) → (b == SLASH) ≡ false → start_of (b ∷ rest) ≡ start_at b None
start_of-cons b [] plain = refl
start_of-cons b (c ∷ cs) plain = rw plain refl

pub word_start : (b : ℕ) (rest : List ℕ) → is_ascii_alphabetic b ≡ true → start_of (b ∷ rest) ≡ Word
word_start b rest letter =
    let blank : is_blank b ≡ false = grind (arith, nat_tests) in
    let slash : (b == SLASH) ≡ false = grind (arith, nat_tests) in
    let apostrophe : (b == APOSTROPHE) ≡ false = grind (arith, nat_tests) in
    let quote : (b == QUOTE) ≡ false = grind (arith, nat_tests) in
    let digit : is_ascii_digit b ≡ false = grind (arith, nat_tests) in
    start_of-cons b rest slash ∙ rw (blank, slash, apostrophe, quote, digit, letter) refl

pub literal_start : (b : ℕ) (rest : List ℕ) → is_ascii_digit b ≡ true → start_of (b ∷ rest) ≡ Literal
literal_start b rest digit =
    let blank : is_blank b ≡ false = grind (arith, nat_tests) in
    let slash : (b == SLASH) ≡ false = grind (arith, nat_tests) in
    let apostrophe : (b == APOSTROPHE) ≡ false = grind (arith, nat_tests) in
    let quote : (b == QUOTE) ≡ false = grind (arith, nat_tests) in
    start_of-cons b rest slash ∙ rw (blank, slash, apostrophe, quote, digit) refl
