-- Literals are read back.
use Rattle.std.proofs.Common.{◌≡◌, ◌==◌, ℕ, ◌+◌, ◌*◌, ◌/◌, ◌%◌, ◌^◌, ◌<◌, true, false, cond, ◌&&◌, List, [], ◌∷◌, ◌++◌, length, take, drop, replicate, Some, Result, Ok, Err, ℤ, pos, negsuc, decimal, inl, inr, refl, sym, ap, subst, ◌∙◌, arith, append_assoc, append-nil, length-append}
use Rattle.std.proofs.lemmas.Bool.{cases_lt}
use Rattle.std.proofs.lemmas.Bool.Decides.{nat_tests}
use Rattle.std.proofs.lemmas.Fmt.{decimal_is_IsNumeral_wide}
use Rattle.std.proofs.lemmas.List.{take_at, drop_at, drop-drop}
use Rattle.std.proofs.lemmas.List.Elements.{All-nil}
use Rattle.std.specs.Char.{is_ascii_digit}
use Rattle.std.specs.Fmt.{signed_decimal}
use Rattle.std.specs.List.{list_all}
use Rattle.std.specs.Result.{result_map_both}
use Rattle.std.specs.Str.Parse.{digits_value, IsNumeral}
use Rattle.vtl_values.specs.declared.kind.Kind.TheVariants.{Integer as IntegerKind, Number as NumberKind}
use Rattle.vtl_values.specs.declared.read.BadText.{BadText}
use Rattle.vtl_values.specs.declared.value.Value.TheVariants.{Integer as IntegerValue, Number as NumberValue}
use Rattle.vtl_values.specs.Numerals.{POINT, ZERO, millionths_of, fraction_digits, integer_of, number_of, number_text, SpellsNumber}
use Rattle.vtl_values.specs.Ranges.{IsNumber}
use Rattle.vtl_values.specs.Texts.{value_of}
use Rattle.vtl_values.proofs.Digits.{AllDigits-from_test}
use Rattle.vtl_values.proofs.Fractions.{all-fraction_digits, fraction_digits-zero, fraction_digits-suc, rest-lt}
use Rattle.vtl_values.proofs.Shown.{all-decimal, pointed-fraction}
use Rattle.vtl_values.proofs.Spelled.{read_back, reads}
use Rattle.vtl_tokens.specs.declared.token.TokenKind.TheVariants.{Integer, Number}
use Rattle.vtl_lexer.specs.declared.start.Start.TheVariants.{Literal}
use Rattle.vtl_lexer.specs.Starts.{first_passes, start_of}
use Rattle.vtl_lexer.specs.Scans.{digits_len, number_len, is_point_byte}
use Rattle.vtl_lexer.specs.Literals.{numeral, literal_token}
use Rattle.vtl_lexer.specs.declared.stop.LexFault.{LexFault}
use Rattle.vtl_lexer.specs.Pieces.{Piece, literal_piece}
use Rattle.vtl_lexer.specs.Tokens.{IsIntegerLiteral, IsNumberLiteral}
use Rattle.vtl_printer.specs.Spellings.{number_literal}
use Rattle.vtl_lexer.proofs.PieceLemmas.{both}
use Rattle.vtl_printer.proofs.Fronts.{Rest, bytes, no_point, digits_stop, digits_stop_at, literal_start}
use Rattle.vtl_printer.proofs.Words.{Reads, at_start}

digits_begin : (digits rest : List ℕ) → list_all is_ascii_digit digits ≡ true → 0 < length digits → first_passes is_ascii_digit (digits ++ rest) ≡ true
digits_begin [] rest all some = absurd (omega arith)
digits_begin (d ∷ ds) rest all some = (both (is_ascii_digit d) (list_all is_ascii_digit ds) all).0

digits_start : (digits rest : List ℕ) → list_all is_ascii_digit digits ≡ true → 0 < length digits → start_of (digits ++ rest) ≡ Literal
digits_start [] rest all some = absurd (omega arith)
digits_start (d ∷ ds) rest all some = literal_start d (ds ++ rest) (both (is_ascii_digit d) (list_all is_ascii_digit ds) all).0

-- the two forms of a literal
abbrev as_number : List ℕ → Result Piece LexFault
as_number text = literal_token Number (number_len text) (numeral (number_of (take (number_len text) text)))

abbrev as_integer : List ℕ → Result Piece LexFault
as_integer text = literal_token Integer (digits_len text) (numeral (integer_of (take (digits_len text) text)))

-- integers

integer_piece-is : (digits : List ℕ) (rest : Rest) → list_all is_ascii_digit digits ≡ true → literal_piece (digits ++ bytes rest) ≡ literal_token Integer (length digits) (numeral (integer_of digits))
unfolding literal_piece
integer_piece-is digits rest all =
    let text = digits ++ bytes rest in
    let len : digits_len text ≡ length digits = digits_stop digits rest all in
    let behind : drop (digits_len text) text ≡ bytes rest = ap (λ n. drop n text) len ∙ drop_at digits (bytes rest) (length digits) refl in
    let none : first_passes is_point_byte (drop (digits_len text) text) ≡ false = ap (first_passes is_point_byte) behind ∙ no_point rest in
    let front : take (digits_len text) text ≡ digits = ap (λ n. take n text) len ∙ take_at digits (bytes rest) (length digits) refl in
    ap (λ v. cond (v && first_passes is_ascii_digit (drop (digits_len text + 1) text)) (as_number text) (as_integer text)) none
    ∙ (λ i. literal_token Integer (len i) (numeral (integer_of (front i))))

-- what is read as an integer's text, and as a number's
integer_is : (text : List ℕ) (z : ℤ) → value_of IntegerKind text ≡ Ok (IntegerValue z) → integer_of text ≡ Ok z
integer_is [] z is = cc
integer_is (c ∷ cs) z is = by (integer_of (c ∷ cs)) is
  where
    by : (r : Result ℤ BadText) → result_map_both IntegerValue (λ e. e) r ≡ Ok (IntegerValue z) → r ≡ Ok z
    by (Ok y) e = cc
    by (Err bad) e = cc

number_is : (text : List ℕ) (z : ℤ) → value_of NumberKind text ≡ Ok (NumberValue z) → number_of text ≡ Ok z
number_is [] z is = cc
number_is (c ∷ cs) z is = by (number_of (c ∷ cs)) is
  where
    by : (r : Result ℤ BadText) → result_map_both NumberValue (λ e. e) r ≡ Ok (NumberValue z) → r ≡ Ok z
    by (Ok y) e = cc
    by (Err bad) e = cc

pub integer_read : (value : ℤ) (rest : Rest) → IsIntegerLiteral value → Reads (signed_decimal value) (bytes rest) (Integer value)
integer_read (negsuc n) rest is = cc is.unsigned
integer_read (pos n) rest is =
    let size : n < 10 ^ 64 = omega (arith, is.within) in
    let all : list_all is_ascii_digit (decimal n) ≡ true = all-decimal n size in
    let d : IsNumeral 10 (decimal n) × (digits_value 10 (decimal n) ≡ n) = decimal_is_IsNumeral_wide n size in
    let value : integer_of (decimal n) ≡ Ok (pos n) = integer_is (decimal n) (pos n) (read_back IntegerKind (IntegerValue (pos n)) is.within) in
    at_start (decimal n ++ bytes rest) Literal (Ok (Some (Integer (pos n)), length (decimal n))) (digits_start (decimal n) (bytes rest) all d.0.0)
    (integer_piece-is (decimal n) rest all ∙ ap (λ r. literal_token Integer (length (decimal n)) (numeral r)) value)

-- numbers

-- a number's text: digits, a point and digits
record IsDecimal (text : List ℕ) (z : ℤ) : Type 0 where
  pub whole : List ℕ
  pub decimals : List ℕ
  pub spelled : text ≡ whole ++ POINT ∷ decimals
  pub whole_digits : list_all is_ascii_digit whole ≡ true
  pub decimal_digits : list_all is_ascii_digit decimals ≡ true
  pub some_whole : 0 < length whole
  pub some_decimals : 0 < length decimals
  pub value : number_of (whole ++ POINT ∷ decimals) ≡ Ok z

number_piece-is : (whole decimals : List ℕ) (rest : Rest) → list_all is_ascii_digit whole ≡ true → list_all is_ascii_digit decimals ≡ true → 0 < length decimals → literal_piece ((whole ++ POINT ∷ decimals) ++ bytes rest) ≡ literal_token Number (length (whole ++ POINT ∷ decimals)) (numeral (number_of (whole ++ POINT ∷ decimals)))
unfolding literal_piece
number_piece-is whole decimals rest all_whole all_decimals some =
    let number = whole ++ POINT ∷ decimals in
    let text = number ++ bytes rest in
    let parts : text ≡ whole ++ POINT ∷ (decimals ++ bytes rest) = append_assoc whole (POINT ∷ decimals) (bytes rest) in
    let at : digits_len text ≡ length whole = ap digits_len parts ∙ digits_stop_at whole (decimals ++ bytes rest) POINT all_whole refl in
    let from_point : drop (digits_len text) text ≡ POINT ∷ (decimals ++ bytes rest) = (λ i. drop (at i) (parts i)) ∙ drop_at whole (POINT ∷ (decimals ++ bytes rest)) (length whole) refl in
    let behind : drop (digits_len text + 1) text ≡ decimals ++ bytes rest = sym (drop-drop 1 (digits_len text) text) ∙ ap (drop 1) from_point in
    let point : first_passes is_point_byte (drop (digits_len text) text) ≡ true = ap (first_passes is_point_byte) from_point in
    let digit : first_passes is_ascii_digit (drop (digits_len text + 1) text) ≡ true = ap (first_passes is_ascii_digit) behind ∙ digits_begin decimals (bytes rest) all_decimals some in
    let more : digits_len (drop (digits_len text + 1) text) ≡ length decimals = ap digits_len behind ∙ digits_stop decimals rest all_decimals in
    let len : number_len text ≡ length number = omega (arith, at, more, length-append whole (POINT ∷ decimals)) in
    let front : take (number_len text) text ≡ number = ap (λ n. take n text) len ∙ take_at number (bytes rest) (length number) refl in
    (λ i. cond (point i && digit i) (as_number text) (as_integer text))
    ∙ (λ i. literal_token Number (len i) (numeral (number_of (front i))))

decimal_read : (text : List ℕ) (z : ℤ) (rest : Rest) → IsDecimal text z → Reads text (bytes rest) (Number z)
decimal_read text z rest is =
    let number = is.whole ++ POINT ∷ is.decimals in
    let start : start_of (number ++ bytes rest) ≡ Literal = ap start_of (append_assoc is.whole (POINT ∷ is.decimals) (bytes rest)) ∙ digits_start is.whole (POINT ∷ (is.decimals ++ bytes rest)) is.whole_digits is.some_whole in
    let read : Reads number (bytes rest) (Number z) = at_start (number ++ bytes rest) Literal (Ok (Some (Number z), length number)) start
    (number_piece-is is.whole is.decimals rest is.whole_digits is.decimal_digits is.some_decimals ∙ ap (λ r. literal_token Number (length number) (numeral r)) is.value) in
    subst (λ t. Reads t (bytes rest) (Number z)) (sym is.spelled) read

-- a whole number with its one decimal
whole_spells : (n q : ℕ) → n ≡ 10 ^ 6 * q → q < 10 ^ 64 → SpellsNumber (decimal q ++ POINT ∷ ZERO ∷ []) (pos n)
whole_spells n q is size =
    let d : IsNumeral 10 (decimal q) × (digits_value 10 (decimal q) ≡ q) = decimal_is_IsNumeral_wide q size in
    let none : digits_value 10 (take 6 ((ZERO ∷ []) ++ replicate 6 ZERO)) ≡ 0 = refl in
    let value : millionths_of (decimal q) (ZERO ∷ []) ≡ n = omega (arith, d.1, none, is) in
    record {
      negative = false;
      whole = decimal q;
      decimals = ZERO ∷ [];
      spelled = refl;
      whole_digits = d.0;
      decimal_digits = AllDigits-from_test (ZERO ∷ []) refl;
      fine = All-nil (λ c. c ≡ ZERO);
      value = ap pos (sym value);
    }

whole_number : (n : ℕ) → IsNumber (pos n) → n % 10 ^ 6 ≡ 0 → IsDecimal (number_literal (pos n)) (pos n)
whole_number n within none =
    let q = n / 10 ^ 6 in
    let size : q < 10 ^ 64 = omega (arith, within) in
    let multiple : n ≡ 10 ^ 6 * q = omega arith in
    record {
      whole = decimal q;
      decimals = ZERO ∷ [];
      spelled = rw (none, fraction_digits-zero 6, append-nil (decimal q)) refl;
      whole_digits = all-decimal q size;
      decimal_digits = refl;
      some_whole = (decimal_is_IsNumeral_wide q size).0.0;
      some_decimals = omega arith;
      value = reads (decimal q ++ POINT ∷ ZERO ∷ []) (pos n) (whole_spells n q multiple size) within;
    }

fine_number : (n : ℕ) → IsNumber (pos n) → 0 < n % 10 ^ 6 → IsDecimal (number_literal (pos n)) (pos n)
fine_number n within some =
    let q = n / 10 ^ 6 in
    let r = n % 10 ^ 6 in
    let size : q < 10 ^ 64 = omega (arith, within) in
    let fine : (r == 0) ≡ false = grind (arith, nat_tests) in
    let spelled : number_text (pos n) ≡ decimal q ++ POINT ∷ fraction_digits 6 r = ap (λ l. decimal q ++ l) (pointed-fraction r some) in
    record {
      whole = decimal q;
      decimals = fraction_digits 6 r;
      spelled = rw fine (append-nil (number_text (pos n)) ∙ spelled);
      whole_digits = all-decimal q size;
      decimal_digits = all-fraction_digits 6 r (rest-lt 6 n);
      some_whole = (decimal_is_IsNumeral_wide q size).0.0;
      some_decimals = rw (fraction_digits-suc 5 r some) (omega arith);
      value = ap number_of (sym spelled) ∙ number_is (number_text (pos n)) (pos n) (read_back NumberKind (NumberValue (pos n)) within);
    }

pub number_read : (millionths : ℤ) (rest : Rest) → IsNumberLiteral millionths → Reads (number_literal millionths) (bytes rest) (Number millionths)
number_read (negsuc n) rest is = cc is.unsigned
number_read (pos n) rest is = decimal_read (number_literal (pos n)) (pos n) rest (elim (cases_lt 0 (n % 10 ^ 6)) [
  | inl some ↦ fine_number n is.within some
  | inr none ↦ whole_number n is.within (omega arith)
])
