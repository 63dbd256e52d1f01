-- Words and literals are ASCII, and literals are read as the values that they mean.
use Rattle.std.proofs.Common.{◌≡◌, ℕ, zero, suc, ◌+◌, ◌-◌, ◌<◌, ◌≤◌, Bool, true, false, cond, not, ◌&&◌, List, [], ◌∷◌, length, take, drop, get_or, Result, Ok, Err, chars, ℤ, inl, inr, refl, sym, subst, ◌∙◌, ap, arith, length-drop}
use Rattle.std.proofs.lemmas.Bool.Decides.{nat_tests}
use Rattle.std.proofs.lemmas.Bool.{cases_lt}
use Rattle.std.proofs.lemmas.List.{get_or-drop, length-take}
use Rattle.std.proofs.lemmas.List.Sums.{fails_before_first, prefix_len-le-length}
use Rattle.std.proofs.lemmas.Str.{chars-IsAscii}
use Rattle.std.specs.Char.{is_ascii_digit, is_ascii_alphabetic}
use Rattle.std.specs.Result.{result_map_both}
use Rattle.std.specs.Str.{IsAscii}
use Rattle.vtl_values.specs.declared.kind.Kind.TheVariants.{Integer as IntegerKind, Number as NumberKind}
use Rattle.vtl_values.specs.declared.read.BadText.{BadText}
use Rattle.vtl_values.specs.declared.value.Value.{Value}
use Rattle.vtl_values.specs.declared.value.Value.TheVariants.{Integer as IntegerValue, Number as NumberValue}
use Rattle.vtl_tokens.specs.declared.token.TokenKind.TheVariants.{Integer, Number}
use Rattle.vtl_values.specs.Numerals.{integer_of, number_of}
use Rattle.vtl_values.specs.Texts.{value_of}
use Rattle.vtl_lexer.specs.declared.stop.LexFault.{LexFault}
use Rattle.vtl_lexer.specs.declared.stop.LexFault.TheVariants.{NumberTooLong}
use Rattle.vtl_lexer.specs.Starts.{is_name_byte, first_passes}
use Rattle.vtl_lexer.specs.Scans.{word_len, digits_len, has_decimals, number_len, is_point_byte}
use Rattle.vtl_lexer.specs.Literals.{number_in, integer_in, numeral, literal_token}
use Rattle.vtl_lexer.specs.Pieces.{literal_piece}

-- the first bytes are ASCII where each of them is
pub IsAscii-take : (n : ℕ) (text : List ℕ) → ((i : ℕ) → i < n → get_or text i 0 < 128) → (i : ℕ) → get_or (take n text) i 0 < 128
IsAscii-take zero [] each i = omega arith
IsAscii-take zero (b ∷ bs) each i = omega arith
IsAscii-take (suc n) [] each i = omega arith
IsAscii-take (suc n) (b ∷ bs) each zero = each 0 (omega arith)
IsAscii-take (suc n) (b ∷ bs) each (suc i) = IsAscii-take n bs (λ j below. each (suc j) (omega arith)) i

not_false : (b : Bool) → not b ≡ false → b ≡ true
not_false true is = refl
not_false false is = cc

name_byte-lt : (b : ℕ) → is_name_byte b ≡ true → b < 128
name_byte-lt b is = grind (arith, nat_tests)

digit-lt : (b : ℕ) → is_ascii_digit b ≡ true → b < 128
digit-lt b is = grind (arith, nat_tests)

pub word-IsAscii : (text : List ℕ) → IsAscii (take (word_len text) text)
word-IsAscii text = IsAscii-take (word_len text) text (λ i below. name_byte-lt (get_or text i 0) (not_false (is_name_byte (get_or text i 0)) (fails_before_first (λ b. not (is_name_byte b)) text i 0 below)))

digit_below : (text : List ℕ) (i : ℕ) → i < digits_len text → get_or text i 0 < 128
digit_below text i below = digit-lt (get_or text i 0) (not_false (is_ascii_digit (get_or text i 0)) (fails_before_first (λ b. not (is_ascii_digit b)) text i 0 below))

pub digits-IsAscii : (text : List ℕ) → IsAscii (take (digits_len text) text)
digits-IsAscii text = IsAscii-take (digits_len text) text (digit_below text)

pub both : (a b : Bool) → (a && b) ≡ true → (a ≡ true) × (b ≡ true)
both true b is = (refl, is)
both false b is = cc

point_below : (text : List ℕ) → first_passes is_point_byte text ≡ true → get_or text 0 0 < 128
point_below [] is = cc
point_below (b ∷ bs) is = grind (arith, nat_tests)

pub some_passes : (text : List ℕ) (test : ℕ → Bool) → first_passes test text ≡ true → 0 < length text
some_passes [] test is = cc
some_passes (b ∷ bs) test is = omega arith

number_byte-lt : (text : List ℕ) → has_decimals text ≡ true → (i : ℕ) → i < number_len text → get_or text i 0 < 128
number_byte-lt text decimals i below =
    let whole : ℕ = digits_len text in
    let two : (first_passes is_point_byte (drop whole text) ≡ true) × (first_passes is_ascii_digit (drop (whole + 1) text) ≡ true) = both (first_passes is_point_byte (drop whole text)) (first_passes is_ascii_digit (drop (whole + 1) text)) decimals in
    elim (cases_lt i whole) [
      | inl before ↦ digit_below text i before
      | inr behind ↦
          elim (cases_lt i (whole + 1)) [
            | inl at ↦
                let place : whole + 0 ≡ i = omega arith in
                let here : get_or text (whole + 0) 0 < 128 = rw (get_or-drop whole text 0 0) at (point_below (drop whole text) two.0) in
                subst (λ j. get_or text j 0 < 128) place here
            | inr later ↦
                let place : whole + 1 + (i - (whole + 1)) ≡ i = omega arith in
                let here : get_or text (whole + 1 + (i - (whole + 1))) 0 < 128 = rw (get_or-drop (whole + 1) text (i - (whole + 1)) 0) at (digit_below (drop (whole + 1) text) (i - (whole + 1)) (omega arith)) in
                subst (λ j. get_or text j 0 < 128) place here
          ]
    ]

pub number-IsAscii : (text : List ℕ) → has_decimals text ≡ true → IsAscii (take (number_len text) text)
number-IsAscii text decimals = IsAscii-take (number_len text) text (number_byte-lt text decimals)

pub number_len-is : (text : List ℕ) (whole more : ℕ) → whole ≡ digits_len text → more ≡ digits_len (drop (whole + 1) text) → whole + 1 + more ≡ number_len text
number_len-is text whole more is more_is =
    let behind : digits_len (drop (whole + 1) text) ≡ digits_len (drop (digits_len text + 1) text) = ap (λ w. digits_len (drop (w + 1) text)) is in
    omega (arith, behind)

-- the point and the digits after it stand in the text
number_len-within : (text : List ℕ) → has_decimals text ≡ true → number_len text ≤ length text
number_len-within text decimals =
    let two : (first_passes is_point_byte (drop (digits_len text) text) ≡ true) × (first_passes is_ascii_digit (drop (digits_len text + 1) text) ≡ true) = both (first_passes is_point_byte (drop (digits_len text) text)) (first_passes is_ascii_digit (drop (digits_len text + 1) text)) decimals in
    omega (arith, some_passes (drop (digits_len text + 1) text) is_ascii_digit two.1, prefix_len-le-length is_ascii_digit (drop (digits_len text + 1) text), prefix_len-le-length (λ b. not (not (is_ascii_digit b))) (drop (digits_len text + 1) text), length-drop (digits_len text + 1) text)

pub number_piece-is : (text : List ℕ) (n : ℕ) → has_decimals text ≡ true → n ≡ number_len text → literal_token Number (length (take n text)) (numeral (number_of (take n text))) ≡ literal_piece text
unfolding literal_piece
number_piece-is text n decimals all =
    let len : length (take (number_len text) text) ≡ number_len text = omega (arith, length-take (number_len text) text, number_len-within text decimals) in
    ap (λ m. literal_token Number (length (take m text)) (numeral (number_of (take m text)))) all
    ∙ ap (λ m. literal_token Number m (numeral (number_of (take (number_len text) text)))) len
    ∙ sym (ap (λ v. cond v (literal_token Number (number_len text) (numeral (number_of (take (number_len text) text)))) (literal_token Integer (digits_len text) (numeral (integer_of (take (digits_len text) text))))) decimals)

-- a first byte that passes is counted
pub digits_len-some : (text : List ℕ) → first_passes is_ascii_digit text ≡ true → 0 < digits_len text
digits_len-some [] is = cc
digits_len-some (b ∷ bs) is = rw is (omega arith)

letter_is_name_byte : (b : ℕ) → is_ascii_alphabetic b ≡ true → is_name_byte b ≡ true
letter_is_name_byte b is = grind (arith, nat_tests)

pub word_len-some : (text : List ℕ) → first_passes is_ascii_alphabetic text ≡ true → 0 < word_len text
word_len-some [] is = cc
word_len-some (b ∷ bs) is = rw (letter_is_name_byte b is) (omega arith)

-- what is read of a numeral is the value that a field of its kind means
value_told : (make : ℤ → Value) (back : Value → Result ℤ LexFault) → ((z : ℤ) → back (make z) ≡ Ok z) → (read : Result ℤ BadText) (value : Value) → result_map_both make (λ e. e) read ≡ Ok value → back value ≡ numeral read
value_told make back again (Ok z) value is =
    let same : make z ≡ value = cc in
    sym (ap back same) ∙ again z
value_told make back again (Err fault) value is = cc

fault_told : (make : ℤ → Value) (read : Result ℤ BadText) (fault : BadText) → result_map_both make (λ e. e) read ≡ Err fault → numeral read ≡ Err NumberTooLong
fault_told make (Ok z) fault is = cc
fault_told make (Err bad) fault is = refl

number_value : (text : List ℕ) → 0 < length text → value_of NumberKind text ≡ result_map_both NumberValue (λ e. e) (number_of text)
number_value [] some = absurd (omega arith)
number_value (c ∷ cs) some = refl

integer_value : (text : List ℕ) → 0 < length text → value_of IntegerKind text ≡ result_map_both IntegerValue (λ e. e) (integer_of text)
integer_value [] some = absurd (omega arith)
integer_value (c ∷ cs) some = refl

pub number_in-told : (text : List ℕ) (value : Value) → 0 < length text → IsAscii text → value_of NumberKind (chars text) ≡ Ok value → number_in value ≡ numeral (number_of text)
number_in-told text value some ascii is = value_told NumberValue number_in (λ z. refl) (number_of text) value (sym (number_value text some) ∙ ap (value_of NumberKind) (sym (chars-IsAscii text ascii)) ∙ is)

pub number-fault : (text : List ℕ) (fault : BadText) → 0 < length text → IsAscii text → value_of NumberKind (chars text) ≡ Err fault → numeral (number_of text) ≡ Err NumberTooLong
number-fault text fault some ascii is = fault_told NumberValue (number_of text) fault (sym (number_value text some) ∙ ap (value_of NumberKind) (sym (chars-IsAscii text ascii)) ∙ is)

pub integer_in-told : (text : List ℕ) (value : Value) → 0 < length text → IsAscii text → value_of IntegerKind (chars text) ≡ Ok value → integer_in value ≡ numeral (integer_of text)
integer_in-told text value some ascii is = value_told IntegerValue integer_in (λ z. refl) (integer_of text) value (sym (integer_value text some) ∙ ap (value_of IntegerKind) (sym (chars-IsAscii text ascii)) ∙ is)

pub integer-fault : (text : List ℕ) (fault : BadText) → 0 < length text → IsAscii text → value_of IntegerKind (chars text) ≡ Err fault → numeral (integer_of text) ≡ Err NumberTooLong
integer-fault text fault some ascii is = fault_told IntegerValue (integer_of text) fault (sym (integer_value text some) ∙ ap (value_of IntegerKind) (sym (chars-IsAscii text ascii)) ∙ is)
