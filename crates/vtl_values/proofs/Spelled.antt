-- A number is read just where a text spells it, and each value that is written is read back.
use Rattle.std.proofs.Common.{◌≡◌, ◌==◌, ℕ, zero, suc, ◌/◌, ◌%◌, ◌^◌, ◌<◌, ◌≤◌, Bool, true, false, not, ◌&&◌, ◌||◌, nat_lt, if◌then◌else◌, List, [], ◌∷◌, ◌++◌, length, drop, get_or, All, Result, Ok, Err, ℤ, pos, negsuc, nat_abs, decimal, refl, sym, ap, subst, ◌∙◌, arith, add-one, append-nil, length-append}
use Rattle.std.proofs.Math.Seq.{take-append_seam}
use Rattle.std.proofs.lemmas.Bool.Decides.{nat_tests}
use Rattle.std.proofs.lemmas.Fmt.{decimal_is_IsNumeral_wide}
use Rattle.std.proofs.lemmas.List.Folds.{list_any_none}
use Rattle.std.specs.Char.{is_ascii_digit}
use Rattle.std.specs.Fmt.{signed_decimal}
use Rattle.std.specs.Int.{IsInRange}
use Rattle.std.specs.List.{before_first, after_first, list_all, list_any, position_or_len}
use Rattle.std.specs.Result.{result_map_both}
use Rattle.std.specs.Str.Parse.{IsNumeral, digits_value}
use Rattle.vtl_values.specs.declared.kind.Kind.{Kind}
use Rattle.vtl_values.specs.declared.kind.Kind.TheVariants.{Integer as IntegerKind, Number as NumberKind, Text as TextKind, Truth as TruthKind}
use Rattle.vtl_values.specs.declared.read.BadText.{BadText}
use Rattle.vtl_values.specs.declared.read.BadText.TheVariants.{NotANumber, TooFine, OutOfRange}
use Rattle.vtl_values.specs.declared.value.Value.{Value}
use Rattle.vtl_values.specs.declared.value.Value.TheVariants.{Null, Truth, Integer, Number, Text}
use Rattle.vtl_values.specs.Numerals.{MINUS, POINT, ZERO, signed, begins_with, without_first, is_digits, integer_of, is_point, whole_of, decimals_of, is_number, is_too_fine, millionths_of, number_of, pointed, spelling, SpellsNumber, fraction_digits, is_negative, number_text}
use Rattle.vtl_values.specs.Ranges.{MOST_INTEGER, MOST_MILLIONTHS, IsInteger, IsNumber}
use Rattle.vtl_values.specs.Texts.{BACKSLASH, truth_of, value_of, text_of, needs_backslash, Fits}
use Rattle.vtl_values.proofs.Digits.{both, digit_range, digit_at, AllDigits-from_test, test-from_AllDigits}
use Rattle.vtl_values.proofs.Fractions.{all-fraction_digits, length-fraction_digits, digits_value-fraction, rest-lt}
use Rattle.vtl_values.proofs.Numbers.{IsWritten, is_written, list_any-is, drop_all}
use Rattle.vtl_values.proofs.Shown.{all-decimal}

-- a sign and digits, taken apart again
sign_of : Bool → List ℕ
sign_of negative = if negative then MINUS ∷ [] else []

record IsSigned (text : List ℕ) (negative : Bool) (rest : List ℕ) : Type 0 where
  sign : begins_with MINUS text ≡ negative
  digits : without_first MINUS text ≡ rest

signed_digits : (negative : Bool) (rest : List ℕ) → 0 < length rest → IsInRange 48 57 (get_or rest 0 0) → IsSigned ((if negative then MINUS ∷ [] else []) ++ rest) negative rest
signed_digits true rest some digit = record { sign = refl; digits = refl }
signed_digits false [] some digit = absurd (omega arith)
signed_digits false (c ∷ cs) some digit =
    let no_minus : (c == MINUS) ≡ false = grind (arith, nat_tests) in
    record { sign = no_minus; digits = rw no_minus refl }

-- digits, and a point with decimals after them, taken apart again
position-pointed : (decimals : List ℕ) → position_or_len is_point (pointed decimals) ≡ 0
position-pointed [] = refl
position-pointed (d ∷ ds) = refl

position-whole : (whole decimals : List ℕ) → list_all is_ascii_digit whole ≡ true → position_or_len is_point (whole ++ pointed decimals) ≡ length whole
position-whole [] decimals all = position-pointed decimals
position-whole (c ∷ cs) decimals all =
    let p : (is_ascii_digit c ≡ true) × (list_all is_ascii_digit cs ≡ true) = both (is_ascii_digit c) (list_all is_ascii_digit cs) all in
    let r : IsInRange 48 57 c = digit_range c p.0 in
    let no_point : (c == POINT) ≡ false = grind (arith, nat_tests) in
    rw no_point (omega (arith, position-whole cs decimals p.1))

before-whole : (whole decimals : List ℕ) → list_all is_ascii_digit whole ≡ true → before_first is_point (whole ++ pointed decimals) ≡ whole
before-whole whole decimals all = rw (position-whole whole decimals all) (take-append_seam whole (pointed decimals))

drop-pointed : (whole decimals : List ℕ) → drop (suc (length whole)) (whole ++ pointed decimals) ≡ decimals
drop-pointed [] [] = refl
drop-pointed [] (d ∷ ds) = refl
drop-pointed (c ∷ cs) decimals = drop-pointed cs decimals

after-whole : (whole decimals : List ℕ) → list_all is_ascii_digit whole ≡ true → after_first is_point (whole ++ pointed decimals) ≡ decimals
after-whole whole decimals all = rw (position-whole whole decimals all, add-one (length whole)) (drop-pointed whole decimals)

digits_pass : (ds : List ℕ) → 0 < length ds → list_all is_ascii_digit ds ≡ true → is_digits ds ≡ true
digits_pass ds some all = (let e : nat_lt 0 (length ds) ≡ true = grind (arith, nat_tests) in rw e all)

decimals_pass : (whole decimals : List ℕ) → list_all is_ascii_digit whole ≡ true → list_all is_ascii_digit decimals ≡ true → (not (list_any is_point (whole ++ pointed decimals)) || is_digits decimals) ≡ true
decimals_pass whole [] all_whole all =
    let none : list_any is_point (whole ++ []) ≡ false = list_any-is is_point (whole ++ []) ∙ (let e : position_or_len is_point (whole ++ []) ≡ length whole = position-whole whole [] all_whole in let l : length (whole ++ []) ≡ length whole = ap length (append-nil whole) in grind (arith, nat_tests)) in
    rw none refl
decimals_pass whole (d ∷ ds) all_whole all = rw (digits_pass (d ∷ ds) (omega arith) all) (grind arith)

-- the judgement of a number by its parts
judged : Bool → Bool → List ℕ → List ℕ → Result ℤ BadText
judged well_formed negative whole decimals =
    if not well_formed then Err NotANumber
    else if is_too_fine decimals then Err TooFine
    else if nat_lt MOST_MILLIONTHS (millionths_of whole decimals) then Err OutOfRange
    else Ok (signed negative (millionths_of whole decimals))

first_digit : (whole rest : List ℕ) → 0 < length whole → list_all is_ascii_digit whole ≡ true → IsInRange 48 57 (get_or (whole ++ rest) 0 0)
first_digit [] rest some all = absurd (omega arith)
first_digit (c ∷ cs) rest some all = digit_at (c ∷ cs) 0 0 all (omega arith)

-- a spelling is judged by its parts
number_of-spelling : (negative : Bool) (whole decimals : List ℕ) → 0 < length whole → list_all is_ascii_digit whole ≡ true → list_all is_ascii_digit decimals ≡ true → number_of (spelling negative whole decimals) ≡ judged true negative whole decimals
unfolding judged
number_of-spelling negative whole decimals some all_whole all =
    let long : 0 < length (whole ++ pointed decimals) = omega (arith, length-append whole (pointed decimals)) in
    let s : IsSigned (spelling negative whole decimals) negative (whole ++ pointed decimals) = signed_digits negative (whole ++ pointed decimals) long (first_digit whole (pointed decimals) some all_whole) in
    let w : whole_of (spelling negative whole decimals) ≡ whole = ap (before_first is_point) s.digits ∙ before-whole whole decimals all_whole in
    let d : decimals_of (spelling negative whole decimals) ≡ decimals = ap (after_first is_point) s.digits ∙ after-whole whole decimals all_whole in
    let n : is_number (spelling negative whole decimals) ≡ true =
    (λ i. is_digits (w i) && (not (list_any is_point (s.digits i)) || is_digits (d i)))
    ∙ rw (digits_pass whole some all_whole) (decimals_pass whole decimals all_whole all) in
    λ i. judged (n i) (s.sign i) (w i) (d i)

-- only zeros pass the test of fineness, both ways
fine_from_test : (ds : List ℕ) → list_any (λ c. not (c == ZERO)) ds ≡ false → All (λ c. c ≡ ZERO) ds
fine_from_test [] none k d inside = absurd (omega arith)
fine_from_test (c ∷ cs) none zero d inside = by (c == ZERO) refl
  where
    by : (b : Bool) → (c == ZERO) ≡ b → c ≡ ZERO
    by true e = grind (arith, nat_tests)
    by false e = absurd (cc (rw e at none))
fine_from_test (c ∷ cs) none (suc k) d inside = fine_from_test cs (rest (not (c == ZERO)) (list_any (λ c. not (c == ZERO)) cs) none) k d (omega arith)
  where
    rest : (a b : Bool) → (a || b) ≡ false → b ≡ false
    rest true b h = cc
    rest false b h = h

test_from_fine : (ds : List ℕ) → All (λ c. c ≡ ZERO) ds → list_any (λ c. not (c == ZERO)) ds ≡ false
test_from_fine ds fine = list_any_none (λ c. not (c == ZERO)) ds (λ k d inside. (let zero_is : get_or ds k d ≡ ZERO = fine k d inside in rw zero_is refl))

-- a signed number's size
nat_abs-signed : (negative : Bool) (n : ℕ) → nat_abs (signed negative n) ≡ n
nat_abs-signed true zero = refl
nat_abs-signed true (suc n) = refl
nat_abs-signed false n = refl

signed-nat_abs : (z : ℤ) → signed (is_negative z) (nat_abs z) ≡ z
signed-nat_abs (pos n) = refl
signed-nat_abs (negsuc n) = refl

-- what a number's text is judged to be, where it is well formed, fine and within the range
judged-ok : (negative : Bool) (whole decimals : List ℕ) → is_too_fine decimals ≡ false → millionths_of whole decimals ≤ MOST_MILLIONTHS → judged true negative whole decimals ≡ Ok (signed negative (millionths_of whole decimals))
unfolding judged
judged-ok negative whole decimals fine within =
    let e : nat_lt MOST_MILLIONTHS (millionths_of whole decimals) ≡ false = grind (arith, nat_tests) in
    rw (fine, e) refl

record IsJudged (well_formed negative : Bool) (whole decimals : List ℕ) (z : ℤ) : Type 0 where
  formed : well_formed ≡ true
  fine : is_too_fine decimals ≡ false
  value : z ≡ signed negative (millionths_of whole decimals)
  within : millionths_of whole decimals ≤ MOST_MILLIONTHS

judged_parts : (well_formed negative : Bool) (whole decimals : List ℕ) (z : ℤ) (fine within : Bool) → is_too_fine decimals ≡ fine → nat_lt MOST_MILLIONTHS (millionths_of whole decimals) ≡ within → judged well_formed negative whole decimals ≡ Ok z → IsJudged well_formed negative whole decimals z
unfolding judged
judged_parts false negative whole decimals z fine within f w h = cc
judged_parts true negative whole decimals z true within f w h = cc (rw f at h)
judged_parts true negative whole decimals z false true f w h = cc (rw (f, w) at h)
judged_parts true negative whole decimals z false false f w h =
    record {
      formed = refl;
      fine = f;
      value = cc (rw (f, w) at h);
      within = grind (arith, nat_tests);
    }

number_parts : (text : List ℕ) (z : ℤ) → number_of text ≡ Ok z → IsJudged (is_number text) (begins_with MINUS text) (whole_of text) (decimals_of text) z
unfolding judged
number_parts text z h = judged_parts (is_number text) (begins_with MINUS text) (whole_of text) (decimals_of text) z (is_too_fine (decimals_of text)) (nat_lt MOST_MILLIONTHS (millionths_of (whole_of text) (decimals_of text))) refl refl h

-- a text that is read as a number spells it
pub spells : (text : List ℕ) (z : ℤ) → number_of text ≡ Ok z → SpellsNumber text z
spells text z h =
    let j : IsJudged (is_number text) (begins_with MINUS text) (whole_of text) (decimals_of text) z = number_parts text z h in
    let w : IsWritten text = is_written text j.formed in
    record {
      negative = begins_with MINUS text;
      whole = whole_of text;
      decimals = decimals_of text;
      spelled = w.spelled;
      whole_digits = (w.some_digits, AllDigits-from_test (whole_of text) w.whole_digits);
      decimal_digits = AllDigits-from_test (decimals_of text) w.decimal_digits;
      fine = fine_from_test (drop 6 (decimals_of text)) j.fine;
      value = j.value;
    }

-- a text that spells a number within the range is read as it
pub reads : (text : List ℕ) (z : ℤ) → SpellsNumber text z → IsNumber z → number_of text ≡ Ok z
reads text z s within =
    let size : nat_abs z ≡ millionths_of s.whole s.decimals = ap nat_abs s.value ∙ nat_abs-signed s.negative (millionths_of s.whole s.decimals) in
    ap number_of s.spelled
    ∙ number_of-spelling s.negative s.whole s.decimals s.whole_digits.0 (test-from_AllDigits s.whole s.whole_digits.1) (test-from_AllDigits s.decimals s.decimal_digits)
    ∙ judged-ok s.negative s.whole s.decimals (test_from_fine (drop 6 s.decimals) s.fine) (omega (arith, size, within))
    ∙ ap Ok (sym s.value)

-- how a number is written spells it
written_spells : (z : ℤ) → IsNumber z → SpellsNumber (number_text z) z
written_spells z within =
    let size : nat_abs z / 1000000 < 10 ^ 64 = omega (arith, within) in
    let none : drop 6 (fraction_digits 6 (nat_abs z % 1000000)) ≡ [] = drop_all 6 (fraction_digits 6 (nat_abs z % 1000000)) (length-fraction_digits 6 (nat_abs z % 1000000)) in
    let d : IsNumeral 10 (decimal (nat_abs z / 1000000)) × (digits_value 10 (decimal (nat_abs z / 1000000)) ≡ nat_abs z / 1000000) = decimal_is_IsNumeral_wide (nat_abs z / 1000000) size in
    let value : millionths_of (decimal (nat_abs z / 1000000)) (fraction_digits 6 (nat_abs z % 1000000)) ≡ nat_abs z =
    omega (arith, d.1, digits_value-fraction (nat_abs z % 1000000) (rest-lt 6 (nat_abs z))) in
    record {
      negative = is_negative z;
      whole = decimal (nat_abs z / 1000000);
      decimals = fraction_digits 6 (nat_abs z % 1000000);
      spelled = refl;
      whole_digits = d.0;
      decimal_digits = AllDigits-from_test (fraction_digits 6 (nat_abs z % 1000000)) (all-fraction_digits 6 (nat_abs z % 1000000) (rest-lt 6 (nat_abs z)));
      fine = fine_from_test (drop 6 (fraction_digits 6 (nat_abs z % 1000000))) (rw none refl);
      value = sym (ap (signed (is_negative z)) value ∙ signed-nat_abs z);
    }

some_text : (negative : Bool) (whole decimals : List ℕ) → 0 < length whole → 0 < length (spelling negative whole decimals)
some_text true whole decimals some = omega arith
some_text false whole decimals some = omega (arith, length-append whole (pointed decimals))

nonempty_number : (cs : List ℕ) (z : ℤ) → 0 < length cs → number_of cs ≡ Ok z → value_of NumberKind cs ≡ Ok (Number z)
nonempty_number [] z some h = absurd (omega arith)
nonempty_number (c ∷ cs) z some h = rw h refl

number_back : (z : ℤ) → IsNumber z → value_of NumberKind (number_text z) ≡ Ok (Number z)
number_back z within =
    let size : nat_abs z / 1000000 < 10 ^ 64 = omega (arith, within) in
    nonempty_number (number_text z) z (some_text (is_negative z) (decimal (nat_abs z / 1000000)) (fraction_digits 6 (nat_abs z % 1000000)) (decimal_is_IsNumeral_wide (nat_abs z / 1000000) size).0.0)
    (reads (number_text z) z (written_spells z within) within)

-- an integer is written as its sign and its digits
integer_spelled : (z : ℤ) → signed_decimal z ≡ (if is_negative z then MINUS ∷ [] else []) ++ decimal (nat_abs z)
integer_spelled (pos n) = refl
integer_spelled (negsuc n) = refl

integer_of-signed : (text digits : List ℕ) (z : ℤ) → IsSigned text (is_negative z) digits → is_digits digits ≡ true → digits_value 10 digits ≡ nat_abs z → IsInteger z → integer_of text ≡ Ok z
integer_of-signed text digits z s is value within =
    let most : nat_lt MOST_INTEGER (nat_abs z) ≡ false = grind (arith, nat_tests) in
    rw (s.digits, s.sign, is, value, most) (ap Ok (signed-nat_abs z))

nonempty_integer : (cs : List ℕ) (z : ℤ) → 0 < length cs → integer_of cs ≡ Ok z → value_of IntegerKind cs ≡ Ok (Integer z)
nonempty_integer [] z some h = absurd (omega arith)
nonempty_integer (c ∷ cs) z some h = rw h refl

integer_back : (z : ℤ) → IsInteger z → value_of IntegerKind (signed_decimal z) ≡ Ok (Integer z)
integer_back z within =
    let size : nat_abs z < 10 ^ 64 = omega (arith, within) in
    let d : IsNumeral 10 (decimal (nat_abs z)) × (digits_value 10 (decimal (nat_abs z)) ≡ nat_abs z) = decimal_is_IsNumeral_wide (nat_abs z) size in
    let all : list_all is_ascii_digit (decimal (nat_abs z)) ≡ true = all-decimal (nat_abs z) size in
    let s : IsSigned ((if is_negative z then MINUS ∷ [] else []) ++ decimal (nat_abs z)) (is_negative z) (decimal (nat_abs z)) = signed_digits (is_negative z) (decimal (nat_abs z)) d.0.0 (digit_at (decimal (nat_abs z)) 0 0 all d.0.0) in
    rw (integer_spelled z)
    (nonempty_integer ((if is_negative z then MINUS ∷ [] else []) ++ decimal (nat_abs z)) z (omega (arith, d.0.0, length-append (if is_negative z then MINUS ∷ [] else []) (decimal (nat_abs z))))
    (integer_of-signed ((if is_negative z then MINUS ∷ [] else []) ++ decimal (nat_abs z)) (decimal (nat_abs z)) z s (digits_pass (decimal (nat_abs z)) d.0.0 all) d.1 within))

text_back : (cs : List ℕ) (b : Bool) → needs_backslash cs ≡ b → value_of TextKind (text_of (Text cs)) ≡ Ok (Text cs)
text_back cs true needs = rw needs refl
text_back [] false needs = cc
text_back (c ∷ cs) false needs = rw (needs, needs) refl

-- a value that is written is read back
pub read_back : (kind : Kind) (value : Value) → Fits kind value → value_of kind (text_of value) ≡ Ok value
read_back kind Null fits = refl
read_back IntegerKind (Integer n) fits = integer_back n fits
read_back NumberKind (Number n) fits = number_back n fits
read_back TruthKind (Truth true) fits = refl
read_back TruthKind (Truth false) fits = refl
read_back TextKind (Text cs) fits = text_back cs (needs_backslash cs) refl
read_back IntegerKind (Number n) fits = absurd fits
read_back IntegerKind (Truth b) fits = absurd fits
read_back IntegerKind (Text cs) fits = absurd fits
read_back NumberKind (Integer n) fits = absurd fits
read_back NumberKind (Truth b) fits = absurd fits
read_back NumberKind (Text cs) fits = absurd fits
read_back TruthKind (Integer n) fits = absurd fits
read_back TruthKind (Number n) fits = absurd fits
read_back TruthKind (Text cs) fits = absurd fits
read_back TextKind (Integer n) fits = absurd fits
read_back TextKind (Number n) fits = absurd fits
read_back TextKind (Truth b) fits = absurd fits

-- what is read as a number or an integer is within its range
number_fits : (text : List ℕ) (z : ℤ) → number_of text ≡ Ok z → IsNumber z
number_fits text z h =
    let j : IsJudged (is_number text) (begins_with MINUS text) (whole_of text) (decimals_of text) z = number_parts text z h in
    omega (arith, ap nat_abs j.value ∙ nat_abs-signed (begins_with MINUS text) (millionths_of (whole_of text) (decimals_of text)), j.within)

integer_fits : (text : List ℕ) (z : ℤ) (digits within : Bool) → is_digits (without_first MINUS text) ≡ digits → nat_lt MOST_INTEGER (digits_value 10 (without_first MINUS text)) ≡ within → integer_of text ≡ Ok z → IsInteger z
integer_fits text z false within d w h = cc (rw d at h)
integer_fits text z true true d w h = cc (rw (d, w) at h)
integer_fits text z true false d w h =
    let value : z ≡ signed (begins_with MINUS text) (digits_value 10 (without_first MINUS text)) = cc (rw (d, w) at h) in
    let most : digits_value 10 (without_first MINUS text) ≤ MOST_INTEGER = grind (arith, nat_tests) in
    omega (arith, ap nat_abs value ∙ nat_abs-signed (begins_with MINUS text) (digits_value 10 (without_first MINUS text)))

fits_integer : (r : Result ℤ BadText) (value : Value) → ((z : ℤ) → r ≡ Ok z → IsInteger z) → result_map_both Integer (λ e. e) r ≡ Ok value → Fits IntegerKind value
fits_integer (Ok z) value within h = (let is : Integer z ≡ value = cc in subst (Fits IntegerKind) is (within z refl))
fits_integer (Err b) value within h = cc

fits_number : (r : Result ℤ BadText) (value : Value) → ((z : ℤ) → r ≡ Ok z → IsNumber z) → result_map_both Number (λ e. e) r ≡ Ok value → Fits NumberKind value
fits_number (Ok z) value within h = (let is : Number z ≡ value = cc in subst (Fits NumberKind) is (within z refl))
fits_number (Err b) value within h = cc

fits_truth : (r : Result Bool BadText) (value : Value) → result_map_both Truth (λ e. e) r ≡ Ok value → Fits TruthKind value
fits_truth (Ok b) value h = (let is : Truth b ≡ value = cc in subst (Fits TruthKind) is tt)
fits_truth (Err b) value h = cc

-- what is read fits its kind
pub fits : (kind : Kind) (text : List ℕ) (value : Value) → value_of kind text ≡ Ok value → Fits kind value
fits kind [] value h = (let is : Null ≡ value = cc in subst (Fits kind) is tt)
fits IntegerKind (c ∷ cs) value h = fits_integer (integer_of (c ∷ cs)) value (λ z r. integer_fits (c ∷ cs) z (is_digits (without_first MINUS (c ∷ cs))) (nat_lt MOST_INTEGER (digits_value 10 (without_first MINUS (c ∷ cs)))) refl refl r) h
fits NumberKind (c ∷ cs) value h = fits_number (number_of (c ∷ cs)) value (number_fits (c ∷ cs)) h
fits TruthKind (c ∷ cs) value h = fits_truth (truth_of (c ∷ cs)) value h
fits TextKind (c ∷ cs) value h = (let is : Text (without_first BACKSLASH (c ∷ cs)) ≡ value = cc in subst (Fits TextKind) is tt)
