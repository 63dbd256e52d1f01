-- What is read of a text's bytes is read of its characters.
use Rattle.std.proofs.Common.{◌≡◌, ◌≢◌, ◌==◌, ℕ, ◌<◌, ◌≤◌, Bool, true, false, ◌&&◌, nat_lt, if◌then◌else◌, List, [], ◌∷◌, ◌++◌, length, get_or, Option, None, Some, Result, Ok, Err, ℤ, Bor, MatchOption, IsErrAnd, ◌↔◌, IsUtf8, codes, refl, sym, ap, ◌∙◌, arith, ⊎_elim, length-append, unwrap_or}
use Rattle.std.proofs.lemmas.Bool.{cases_lt}
use Rattle.std.proofs.lemmas.Bool.Decides.{nat_tests}
use Rattle.std.proofs.lemmas.List.Folds.{list_all-append, list_all_at}
use Rattle.std.proofs.lemmas.Str.{encodes-chars, encode_ascii, char_from_byte, byte_from_char, length-encode, len_utf8_bounds, chars-IsAscii, chars-nil}
use Rattle.std.proofs.lemmas.Str.Ascii.{IsAscii-nil, IsAscii-cons}
use Rattle.std.proofs.Math.Utf8.{encodes, encode}
use Rattle.std.specs.Bool.{Decides}
use Rattle.std.specs.Char.{is_ascii, is_ascii_digit, len_utf8}
use Rattle.std.specs.List.{list_all}
use Rattle.std.specs.Result.{result_map_both}
use Rattle.std.specs.Str.{IsAscii, chars}
use Rattle.vtl_values.specs.declared.kind.Kind.{Kind}
use Rattle.vtl_values.specs.declared.kind.Kind.TheVariants.{Integer as IntegerKind, Number as NumberKind, Text as TextKind, Truth as TruthKind}
use Rattle.vtl_values.specs.declared.read.BadText.{BadText}
use Rattle.vtl_values.specs.declared.read.BadText.TheVariants.{NotANumber, NotAnInteger, NotATruth}
use Rattle.vtl_values.specs.declared.read.ReadStop.{ReadStop}
use Rattle.vtl_values.specs.declared.read.ReadStop.TheVariants.{Bad}
use Rattle.vtl_values.specs.declared.value.Value.{Value}
use Rattle.vtl_values.specs.declared.value.Value.TheVariants.{Null, Truth, Integer, Number, Text}
use Rattle.vtl_values.specs.Numerals.{MINUS, begins_with, without_first, is_digits, is_number, whole_of, decimals_of, pointed, spelling, integer_of, number_of}
use Rattle.vtl_values.specs.Texts.{BACKSLASH, needs_backslash, same_text, truth_of, value_of}
use Rattle.vtl_values.proofs.Digits.{both, digit_range}
use Rattle.vtl_values.proofs.Numbers.{IsWritten, is_written, digits_tested}
use Rattle.vtl_values.proofs.StructureNames.{same_text-Decides}

-- a text is all ASCII exactly where its bytes are
list_all-encode : (c : ℕ) (rest : List ℕ) → 128 ≤ c → list_all is_ascii (encode c ++ rest) ≡ false
list_all-encode c rest high =
    let bounds : (1 ≤ len_utf8 c) × (len_utf8 c ≤ 4) = len_utf8_bounds c in
    let some : 0 < length (encode c ++ rest) = omega (arith, length-append (encode c) rest, length-encode c) in
    ⊎_elim
    (λ (low : get_or (encode c ++ rest) 0 0 < 128). absurd (let same : c ≡ get_or (encode c ++ rest) 0 0 = char_from_byte (encode c ++ rest) rest c refl low some in omega arith))
    (λ (top : 128 ≤ get_or (encode c ++ rest) 0 0). list_all_at is_ascii (encode c ++ rest) 0 0 some (grind (arith, nat_tests)))
    (cases_lt (get_or (encode c ++ rest) 0 0) 128)

list_all-encodes : (cs : List ℕ) → list_all is_ascii (encodes cs) ≡ list_all is_ascii cs
list_all-encodes [] = refl
list_all-encodes (c ∷ cs) = ⊎_elim
    (λ (low : c < 128). rw (encode_ascii c low) (ap (λ b. is_ascii c && b) (list_all-encodes cs)))
    (λ (high : 128 ≤ c). list_all-encode c (encodes cs) high ∙ sym (list_all_at is_ascii (c ∷ cs) 0 0 (omega arith) (grind (arith, nat_tests))))
    (cases_lt c 128)

pub IsAscii-from_test : (bs : List ℕ) → list_all is_ascii bs ≡ true → IsAscii bs
IsAscii-from_test [] all = IsAscii-nil
IsAscii-from_test (b ∷ bs) all =
    let p : (is_ascii b ≡ true) × (list_all is_ascii bs ≡ true) = both (is_ascii b) (list_all is_ascii bs) all in
    IsAscii-cons b bs (let e : nat_lt b 128 ≡ true = p.0 in grind (arith, nat_tests)) (IsAscii-from_test bs p.1)

-- a function that answers all texts alike that aren't all ASCII
same_on_chars : {R : Type 0} (f : List ℕ → R) (e : R) → ((xs : List ℕ) → list_all is_ascii xs ≡ false → f xs ≡ e) → (bs : List ℕ) → IsUtf8 bs → (b : Bool) → list_all is_ascii bs ≡ b → f (chars bs) ≡ f bs
same_on_chars f e refuses bs u true all = ap f (chars-IsAscii bs (IsAscii-from_test bs all))
same_on_chars f e refuses bs u false some =
    let beyond : list_all is_ascii (chars bs) ≡ false = sym (list_all-encodes (chars bs)) ∙ ap (list_all is_ascii) (encodes-chars bs u) ∙ some in
    refuses (chars bs) beyond ∙ sym (refuses bs some)

digits_ascii : (ds : List ℕ) → list_all is_ascii_digit ds ≡ true → list_all is_ascii ds ≡ true
digits_ascii [] all = refl
digits_ascii (d ∷ ds) all =
    let p : (is_ascii_digit d ≡ true) × (list_all is_ascii_digit ds ≡ true) = both (is_ascii_digit d) (list_all is_ascii_digit ds) all in
    let r : (48 ≤ d) × (d ≤ 57) = digit_range d p.0 in
    let e : nat_lt d 128 ≡ true = grind (arith, nat_tests) in
    rw e (digits_ascii ds p.1)

unsigned_ascii : (text : List ℕ) → list_all is_ascii (without_first MINUS text) ≡ true → list_all is_ascii text ≡ true
unsigned_ascii [] all = refl
unsigned_ascii (c ∷ cs) all = by (c == MINUS) refl
  where
    by : (b : Bool) → (c == MINUS) ≡ b → list_all is_ascii (c ∷ cs) ≡ true
    by true e = (let minus : c ≡ 45 = grind (arith, nat_tests) in rw minus (rw e at all))
    by false e = rw e at all

integer_refuses : (text : List ℕ) → list_all is_ascii text ≡ false → integer_of text ≡ Err NotAnInteger
integer_refuses text some = by (is_digits (without_first MINUS text)) refl
  where
    by : (b : Bool) → is_digits (without_first MINUS text) ≡ b → integer_of text ≡ Err NotAnInteger
    by true e = absurd (cc (unsigned_ascii text (digits_ascii (without_first MINUS text) (digits_tested (without_first MINUS text) e).1)))
    by false e = rw e refl

pointed_ascii : (ds : List ℕ) → list_all is_ascii ds ≡ true → list_all is_ascii (pointed ds) ≡ true
pointed_ascii [] all = refl
pointed_ascii (d ∷ ds) all = all

sign_ascii : (b : Bool) → list_all is_ascii (if b then MINUS ∷ [] else []) ≡ true
sign_ascii true = refl
sign_ascii false = refl

-- a number's spelling is all ASCII
pub spelling_ascii : (negative : Bool) (whole decimals : List ℕ) → list_all is_ascii_digit whole ≡ true → list_all is_ascii_digit decimals ≡ true → list_all is_ascii (spelling negative whole decimals) ≡ true
spelling_ascii negative whole decimals all_whole all_decimals =
    list_all-append is_ascii (if negative then MINUS ∷ [] else []) (whole ++ pointed decimals)
    ∙ ap (λ b. b && list_all is_ascii (whole ++ pointed decimals)) (sign_ascii negative)
    ∙ list_all-append is_ascii whole (pointed decimals)
    ∙ rw (digits_ascii whole all_whole) (pointed_ascii decimals (digits_ascii decimals all_decimals))

written_ascii : (text : List ℕ) → IsWritten text → list_all is_ascii text ≡ true
written_ascii text w = ap (list_all is_ascii) w.spelled ∙ spelling_ascii (begins_with MINUS text) (whole_of text) (decimals_of text) w.whole_digits w.decimal_digits

number_refuses : (text : List ℕ) → list_all is_ascii text ≡ false → number_of text ≡ Err NotANumber
number_refuses text some = by (is_number text) refl
  where
    by : (b : Bool) → is_number text ≡ b → number_of text ≡ Err NotANumber
    by true e = absurd (cc (written_ascii text (is_written text e)))
    by false e = rw e refl

differs : (text word : List ℕ) → list_all is_ascii text ≡ false → list_all is_ascii word ≡ true → same_text text word ≡ false
differs text word some all = by (same_text text word) refl
  where
    by : (b : Bool) → same_text text word ≡ b → same_text text word ≡ false
    by true e = absurd (cc (ap (list_all is_ascii) ((same_text-Decides text word).0 e)))
    by false e = e

truth_refuses : (text : List ℕ) → list_all is_ascii text ≡ false → truth_of text ≡ Err NotATruth
truth_refuses text some =
    rw (differs text (codes "true") some refl, differs text (codes "1") some refl, differs text (codes "false") some refl, differs text (codes "0") some refl) refl

-- a value of a text with characters
at_integer : (cs : List ℕ) → 0 < length cs → value_of IntegerKind cs ≡ result_map_both Integer (λ e. e) (integer_of cs)
at_integer [] some = absurd (omega arith)
at_integer (c ∷ cs) some = refl

at_number : (cs : List ℕ) → 0 < length cs → value_of NumberKind cs ≡ result_map_both Number (λ e. e) (number_of cs)
at_number [] some = absurd (omega arith)
at_number (c ∷ cs) some = refl

at_truth : (cs : List ℕ) → 0 < length cs → value_of TruthKind cs ≡ result_map_both Truth (λ e. e) (truth_of cs)
at_truth [] some = absurd (omega arith)
at_truth (c ∷ cs) some = refl

at_text : (cs : List ℕ) → 0 < length cs → value_of TextKind cs ≡ Ok (Text (without_first BACKSLASH cs))
at_text [] some = absurd (omega arith)
at_text (c ∷ cs) some = refl

-- a text with bytes has characters
some_chars : (bs : List ℕ) → IsUtf8 bs → 0 < length bs → 0 < length (chars bs)
some_chars bs u some = by (chars bs) (encodes-chars bs u)
  where
    by : (cs : List ℕ) → encodes cs ≡ bs → 0 < length cs
    by [] e = (let none : 0 ≡ length bs = ap length e in absurd (omega arith))
    by (c ∷ cs) e = omega arith

pub value_of-integer : (bs : List ℕ) → IsUtf8 bs → 0 < length bs → value_of IntegerKind (chars bs) ≡ result_map_both Integer (λ e. e) (integer_of bs)
value_of-integer bs u some = at_integer (chars bs) (some_chars bs u some) ∙ ap (result_map_both Integer (λ e. e)) (same_on_chars integer_of (Err NotAnInteger) integer_refuses bs u (list_all is_ascii bs) refl)

pub value_of-number : (bs : List ℕ) → IsUtf8 bs → 0 < length bs → value_of NumberKind (chars bs) ≡ result_map_both Number (λ e. e) (number_of bs)
value_of-number bs u some = at_number (chars bs) (some_chars bs u some) ∙ ap (result_map_both Number (λ e. e)) (same_on_chars number_of (Err NotANumber) number_refuses bs u (list_all is_ascii bs) refl)

pub value_of-truth : (bs : List ℕ) → IsUtf8 bs → 0 < length bs → value_of TruthKind (chars bs) ≡ result_map_both Truth (λ e. e) (truth_of bs)
value_of-truth bs u some = at_truth (chars bs) (some_chars bs u some) ∙ ap (result_map_both Truth (λ e. e)) (same_on_chars truth_of (Err NotATruth) truth_refuses bs u (list_all is_ascii bs) refl)

pub value_of-text : (bs : List ℕ) → IsUtf8 bs → 0 < length bs → value_of TextKind (chars bs) ≡ Ok (Text (without_first BACKSLASH (chars bs)))
value_of-text bs u some = at_text (chars bs) (some_chars bs u some)

pub value_of-empty : (kind : Kind) (bs : List ℕ) → length bs ≡ 0 → value_of kind (chars bs) ≡ Ok Null
value_of-empty kind [] none = rw chars-nil refl
value_of-empty kind (b ∷ bs) none = absurd (omega arith)

-- a backslash before bytes is one before their characters
pub chars-backslash : (bs : List ℕ) → chars (BACKSLASH ∷ bs) ≡ BACKSLASH ∷ chars bs
unfolding chars
chars-backslash [] = refl
chars-backslash (b ∷ bs) = refl

pub begins-backslash : (bs : List ℕ) → IsUtf8 bs → ((rest : List ℕ) → bs ≢ BACKSLASH ∷ rest) → begins_with BACKSLASH (chars bs) ≡ false
begins-backslash bs u none = by (chars bs) (encodes-chars bs u)
  where
    first : (c : ℕ) (cs : List ℕ) (b : Bool) → (c == BACKSLASH) ≡ b → encode c ++ encodes cs ≡ bs → (c == BACKSLASH) ≡ false
    first c cs true e is =
        let backslash : c ≡ BACKSLASH = grind (arith, nat_tests) in
        absurd (none (encodes cs) (sym is ∙ rw (backslash, encode_ascii BACKSLASH (omega arith)) refl))
    first c cs false e is = e

    by : (cs : List ℕ) → encodes cs ≡ bs → begins_with BACKSLASH cs ≡ false
    by [] e = refl
    by (c ∷ cs) e = first c cs (c == BACKSLASH) refl e

nonempty : (n : ℕ) → false ≡ (n == 0) → 0 < n
nonempty n h = grind (arith, nat_tests)

-- what `read_value` answers of each kind, from what the bytes say
pub reads-integer : (kind : Kind) (bs bytes : List ℕ) (r : Result ℤ BadText) → kind ≡ IntegerKind → IsUtf8 bs → false ≡ (length bs == 0) → bytes ≡ bs → r ≡ integer_of bytes → value_of kind (chars bs) ≡ result_map_both Integer (λ e. e) r
reads-integer kind bs bytes r is u some same read = rw (is, read, same) (value_of-integer bs u (nonempty (length bs) some))

pub reads-number : (kind : Kind) (bs bytes : List ℕ) (r : Result ℤ BadText) → kind ≡ NumberKind → IsUtf8 bs → false ≡ (length bs == 0) → bytes ≡ bs → r ≡ number_of bytes → value_of kind (chars bs) ≡ result_map_both Number (λ e. e) r
reads-number kind bs bytes r is u some same read = rw (is, read, same) (value_of-number bs u (nonempty (length bs) some))

pub reads-truth : (kind : Kind) (bs bytes : List ℕ) (r : Result Bool BadText) → kind ≡ TruthKind → IsUtf8 bs → false ≡ (length bs == 0) → bytes ≡ bs → r ≡ truth_of bytes → value_of kind (chars bs) ≡ result_map_both Truth (λ e. e) r
reads-truth kind bs bytes r is u some same read = rw (is, read, same) (value_of-truth bs u (nonempty (length bs) some))

pub reads-text : (kind : Kind) (bs word : List ℕ) → kind ≡ TextKind → IsUtf8 bs → false ≡ (length bs == 0) → word ≡ without_first BACKSLASH (chars bs) → value_of kind (chars bs) ≡ Ok (Text word)
reads-text kind bs word is u some read = rw (is, read) (value_of-text bs u (nonempty (length bs) some))

pub reads-empty : (kind : Kind) (bs : List ℕ) → true ≡ (length bs == 0) → value_of kind (chars bs) ≡ Ok Null
reads-empty kind bs none = value_of-empty kind bs (grind (arith, nat_tests))

-- `Bad` answers just the refusals
pub bad_if_ok : (meant : Result Value BadText) (answer : Result Value ReadStop) (v w : Value) → meant ≡ Ok v → answer ≡ Ok w → (fault : BadText) → (answer ≡ Err (Bad fault)) ↔ (meant ≡ Err fault)
bad_if_ok meant answer v w is answered fault = (λ h. cc, λ h. cc)

pub bad_if_bad : (meant : Result Value BadText) (answer : Result Value ReadStop) (b : BadText) → meant ≡ Err b → IsErrAnd answer (λ stop. stop ≡ Bad b) → (fault : BadText) → (answer ≡ Err (Bad fault)) ↔ (meant ≡ Err fault)
bad_if_bad meant (Ok v) b is given fault = absurd given
bad_if_bad meant (Err stop) b is given fault = (λ h. cc, λ h. cc)

-- the content of a text after `strip_prefix`
pub content : (bs : List ℕ) → IsUtf8 bs → (r : Option (Bor (List ℕ))) (t u : Bor (List ℕ)) → t.now ≡ bs → MatchOption r ((rest : List ℕ) → bs ≢ BACKSLASH ∷ rest) (λ x. bs ≡ BACKSLASH ∷ x.now) → u ≡ unwrap_or r t → chars u.now ≡ without_first BACKSLASH (chars bs)
content bs utf8 None t u same none is = rw (is, same, begins-backslash bs utf8 none) refl
content bs utf8 (Some x) t u same some is = rw (is, some, chars-backslash x.now) refl

-- what the tests of a text's bytes tell of its characters
pub needs_backslash-empty : (bs : List ℕ) (r : Bool) → r ≡ (length bs == 0) → r ≡ true → r ≡ needs_backslash (chars bs)
needs_backslash-empty [] r is empty = rw chars-nil empty
needs_backslash-empty (b ∷ bs) r is empty = absurd (let e : (length (b ∷ bs) == 0) ≡ false = grind (arith, nat_tests) in cc)

first_char : (bs : List ℕ) (cs : List ℕ) (r : Bool) → encodes cs ≡ bs → 0 < length bs → Decides r (get_or bs 0 0 ≡ BACKSLASH) → r ≡ needs_backslash cs
first_char bs [] r is some test = (let none : 0 ≡ length bs = ap length is in absurd (omega arith))
first_char bs (c ∷ cs) true is some test =
    let byte : get_or bs 0 0 ≡ 92 = test.0 refl in
    let same : c ≡ get_or bs 0 0 = char_from_byte bs (encodes cs) c (sym is) (omega arith) some in
    let backslash : c ≡ 92 = same ∙ byte in
    rw backslash refl
first_char bs (c ∷ cs) false is some test = by (c == BACKSLASH) refl
  where
    by : (b : Bool) → (c == BACKSLASH) ≡ b → false ≡ (c == BACKSLASH)
    by true e =
        let backslash : c ≡ 92 = grind (arith, nat_tests) in
        let byte : get_or bs 0 0 ≡ c = byte_from_char bs (encodes cs) c (sym is) (omega arith) in
        absurd (cc (test.1 (byte ∙ backslash)))
    by false e = sym e

pub needs_backslash-first : (bs : List ℕ) (r : Bool) → IsUtf8 bs → false ≡ (length bs == 0) → Decides r (get_or bs 0 0 ≡ BACKSLASH) → r ≡ needs_backslash (chars bs)
needs_backslash-first bs r u some test = first_char bs (chars bs) r (encodes-chars bs u) (nonempty (length bs) some) test
