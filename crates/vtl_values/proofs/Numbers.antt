-- Numbers as texts: their parts, and that a text which is read spells them.
use Rattle.std.proofs.Common.{◌≡◌, ◌==◌, ℕ, zero, suc, ◌+◌, ◌<◌, ◌≤◌, Bool, true, false, not, ◌||◌, nat_lt, if◌then◌else◌, List, [], ◌∷◌, ◌++◌, length, drop, get_or, position, None, Some, append-nil, refl, sym, ap, ◌∙◌, arith, ⊎_elim}
use Rattle.std.proofs.lemmas.Bool.{cases_lt}
use Rattle.std.proofs.lemmas.Bool.Decides.{nat_tests}
use Rattle.std.proofs.lemmas.List.{take_all}
use Rattle.std.proofs.lemmas.List.Sums.{split_at_first, passes_at_first}
use Rattle.std.proofs.Math.Seq.{drop-nil}
use Rattle.std.specs.Char.{is_ascii_digit}
use Rattle.std.specs.List.{before_first, after_first, list_all, list_any, position_or_len}
use Rattle.vtl_values.specs.Numerals.{MINUS, POINT, begins_with, without_first, is_digits, is_point, is_number, whole_of, decimals_of, pointed, spelling}
use Rattle.vtl_values.proofs.Digits.{both}

-- what `position` tells
pub point_found : (text : List ℕ) (at : ℕ) → Some at ≡ position is_point text → (at ≡ position_or_len is_point text) × (position_or_len is_point text < length text)
point_found text at h = ⊎_elim
    (λ (lt : position_or_len is_point text < length text). (let e : nat_lt (position_or_len is_point text) (length text) ≡ true = grind (arith, nat_tests) in cc (rw e at h), lt))
    (λ (le : length text ≤ position_or_len is_point text). absurd (let e : nat_lt (position_or_len is_point text) (length text) ≡ false = grind (arith, nat_tests) in cc (rw e at h)))
    (cases_lt (position_or_len is_point text) (length text))

pub point_missing : (text : List ℕ) → None ≡ position is_point text → length text ≤ position_or_len is_point text
point_missing text h = ⊎_elim
    (λ (lt : position_or_len is_point text < length text). absurd (let e : nat_lt (position_or_len is_point text) (length text) ≡ true = grind (arith, nat_tests) in cc (rw e at h)))
    (λ (le : length text ≤ position_or_len is_point text). le)
    (cases_lt (position_or_len is_point text) (length text))

-- a list has an element that passes where the first such has a place
list_any-cons : (p : ℕ → Bool) (x : ℕ) (xs : List ℕ) (b : Bool) → p x ≡ b → list_any p xs ≡ nat_lt (position_or_len p xs) (length xs) → list_any p (x ∷ xs) ≡ nat_lt (position_or_len p (x ∷ xs)) (length (x ∷ xs))
list_any-cons p x xs true e rest = rw e (grind (arith, nat_tests))
list_any-cons p x xs false e rest = rw e (rest ∙ grind (arith, nat_tests))

pub list_any-is : (p : ℕ → Bool) (xs : List ℕ) → list_any p xs ≡ nat_lt (position_or_len p xs) (length xs)
list_any-is p [] = refl
list_any-is p (x ∷ xs) = list_any-cons p x xs (p x) refl (list_any-is p xs)

-- where there is no point, all stands before it
pub no_point : (xs : List ℕ) → list_any is_point xs ≡ false → length xs ≤ position_or_len is_point xs
no_point xs none = ⊎_elim
    (λ (lt : position_or_len is_point xs < length xs). absurd (let e : nat_lt (position_or_len is_point xs) (length xs) ≡ true = grind (arith, nat_tests) in cc (list_any-is is_point xs)))
    (λ (le : length xs ≤ position_or_len is_point xs). le)
    (cases_lt (position_or_len is_point xs) (length xs))

pub some_point : (xs : List ℕ) → list_any is_point xs ≡ true → position_or_len is_point xs < length xs
some_point xs some = ⊎_elim
    (λ (lt : position_or_len is_point xs < length xs). lt)
    (λ (le : length xs ≤ position_or_len is_point xs). absurd (let e : nat_lt (position_or_len is_point xs) (length xs) ≡ false = grind (arith, nat_tests) in cc (list_any-is is_point xs)))
    (cases_lt (position_or_len is_point xs) (length xs))

pub before_first-all : (xs : List ℕ) → length xs ≤ position_or_len is_point xs → before_first is_point xs ≡ xs
before_first-all xs le = take_all (position_or_len is_point xs) xs le

pub drop_all : (n : ℕ) (xs : List ℕ) → length xs ≤ n → drop n xs ≡ []
drop_all n [] le = drop-nil {A = ℕ} n
drop_all zero (x ∷ xs) le = absurd (omega arith)
drop_all (suc n) (x ∷ xs) le = drop_all n xs (omega arith)

pub after_first-none : (xs : List ℕ) → length xs ≤ position_or_len is_point xs → after_first is_point xs ≡ []
after_first-none xs le = drop_all (position_or_len is_point xs + 1) xs (omega arith)

pub decimals_of-none : (text : List ℕ) → list_any is_point (without_first MINUS text) ≡ false → decimals_of text ≡ []
decimals_of-none text none = after_first-none (without_first MINUS text) (no_point (without_first MINUS text) none)

-- what the test of digits tells
pub digits_tested : (text : List ℕ) → is_digits text ≡ true → (0 < length text) × (list_all is_ascii_digit text ≡ true)
digits_tested text h =
    let p : (nat_lt 0 (length text) ≡ true) × (list_all is_ascii_digit text ≡ true) = both (nat_lt 0 (length text)) (list_all is_ascii_digit text) h in
    (let e : nat_lt 0 (length text) ≡ true = p.0 in grind (arith, nat_tests), p.1)

-- the parts of a text that passes the test of a number
pub record IsWritten (text : List ℕ) : Type 0 where
  pub spelled : text ≡ spelling (begins_with MINUS text) (whole_of text) (decimals_of text)
  pub some_digits : 0 < length (whole_of text)
  pub whole_digits : list_all is_ascii_digit (whole_of text) ≡ true
  pub decimal_digits : list_all is_ascii_digit (decimals_of text) ≡ true

-- a text is its sign and the rest
sign_and_rest : (text : List ℕ) → text ≡ (if begins_with MINUS text then MINUS ∷ [] else []) ++ without_first MINUS text
sign_and_rest [] = refl
sign_and_rest (c ∷ cs) = by (c == MINUS) refl
  where
    by : (b : Bool) → (c == MINUS) ≡ b → c ∷ cs ≡ (if begins_with MINUS (c ∷ cs) then MINUS ∷ [] else []) ++ without_first MINUS (c ∷ cs)
    by true e = rw e (ap (λ x. x ∷ cs) (grind (arith, nat_tests)))
    by false e = rw e refl

-- a point before decimals
point_before : (ds : List ℕ) → 0 < length ds → POINT ∷ ds ≡ pointed ds
point_before [] some = absurd (omega arith)
point_before (d ∷ ds) some = refl

-- the rest is the whole digits, and a point and decimals if there is a point
whole_and_decimals : (xs : List ℕ) (b : Bool) → list_any is_point xs ≡ b → (not b || is_digits (after_first is_point xs)) ≡ true → xs ≡ before_first is_point xs ++ pointed (after_first is_point xs)
whole_and_decimals xs true some digits =
    let lt : position_or_len is_point xs < length xs = some_point xs some in
    let is : get_or xs (position_or_len is_point xs) 0 ≡ POINT = (let e : is_point (get_or xs (position_or_len is_point xs) 0) ≡ true = passes_at_first is_point xs 0 lt in grind (arith, nat_tests)) in
    split_at_first is_point xs 0 lt
    ∙ ap (λ x. before_first is_point xs ++ (x ∷ after_first is_point xs)) is
    ∙ ap (λ l. before_first is_point xs ++ l) (point_before (after_first is_point xs) (digits_tested (after_first is_point xs) digits).0)
whole_and_decimals xs false none digits =
    let le : length xs ≤ position_or_len is_point xs = no_point xs none in
    sym (rw (before_first-all xs le, after_first-none xs le) (append-nil xs))

decimals_are : (text : List ℕ) (b : Bool) → list_any is_point (without_first MINUS text) ≡ b → (not b || is_digits (decimals_of text)) ≡ true → list_all is_ascii_digit (decimals_of text) ≡ true
decimals_are text true some digits = (digits_tested (decimals_of text) digits).1
decimals_are text false none digits = rw (decimals_of-none text none) refl

pub is_written : (text : List ℕ) → is_number text ≡ true → IsWritten text
is_written text h =
    let p : (is_digits (whole_of text) ≡ true) × ((not (list_any is_point (without_first MINUS text)) || is_digits (decimals_of text)) ≡ true) = both (is_digits (whole_of text)) (not (list_any is_point (without_first MINUS text)) || is_digits (decimals_of text)) h in
    let d : (0 < length (whole_of text)) × (list_all is_ascii_digit (whole_of text) ≡ true) = digits_tested (whole_of text) p.0 in
    record {
      spelled = sign_and_rest text ∙ ap (λ l. (if begins_with MINUS text then MINUS ∷ [] else []) ++ l) (whole_and_decimals (without_first MINUS text) (list_any is_point (without_first MINUS text)) refl p.1);
      some_digits = d.0;
      whole_digits = d.1;
      decimal_digits = decimals_are text (list_any is_point (without_first MINUS text)) refl p.1;
    }
