-- The decimals that are written.
use Rattle.std.proofs.Common.{◌≡◌, ◌==◌, ℕ, zero, suc, ◌+◌, ◌-◌, ◌*◌, ◌/◌, ◌%◌, ◌^◌, ◌<◌, ◌≤◌, true, false, List, [], ◌∷◌, ◌++◌, length, take, replicate, refl, sym, ap, ◌∙◌, arith, append_assoc, append-nil, ⊎_elim}
use Rattle.std.proofs.Math.Nat.{pow-suc}
use Rattle.std.proofs.lemmas.Bool.{cases_lt}
use Rattle.std.proofs.lemmas.Bool.Decides.{nat_tests}
use Rattle.std.proofs.lemmas.Nat.{div_below, div-add-mod'}
use Rattle.std.proofs.lemmas.Str.{digit_value_digit}
use Rattle.std.specs.Char.{is_ascii_digit, digit_value}
use Rattle.std.specs.List.{list_all}
use Rattle.std.specs.Str.Parse.{digits_value, digits_value_after}
use Rattle.vtl_values.specs.Numerals.{ZERO, fraction_digits}
use Rattle.vtl_values.proofs.Digits.{digit_test}

pub ten_pos : (k : ℕ) → 0 < 10 ^ k
ten_pos zero = omega arith
ten_pos (suc k) = omega (arith, ten_pos k, pow-suc 10 k)

-- nothing is left
pub fraction_digits-zero : (places : ℕ) → fraction_digits places 0 ≡ []
unfolding fraction_digits
fraction_digits-zero zero = refl
fraction_digits-zero (suc places) = refl

-- the next digit, and those of the rest
pub fraction_digits-suc : (places n : ℕ) → 0 < n → fraction_digits (suc places) n ≡ (ZERO + n / 10 ^ places) ∷ fraction_digits places (n % 10 ^ places)
unfolding fraction_digits
fraction_digits-suc places n some = (let e : (n == 0) ≡ false = grind (arith, nat_tests) in rw e refl)

-- a digit of n out of 10^(places + 1)
pub first_digit-lt : (places n : ℕ) → n < 10 ^ suc places → n / 10 ^ places < 10
first_digit-lt places n below = div_below n (10 ^ places) 10 (ten_pos places) (omega (arith, pow-suc 10 places))

pub rest-lt : (places n : ℕ) → n % 10 ^ places < 10 ^ places
rest-lt places n = (let some : 0 < 10 ^ places = ten_pos places in omega arith)

-- a turn of the loop that writes them
pub record GoesOn (start after : List ℕ) (places rest unit : ℕ) : Type 0 where
  pub left : rest % unit < 10 ^ (places - 1)
  pub so_far : after ++ fraction_digits (places - 1) (rest % unit) ≡ start

pub one_more : (start before after : List ℕ) (places rest unit digit : ℕ) → rest < 10 ^ places → 0 < rest → unit ≡ 10 ^ (places - 1) → digit ≡ ZERO + rest / unit → after ≡ before ++ digit ∷ [] → before ++ fraction_digits places rest ≡ start → GoesOn start after places rest unit
one_more start before after zero rest unit digit below some is_unit is_digit is so_far = absurd (omega arith)
one_more start before after (suc places) rest unit digit below some is_unit is_digit is so_far =
    let less : suc places - 1 ≡ places = omega arith in
    let of_ten : unit ≡ 10 ^ places = is_unit ∙ ap (λ k. 10 ^ k) less in
    record {
      left = rw (less, of_ten) (rest-lt places rest);
      so_far =
          rw (less, is, is_digit, of_ten)
          (append_assoc before ((ZERO + rest / 10 ^ places) ∷ []) (fraction_digits places (rest % 10 ^ places))
          ∙ ap (λ l. before ++ l) (sym (fraction_digits-suc places rest some))
          ∙ so_far);
    }

-- they are digits
pub all-fraction_digits : (places n : ℕ) → n < 10 ^ places → list_all is_ascii_digit (fraction_digits places n) ≡ true
unfolding fraction_digits
all-fraction_digits zero n below = refl
all-fraction_digits (suc places) n below = ⊎_elim
    (λ (some : 0 < n).
    let digit : n / 10 ^ places < 10 = first_digit-lt places n below in
    let test : is_ascii_digit (ZERO + n / 10 ^ places) ≡ true = digit_test (ZERO + n / 10 ^ places) (omega arith, omega arith) in
    rw (fraction_digits-suc places n some, test) (all-fraction_digits places (n % 10 ^ places) (rest-lt places n)))
    (λ (none : n ≤ 0). (let is : n ≡ 0 = omega arith in rw is refl))
    (cases_lt 0 n)

-- at most as many as there are places
pub length-fraction_digits : (places n : ℕ) → length (fraction_digits places n) ≤ places
unfolding fraction_digits
length-fraction_digits zero n = omega arith
length-fraction_digits (suc places) n = ⊎_elim
    (λ (some : 0 < n). rw (fraction_digits-suc places n some) (omega (arith, length-fraction_digits places (n % 10 ^ places))))
    (λ (none : n ≤ 0). (let is : n ≡ 0 = omega arith in rw is (omega arith)))
    (cases_lt 0 n)

-- zeros after a number
zeros_after : (m k n : ℕ) → k ≤ m → digits_value_after 10 n (take k (replicate m ZERO)) ≡ n * 10 ^ k
zeros_after m zero n le = omega arith
zeros_after zero (suc k) n le = absurd (omega arith)
zeros_after (suc m) (suc k) n le = zeros_after m k (n * 10 + 0) (omega arith) ∙ rw (pow-suc 10 k) (grind arith)

-- they spell n, filled up with zeros
fraction_after : (places m n before : ℕ) → places ≤ m → n < 10 ^ places → digits_value_after 10 before (take places (fraction_digits places n ++ replicate m ZERO)) ≡ before * 10 ^ places + n
fraction_after zero m n before le below = omega arith
fraction_after (suc places) m n before le below = ⊎_elim
    (λ (some : 0 < n).
    let digit : n / 10 ^ places < 10 = first_digit-lt places n below in
    let value : digit_value (ZERO + n / 10 ^ places) ≡ n / 10 ^ places = omega (arith, digit_value_digit (ZERO + n / 10 ^ places) (omega arith, omega arith)) in
    rw (fraction_digits-suc places n some)
    (ap (λ d. digits_value_after 10 (before * 10 + d) (take places (fraction_digits places (n % 10 ^ places) ++ replicate m ZERO))) value
    ∙ fraction_after places m (n % 10 ^ places) (before * 10 + n / 10 ^ places) (omega arith) (rest-lt places n)
    ∙ rw (pow-suc 10 places) (grind (arith, div-add-mod' n (10 ^ places)))))
    (λ (none : n ≤ 0). (let is : n ≡ 0 = omega arith in rw (is, fraction_digits-zero (suc places)) (zeros_after m (suc places) before le ∙ omega arith)))
    (cases_lt 0 n)

pub digits_value-fraction : (n : ℕ) → n < 1000000 → digits_value 10 (take 6 (fraction_digits 6 n ++ replicate 6 ZERO)) ≡ n
digits_value-fraction n below = fraction_after 6 6 n 0 (omega arith) below ∙ omega arith

pub quotient-lt : (places rest unit : ℕ) → rest < 10 ^ places → 0 < rest → unit ≡ 10 ^ (places - 1) → rest / unit < 10
quotient-lt zero rest unit below some is_unit = absurd (omega arith)
quotient-lt (suc places) rest unit below some is_unit =
    let less : suc places - 1 ≡ places = omega arith in
    rw (is_unit, less) (first_digit-lt places rest below)

pub unit_pos : (places unit : ℕ) → unit ≡ 10 ^ (places - 1) → 0 < unit
unit_pos places unit is_unit = omega (arith, ten_pos (places - 1))

-- the loop ends where nothing is left
pub all_written : (start text : List ℕ) (places rest : ℕ) → text ++ fraction_digits places rest ≡ start → rest ≡ 0 → text ≡ start
all_written start text places rest so_far none =
    sym (append-nil text) ∙ ap (λ l. text ++ l) (sym (fraction_digits-zero places)) ∙ ap (λ n. text ++ fraction_digits places n) (sym none) ∙ so_far
