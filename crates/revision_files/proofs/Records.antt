-- The records of a text, one after the other.
use Rattle.std.proofs.Common.{◌≡◌, ℕ, zero, suc, ◌+◌, ◌-◌, ◌<◌, ◌≤◌, Bool, true, false, List, [], ◌∷◌, ◌++◌, length, Option, Some, None, if◌then◌else◌, refl, sym, ap, subst, ◌∙◌, add-one, arith, true≢false}
use Rattle.std.specs.Prelude.{◌==◌, ◌&&◌, ◌||◌}
use Rattle.csv.specs.Machine.{Read, after_end, ends_at_end, ends_with, field_after, fields_after, in_field, is_end, next_record, start_field, start_record, step}
use Rattle.csv.specs.Reading.{default_config, records_from, records_next}
use Rattle.csv.specs.declared.parser.Action.TheVariants as act
use Rattle.csv.specs.declared.parser.State.{State}
use Rattle.csv.specs.declared.parser.State.TheVariants as st
use Rattle.csv.specs.declared.parser.Action.{Action}
use Rattle.revision_files.specs.Readers.{is_between}

-- an action that ends a record leaves the machine between two of them
abbrev EndsBetween : State × Action → Type 0
EndsBetween next = is_end next.1 ≡ true → is_between next.0 ≡ true

either : (b : Bool) (x y : State × Action) → EndsBetween x → EndsBetween y → EndsBetween (if b then x else y)
either true x y this that = this
either false x y this that = that

after_end-between : (b : Bool) → is_between (if b then st.AfterCr else st.StartRecord) ≡ true
after_end-between true = refl
after_end-between false = refl

in_field-between : (c : ℕ) → EndsBetween (in_field default_config c)
in_field-between c = either (c == 44) (st.StartField, act.EndField) _ (λ h. absurd (true≢false (sym h)))
    (either (ends_with default_config.terminator c) (after_end default_config.terminator c, act.EndRecord) (st.InField, act.Copy) (λ h. after_end-between (c == 13)) (λ h. absurd (true≢false (sym h))))

start_field-between : (c : ℕ) → EndsBetween (start_field default_config c)
start_field-between c = either (c == 34) (st.InQuoted, act.Skip) (in_field default_config c) (λ h. absurd (true≢false (sym h))) (in_field-between c)

start_record-between : (c : ℕ) → EndsBetween (start_record default_config c)
start_record-between c = either (ends_with default_config.terminator c) (st.StartRecord, act.Skip) (start_field default_config c) (λ h. absurd (true≢false (sym h))) (start_field-between c)

step-between : (s : State) (c : ℕ) → EndsBetween (step default_config s c)
step-between st.StartRecord c = start_record-between c
step-between st.StartField c = start_field-between c
step-between st.InField c = in_field-between c
step-between st.InQuoted c = either (c == 34) (st.AfterQuote, act.Skip) (st.InQuoted, act.Copy) (λ h. absurd (true≢false (sym h))) (λ h. absurd (true≢false (sym h)))
step-between st.InEscape c = λ h. absurd (true≢false (sym h))
step-between st.AfterQuote c = either (c == 34) (st.InQuoted, act.Copy) (in_field default_config c) (λ h. absurd (true≢false (sym h))) (in_field-between c)
step-between st.InComment c = either (c == 10) (st.StartRecord, act.Skip) (st.InComment, act.Skip) (λ h. absurd (true≢false (sym h))) (λ h. absurd (true≢false (sym h)))
step-between st.AfterCr c = either (c == 10) (st.StartRecord, act.Skip) (start_record default_config c) (λ h. absurd (true≢false (sym h))) (start_record-between c)

-- what is known of a record that was read from a text
pub record IsNext (xs : List ℕ) (p : Read) : Type 0 where
  pub between : is_between p.1 ≡ true
  pub shorter : length p.2 ≤ length xs - 1

at_end : (b : Bool) (fields : List (List ℕ)) (p : Read) → (if b then Some (fields, st.StartRecord, []) else None) ≡ Some p → IsNext [] p
at_end true fields p is =
    let same : (fields, st.StartRecord, []) ≡ p = cc in
    subst (λ (q : Read). IsNext [] q) same (record { between = refl; shorter = omega arith })
at_end false fields p is = cc

at_byte : (b : Bool) (c : ℕ) (rest : List ℕ) (s : State) (fields : List (List ℕ)) (more : Option Read) (p : Read) → (b ≡ true → is_between s ≡ true) → (more ≡ Some p → IsNext rest p) → (if b then Some (fields, s, rest) else more) ≡ Some p → IsNext (c ∷ rest) p
at_byte true c rest s fields more p between later is =
    let same : (fields, s, rest) ≡ p = cc in
    subst (λ (q : Read). IsNext (c ∷ rest) q) same (record { between = between refl; shorter = omega arith })
at_byte false c rest s fields more p between later is =
    let next = later is in
    record { between = next.between; shorter = omega (arith, next.shorter) }

pub next_record-is : (s : State) (fields : List (List ℕ)) (field xs : List ℕ) (p : Read) → next_record default_config s fields field xs ≡ Some p → IsNext xs p
unfolding next_record
next_record-is s fields field [] p is = at_end (ends_at_end s) (fields ++ (field ∷ [])) p is
next_record-is s fields field (c ∷ rest) p is =
    let next = step default_config s c in
    at_byte (is_end next.1) c rest next.0 (fields_after next.1 fields field) (next_record default_config next.0 (fields_after next.1 fields field) (field_after next.1 c field) rest) p (step-between s c)
    (next_record-is next.0 (fields_after next.1 fields field) (field_after next.1 c field) rest p) is

-- between two records nothing comes of an empty text
next_record-nil : (s : State) → is_between s ≡ true → next_record default_config s [] [] [] ≡ None
unfolding next_record
next_record-nil st.StartRecord between = refl
next_record-nil st.AfterCr between = refl
next_record-nil st.StartField between = cc
next_record-nil st.InField between = cc
next_record-nil st.InQuoted between = cc
next_record-nil st.AfterQuote between = cc
next_record-nil st.InEscape between = cc
next_record-nil st.InComment between = cc

records_from-next : (n : ℕ) (s : State) (xs : List ℕ) (next : Option Read) → next_record default_config s [] [] xs ≡ next → records_from default_config (suc n) s xs ≡ records_next (records_from default_config n) next
unfolding records_from
records_from-next n s xs next is = ap (records_next (records_from default_config n)) is

-- any number of turns that is enough gives the same records
enough : (n m : ℕ) (s : State) (xs : List ℕ) → is_between s ≡ true → length xs < n → length xs < m → records_from default_config n s xs ≡ records_from default_config m s xs
enough zero m s xs between ln lm = absurd (omega arith)
enough (suc n) zero s xs between ln lm = absurd (omega arith)
enough (suc n) (suc m) s [] between ln lm = records_from-next n s [] None (next_record-nil s between) ∙ sym (records_from-next m s [] None (next_record-nil s between))
enough (suc n) (suc m) s (c ∷ rest) between ln lm = by (next_record default_config s [] [] (c ∷ rest)) refl (λ p after short. enough n m p.1 p.2 after (omega arith) (omega arith))
  where
    by : (next : Option Read) → next_record default_config s [] [] (c ∷ rest) ≡ next
        → ((p : Read) → is_between p.1 ≡ true → length p.2 ≤ length rest → records_from default_config n p.1 p.2 ≡ records_from default_config m p.1 p.2)
        → records_from default_config (suc n) s (c ∷ rest) ≡ records_from default_config (suc m) s (c ∷ rest)
    by None is later = records_from-next n s (c ∷ rest) None is ∙ sym (records_from-next m s (c ∷ rest) None is)
    by (Some p) is later =
        let next = next_record-is s [] [] (c ∷ rest) p is in
        let short : length p.2 ≤ length rest = omega (arith, next.shorter) in
        records_from-next n s (c ∷ rest) (Some p) is
        ∙ (ap (λ (rs : List (List (List ℕ))). p.0 ∷ rs) (later p next.between short) ∙ sym (records_from-next m s (c ∷ rest) (Some p) is))

-- the records that are left, where there is a next one, and where there is none
pub left-more : (s : State) (xs : List ℕ) (p : Read) → is_between s ≡ true → next_record default_config s [] [] xs ≡ Some p → records_from default_config (length xs + 1) s xs ≡ p.0 ∷ records_from default_config (length p.2 + 1) p.1 p.2
left-more s [] p between is = cc (next_record-nil s between)
left-more s (c ∷ rest) p between is =
    let next = next_record-is s [] [] (c ∷ rest) p is in
    let short : length p.2 ≤ length rest = omega (arith, next.shorter) in
    ap (λ n. records_from default_config n s (c ∷ rest)) (add-one (length (c ∷ rest)))
    ∙ (records_from-next (length (c ∷ rest)) s (c ∷ rest) (Some p) is ∙ ap (λ (rs : List (List (List ℕ))). p.0 ∷ rs) (enough (length (c ∷ rest)) (length p.2 + 1) p.1 p.2 next.between (omega arith) (omega arith)))

pub left-none : (s : State) (xs : List ℕ) → next_record default_config s [] [] xs ≡ None → records_from default_config (length xs + 1) s xs ≡ []
left-none s xs is = ap (λ n. records_from default_config n s xs) (add-one (length xs)) ∙ records_from-next (length xs) s xs None is
