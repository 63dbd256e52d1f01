-- What journals say, told from their entries.
use Rattle.std.proofs.Common.{◌≡◌, ◌+◌, ℕ, List, [], ◌∷◌, ◌++◌, length, map, sym, ◌∙◌, ap, refl, arith, append_assoc, append-nil, length-append}
use Rattle.std.specs.Prelude.{sum}
use Rattle.std.proofs.lemmas.List.Sums.{sum_by-cons}
use Rattle.round_journal.specs.declared.entry.Entry.{Entry}
use Rattle.round_journal.specs.declared.entry.What.{What}
use Rattle.round_journal.specs.declared.entry.What.TheVariants.{Judged, Rescripted, Opened, Published}
use Rattle.round_journal.specs.declared.verdict.Verdict.TheVariants.{Accepted, Refused}
use Rattle.round_journal.specs.Journals.{State, number, after, after_what, after_all}
use Rattle.round_journal.specs.Words.{accepted_in, fields_in, scripts_in, opened_in, published_in, last_or, said_by}
use Rattle.round_journal.proofs.InputLemmas.{first-after_what}

-- ---- along the entries

-- what each entry appends, all append
appended : {X : Type 0} (read : State → List X) (said : What → List X) → ((s : State) (n : ℕ) (w : What) → read (after_what s n w) ≡ read s ++ said w) → (s : State) (j : List Entry) → read (after_all s j) ≡ read s ++ said_by said j
appended read said one s [] = sym (append-nil (read s))
appended read said one s (e ∷ j) = appended read said one (after s e) j ∙ ap (λ xs. xs ++ said_by said j) (one s e.by e.what) ∙ append_assoc (read s) (said e.what) (said_by said j)

-- what each entry counts, all count
counted : {X : Type 0} (read : State → ℕ) (said : What → List X) → ((s : State) (n : ℕ) (w : What) → read (after_what s n w) ≡ read s + length (said w)) → (s : State) (j : List Entry) → read (after_all s j) ≡ read s + length (said_by said j)
counted read said one s [] = omega arith
counted read said one s (e ∷ j) = omega (arith, counted read said one (after s e) j, one s e.by e.what, length-append (said e.what) (said_by said j))

last_or-append : {X : Type 0} (x : X) (xs ys : List X) → last_or x (xs ++ ys) ≡ last_or (last_or x xs) ys
last_or-append x [] ys = refl
last_or-append x (y ∷ xs) ys = last_or-append y xs ys

-- what each entry sets, the last of them sets
last_set : {X : Type 0} (read : State → X) (said : What → List X) → ((s : State) (n : ℕ) (w : What) → read (after_what s n w) ≡ last_or (read s) (said w)) → (s : State) (j : List Entry) → read (after_all s j) ≡ last_or (read s) (said_by said j)
last_set read said one s [] = refl
last_set read said one s (e ∷ j) =
    last_set read said one (after s e) j ∙ ap (λ x. last_or x (said_by said j)) (one s e.by e.what) ∙ sym (last_or-append (read s) (said e.what) (said_by said j))

-- ---- one entry

accepted-one : (s : State) (n : ℕ) (w : What) → (after_what s n w).accepted ≡ s.accepted ++ accepted_in w
accepted-one s n (Judged r (Accepted receipt)) = refl
accepted-one s n (Judged r (Refused set parts refusal)) = sym (append-nil s.accepted)
accepted-one s n w = sym (append-nil s.accepted)

fields-one : (s : State) (n : ℕ) (w : What) → (after_what s n w).fields ≡ s.fields + fields_in w
fields-one s n (Judged r v) = refl
fields-one s n w = omega arith

rounds-one : (s : State) (n : ℕ) (w : What) → (after_what s n w).rounds ≡ s.rounds + length (opened_in w)
rounds-one s n (Opened to) = refl
rounds-one s n w = omega arith

to-one : (s : State) (n : ℕ) (w : What) → (after_what s n w).to ≡ last_or s.to (opened_in w)
to-one s n (Opened to) = refl
to-one s n w = refl

number-one : (s : State) (n : ℕ) (w : What) → number (after_what s n w) ≡ number s + length (published_in w)
number-one s n (Published to) = length-append s.earlier (s.latest ∷ [])
number-one s n w = omega arith

prefix-one : (s : State) (n : ℕ) (w : What) → (after_what s n w).latest.prefix ≡ last_or s.latest.prefix (published_in w)
prefix-one s n (Published to) = refl
prefix-one s n w = refl

script_number-one : (s : State) (n : ℕ) (w : What) → (after_what s n w).newest.number ≡ s.newest.number + length (scripts_in w)
script_number-one s n (Rescripted c) = refl
script_number-one s n w = omega arith

script-one : (s : State) (n : ℕ) (w : What) → (after_what s n w).newest.script ≡ last_or s.newest.script (scripts_in w)
script-one s n (Rescripted c) = refl
script-one s n w = refl

-- ---- whole journals

pub accepted-said : (s : State) (j : List Entry) → (after_all s j).accepted ≡ s.accepted ++ said_by accepted_in j
accepted-said = appended (λ s. s.accepted) accepted_in accepted-one

pub fields-said : (s : State) (j : List Entry) → (after_all s j).fields ≡ s.fields + sum (map (λ e. fields_in e.what) j)
fields-said s [] = omega arith
fields-said s (e ∷ j) = omega (arith, fields-said (after s e) j, fields-one s e.by e.what, sum_by-cons (λ x. x) (fields_in e.what) (map (λ e. fields_in e.what) j))

pub rounds-said : (s : State) (j : List Entry) → (after_all s j).rounds ≡ s.rounds + length (said_by opened_in j)
rounds-said = counted (λ s. s.rounds) opened_in rounds-one

pub to-said : (s : State) (j : List Entry) → (after_all s j).to ≡ last_or s.to (said_by opened_in j)
to-said = last_set (λ s. s.to) opened_in to-one

pub number-said : (s : State) (j : List Entry) → number (after_all s j) ≡ number s + length (said_by published_in j)
number-said = counted number published_in number-one

pub prefix-said : (s : State) (j : List Entry) → (after_all s j).latest.prefix ≡ last_or s.latest.prefix (said_by published_in j)
prefix-said = last_set (λ s. s.latest.prefix) published_in prefix-one

pub script_number-said : (s : State) (j : List Entry) → (after_all s j).newest.number ≡ s.newest.number + length (said_by scripts_in j)
script_number-said = counted (λ s. s.newest.number) scripts_in script_number-one

pub script-said : (s : State) (j : List Entry) → (after_all s j).newest.script ≡ last_or s.newest.script (said_by scripts_in j)
script-said = last_set (λ s. s.newest.script) scripts_in script-one

pub first-said : (s : State) (j : List Entry) → (after_all s j).first ≡ s.first
first-said s [] = refl
first-said s (e ∷ j) = first-said (after s e) j ∙ first-after_what s e.by e.what
