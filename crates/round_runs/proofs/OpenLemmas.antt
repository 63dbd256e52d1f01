-- Rounds that are opened.
use Rattle.std.proofs.Common.{◌≡◌, ◌==◌, ◌≢◌, ◌⊎◌, ◌↔◌, ◌≤◌, ◌<◌, ◌+◌, ◌*◌, ℕ, Bool, true, false, cond, List, [], ◌∷◌, length, Option, Some, None, Result, Ok, Err, refl, ap, ◌∙◌, arith, inl, inr, ⊎_elim}
use Rattle.std.proofs.lemmas.Bool.Decides.{nat_tests}
use Rattle.round_core.specs.Journals.{round_need}
use Rattle.round_core.specs.declared.limits.Full.{Full}
use Rattle.round_core.specs.declared.stops.OpenStop.{OpenStop}
use Rattle.round_core.specs.declared.stops.OpenStop.TheVariants as stop
use Rattle.round_core.specs.Answers.{nothing_new, entries_wanting, no_room, cannot_open}
use Rattle.round_core.specs.Seen.{Seen, state_in}
use Rattle.round_runs.proofs.RoundLemmas.{SaysWhy}
use Rattle.round_runs.proofs.JudgeLemmas.{entries_fit}

-- ---- the first round

-- no round is open or was, of the first script, and one has room
pub record HasRoom (p : Seen) : Type 0 where
  pub running : (state_in p).running ≡ false
  pub to : (state_in p).to ≡ 0
  pub newest : (state_in p).newest.number ≡ 0
  pub room : length p.journal + round_need (state_in p).newest.script ≤ p.limits.entries

nothing : (p : Seen) → HasRoom p → length (state_in p).accepted ≡ 0 → nothing_new (state_in p) ≡ true
nothing p h none = let newest = h.newest in rw (none, newest) refl

not_zero : (n : ℕ) → n ≢ 0 → (n == 0) ≡ false
not_zero n h = grind (arith, nat_tests)

zero_not : (n : ℕ) → n ≢ 0 → (0 == n) ≡ false
zero_not n h = grind (arith, nat_tests)

something : (p : Seen) → HasRoom p → length (state_in p).accepted ≢ 0 → nothing_new (state_in p) ≡ false
something p h some =
    let to = h.to in
    let a = not_zero (length (state_in p).accepted) some in
    let b = zero_not (length (state_in p).accepted) some in
    rw (to, a, b) refl

refused : (p : Seen) → HasRoom p → nothing_new (state_in p) ≡ true → cannot_open p ≡ Some (stop.NothingNew (length (state_in p).accepted))
refused p h none = let running = h.running in rw (running, none) refl

opens : (p : Seen) → HasRoom p → nothing_new (state_in p) ≡ false → cannot_open p ≡ None
opens p h some =
    let running = h.running in
    let room = h.room in
    let fits = entries_fit p 0 (round_need (state_in p).newest.script) (omega (arith, room)) in
    rw (running, some, fits) refl

none_or_some : {X : Type 0} (l : List X) → (l ≡ []) ⊎ (length l ≢ 0)
none_or_some [] = inl refl
none_or_some (x ∷ xs) = inr (λ e. omega (arith, e))

-- where it isn't opened nothing was accepted
pub none_accepted : (p : Seen) (why : OpenStop) → HasRoom p → cannot_open p ≡ Some why → ((state_in p).accepted ≡ []) × (why ≡ stop.NothingNew (length (state_in p).accepted))
none_accepted p why h e = ⊎_elim
    (λ (none : (state_in p).accepted ≡ []). (none, let is = refused p h (nothing p h (ap length none)) in cc (is, e)))
    (λ (some : length (state_in p).accepted ≢ 0). absurd (let is = opens p h (something p h some) in cc (is, e)))
    (none_or_some (state_in p).accepted)

pub not_full : (p : Seen) (full : Full) → HasRoom p → cannot_open p ≢ Some (stop.Full full)
not_full p full h e = let other = (none_accepted p (stop.Full full) h e).1 in cc other

-- where it is opened something was
pub some_accepted : (p : Seen) → HasRoom p → cannot_open p ≡ None → 0 < length (state_in p).accepted
some_accepted p h e = ⊎_elim
    (λ (none : (state_in p).accepted ≡ []). absurd (let is = refused p h (nothing p h (ap length none)) in cc (is, e)))
    (λ (some : length (state_in p).accepted ≢ 0). omega (arith, some))
    (none_or_some (state_in p).accepted)

-- ---- what the call answers

never_running : (c : Bool) (y k : ℕ) (o : Option Full) → cond c (Some (stop.NothingNew y)) (no_room o) ≢ Some (stop.Running k)
never_running true y k o e = cc e
never_running false y k None e = cc e
never_running false y k (Some full) e = cc e

open_running : (p : Seen) (k : ℕ) → (state_in p).running ≡ false → cannot_open p ≢ Some (stop.Running k)
open_running p k closed e = never_running (nothing_new (state_in p)) (length (state_in p).accepted) k (entries_wanting p 0 (round_need (state_in p).newest.script)) (rw closed at e)

never_memory : (b c : Bool) (x y : ℕ) (o : Option Full) → cond b (Some (stop.Running x)) (cond c (Some (stop.NothingNew y)) (no_room o)) ≢ Some stop.Memory
never_memory true c x y o e = cc e
never_memory false true x y o e = cc e
never_memory false false x y None e = cc e
never_memory false false x y (Some full) e = cc e

no_reason : (o : Option OpenStop) → ((why : OpenStop) → o ≢ Some why) → o ≡ None
no_reason None h = refl
no_reason (Some why) h = absurd (h why refl)

pub not_running : (p : Seen) (r : Result ℕ OpenStop) (k : ℕ) → (state_in p).running ≡ false → SaysWhy p r → r ≡ Err (stop.Running k) → ⊥
not_running p r k closed says e = open_running p k closed ((says (stop.Running k) (λ m. cc m)).0 e)

-- a round that was opened could be
pub could_open : (p : Seen) (r : Result ℕ OpenStop) (k : ℕ) → SaysWhy p r → r ≡ Ok k → cannot_open p ≡ None
could_open p r k says e = no_reason (cannot_open p) (λ why is.
    let named : why ≢ stop.Memory = λ m. never_memory (state_in p).running (nothing_new (state_in p)) (state_in p).rounds (length (state_in p).accepted) (entries_wanting p 0 (round_need (state_in p).newest.script)) (is ∙ ap Some m) in
    let refused = (says why named).1 is in cc (refused, e))
