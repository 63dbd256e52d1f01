-- What journals count.
use Rattle.std.proofs.Common.{◌≡◌, ◌≢◌, ◌≤◌, ◌<◌, ◌+◌, ◌-◌, ◌*◌, ℕ, suc, zero, true, false, List, [], ◌∷◌, length, sym, ◌∙◌, ap, refl, arith, inl, inr, subst, length-append}
use Rattle.std.proofs.lemmas.Bool.{cases_eq}
use Rattle.point_sets.specs.declared.revision.Revision.{Revision}
use Rattle.data_set_trees.specs.checked.Scripts.{Script}
use Rattle.operator_meaning.specs.Scripts.{with_at}
use Rattle.operator_meaning.proofs.ScriptLemmas.{with_at-same, with_at-other}
use Rattle.round_journal.specs.declared.entry.Entry.{Entry}
use Rattle.round_journal.specs.declared.entry.What.{What}
use Rattle.round_journal.specs.declared.entry.What.TheVariants.{Judged, Rescripted, Opened, Claimed, Returned, GaveUp, Published, Failed, Dropped}
use Rattle.round_journal.specs.declared.verdict.Verdict.{Verdict}
use Rattle.round_journal.specs.declared.verdict.Verdict.TheVariants.{Accepted, Refused}
use Rattle.round_journal.specs.Journals.{State, Status, Waiting, Out, Back, Spoiled, start, accepted_after, after, after_what, after_all, state_of, round_need, aside, Ready, IsOutBy, MayCome, Legal}
use Rattle.round_journal.specs.Ends.{NoneSpoiled}
use Rattle.round_journal.specs.Counts.{CountsWithin, RoundsInOrder, entries_of, entries_below, IsOfStatement}
use Rattle.round_journal.proofs.JournalLemmas.{of_legal}

-- ---- numbers of entries

accepted_after-few : (rs : List Revision) (r : Revision) (v : Verdict) → length (accepted_after rs r v) ≤ length rs + 1
accepted_after-few rs r (Accepted n) = omega (arith, length-append rs (r ∷ []))
accepted_after-few rs r (Refused set parts refusal) = omega arith

CountsWithin-more : (s : State) (m n : ℕ) (w : What) → CountsWithin s m → CountsWithin (after_what s n w) (m + 1)
CountsWithin-more s m n (Judged r v) h = record { accepted = omega (arith, accepted_after-few s.accepted r v, h.accepted); rounds = omega (arith, h.rounds); number = omega (arith, h.number); scripts = omega (arith, h.scripts) }
CountsWithin-more s m n (Published to) h = record { accepted = omega (arith, h.accepted); rounds = omega (arith, h.rounds); number = omega (arith, h.number, length-append s.earlier (s.latest ∷ [])); scripts = omega (arith, h.scripts) }
CountsWithin-more s m n w h = record { accepted = omega (arith, h.accepted); rounds = omega (arith, h.rounds); number = omega (arith, h.number); scripts = omega (arith, h.scripts) }

CountsWithin-all : (s : State) (m : ℕ) (es : List Entry) → CountsWithin s m → CountsWithin (after_all s es) (m + length es)
CountsWithin-all s m [] h = record { accepted = omega (arith, h.accepted); rounds = omega (arith, h.rounds); number = omega (arith, h.number); scripts = omega (arith, h.scripts) }
CountsWithin-all s m (e ∷ es) h =
    let rest = CountsWithin-all (after s e) (m + 1) es (CountsWithin-more s m e.by e.what h) in
    record { accepted = omega (arith, rest.accepted); rounds = omega (arith, rest.rounds); number = omega (arith, rest.number); scripts = omega (arith, rest.scripts) }

pub CountsWithin-journal : (c : Script) (j : List Entry) → CountsWithin (state_of c j) (length j)
CountsWithin-journal c j =
    let all = CountsWithin-all (start c) 0 j (record { accepted = omega arith; rounds = omega arith; number = omega arith; scripts = omega arith }) in
    record { accepted = omega (arith, all.accepted); rounds = omega (arith, all.rounds); number = omega (arith, all.number); scripts = omega (arith, all.scripts) }

-- ---- rounds

RoundsInOrder-keeps : (s : State) (n : ℕ) (w : What) → MayCome s n w → RoundsInOrder s → RoundsInOrder (after_what s n w)
RoundsInOrder-keeps s n (Opened to) may h = record { earlier = omega (arith, h.earlier); before_open = λ _. omega (arith, h.earlier) }
RoundsInOrder-keeps s n (Published to) may h = record { earlier = omega arith; before_open = λ e. absurd (cc e) }
RoundsInOrder-keeps s n (Failed to fault) may h = record { earlier = h.earlier; before_open = λ e. absurd (cc e) }
RoundsInOrder-keeps s n (Dropped to) may h = record { earlier = h.earlier; before_open = λ e. absurd (cc e) }
RoundsInOrder-keeps s n w may h = record { earlier = h.earlier; before_open = h.before_open }

pub RoundsInOrder-legal : (c : Script) (j : List Entry) → Legal c j → RoundsInOrder (state_of c j)
RoundsInOrder-legal c = of_legal c RoundsInOrder (λ s e. RoundsInOrder-keeps s e.by e.what) (record { earlier = omega arith; before_open = λ e. absurd (cc e) })

-- ---- entries of an open round

pub entries_below-none : (n : ℕ) → entries_below n (λ _. Waiting) ≡ 0
entries_below-none zero = refl
entries_below-none (suc n) = omega (arith, entries_below-none n)

-- one statement's entries more or less
entries_below-beyond : (n i : ℕ) (x : Status) (f : ℕ → Status) → n ≤ i → entries_below n (with_at i x f) ≡ entries_below n f
entries_below-beyond zero i x f l = refl
entries_below-beyond (suc n) i x f l =
    ap (λ m. m + entries_of (with_at i x f n)) (entries_below-beyond n i x f (omega arith)) ∙ ap (λ y. entries_below n f + entries_of y) (with_at-other i x f n (λ e. omega (arith, e)))

pub entries_below-with_at : (n i : ℕ) (x : Status) (f : ℕ → Status) → i < n → entries_below n (with_at i x f) + entries_of (f i) ≡ entries_below n f + entries_of x
entries_below-with_at zero i x f l = absurd (omega arith)
entries_below-with_at (suc n) i x f l = elim (cases_eq n i) [
  | inl same ↦
      let before = entries_below-beyond n i x f (omega (arith, same)) in
      let here : with_at i x f n ≡ x = subst (λ m. with_at i x f m ≡ x) (sym same) (with_at-same i x f) in
      omega (arith, before, ap entries_of here, ap (λ m. entries_of (f m)) same)
  | inr other ↦
      let before = entries_below-with_at n i x f (omega (arith, other)) in
      let here = with_at-other i x f n (λ e. other (sym e)) in
      omega (arith, before, ap entries_of here)
]

entries_of-few : (x : Status) → entries_of x ≤ 2
entries_of-few Waiting = omega arith
entries_of-few (Out n) = omega arith
entries_of-few Back = omega arith
entries_of-few Spoiled = omega arith

pub entries_below-few : (n : ℕ) (f : ℕ → Status) → entries_below n f ≤ 2 * n
entries_below-few zero f = omega arith
entries_below-few (suc n) f = omega (arith, entries_below-few n f, entries_of-few (f n))

-- what a statement had not yet is left
pub entries_below-left : (n i : ℕ) (f : ℕ → Status) → i < n → entries_below n f + 2 ≤ 2 * n + entries_of (f i)
entries_below-left zero i f l = absurd (omega arith)
entries_below-left (suc n) i f l = elim (cases_eq n i) [
  | inl same ↦ omega (arith, entries_below-few n f, ap (λ m. entries_of (f m)) same)
  | inr other ↦ omega (arith, entries_below-left n i f (omega (arith, other)), entries_of-few (f n))
]

-- an open round's entries are its own and those of its statements
abbrev pub IsSpent : State → Type 0
IsSpent s = s.running ≡ true → s.spent ≡ 1 + entries_below (length s.round.script.statements) s.status

IsSpent-keeps : (s : State) (n : ℕ) (w : What) → MayCome s n w → IsSpent s → IsSpent (after_what s n w)
IsSpent-keeps s n (Judged r v) may h = h
IsSpent-keeps s n (Rescripted c) may h = h
IsSpent-keeps s n (Opened to) may h = λ _. omega (arith, entries_below-none (length s.newest.script.statements))
IsSpent-keeps s n (Claimed i) may h = λ run.
    let ready = may.1.ready in
    omega (arith, h run, entries_below-with_at (length s.round.script.statements) i (Out n) s.status ready.below, ap entries_of ready.waits)
IsSpent-keeps s n (Returned i) may h = λ run. omega (arith, h run, entries_below-with_at (length s.round.script.statements) i Back s.status may.below, ap entries_of may.out)
IsSpent-keeps s n (GaveUp i) may h = λ run. omega (arith, h run, entries_below-with_at (length s.round.script.statements) i Spoiled s.status may.below, ap entries_of may.out)
IsSpent-keeps s n w may h = λ e. absurd (cc e)

pub IsSpent-legal : (c : Script) (j : List Entry) → Legal c j → IsSpent (state_of c j)
IsSpent-legal c = of_legal c IsSpent (λ s e. IsSpent-keeps s e.by e.what) (λ e. absurd (cc e))

-- ---- the entries that are set aside

pub aside-open : (s : State) → s.running ≡ true → aside s ≡ round_need s.round.script - s.spent
aside-open s run = rw run refl

pub aside-whole : (s : State) → s.running ≡ true → IsSpent s → aside s + s.spent ≡ round_need s.round.script
aside-whole s run h = omega (arith, aside-open s run, h run, entries_below-few (length s.round.script.statements) s.status)

pub aside-end : (s : State) → s.running ≡ true → IsSpent s → 1 ≤ aside s
aside-end s run h = omega (arith, aside-open s run, h run, entries_below-few (length s.round.script.statements) s.status)

pub aside-out : (s : State) (n i : ℕ) → IsOutBy s n i → IsSpent s → 2 ≤ aside s
aside-out s n i out h = omega (arith, aside-open s out.open_round, h out.open_round, entries_below-left (length s.round.script.statements) i s.status out.below, ap entries_of out.out)

pub aside-ready : (s : State) (i : ℕ) → s.running ≡ true → Ready s i → IsSpent s → 3 ≤ aside s
aside-ready s i run ready h = omega (arith, aside-open s run, h run, entries_below-left (length s.round.script.statements) i s.status ready.below, ap entries_of ready.waits)

pub aside-less : (s : State) (n : ℕ) (w : What) → IsOfStatement w → s.running ≡ true → aside (after_what s n w) ≡ aside s - 1
aside-less s n (Claimed i) h run = rw run (omega arith)
aside-less s n (Returned i) h run = rw run (omega arith)
aside-less s n (GaveUp i) h run = rw run (omega arith)
aside-less s n w h run = absurd h

-- ---- statements that were given up

abbrev pub IsUnspoiled : State → Type 0
IsUnspoiled s = s.spoiled ≡ false → NoneSpoiled s

with_at-unspoiled : (s : State) (i : ℕ) (x : Status) → x ≢ Spoiled → NoneSpoiled s → (k : ℕ) → k < length s.round.script.statements → with_at i x s.status k ≢ Spoiled
with_at-unspoiled s i x fine h k l e = elim (cases_eq k i) [
  | inl same ↦ fine (sym (subst (λ m. with_at i x s.status m ≡ x) (sym same) (with_at-same i x s.status)) ∙ e)
  | inr other ↦ h k l (sym (with_at-other i x s.status k (λ q. other (sym q))) ∙ e)
]

IsUnspoiled-keeps : (s : State) (n : ℕ) (w : What) → MayCome s n w → IsUnspoiled s → IsUnspoiled (after_what s n w)
IsUnspoiled-keeps s n (Opened to) may h = λ _ k l e. cc e
IsUnspoiled-keeps s n (Claimed i) may h = λ clean. with_at-unspoiled s i (Out n) (λ e. cc e) (h clean)
IsUnspoiled-keeps s n (Returned i) may h = λ clean. with_at-unspoiled s i Back (λ e. cc e) (h clean)
IsUnspoiled-keeps s n (GaveUp i) may h = λ clean. absurd (cc clean)
IsUnspoiled-keeps s n w may h = h

pub IsUnspoiled-legal : (c : Script) (j : List Entry) → Legal c j → IsUnspoiled (state_of c j)
IsUnspoiled-legal c = of_legal c IsUnspoiled (λ s e. IsUnspoiled-keeps s e.by e.what) (λ _ k l e. cc e)
