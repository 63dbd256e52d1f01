-- Rounds that one caller runs alone.
use Rattle.std.proofs.Common.{◌≡◌, ◌==◌, ◌≢◌, ◌⊎◌, ◌↔◌, ◌+◌, ℕ, Bool, true, false, cond, List, [], ◌∷◌, ◌++◌, length, Option, Some, None, Result, Ok, Err, IsOk, refl, sym, ap, ◌∙◌, subst, arith, append_assoc, append-nil, length-append, ⊎_elim, inl, inr}
use Rattle.std.specs.List.{All}
use Rattle.std.proofs.lemmas.Bool.Decides.{nat_tests}
use Rattle.std.proofs.lemmas.List.Elements.{All-append, All-cons, All-nil}
use Rattle.data_set_trees.specs.checked.Scripts.{Script}
use Rattle.data_set_trees.specs.declared.checked.script.CheckedStatement.{CheckedStatement}
use Rattle.operator_meaning.specs.Scripts.{with_at}
use Rattle.round_core.specs.work.Work.{Work}
use Rattle.round_core.specs.work.DoneParts.{DoneParts}
use Rattle.round_core.specs.work.Finish.{Finish}
use Rattle.round_core.specs.work.Finish.TheVariants as finish
use Rattle.round_core.specs.Nodes.{CanRun, WorkStandsFor, DoneStandsFor}
use Rattle.point_sets.specs.DataSets.{DataSet}
use Rattle.round_core.specs.Journals.{State, Named, Status, Out, Back, Spoiled, after_what, number, inputs, NoneOut, NoneReady, Over}
use Rattle.round_core.specs.Stands.{WorkStands, DoneStands}
use Rattle.round_core.specs.Counts.{IsOfStatement}
use Rattle.round_core.specs.entry.Entry.{Entry}
use Rattle.round_core.specs.entry.What.{What}
use Rattle.round_core.specs.entry.What.TheVariants.{Opened, Claimed, Returned, GaveUp, Published as PublishedTo, Failed as FailedTo, Dropped as DroppedTo}
use Rattle.round_core.specs.verdict.ScriptFault.{ScriptFault}
use Rattle.round_core.proofs.JournalLemmas.{state_of-more}
use Rattle.round_core.specs.declared.stops.ClaimStop.{ClaimStop}
use Rattle.round_core.specs.declared.stops.ClaimStop.TheVariants.{NoRound, NoneReady as NothingReady}
use Rattle.round_core.specs.declared.stops.Given.TheVariants as given
use Rattle.round_core.specs.Answers.{given_what, cannot_open}
use Rattle.round_core.specs.Seen.{Seen, state_in, seen_with, opened}
use Rattle.round_core.specs.declared.stops.OpenStop.{OpenStop}
use Rattle.round_core.specs.declared.stops.OpenStop.TheVariants as stop
use Rattle.round_core.specs.declared.stops.Given.{Given}
use Rattle.round_runs.specs.Rounds.{IsOpen, IsBackOf, IsDone, GivesNext, IsSameRound, WorksOn, IsNext, RunsRound, RunsWhole, newly_open, end_given, not_opened}

-- ---- one entry more

pub state_in-more : (p : Seen) (n : ℕ) (w : What) → state_in (seen_with p n w) ≡ after_what (state_in p) n w
state_in-more p n w = state_of-more p.script p.journal (record { by = n; what = w })

-- a statement was handed out and came back
abbrev pub back_with : Seen → ℕ → ℕ → What → Seen
back_with p n i w = seen_with (seen_with p n (Claimed i)) n w

state_in-back : (p : Seen) (n i : ℕ) (w : What) → state_in (back_with p n i w) ≡ after_what (after_what (state_in p) n (Claimed i)) n w
state_in-back p n i w = state_in-more (seen_with p n (Claimed i)) n w ∙ ap (λ (s : State). after_what s n w) (state_in-more p n (Claimed i))

back_cases : (P : What → Type 0) (i : ℕ) (w : What) → IsBackOf i w → P (Returned i) → P (GaveUp i) → P w
back_cases P i w back a b = ⊎_elim (λ (e : w ≡ Returned i). subst P (sym e) a) (λ (e : w ≡ GaveUp i). subst P (sym e) b) back

-- ---- claiming

pub claim_ok : (p : Seen) (r : Result Work ClaimStop) → IsOpen p → ¬ (Over (state_in p))
    → ((rounds : ℕ) → (r ≡ Err (NoRound rounds)) → (state_in p).running ≡ false)
    → ((out : ℕ) → (r ≡ Err (NothingReady out)) → NoneReady (state_in p)) → IsOk r
claim_ok p (Ok w) o live a b = refl
claim_ok p (Err (NoRound rounds)) o live a b = absurd (let closed = a rounds refl in let running = o.running in cc (closed, running))
claim_ok p (Err (NothingReady out)) o live a b = absurd (live (record { open_still = o.running; none_ready = b out refl; none_out = o.none_out }))

pub can_run : (s : State) (w : Work) → WorkStands s w → CanRun w
can_run s w h = (s.round.script, (inputs w.base s, inputs w.to s, h.on))

pub back_of : (finish : Finish) (i : ℕ) → IsBackOf i (given_what finish i)
back_of (finish.Right deltas points pages) i = inl refl
back_of (finish.Fault kept told) i = inl refl
back_of finish.GaveUp i = inr refl

-- it says why a round can't be opened, but for want of memory
abbrev pub SaysWhy : Seen → Result ℕ OpenStop → Type 0
SaysWhy p r = (why : OpenStop) → why ≢ stop.Memory → (r ≡ Err why) ↔ (cannot_open p ≡ Some why)

-- ---- going on

still_none : (i n m j : ℕ) (x : Status) (f : ℕ → Status) → x ≢ Out m → f j ≢ Out m → with_at i x (with_at i (Out n) f) j ≢ Out m
still_none i n m j x f a b = elim (j == i) as (λ t. cond t x (cond t (Out n) (f j)) ≢ Out m) [ true ↦ a | false ↦ b ]

abbrev IsOpenIn : State → Type 0
IsOpenIn s = (s.running ≡ true) × NoneOut s

open_back : (s : State) (n i : ℕ) (w : What) → IsOpenIn s → IsBackOf i w → IsOpenIn (after_what (after_what s n (Claimed i)) n w)
open_back s n i w o back = back_cases (λ (w : What). IsOpenIn (after_what (after_what s n (Claimed i)) n w)) i w back
    (o.0, λ j m l. still_none i n m j Back s.status (λ e. cc e) (o.1 j m l))
    (o.0, λ j m l. still_none i n m j Spoiled s.status (λ e. cc e) (o.1 j m l))

pub open_more : (p q : Seen) (n i : ℕ) (w : What) → IsOpen p → IsBackOf i w → q ≡ back_with p n i w → IsOpen q
open_more p q n i w o back is =
    let o' = subst IsOpenIn (sym (state_in-back p n i w)) (open_back (state_in p) n i w (o.running, o.none_out) back) in
    subst IsOpen (sym is) (record { running = o'.0; none_out = o'.1 })

same_back : (s : State) (n i : ℕ) (w : What) → IsBackOf i w → IsSameRound s (after_what (after_what s n (Claimed i)) n w)
same_back s n i w back = back_cases (λ (w : What). IsSameRound s (after_what (after_what s n (Claimed i)) n w)) i w back
    (record { first = refl; newest = refl; accepted = refl; latest = refl; earlier = refl; round = refl; dropped = refl; to = refl })
    (record { first = refl; newest = refl; accepted = refl; latest = refl; earlier = refl; round = refl; dropped = refl; to = refl })

same_then : (s t u : State) → IsSameRound s t → IsSameRound t u → IsSameRound s u
same_then s t u a b = record { first = b.first ∙ a.first; newest = b.newest ∙ a.newest; accepted = b.accepted ∙ a.accepted; latest = b.latest ∙ a.latest; earlier = b.earlier ∙ a.earlier; round = b.round ∙ a.round; dropped = b.dropped ∙ a.dropped; to = b.to ∙ a.to }

-- the entries of a statement
abbrev both : ℕ → ℕ → What → List Entry
both n i w = (record { by = n; what = Claimed i }) ∷ (record { by = n; what = w }) ∷ []

joined : (a b : List Entry) (e f : Entry) → (((a ++ b) ++ e ∷ []) ++ f ∷ []) ≡ a ++ (b ++ (e ∷ f ∷ []))
joined a b e f = append_assoc (a ++ b) (e ∷ []) (f ∷ []) ∙ append_assoc a b (e ∷ f ∷ [])

abbrev IsTheirs : ℕ → Entry → Type 0
IsTheirs n e = (e.by ≡ n) × IsOfStatement e.what

all_two : (P : Entry → Type 0) (e f : Entry) → P e → P f → All P (e ∷ f ∷ [])
all_two P e f a b = All-cons P e (f ∷ []) a (All-cons P f [] b (All-nil P))

both_theirs : (n i : ℕ) (w : What) → IsBackOf i w → All (IsTheirs n) (both n i w)
both_theirs n i w back = back_cases (λ (w : What). All (IsTheirs n) (both n i w)) i w back
    (all_two (IsTheirs n) (record { by = n; what = Claimed i }) (record { by = n; what = Returned i }) (refl, tt) (refl, tt))
    (all_two (IsTheirs n) (record { by = n; what = Claimed i }) (record { by = n; what = GaveUp i }) (refl, tt) (refl, tt))

abbrev AreDone : List Entry → Type 0
AreDone = All (λ e. IsDone e.what)

both_done : (s : State) (works : List Entry) (n i : ℕ) (w : What) → IsBackOf i w → (s.spoiled ≡ false → AreDone works)
    → (after_what (after_what s n (Claimed i)) n w).spoiled ≡ false → AreDone (works ++ both n i w)
both_done s works n i w back done = back_cases (λ (w : What). (after_what (after_what s n (Claimed i)) n w).spoiled ≡ false → AreDone (works ++ both n i w)) i w back
    (λ e. All-append (λ x. IsDone x.what) works (both n i (Returned i)) (done e)
    (all_two (λ x. IsDone x.what) (record { by = n; what = Claimed i }) (record { by = n; what = Returned i }) tt tt))
    (λ e. absurd (cc e))

pub works_none : (n : ℕ) (p : Seen) → WorksOn n p p
works_none n p = record {
  works = [];
  more = ap (λ (j : List Entry). record p { journal = j }) (sym (append-nil p.journal));
  theirs = All-nil (IsTheirs n);
  done = λ e. All-nil (λ x. IsDone x.what);
  same = record { first = refl; newest = refl; accepted = refl; latest = refl; earlier = refl; round = refl; dropped = refl; to = refl };
}

works_back : (n : ℕ) (start p : Seen) (i : ℕ) (w : What) → WorksOn n start p → IsBackOf i w → WorksOn n start (back_with p n i w)
works_back n start p i w on back = record {
  works = on.works ++ both n i w;
  more = ap (λ (q : Seen). back_with q n i w) on.more ∙ ap (λ (j : List Entry). record start { journal = j }) (joined start.journal on.works _ _);
  theirs = All-append (IsTheirs n) on.works (both n i w) on.theirs (both_theirs n i w back);
  done = λ e. both_done (state_in p) on.works n i w back on.done (ap (λ (s : State). s.spoiled) (sym (state_in-back p n i w)) ∙ e);
  same = same_then (state_in start) (state_in p) (state_in (back_with p n i w)) on.same
      (subst (IsSameRound (state_in p)) (sym (state_in-back p n i w)) (same_back (state_in p) n i w back));
}

pub works_more : (n : ℕ) (start p q : Seen) (i : ℕ) (w : What) → WorksOn n start p → IsBackOf i w → q ≡ back_with p n i w → WorksOn n start q
works_more n start p q i w on back is = subst (WorksOn n start) (sym is) (works_back n start p i w on back)

two_more : (l : List Entry) (e f : Entry) → length ((l ++ e ∷ []) ++ f ∷ []) ≡ length l + 2
two_more l e f = let a = length-append (l ++ e ∷ []) (f ∷ []) in let b = length-append l (e ∷ []) in omega (arith, a, b)

-- the journal is longer by two
pub longer : (p q : Seen) (n i : ℕ) (w : What) → q ≡ back_with p n i w → (length q.journal ≡ length p.journal + 2) × (q.limits ≡ p.limits)
longer p q n i w is = subst (λ (r : Seen). (length r.journal ≡ length p.journal + 2) × (r.limits ≡ p.limits)) (sym is) (two_more p.journal (record { by = n; what = Claimed i }) (record { by = n; what = w }), refl)

-- ---- ends

-- as a statement is handed out, the round keeps its prefix, and the last release its number
claimed_to : (p : Seen) (n i : ℕ) → (state_in (seen_with p n (Claimed i))).to ≡ (state_in p).to
claimed_to p n i = ap (λ (s : State). s.to) (state_in-more p n (Claimed i))

-- with a statement that is handed out and comes back no release is made
back_number : (p : Seen) (n i : ℕ) → number (state_in (seen_with p n (Claimed i))) ≡ number (state_in p)
back_number p n i = ap number (state_in-more p n (Claimed i))

pub ends_published : (n : ℕ) (start p q : Seen) (k : ℕ) → WorksOn n start p → GivesNext p n (given.Published k) q → RunsRound start n (given.Published k) q
ends_published n start p q k on g = record {
  worked = back_with p n g.statement g.what;
  works = works_back n start p g.statement g.what on g.back;
  what = PublishedTo (state_in (seen_with p n (Claimed g.statement))).to;
  what_is = ap PublishedTo (claimed_to p n g.statement ∙ on.same.to);
  entry = g.gives;
  number = g.number k refl ∙ ap (λ (m : ℕ). m + 1) (back_number p n g.statement ∙ ap (λ (l : List Named). length l) on.same.earlier);
}

pub ends_failed : (n : ℕ) (start p q : Seen) (told : ScriptFault) → WorksOn n start p → GivesNext p n (given.Failed told) q → RunsRound start n (given.Failed told) q
ends_failed n start p q told on g = record {
  worked = back_with p n g.statement g.what;
  works = works_back n start p g.statement g.what on g.back;
  what = FailedTo (state_in (seen_with p n (Claimed g.statement))).to g.gives.0;
  what_is = (g.gives.0, g.gives.1, ap (λ (to : ℕ). FailedTo to g.gives.0) (claimed_to p n g.statement ∙ on.same.to));
  entry = g.gives.2;
  number = tt;
}

pub ends_dropped : (n : ℕ) (start p q : Seen) → WorksOn n start p → GivesNext p n given.Dropped q → RunsRound start n given.Dropped q
ends_dropped n start p q on g = record {
  worked = back_with p n g.statement g.what;
  works = works_back n start p g.statement g.what on g.back;
  what = DroppedTo (state_in (seen_with p n (Claimed g.statement))).to;
  what_is = ap DroppedTo (claimed_to p n g.statement ∙ on.same.to);
  entry = g.gives;
  number = tt;
}

-- whatever ended it
pub ends_so : (n : ℕ) (start p q : Seen) (end : Given) → end ≢ given.Counted → WorksOn n start p → GivesNext p n end q → RunsRound start n end q
ends_so n start p q given.Counted other on g = absurd (other refl)
ends_so n start p q (given.Published k) other on g = ends_published n start p q k on g
ends_so n start p q (given.Failed told) other on g = ends_failed n start p q told on g
ends_so n start p q given.Dropped other on g = ends_dropped n start p q on g

-- ---- opening

-- the round is open, or its script has no statements and it is published already
pub opened_cases : (p : Seen) (n : ℕ) → (opened p n ≡ newly_open p n) ⊎ (opened p n ≡ seen_with (newly_open p n) n (PublishedTo (length (state_in p).accepted)))
opened_cases p n = by_list (state_in p).newest.script.statements refl
  where
    by_list : (ss : List CheckedStatement) → (state_in p).newest.script.statements ≡ ss → (opened p n ≡ newly_open p n) ⊎ (opened p n ≡ seen_with (newly_open p n) n (PublishedTo (length (state_in p).accepted)))
    by_list [] e = inr (rw e refl)
    by_list (s ∷ ss) e = inl (rw e refl)

pub is_open : (p : Seen) (n : ℕ) → IsOpen (newly_open p n)
is_open p n =
    let e = state_in-more p n (Opened (length (state_in p).accepted)) in
    let o = subst IsOpenIn (sym e) (refl, λ i m l h. cc h) in
    record { running = o.0; none_out = o.1 }

closed_at_once : (p : Seen) (n to : ℕ) → (state_in (seen_with (newly_open p n) n (PublishedTo to))).running ≡ false
closed_at_once p n to = ap (λ (s : State). s.running) (state_in-more (newly_open p n) n (PublishedTo to))

published_at_once : (p q : Seen) (n k : ℕ) → q ≡ seen_with (newly_open p n) n (PublishedTo (length (state_in p).accepted))
    → k ≡ number (state_in q) → RunsRound (newly_open p n) n (given.Published k) q
published_at_once p q n k is same =
    let to = length (state_in p).accepted in
    let open_state = state_in-more p n (Opened to) in
    record {
      worked = newly_open p n;
      works = works_none n (newly_open p n);
      what = PublishedTo to;
      what_is = ap PublishedTo (sym (ap (λ (s : State). s.to) open_state));
      entry = is;
      number = same ∙ ap (λ (r : Seen). number (state_in r)) is ∙ ap number (state_in-more (newly_open p n) n (PublishedTo to))
          ∙ length-append (state_in (newly_open p n)).earlier ((state_in (newly_open p n)).latest ∷ []);
    }

-- where it isn't open it was published at once
pub at_once : (before q : Seen) (n k : ℕ) → q ≡ opened before n → (state_in q).running ≡ false → k ≡ number (state_in q) → RunsRound (newly_open before n) n (given.Published k) q
at_once before q n k is closed same = ⊎_elim
    (λ (o : opened before n ≡ newly_open before n). absurd (let running = (is_open before n).running in let here = ap (λ (r : Seen). (state_in r).running) (is ∙ o) in cc (running, here, closed)))
    (λ (o : opened before n ≡ seen_with (newly_open before n) n (PublishedTo (length (state_in before).accepted))). published_at_once before q n k (is ∙ o) same)
    (opened_cases before n)

-- else it is newly open
pub opens : (before q : Seen) (n : ℕ) → q ≡ opened before n → (state_in q).running ≡ true → q ≡ newly_open before n
opens before q n is running = ⊎_elim
    (λ (o : opened before n ≡ newly_open before n). is ∙ o)
    (λ (o : opened before n ≡ seen_with (newly_open before n) n (PublishedTo (length (state_in before).accepted))). absurd (let closed = closed_at_once before n (length (state_in before).accepted) in let here = ap (λ (r : Seen). (state_in r).running) (is ∙ o) in cc (closed, here, running)))
    (opened_cases before n)

pub opens_round : (before q : Seen) (n : ℕ) → q ≡ opened before n → (state_in q).running ≡ true → IsOpen q
opens_round before q n is running = subst IsOpen (sym (opens before q n is running)) (is_open before n)

pub ran_on : (q r : Seen) (n : ℕ) (e : Given) → (state_in q).running ≡ true → RunsRound q n e r → (before : Seen) → q ≡ opened before n → RunsRound (newly_open before n) n e r
ran_on q r n e running ran before is = subst (λ (s : Seen). RunsRound s n e r) (opens before q n is running) ran

-- a round that was run doesn't end as one that goes on
pub ran_ended : (p q : Seen) (n : ℕ) (e : Given) → RunsRound p n e q → e ≢ given.Counted
ran_ended p q n e ran same = absurd (subst (λ (g : Given). IsNext g (number (state_in p))) same ran.number)

-- what was opened and run
pub ran_whole : (old new : Seen) (n : ℕ) (e : Given) → cannot_open old ≡ None → RunsRound (newly_open old n) n e new → RunsWhole old n (end_given e) new
ran_whole old new n given.Counted could ran = absurd (ran_ended (newly_open old n) new n given.Counted ran refl)
ran_whole old new n (given.Published k) could ran = (could, ran)
ran_whole old new n (given.Failed fault) could ran = (could, ran)
ran_whole old new n given.Dropped could ran = inr (could, ran)

-- what was not opened
pub unopened : (old new : Seen) (n : ℕ) (r : Result ℕ OpenStop) (why : OpenStop) → new ≡ old → SaysWhy old r → r ≡ Err why → RunsWhole old n (not_opened why) new
unopened old new n r (stop.Running k) same says is = inl same
unopened old new n r (stop.NothingNew k) same says is = (same, (says (stop.NothingNew k) (λ m. cc m)).0 is)
unopened old new n r (stop.Full full) same says is = (same, (says (stop.Full full) (λ m. cc m)).0 is)
unopened old new n r stop.Memory same says is = inl same
