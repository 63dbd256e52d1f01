-- How a run of stages goes on, and what its end did.
use Rattle.std.proofs.Common.{◌≡◌, ◌≢◌, ◌∙◌, ◌++◌, ◌⊎◌, ℕ, List, [], ◌∷◌, false, length, Option, Some, None, Result, Ok, Err, IsOk, IsErrAnd, IfErr, refl, sym, ap, subst, arith, inl, inr, ⊎_elim, Contains, ◌≤◌, ◌<◌}
use Rattle.outside.specs.declared.sink.SinkStop.{SinkStop}
use Rattle.outside.specs.declared.sink.SinkStop.TheVariants.{Failed, Memory}
use Rattle.outside.specs.Counts.{Rose}
use Rattle.outside.specs.Shelves.{Files, ShelfView, Told, IfTooLong, kept_of}
use Rattle.outside.specs.declared.shelf.ShelfStop.{ShelfStop}
use Rattle.outside.specs.declared.shelf.ShelfStop.TheVariants as shelf
use Rattle.std.specs.Prelude.{IsErrOf, nat_le}
use Rattle.std.proofs.lemmas.Bool.Decides.{nat_tests}
use Rattle.commands.specs.Reading.{file}
use Rattle.outside.specs.Sinks.{SinkView, Took, Wrote, Extends}
use Rattle.outside.proofs.Writes.{took_as, took_none, extends_then, from_start}
use Rattle.commands.specs.declared.stop.Stop.{Stop}
use Rattle.commands.specs.declared.stop.Stop.TheVariants.{Ended}
use Rattle.commands.specs.declared.stop.Stop.TheVariants as stop
use Rattle.commands.specs.Words.{FileLimit, within}
use Rattle.round_runs.specs.Answers.{Answer}
use Rattle.commands.specs.Stages.{Stage}
use Rattle.round_runs.specs.Eval.{behind}
use Rattle.commands.specs.Lines.{unread, too_long}
use Rattle.commands.specs.Ends.{told_by, Gives, Fault, IsTooLong, HasCause, EndsWith, Ends, Stands, How, Did, Refuses, IsOfWords, EndedSo}
use Rattle.commands.specs.Views.{status_of}

-- A fault of a later stage is one of all stages: the names may be more, and the faults counted from earlier on.
fault_later : {files wider : List FileLimit} {old mid new : ShelfView} → old.faults ≤ mid.faults → ((x : FileLimit) → Contains files x → Contains wider x) → Fault files mid new → Fault wider old new
fault_later {files} {wider} {old} {mid} {new} later listed fault = record {
  rose = let rose : Rose mid.faults new.faults = fault.rose in omega (arith, later, rose);
  file = fault.file;
  listed = listed fault.file fault.listed;
  named = fault.named;
}

-- and a file that is too long there is one of all
too_long_later : {files wider : List FileLimit} {new : ShelfView} → ((x : FileLimit) → Contains files x → Contains wider x) → IsTooLong files new → IsTooLong wider new
too_long_later listed long = record { file = long.file; listed = listed long.file long.listed; long = long.long }

-- The end of a stage behind others is the end of all.
ends_later : {B C : Type 0} (names wider : List FileLimit) (old mid new : ShelfView) (end : Stop) (stage : Files → Stage B) (whole : Files → Stage C)
    → mid.files ≡ old.files → old.faults ≤ mid.faults
    → ((x : FileLimit) → Contains names x → Contains wider x)
    → Told old.files (λ files. (a : Answer) → stage files ≡ Err a → whole files ≡ Err a)
    → Ends names mid new end stage → Ends wider old new end whole
ends_later {B} {C} names wider old mid new (Ended e) stage whole files later named passes ends = record {
  meant = λ f told. ⊎_elim
      (λ (own : stage f ≡ Err (told_by e)). inl (passes f told (told_by e) own))
      (λ (x : Fault names mid new × (told_by e ≡ unread new.last)). inr (fault_later later named x.0, x.1))
      (ends.meant f (files ∙ told));
  cause = λ two. ⊎_elim (λ (x : Fault names mid new). inl (fault_later later named x)) (λ (x : IsTooLong names new). inr (too_long_later named x)) (ends.cause two);
  early = ends.early;
}
ends_later names wider old mid new stop.Memory stage whole files later named passes ends = tt

-- The same, for what the code answers.
pub stands_later : {A D B C : Type 0} {view : A → B} {seen : D → C} {names wider : List FileLimit} {old mid new : ShelfView} {end : Stop} (r : Result D Stop) {stage : Files → Stage B} {whole : Files → Stage C}
    → IsErrAnd r (λ e. e ≡ end)
    → mid.files ≡ old.files → old.faults ≤ mid.faults
    → ((x : FileLimit) → Contains names x → Contains wider x)
    → Told old.files (λ files. (a : Answer) → stage files ≡ Err a → whole files ≡ Err a)
    → Stands view names mid new (Err end) stage → Stands seen wider old new r whole
stands_later {names = names} {wider = wider} {old = old} {mid = mid} {new = new} {end = end} (Err e) {stage = stage} {whole = whole} same files later named passes s = record {
  files = s.files ∙ files;
  later = omega (arith, later, s.later);
  value = tt;
  end = ends_later names wider old mid new e stage whole files later named passes (subst (λ (x : Stop). Ends names mid new x stage) (sym same) s.end);
}
stands_later (Ok a) same files later named passes s = absurd same

-- ---- the words

-- the end of the words is that of all stages, and no file was read
words_end : {B C : Type 0} (names : List FileLimit) (shelf : ShelfView) (end : Stop) (words : Stage C) (whole : Files → Stage B)
    → IsOfWords end → Refuses end words → ((a : Answer) → words ≡ Err a → (files : Files) → whole files ≡ Err a) → Ends names shelf shelf end whole
words_end names shelf (Ended e) words whole status refuses passes = record {
  meant = λ files told. inl (passes (told_by e) refuses files);
  cause = λ two. ⊎_elim (λ one. absurd (omega (arith, one, two))) (λ four. absurd (omega (arith, four, two))) status;
  early = ⊎_elim (λ one. (omega (arith, one), omega (arith, one))) (λ four. (omega (arith, four), omega (arith, four))) status;
}
words_end names shelf stop.Memory words whole status refuses passes = tt

pub words_stand : {A B C : Type 0} {view : A → B} {names : List FileLimit} {shelf : ShelfView} (end : Stop) (r : Result A Stop) (words : Stage C) {whole : Files → Stage B}
    → IsErrAnd r (λ e. e ≡ end) → IsOfWords end → Refuses end words → ((a : Answer) → words ≡ Err a → (files : Files) → whole files ≡ Err a) → Stands view names shelf shelf r whole
words_stand {names = names} {shelf = shelf} end (Err e) words {whole = whole} same status refuses passes = record {
  files = refl;
  later = omega arith;
  value = tt;
  end = subst (λ (x : Stop). Ends names shelf shelf x whole) (sym same) (words_end names shelf end words whole status refuses passes);
}
words_stand end (Ok a) words same status refuses passes = absurd same

-- ---- one file

-- a fault of the shelf is told by its line
pub unread_stands : {A : Type 0} (view : A → List ℕ) (name : List ℕ) (limit : ℕ) (old new : ShelfView) (r : Result A ShelfStop) (stop : Stop)
    → new.files ≡ old.files → old.faults ≤ new.faults → (IsErrOf r shelf.Failed → Rose old.faults new.faults) → (IsErrOf r shelf.Failed → new.last ≡ name)
    → r ≡ Err shelf.Failed → Gives stop (unread name) → Stands view (within name limit ∷ []) old new (Err stop) (λ files. file files name limit)
unread_stands {A} view name limit old new r (Ended e) same later rose last is gives =
    let failed : IsErrOf r shelf.Failed = subst (λ (q : Result A ShelfStop). IsErrOf q shelf.Failed) (sym is) refl in
    let fault : Fault (within name limit ∷ []) old new = record { rose = rose failed; file = within name limit; listed = (0, omega arith, refl); named = sym (last failed) } in
    let status : e.status ≡ 2 = ap (λ (a : Answer). a.status) gives in
    record {
      files = same;
      later = later;
      value = tt;
      end = record {
        meant = λ f told. inr (fault, gives ∙ ap unread (sym (last failed)));
        cause = λ two. inl fault;
        early = (omega (arith, status), omega (arith, status));
      };
    }
unread_stands view name limit old new r stop.Memory same later rose last is gives = record { files = same; later = later; value = tt; end = tt }

not_within : (n limit : ℕ) → limit < n → nat_le n limit ≡ false
not_within n limit above = grind (arith, nat_tests)

-- and a file with more bytes than its limit
pub too_long_stands : {A : Type 0} (view : A → List ℕ) (name : List ℕ) (limit n : ℕ) (old new : ShelfView) (r : Result A ShelfStop) (stop : Stop)
    → new.files ≡ old.files → old.faults ≤ new.faults → new.kept ≡ kept_of r → IfErr r (IfTooLong (λ m. limit < m))
    → IfErr r (IfTooLong (λ m. Told old.files (λ files. (bytes : List ℕ) × (files name ≡ Some bytes) × (length bytes ≡ m))))
    → r ≡ Err (shelf.TooLong n) → Gives stop (too_long name limit) → Stands view (within name limit ∷ []) old new (Err stop) (λ files. file files name limit)
too_long_stands {A} view name limit n old new r (Ended e) same later kept long told is gives =
    let above : limit < n = subst (λ (q : Result A ShelfStop). IfErr q (IfTooLong (λ m. limit < m))) is long in
    let theirs : Told old.files (λ files. (bytes : List ℕ) × (files name ≡ Some bytes) × (length bytes ≡ n)) =
    subst (λ (q : Result A ShelfStop). IfErr q (IfTooLong (λ m. Told old.files (λ files. (bytes : List ℕ) × (files name ≡ Some bytes) × (length bytes ≡ m))))) is told in
    let many : new.kept ≡ n = subst (λ (q : Result A ShelfStop). new.kept ≡ kept_of q) is kept in
    let status : e.status ≡ 2 = ap (λ (a : Answer). a.status) gives in
    record {
      files = same;
      later = later;
      value = tt;
      end = record {
        meant = λ f known. let (bytes, found, size) = theirs f known in
            let over = not_within (length bytes) limit (omega (arith, above, size)) in
            inl (rw (found, over) (ap Err (sym gives)));
        cause = λ two. inr (record { file = within name limit; listed = (0, omega arith, refl); long = omega (arith, above, many) });
        early = (omega (arith, status), omega (arith, status));
      };
    }
too_long_stands view name limit n old new r stop.Memory same later kept long told is gives = record { files = same; later = later; value = tt; end = tt }

-- What a write did, by its status.
how_of : (old new : SinkView) (r : Result (Unit {0}) SinkStop) (meant : Answer) → Wrote old new r meant.text → How old new meant (status_of r meant.status)
how_of old new (Ok u) meant w = inl (refl, took_as {V = IsOk {T = Unit {0}} {E = SinkStop} (Ok u)} (λ x. refl) w.took)
how_of old new (Err Failed) meant w = inr (inl (refl, w.failed refl, took_as {V = IsOk {T = Unit {0}} {E = SinkStop} (Err Failed)} (λ no. absurd no) w.took))
how_of old new (Err Memory) meant w = inr (inr (refl, took_as {V = IsOk {T = Unit {0}} {E = SinkStop} (Err Memory)} (λ no. absurd no) w.took))

pub did_as : {old new : SinkView} {r : Result (Unit {0}) SinkStop} {text : List ℕ} {status now : ℕ} {meant : Answer}
    → Wrote old new r text → now ≡ status_of r status → meant ≡ record { status = status; text = text } → Did old new meant now
did_as {old} {new} {r} {text} {status} {now} {meant} w is same =
    let own : Answer = record { status = status; text = text } in
    record { how = subst (λ (a : Answer). How old new a now) (sym same) (subst (λ (n : ℕ). How old new own n) (sym is) (how_of old new r own w)) }

-- for want of memory nothing was written
pub did_nothing : (view : SinkView) (meant : Answer) → Did view view meant 7
did_nothing view meant = record { how = inr (inr (refl, took_none view.taken meant.text)) }

-- what was done of an end that stands for an answer
pub did_end : (old new : SinkView) (stop : Stop) (status : ℕ) (meant : Answer) → Gives stop meant → EndedSo old new stop status → Did old new meant status
did_end old new (Ended e) status meant gives did = subst (λ (a : Answer). Did old new a status) gives did
did_end old new stop.Memory status meant gives did = subst (λ (s : ℕ). Did old new meant s) (sym did.1) (subst (λ (v : SinkView). Did v new meant 7) did.0 (did_nothing new meant))

pub did_refused : {A : Type 0} (old new : SinkView) (r : Result A Stop) (stop : Stop) (status : ℕ) (meant : Answer) → r ≡ Err stop → IsErrAnd r (λ s. Gives s meant) → EndedSo old new stop status → Did old new meant status
did_refused old new r stop status meant is gives did = did_end old new stop status meant (subst (λ q. IsErrAnd q (λ s. Gives s meant)) is gives) did

-- a list of one has nothing else
pub contains_one : {A : Type 0} {y : A} (xs : List A) (x : A) → Contains xs y → Contains (y ∷ []) x → Contains xs x
contains_one {A} {y} xs x found (k, below, is) =
    let zero : k ≡ 0 = omega arith in
    let same : y ≡ x = grind (arith, zero, is) in
    subst (λ (z : A). Contains xs z) same found

-- of two the second
pub second_named : {A : Type 0} (a b x : A) → Contains (b ∷ []) x → Contains (a ∷ b ∷ []) x
second_named a b x = contains_one (a ∷ b ∷ []) x (1, omega arith, refl)

-- of three the third
pub third_named : {A : Type 0} (a b c x : A) → Contains (c ∷ []) x → Contains (a ∷ b ∷ c ∷ []) x
third_named a b c x = contains_one (a ∷ b ∷ c ∷ []) x (2, omega arith, refl)

-- status 6 comes of a fault alone
pub rose_at_6 : (old new : SinkView) (r : Result (Unit {0}) SinkStop) (text : List ℕ) (status : ℕ) → status < 6 → Wrote old new r text → status_of r status ≡ 6 → Rose old.faults new.faults
rose_at_6 old new (Ok u) text status below w six = absurd (omega (arith, below, six))
rose_at_6 old new (Err Failed) text status below w six = w.failed refl
rose_at_6 old new (Err Memory) text status below w six = absurd (omega (arith, six))

-- no write gives status 2
pub never_2 : (r : Result (Unit {0}) SinkStop) (status : ℕ) → status ≢ 2 → status_of r status ≢ 2
never_2 (Ok u) status other two = other two
never_2 (Err Failed) status other two = absurd (omega (arith, two))
never_2 (Err Memory) status other two = absurd (omega (arith, two))

-- a text behind another was written
pub did_behind : (old mid new : SinkView) (r s : Result (Unit {0}) SinkStop) (lines text : List ℕ) (status now : ℕ) (meant : Answer)
    → Extends old mid (Ok tt) r lines → Extends mid new r s text → now ≡ status_of s status → meant ≡ record { status = status; text = text } → Did old new (behind lines meant) now
did_behind old mid new r s lines text status now meant first second is same = did_as (from_start (extends_then lines text first second)) is (ap (behind lines) same)

pub wrote_behind : (old mid new : SinkView) (r s : Result (Unit {0}) SinkStop) (lines text : List ℕ) → Extends old mid (Ok tt) r lines → Extends mid new r s text → Wrote old new s (lines ++ text)
wrote_behind old mid new r s lines text first second = from_start (extends_then lines text first second)
