-- What stands for a journal, and stays so.
use Rattle.std.proofs.Common.{◌≡◌, ◌≢◌, ◌≤◌, ◌==◌, ℕ, Bool, true, false, if◌then◌else◌, List, [], ◌∷◌, ◌++◌, length, sym, ◌∙◌, refl, arith, subst}
use Rattle.std.proofs.lemmas.List.Elements.{All-head, All-tail}
use Rattle.data_set_trees.specs.checked.Scripts.{Script}
use Rattle.operator_meaning.specs.Scripts.{with_at}
use Rattle.operator_meaning.proofs.ScriptLemmas.{with_at-other}
use Rattle.point_sets.specs.DataSets.{DataSet}
use Rattle.transform_nodes.specs.declared.work.Work.{Work}
use Rattle.transform_nodes.specs.declared.work.DoneParts.{DoneParts}
use Rattle.transform_nodes.specs.Nodes.{WorkStandsFor, DoneStandsFor}
use Rattle.round_journal.specs.declared.entry.Entry.{Entry}
use Rattle.round_journal.specs.declared.entry.What.{What}
use Rattle.round_journal.specs.declared.entry.What.TheVariants.{Judged, Rescripted, Opened, Claimed, Returned, GaveUp, Published}
use Rattle.round_journal.specs.Journals.{State, Numbered, Status, Out, Back, Spoiled, start, after, after_what, after_all, state_of, base as base_of, inputs, Over, IsOutBy, MayCome, LegalFrom, Legal}
use Rattle.round_journal.specs.Stands.{InRound, WorkStands, DoneStands, IsDoneOf, Keeps, AllKeep}
use Rattle.round_journal.specs.Counts.{PrefixesInOrder}
use Rattle.round_journal.proofs.JournalLemmas.{after_all-append, LegalFrom-parts}
use Rattle.round_journal.proofs.InputLemmas.{accepted-after_what, inputs-after_what, PrefixesInOrder-keeps, PrefixesInOrder-legal}

-- the round goes on from one state to another, with the statement out in both, and the inputs after each prefix of the first are the same in both
pub record GoesOn (s t : State) (n i : ℕ) : Type 0 where
  pub out : IsOutBy t n i
  pub rounds : t.rounds ≡ s.rounds
  pub round : t.round ≡ s.round
  pub base : base_of t ≡ base_of s
  pub to : t.to ≡ s.to
  pub in_order : PrefixesInOrder t
  pub accepted : length s.accepted ≤ length t.accepted
  pub same : (m : ℕ) → m ≤ length s.accepted → inputs m t ≡ inputs m s

with_at-out : (s : State) (m i j : ℕ) (x : Status) → IsOutBy s m i → i ≢ j → with_at j x s.status i ≡ Out m
with_at-out s m i j x out apart = with_at-other j x s.status i (λ e. apart (sym e)) ∙ out.out

still_out : (s : State) (m i : ℕ) → Over s → IsOutBy s m i → ⊥
still_out s m i over out = over.none_out i m out.below out.out

-- what an entry leaves as it is while the statement is out
stays_out : (s : State) (m i n : ℕ) (w : What) → MayCome s n w → IsOutBy s m i → Keeps i w → IsOutBy (after_what s n w) m i
stays_out s m i n (Judged r v) may out keeps = record { open_round = out.open_round; below = out.below; out = out.out }
stays_out s m i n (Rescripted c) may out keeps = record { open_round = out.open_round; below = out.below; out = out.out }
stays_out s m i n (Opened to) may out keeps = absurd (cc (out.open_round, may.none_open))
stays_out s m i n (Claimed j) may out keeps = record { open_round = out.open_round; below = out.below; out = with_at-out s m i j (Out n) out (λ e. cc (out.out, may.1.ready.waits, e)) }
stays_out s m i n (Returned j) may out keeps = record { open_round = out.open_round; below = out.below; out = with_at-out s m i j Back out keeps }
stays_out s m i n (GaveUp j) may out keeps = record { open_round = out.open_round; below = out.below; out = with_at-out s m i j Spoiled out keeps }
stays_out s m i n w may out keeps = absurd (still_out s m i may.0.over out)

abbrev SameRound : State → State → Type 0
SameRound s t = (t.rounds ≡ s.rounds) × (t.round ≡ s.round) × (base_of t ≡ base_of s) × (t.to ≡ s.to)

same_round : (s : State) (m i n : ℕ) (w : What) → MayCome s n w → IsOutBy s m i → SameRound s (after_what s n w)
same_round s m i n (Opened to) may out = absurd (cc (out.open_round, may.none_open))
same_round s m i n (Published to) may out = absurd (still_out s m i may.0.over out)
same_round s m i n w may out = (refl, refl, refl, refl)

GoesOn-one : (s : State) (m i n : ℕ) (w : What) → MayCome s n w → PrefixesInOrder s → IsOutBy s m i → Keeps i w → GoesOn s (after_what s n w) m i
GoesOn-one s m i n w may p out keeps =
    let same = same_round s m i n w may out in
    record {
      out = stays_out s m i n w may out keeps;
      rounds = same.0;
      round = same.1;
      base = same.2;
      to = same.3;
      in_order = PrefixesInOrder-keeps s n w may p;
      accepted = accepted-after_what s n w;
      same = λ k l. inputs-after_what s k n w l;
    }

GoesOn-then : (s t u : State) (m i : ℕ) → GoesOn s t m i → GoesOn t u m i → GoesOn s u m i
GoesOn-then s t u m i a b = record {
  out = b.out;
  rounds = b.rounds ∙ a.rounds;
  round = b.round ∙ a.round;
  base = b.base ∙ a.base;
  to = b.to ∙ a.to;
  in_order = b.in_order;
  accepted = omega (arith, a.accepted, b.accepted);
  same = λ k l. b.same k (omega (arith, a.accepted)) ∙ a.same k l;
}

pub GoesOn-all : (s : State) (m i : ℕ) (es : List Entry) → LegalFrom s es → PrefixesInOrder s → IsOutBy s m i → AllKeep i es → GoesOn s (after_all s es) m i
GoesOn-all s m i [] legal p out keep = record { out = out; rounds = refl; round = refl; base = refl; to = refl; in_order = p; accepted = omega arith; same = λ k l. refl }
GoesOn-all s m i (e ∷ es) legal p out keep =
    let one = GoesOn-one s m i e.by e.what legal.0 p out (All-head (λ e. Keeps i e.what) e es keep) in
    GoesOn-then s (after s e) (after_all (after s e) es) m i one (GoesOn-all (after s e) m i es legal.1 one.in_order one.out (All-tail (λ e. Keeps i e.what) e es keep))

pub GoesOn-journal : (c : Script) (m i : ℕ) (j k : List Entry) → Legal c (j ++ k) → IsOutBy (state_of c j) m i → AllKeep i k → GoesOn (state_of c j) (state_of c (j ++ k)) m i
GoesOn-journal c m i j k legal out keep =
    let parts = LegalFrom-parts (start c) j k legal in
    subst (λ (t : State). GoesOn (state_of c j) t m i) (sym (after_all-append (start c) j k)) (GoesOn-all (state_of c j) m i k parts.1 (PrefixesInOrder-legal c j parts.0) out keep)

-- a round goes on from the latest release's prefix or from no revision
chosen_below : (b : Bool) (m : ℕ) → (if b then m else 0) ≤ m
chosen_below true m = omega arith
chosen_below false m = omega arith

pub base_below : (s : State) → base_of s ≤ s.latest.prefix
base_below s = chosen_below (s.round.number == s.latest.script.number) s.latest.prefix

-- a round's own prefixes are in it
InRound-goes_on : (s t : State) (m i round base to : ℕ) → GoesOn s t m i → InRound s round base to → InRound t round base to
InRound-goes_on s t m i round base to g p = record { running = g.out.open_round; round_is = p.round_is ∙ sym g.rounds; base_is = p.base_is ∙ sym g.base; to_is = p.to_is ∙ sym g.to }

same_old : (s t : State) (m i round base to : ℕ) → PrefixesInOrder s → GoesOn s t m i → InRound s round base to → inputs base s ≡ inputs base t
same_old s t m i round base to o g p = sym (g.same base (omega (arith, p.base_is, base_below s, o.latest_below, o.to_below)))

same_new : (s t : State) (m i round base to : ℕ) → PrefixesInOrder s → GoesOn s t m i → InRound s round base to → inputs to s ≡ inputs to t
same_new s t m i round base to o g p = sym (g.same to (omega (arith, p.to_is, o.to_below)))

pub WorkStands-goes_on : (s t : State) (m : ℕ) (w : Work) → PrefixesInOrder s → GoesOn s t m w.statement → WorkStands s w → WorkStands t w
WorkStands-goes_on s t m w o g h = record {
  place = InRound-goes_on s t m w.statement w.round w.base w.to g h.place;
  on =
      subst (λ (r : Numbered). WorkStandsFor r.script w (inputs w.base t) (inputs w.to t)) (sym g.round)
      (subst (λ (xs : List DataSet). WorkStandsFor s.round.script w xs (inputs w.to t)) (same_old s t m w.statement w.round w.base w.to o g h.place)
      (subst (λ (ys : List DataSet). WorkStandsFor s.round.script w (inputs w.base s) ys) (same_new s t m w.statement w.round w.base w.to o g h.place) h.on));
}

pub DoneStands-goes_on : (s t : State) (m : ℕ) (d : DoneParts) → PrefixesInOrder s → GoesOn s t m d.statement → DoneStands s d → DoneStands t d
DoneStands-goes_on s t m d o g h = record {
  place = InRound-goes_on s t m d.statement d.round d.base d.to g h.place;
  on =
      subst (λ (r : Numbered). DoneStandsFor r.script d (inputs d.base t) (inputs d.to t)) (sym g.round)
      (subst (λ (xs : List DataSet). DoneStandsFor s.round.script d xs (inputs d.to t)) (same_old s t m d.statement d.round d.base d.to o g h.place)
      (subst (λ (ys : List DataSet). DoneStandsFor s.round.script d (inputs d.base s) ys) (same_new s t m d.statement d.round d.base d.to o g h.place) h.on));
}

pub WorkStands-journal : (c : Script) (n : ℕ) (j k : List Entry) (w : Work) → Legal c (j ++ k) → IsOutBy (state_of c j) n w.statement → AllKeep w.statement k → WorkStands (state_of c j) w → WorkStands (state_of c (j ++ k)) w
WorkStands-journal c n j k w legal out keep h =
    WorkStands-goes_on (state_of c j) (state_of c (j ++ k)) n w (PrefixesInOrder-legal c j (LegalFrom-parts (start c) j k legal).0) (GoesOn-journal c n w.statement j k legal out keep) h

pub DoneStands-journal : (c : Script) (n : ℕ) (j k : List Entry) (d : DoneParts) → Legal c (j ++ k) → IsOutBy (state_of c j) n d.statement → AllKeep d.statement k → DoneStands (state_of c j) d → DoneStands (state_of c (j ++ k)) d
DoneStands-journal c n j k d legal out keep h =
    DoneStands-goes_on (state_of c j) (state_of c (j ++ k)) n d (PrefixesInOrder-legal c j (LegalFrom-parts (start c) j k legal).0) (GoesOn-journal c n d.statement j k legal out keep) h

pub IsOutBy-journal : (c : Script) (n i : ℕ) (j k : List Entry) → Legal c (j ++ k) → IsOutBy (state_of c j) n i → AllKeep i k → IsOutBy (state_of c (j ++ k)) n i
IsOutBy-journal c n i j k legal out keep = (GoesOn-journal c n i j k legal out keep).out

-- ---- works become dones

InRound-same : (s : State) (round base to round' base' to' : ℕ) → round' ≡ round → base' ≡ base → to' ≡ to → InRound s round base to → InRound s round' base' to'
InRound-same s round base to round' base' to' r b t p = record { running = p.running; round_is = r ∙ p.round_is; base_is = b ∙ p.base_is; to_is = t ∙ p.to_is }

pub DoneStands-from_work : (s : State) (w : Work) (d : DoneParts) → IsDoneOf w d → WorkStands s w → DoneStands s d
DoneStands-from_work s w d of_it h = record {
  place = InRound-same s w.round w.base w.to d.round d.base d.to of_it.round of_it.base of_it.to h.place;
  on =
      subst (λ (m : ℕ). DoneStandsFor s.round.script d (inputs m s) (inputs d.to s)) (sym of_it.base)
      (subst (λ (m : ℕ). DoneStandsFor s.round.script d (inputs w.base s) (inputs m s)) (sym of_it.to) (of_it.stands s.round.script (inputs w.base s) (inputs w.to s) h.on));
}
