-- What calls answer.
use Rattle.std.proofs.Common.{◌≡◌, ◌⊎◌, inl, inr, ℕ, zero, suc, ◌+◌, ◌<◌, ◌≤◌, true, false, List, [], ◌∷◌, length, get_or, take, sym, ◌∙◌, ap, refl, arith, subst}
use Rattle.std.specs.Prelude.{◌↔◌, Some, count_by}
use Rattle.std.specs.List.{All}
use Rattle.std.proofs.lemmas.List.{take_all}
use Rattle.std.proofs.lemmas.List.Elements.{All-contains}
use Rattle.std.proofs.lemmas.List.Sums.{count_by_more_yes, count_by_more_no}
use Rattle.operator_meaning.proofs.ScriptLemmas.{in_order}
use Rattle.round_journal.specs.work.Finish.{Finish}
use Rattle.round_journal.specs.work.Finish.TheVariants.{Right as FinishRight, Fault, GaveUp as FinishGaveUp}
use Rattle.data_set_trees.specs.checked.Scripts.{Script}
use Rattle.round_journal.specs.declared.entry.What.{What}
use Rattle.round_journal.specs.declared.entry.What.TheVariants.{Published, Failed, Dropped}
use Rattle.round_journal.specs.Journals.{State, start, state_of, number, after_what, NoneReady, Ready, Over, fault_said, Legal, MayCome}
use Rattle.round_journal.specs.declared.verdict.ScriptFault.{ScriptFault}
use Rattle.operator_meaning.specs.Scripts.{ScriptWrong}
use Rattle.round_journal.proofs.JournalLemmas.{state_of-more, LegalFrom-parts}
use Rattle.round_core.specs.declared.slot.Slot.{Slot}
use Rattle.round_core.specs.declared.slot.Stage.{Stage}
use Rattle.round_core.specs.declared.slot.Stage.TheVariants as stage
use Rattle.round_core.specs.declared.stops.Given.{Given}
use Rattle.round_core.specs.declared.stops.Given.TheVariants.{Counted, Published as GivenPublished, Failed as GivenFailed, Dropped as GivenDropped}
use Rattle.round_core.specs.Answers.{works_out, one_if_out, given_what, GivesSo, state_given, EndsDropped, EndsPublished, EndsFailed}
use Rattle.round_core.specs.Kept.{Scene, scene_of, StageKept}
use Rattle.round_core.specs.Seen.{Seen, state_in, seen_with}
use Rattle.round_core.specs.Slots.{ReadyIn, is_out}
use Rattle.round_core.specs.Steps.{EndedSo}
use Rattle.round_core.proofs.SlotLemmas.{Opened, slot_kept, many, ready_in}

-- ---- works that are out

weigh : (v : Scene) (j : ℕ) (slot : Slot) (st : Stage) → slot.stage ≡ st → StageKept v j slot st → ((is_out slot ≡ true) × (one_if_out (v.status j) ≡ one_if_out (Rattle.round_journal.specs.Journals.Out 0))) ⊎ ((is_out slot ≡ false) × (one_if_out (v.status j) ≡ one_if_out Rattle.round_journal.specs.Journals.Waiting))
weigh v j slot stage.Waiting e k = inr (rw e refl, ap one_if_out k.place)
weigh v j slot stage.Out e k = inl (rw e refl, ap one_if_out k.1)
weigh v j slot (stage.Right points pages) e k = inr (rw e refl, ap one_if_out k.0.place)
weigh v j slot (stage.Wrong kept told) e k = inr (rw e refl, ap one_if_out k.0.place)
weigh v j slot stage.Spoiled e k = inr (rw e refl, ap one_if_out k.place)

module _ (s : State) (slots : List Slot) (o : Opened s slots) where
  abbrev c : Script
  c = s.round.script

  count_front : (n : ℕ) → n ≤ length slots → (d : Slot) → count_by is_out (take n slots) ≡ works_out n s.status
  count_front zero l d = refl
  count_front (suc n) l d =
      let m : n < length slots = omega (arith, l) in
      let before = count_front n (omega (arith, l)) d in
      let next : suc n ≡ n + 1 = omega arith in
      ap (λ q. count_by is_out (take q slots)) next ∙ elim (weigh (scene_of s) n (get_or slots n d) (get_or slots n d).stage refl (slot_kept s slots o n d m)) [
        | inl is ↦ (let q = count_by_more_yes is_out slots n d m is.0 in let w = is.1 in omega (arith, q, before, w))
        | inr is ↦ (let q = count_by_more_no is_out slots n d m is.0 in let w = is.1 in omega (arith, q, before, w))
      ]

  count_whole : (xs : List Slot) → slots ≡ xs → count_by is_out slots ≡ works_out (length slots) s.status
  count_whole [] e = ap (count_by is_out) e ∙ ap (λ (q : List Slot). works_out (length q) s.status) (sym e)
  count_whole (x ∷ xs) e = ap (count_by is_out) (sym (take_all (length slots) slots (omega arith))) ∙ count_front (length slots) (omega arith) x

  pub count_works : count_by is_out slots ≡ works_out (length c.statements) s.status
  count_works = count_whole slots refl ∙ ap (λ n. works_out n s.status) (many s slots o)

  -- where none of the order is ready, none is
  pub none_ready_in : All (λ i. ¬ (ReadyIn slots i)) c.order → NoneReady s
  none_ready_in h i ready = All-contains (λ j. ¬ (ReadyIn slots j)) c.order i h (in_order c [] o.agrees.checked.ordered i ready.below) (ready_in s slots o i ready)

-- ---- what giving back answers

pub record StaysSo (s t : State) : Type 0 where
  pub to : t.to ≡ s.to
  pub number : number t ≡ number s

given_stays : (s : State) (n i : ℕ) (f : Finish) → StaysSo s (after_what s n (given_what f i))
given_stays s n i (FinishRight deltas points pages) = record { to = refl; number = refl }
given_stays s n i (Fault kept told) = record { to = refl; number = refl }
given_stays s n i FinishGaveUp = record { to = refl; number = refl }

stays_so : (old : Seen) (n i : ℕ) (f : Finish) → StaysSo (state_in old) (state_given old n (given_what f i))
stays_so old n i f = subst (λ (t : State). StaysSo (state_in old) t) (sym (state_of-more old.script old.journal (record { by = n; what = given_what f i }))) (given_stays (state_in old) n i f)

pub gives_so : (old mid new : Seen) (n i : ℕ) (f : Finish) (r : Given) → mid ≡ seen_with old n (given_what f i) → EndedSo mid n r new → GivesSo old n (given_what f i) r new
gives_so old mid new n i f r e h = by_given r (subst (λ (m : Seen). EndedSo m n r new) e h) (stays_so old n i f)
  where
    by_given : (r : Given) → EndedSo (seen_with old n (given_what f i)) n r new → StaysSo (state_in old) (state_in (seen_with old n (given_what f i))) → GivesSo old n (given_what f i) r new
    by_given Counted h same = h
    by_given (GivenPublished k) h same = h.0 ∙ ap (λ q. seen_with (seen_with old n (given_what f i)) n (Published q)) same.to
    by_given (GivenFailed told) h same = (h.0, h.1, h.2 ∙ ap (λ q. seen_with (seen_with old n (given_what f i)) n (Failed q h.0)) same.to)
    by_given GivenDropped h same = h ∙ ap (λ q. seen_with (seen_with old n (given_what f i)) n (Dropped q)) same.to

-- ---- when it answers what

-- what the answer says of the round, as the journal has it with the entry of the work
abbrev EndsBy : State → Given → Type 0
EndsBy s Counted = ¬ (Over s)
EndsBy s (GivenPublished k) = EndsPublished s × (k ≡ number s + 1)
EndsBy s (GivenFailed told) = EndsFailed s (fault_said told)
EndsBy s GivenDropped = EndsDropped s

-- the last entry of a legal journal may come where it comes
may_of : (p new : Seen) (n : ℕ) (w : What) → Legal new.script new.journal → new ≡ seen_with p n w → MayCome (state_in p) n w
may_of p new n w legal e = (LegalFrom-parts (start p.script) p.journal ((record { by = n; what = w }) ∷ []) (subst (λ (q : Seen). Legal q.script q.journal) e legal)).1.0

ends_by : (mid new : Seen) (n : ℕ) (r : Given) → Legal new.script new.journal → ¬ (Over (state_in new)) → EndedSo mid n r new → EndsBy (state_in mid) r
ends_by mid new n Counted legal live h = subst (λ (q : Seen). ¬ (Over (state_in q))) h live
ends_by mid new n (GivenPublished k) legal live h = let m = may_of mid new n (Published (state_in mid).to) legal h.0 in ((m.0.over, m.1, m.2), h.1)
ends_by mid new n (GivenFailed told) legal live h = let m = may_of mid new n (Failed (state_in mid).to h.0) legal h.2 in (m.0.over, m.1, m.2 ∙ ap Some (sym h.1))
ends_by mid new n GivenDropped legal live h = let m = may_of mid new n (Dropped (state_in mid).to) legal h in (m.0.over, m.1)

counted_by : (s : State) (r : Given) → EndsBy s r → (r ≡ Counted) ↔ (¬ (Over s))
counted_by s Counted h = (λ e. h, λ q. refl)
counted_by s (GivenPublished k) h = (λ e. cc e, λ no. absurd (no h.0.0))
counted_by s (GivenFailed told) h = (λ e. cc e, λ no. absurd (no h.0))
counted_by s GivenDropped h = (λ e. cc e, λ no. absurd (no h.0))

dropped_by : (s : State) (r : Given) → EndsBy s r → (r ≡ GivenDropped) ↔ EndsDropped s
dropped_by s Counted h = (λ e. cc e, λ d. absurd (h d.0))
dropped_by s (GivenPublished k) h = (λ e. cc e, λ d. absurd (let p = h.0.1 in let q = d.1 in cc (p, q)))
dropped_by s (GivenFailed told) h = (λ e. cc e, λ d. absurd (let p = h.1 in let q = d.1 in cc (p, q)))
dropped_by s GivenDropped h = (λ e. h, λ d. refl)

published_by : (s : State) (r : Given) (k : ℕ) → EndsBy s r → (r ≡ GivenPublished k) ↔ (EndsPublished s × (k ≡ number s + 1))
published_by s Counted k h = (λ e. cc e, λ p. absurd (h p.0.0))
published_by s (GivenPublished m) k h = (λ e. (h.0, (let q : m ≡ k = cc e in sym q ∙ h.1)), λ p. ap GivenPublished (h.1 ∙ sym p.1))
published_by s (GivenFailed told) k h = (λ e. cc e, λ p. absurd (let x = h.2 in let y = p.0.2 in cc (x, y)))
published_by s GivenDropped k h = (λ e. cc e, λ p. absurd (let x = h.1 in let y = p.0.1 in cc (x, y)))

failed_by : (s : State) (r : Given) (wrong : ScriptWrong) → EndsBy s r → ((told : ScriptFault) × (r ≡ GivenFailed told) × (fault_said told ≡ wrong)) ↔ EndsFailed s wrong
failed_by s Counted wrong h = (λ x. let e = x.1 in cc e, λ p. absurd (h p.0))
failed_by s (GivenPublished k) wrong h = (λ x. let e = x.1 in cc e, λ p. absurd (let a = h.0.2 in let b = p.2 in cc (a, b)))
failed_by s (GivenFailed told) wrong h = (λ x. let e = x.1 in let q : told ≡ x.0 = cc e in (h.0, h.1, h.2 ∙ ap Some (ap fault_said q ∙ x.2)), λ p. (told, refl, (let a = h.2 in let b = p.2 in cc (a, b))))
failed_by s GivenDropped wrong h = (λ x. let e = x.1 in cc e, λ p. absurd (let a = h.1 in let b = p.1 in cc (a, b)))

-- what a work that is given back answers
pub record Answered (old : Seen) (n : ℕ) (w : What) (r : Given) : Type 0 where
  pub counted : (r ≡ Counted) ↔ (¬ (Over (state_given old n w)))
  pub dropped : (r ≡ GivenDropped) ↔ EndsDropped (state_given old n w)
  pub published : (k : ℕ) → (r ≡ GivenPublished k) ↔ (EndsPublished (state_given old n w) × (k ≡ number (state_in old) + 1))
  pub failed : (wrong : ScriptWrong) → ((told : ScriptFault) × (r ≡ GivenFailed told) × (fault_said told ≡ wrong)) ↔ EndsFailed (state_given old n w) wrong

pub answered : (old mid new : Seen) (n i : ℕ) (f : Finish) (r : Given) → mid ≡ seen_with old n (given_what f i) → Legal new.script new.journal → ¬ (Over (state_in new)) → EndedSo mid n r new → Answered old n (given_what f i) r
answered old mid new n i f r e legal live h =
    let s = state_given old n (given_what f i) in
    let ends : EndsBy s r = subst (λ (p : Seen). EndsBy (state_in p) r) e (ends_by mid new n r legal live h) in record {
      counted = counted_by s r ends;
      dropped = dropped_by s r ends;
      published = λ k. subst (λ m. (r ≡ GivenPublished k) ↔ (EndsPublished s × (k ≡ m + 1))) (stays_so old n i f).number (published_by s r k ends);
      failed = λ wrong. failed_by s r wrong ends;
    }
