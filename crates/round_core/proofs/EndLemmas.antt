-- The end of a round.
use Rattle.std.proofs.Common.{◌≡◌, ◌≢◌, inl, inr, ℕ, zero, suc, ◌+◌, ◌-◌, ◌<◌, ◌≤◌, Bool, true, false, cond, List, [], ◌∷◌, ◌++◌, length, get_or, drop, Option, Some, None, Vec, vec_capacity, sym, ◌∙◌, ap, refl, arith, subst, set, map}
use Rattle.std.specs.Prelude.{sum, min}
use Rattle.std.specs.Arc.{arc_value}
use Rattle.std.specs.declared.sync.Arc.{Arc}
use Rattle.std.specs.declared.alloc.Global.{Global}
use Rattle.round_core.specs.declared.limits.TheConstants.{EARLIER_LIMIT}
use Rattle.std.proofs.lemmas.List.{length-set, get_or-set_same, get_or-set_other}
use Rattle.std.proofs.lemmas.List.Sums.{sum_by-cons}
use Rattle.std.proofs.Math.Nat.{min-eq_left, min-eq_right}
use Rattle.std.proofs.lemmas.Bool.{eq-eqb, ne_eqb, cases_lt, cases_eq}
use Rattle.round_core.specs.Answers.{told}
use Rattle.std.proofs.lemmas.Option.{slice_get-get_or}
use Rattle.point_sets.specs.DataSets.{DataSet}
use Rattle.data_set_trees.specs.checked.Scripts.{Script}
use Rattle.operator_meaning.specs.Scripts.{State as StatementState, Total, states, points_in, script_wrong, or_total, POINTS_LIMIT}
use Rattle.release_text.specs.Releases.{Page}
use Rattle.release_text.specs.declared.release.Release.{Release}
use Rattle.round_journal.specs.node.Node.{Node}
use Rattle.round_journal.specs.fault.NodeFault.{NodeFault}
use Rattle.round_journal.specs.work.Settle.{Settle}
use Rattle.round_journal.specs.work.Settle.TheVariants.{Apply, Forget}
use Rattle.round_journal.specs.Faults.{wrong_of}
use Rattle.round_journal.specs.Nodes.{published}
use Rattle.round_journal.specs.declared.entry.Entry.{Entry}
use Rattle.round_journal.specs.declared.entry.What.{What}
use Rattle.round_journal.specs.declared.entry.What.TheVariants.{Published, Failed, Dropped}
use Rattle.round_journal.specs.declared.verdict.ScriptFault.{ScriptFault}
use Rattle.round_journal.specs.declared.verdict.ScriptFault.TheVariants as fault
use Rattle.round_journal.specs.Journals.{State, Status, Back, Spoiled, after_what, state_of, number, base, inputs, new_inputs, inputs_now, Over, Ends, fault_said, MayCome}
use Rattle.round_journal.specs.Ends.{OverUnspoiled, FirstFault, NoFault, IsNoFault, ArePoints}
use Rattle.round_journal.specs.Releases.{IsRelease, pages_on}
use Rattle.round_journal.specs.Counts.{IsNoRelease}
use Rattle.round_journal.proofs.CountLemmas.{IsUnspoiled-legal, RoundsInOrder-legal, IsSpent-legal, aside-end}
use Rattle.round_journal.proofs.EndLemmas.{script_wrong-first, came_back-all, script_wrong-points, or_total-few, or_total-many}
use Rattle.round_journal.proofs.ReleaseLemmas.{IsRelease-stays, IsRelease-made, operand_on-has, pages_on-each}
use Rattle.round_core.specs.declared.machine.Machine.{Machine}
use Rattle.round_core.specs.declared.inputs.Inputs.{Inputs}
use Rattle.round_core.specs.declared.slot.Slot.{Slot}
use Rattle.round_core.specs.declared.slot.Stage.{Stage}
use Rattle.round_core.specs.declared.slot.Stage.TheVariants as stage
use Rattle.revision_judge.specs.Judging.{input}
use Rattle.round_core.specs.declared.inputs.InputChange.{InputChange}
use Rattle.round_core.specs.Inputs.{InputsKept, ChangeKept, AllClosed}
use Rattle.round_core.specs.Kept.{Scene, scene_of, IsHome, ResultKept, BackKept, RestKept, StageKept, SlotsKept, CountsKept, EarlierKept, Sound, KeptMachine, state_at}
use Rattle.round_core.specs.Slots.{SameHome, SameHomes, settle_by, IsFaultFree, EachSlot, FirstWrong, AllStill, pages_in, pages_of_stage, points_of_stage, points_in_all}
use Rattle.round_core.specs.Steps.{OpenStill, closed_counts}
use Rattle.round_core.proofs.KeptLemmas.{state_along, GoesTo, within_less, in_order, earlier_stays}
use Rattle.round_core.proofs.ReleaseLemmas.{earlier_published}
use Rattle.round_core.proofs.ClaimLemmas.{opened_of}
use Rattle.round_core.proofs.Lists.{some_of, get_or_any}
use Rattle.round_core.proofs.SlotLemmas.{Opened, slot_kept, slot_sources, many, over_of, still_of}

-- ---- points

abbrev points_from : (ℕ → StatementState) → ℕ → ℕ → List ℕ
points_from f k zero = []
points_from f k (suc n) = points_in (f k) ∷ points_from f (k + 1) n

points_from-long : (f : ℕ → StatementState) (k n : ℕ) → length (points_from f k n) ≡ n
points_from-long f k zero = refl
points_from-long f k (suc n) = ap suc (points_from-long f (k + 1) n)

points_from-at : (f : ℕ → StatementState) (k n i : ℕ) → i < n → get_or (points_from f k n) i 0 ≡ points_in (f (k + i))
points_from-at f k zero i l = absurd (omega (arith, l))
points_from-at f k (suc n) zero l = ap (λ m. points_in (f m)) (omega arith)
points_from-at f k (suc n) (suc i) l = points_from-at f (k + 1) n i (omega (arith, l)) ∙ ap (λ m. points_in (f m)) (omega arith)

told-add : (a b c d : ℕ) → a ≡ told b → told c ≡ told d → told (a + c) ≡ told (b + d)
told-add a b c d e h = elim (cases_lt 18446744073709551615 b) [
  | inl big ↦ let x : a ≡ 18446744073709551615 = e ∙ min-eq_right (omega (arith, big)) in min-eq_right (omega (arith, x)) ∙ sym (min-eq_right (omega (arith, big)))
  | inr small ↦
      let x : a ≡ b = e ∙ min-eq_left small in
      elim (cases_lt 18446744073709551615 d) [
        | inl large ↦
            let y : 18446744073709551615 ≤ c = elim (cases_lt c 18446744073709551615) [ inl l ↦ absurd (let p : told c ≡ c = min-eq_left (omega (arith, l)) in let q : told d ≡ 18446744073709551615 = min-eq_right (omega (arith, large)) in omega (arith, p, q, h, l)) | inr l ↦ l ] in
            min-eq_right (omega (arith, y)) ∙ sym (min-eq_right (omega (arith, large)))
        | inr few ↦
            let q : told d ≡ d = min-eq_left few in
            elim (cases_lt 18446744073709551615 c) [
              | inl over_limit ↦
                  let p : told c ≡ 18446744073709551615 = min-eq_right (omega (arith, over_limit)) in
                  let y : d ≡ 18446744073709551615 = omega (arith, p, q, h) in
                  min-eq_right (omega (arith, over_limit)) ∙ sym (min-eq_right (omega (arith, y)))
              | inr few_c ↦ let p : told c ≡ c = min-eq_left few_c in let y : c ≡ d = omega (arith, p, q, h) in ap told (omega (arith, x, y))
            ]
      ]
]

told_sum : (f : ℕ → StatementState) (k : ℕ) (slots : List Slot) → ((i : ℕ) (d : Slot) → i < length slots → points_of_stage (get_or slots i d).stage ≡ told (points_in (f (k + i)))) → told (points_in_all slots) ≡ told (sum (points_from f k (length slots)))
told_sum f k [] h = refl
told_sum f k (slot ∷ slots) h = ap told (sum_by-cons (λ z. z) (points_of_stage slot.stage) (map (λ q. points_of_stage q.stage) slots)) ∙ told-add (points_of_stage slot.stage) (points_in (f k)) (points_in_all slots) (sum (points_from f (k + 1) (length slots))) (h 0 slot (omega arith) ∙ ap (λ m. told (points_in (f m))) (omega arith)) (told_sum f (k + 1) slots (λ i d l. h (suc i) d (omega (arith, l)) ∙ ap (λ m. told (points_in (f m))) (omega arith))) ∙ ap told (sym (sum_by-cons (λ z. z) (points_in (f k)) (points_from f (k + 1) (length slots))))

told-few : (a b l : ℕ) → told a ≡ told b → l < 18446744073709551615 → a ≤ l → b ≤ l
told-few a b l e under few = elim (cases_lt l b) [
  | inl more ↦ absurd (let p : told a ≡ a = min-eq_left (omega (arith, under, few)) in elim (cases_lt 18446744073709551615 b) [ inl big ↦ (let q : told b ≡ 18446744073709551615 = min-eq_right (omega (arith, big)) in omega (arith, p, q, e, under, few)) | inr small ↦ (let q : told b ≡ b = min-eq_left small in omega (arith, p, q, e, more, few)) ])
  | inr fewer ↦ fewer
]

told-many : (a b l : ℕ) → told a ≡ told b → l < 18446744073709551615 → l < a → l < b
told-many a b l e under more = elim (cases_lt l b) [
  | inl m ↦ m
  | inr fewer ↦ absurd (let p = told-few b a l (sym e) under fewer in omega (arith, p, more))
]

-- ---- nodes

settle_now : (n p : ℕ) → 0 < n → n ≡ p → settle_by n p ≡ Apply
settle_now zero p l e = absurd (omega (arith, l))
settle_now (suc n) p l e = rw (eq-eqb (suc n) p e) refl

settle_not : (n p : ℕ) → n ≢ p → settle_by n p ≡ Forget
settle_not zero p h = refl
settle_not (suc n) p h = rw (ne_eqb (suc n) p h) refl

home_of : (c : Script) (xs : List DataSet) (i : ℕ) (s t : Settle) (old new : Slot) → s ≡ t → SameHome old new → IsHome c xs i s old.node → IsHome c xs i t new.node
home_of c xs i s t old new e same h = subst (λ (z : Settle). IsHome c xs i z new.node) e (subst (λ (node : Option Node). IsHome c xs i s node) (sym same.node) h)

-- ---- without a release

back_rests : (v : Scene) (i : ℕ) (old new : Slot) (z : Status) → v.published < v.round → SameHome old new → BackKept v i old z → RestKept v i new
back_rests v i old new z l same k =
    let stamp : new.stamp ≡ v.round = same.stamp ∙ k.now in record {
      earlier = omega (arith, stamp);
      home = home_of v.script v.olds i Forget (settle_by new.stamp v.published) old new (sym (settle_not new.stamp v.published (λ e. absurd (omega (arith, e, stamp, l))))) same k.home;
    }

-- nodes that were worked in the round forget their patches, and the others stay as they are
rests : (v : Scene) (i : ℕ) (old new : Slot) (st : Stage) → v.published < v.round → SameHome old new → st ≢ stage.Out → StageKept v i old st → RestKept v i new
rests v i old new stage.Waiting l same out k = record {
  earlier = let a = k.earlier in let e = same.stamp in omega (arith, a, e);
  home = home_of v.script v.olds i (settle_by old.stamp v.published) (settle_by new.stamp v.published) old new (ap (λ m. settle_by m v.published) (sym same.stamp)) same k.home;
}
rests v i old new stage.Out l same out k = absurd (out refl)
rests v i old new (stage.Right points pages) l same out k = back_rests v i old new Back l same k.0
rests v i old new (stage.Wrong kept told) l same out k = back_rests v i old new Back l same k.0
rests v i old new stage.Spoiled l same out k = back_rests v i old new Spoiled l same k

pub slots_rest : (v : Scene) (slots after : List Slot) → v.published < v.round → SlotsKept v true slots → EachSlot (λ i slot. slot.stage ≢ stage.Out) slots → SameHomes slots after → SlotsKept v false after
slots_rest v slots after l k out same = record {
  many = same.0 ∙ k.many;
  each = λ i d m.
      let b : i < length slots = let e = same.0 in omega (arith, m, e) in
      let old = get_or slots i d in
      record {
        sources = (same.1 i d b).sources ∙ (k.each i d b).sources;
        place = rests v i old (get_or after i d) old.stage l (same.1 i d b) (out i d b) (k.each i d b).place;
      };
}

-- ---- the facts of a round that is over

-- an open round that is over
pub record Ended (a : Machine) (n : ℕ) : Type 0 where
  pub still : OpenStill a n
  pub slots : AllStill a.slots.items

module _ (a : Machine) (n : ℕ) (e : Ended a n) where
  abbrev s : State
  s = state_at a

  abbrev c : Script
  c = s.round.script

  pub open_slots : Opened s a.slots.items
  open_slots = opened_of a e.still.within e.still.sound (e.still.sound.counts.running ∙ e.still.running)

  pub over : Over s
  over = over_of s a.slots.items open_slots e.slots

  pub ends : Ends s n a.counts.to
  ends = record { over = over; prefix = e.still.sound.counts.to; same_caller = sym e.still.same_caller }

  pub room_left : 1 ≤ a.counts.aside
  room_left = let h = aside-end s e.still.running (IsSpent-legal (arc_value a.first) a.journal.items e.still.within.legal) in omega (arith, h, e.still.sound.counts.aside)

  pub earlier : s.published < s.rounds
  earlier = (RoundsInOrder-legal (arc_value a.first) a.journal.items e.still.within.legal).before_open e.still.running

  pub unspoiled : a.counts.spoiled ≡ false → OverUnspoiled s
  unspoiled clean = record { over = over; unspoiled = IsUnspoiled-legal (arc_value a.first) a.journal.items e.still.within.legal (sym e.still.sound.counts.spoiled ∙ clean) }

  pub rested : (after : List Slot) → SameHomes a.slots.items after → SlotsKept (scene_of s) false after
  rested after same = slots_rest (scene_of s) a.slots.items after earlier open_slots.kept e.slots.none_out same

  -- the production after an end: its state t doesn't run
  kept_closed : (b : Machine) (w : What) (t : State) → GoesTo a n w b → t ≡ after_what s n w → t.running ≡ false → Sound b t → b.counts.aside ≡ 0 → b.counts.fields ≡ a.counts.fields → b.counts.newest ≡ a.counts.newest → vec_capacity a.journal ≤ vec_capacity b.journal → KeptMachine b
  kept_closed b w t goes et stops sound ea ef en room =
      let one = room_left in
      let st : t ≡ state_at b = et ∙ state_along a b.journal.items n w goes.items ∙ ap (λ (q : Arc Script Global). state_of (arc_value q) b.journal.items) (sym goes.first) in
      record {
        within = within_less a b n w e.still.within goes (omega (arith, ea, one)) ef en room;
        sound = subst (λ (u : State). Sound b u) st sound;
        live = subst (λ (u : State). ¬ (Over u)) st (λ o. let r = o.open_still in cc (r, stops));
      }

  -- an end without a release
  kept_unreleased : (j : Vec Entry Global) (slots : Vec Slot Global) (w : What) (dropped : Bool) → IsNoRelease w → after_what s n w ≡ record s { running = false; dropped = dropped; by = n } → MayCome s n w → SameHomes a.slots.items slots.items → j.items ≡ a.journal.items ++ (record { by = n; what = w }) ∷ [] → vec_capacity a.journal ≤ vec_capacity j
      → KeptMachine (record a { journal = j; slots = slots; counts = closed_counts (record a.counts { dropped = dropped }) })
  kept_unreleased j slots w dropped none et may same ej room =
      let t : State = record s { running = false; dropped = dropped; by = n } in
      let b : Machine = record a { journal = j; slots = slots; counts = closed_counts (record a.counts { dropped = dropped }) } in
      let k = e.still.sound in
      let p = in_order a e.still.within in
      let counts : CountsKept b.counts t = record { accepted = k.counts.accepted; fields = k.counts.fields; newest = k.counts.newest; published = k.counts.published; rounds = k.counts.rounds; script = k.counts.script; base = k.counts.base; running = refl; dropped = refl; spoiled = k.counts.spoiled; to = k.counts.to; aside = refl } in
      let sound : Sound b t = record {
        scripts = record { first = k.scripts.first; newest = k.scripts.newest; round = k.scripts.round };
        counts = counts;
        inputs = k.inputs;
        slots = rested slots.items same;
        passed = λ r. cc r;
        release = subst (λ (u : State). IsRelease u a.latest) et (IsRelease-stays s n w a.latest p none k.release);
        earlier = subst (λ (u : State). EarlierKept u a.earlier.items) et (earlier_stays s n w a.earlier.items p none k.earlier);
        earlier_fit = k.earlier_fit;
        pages = k.pages;
        pages_fit = λ r. cc r;
      } in
      kept_closed b w t (record { first = refl; limits = refl; items = ej; may = may }) (sym et) refl sound refl refl refl room

  pub kept_failed : (j : Vec Entry Global) (slots : Vec Slot Global) (f : ScriptFault) → a.counts.spoiled ≡ false → script_wrong c (new_inputs s) ≡ Some (fault_said f) → SameHomes a.slots.items slots.items → j.items ≡ a.journal.items ++ (record { by = n; what = Failed a.counts.to f }) ∷ [] → vec_capacity a.journal ≤ vec_capacity j
      → KeptMachine (record a { journal = j; slots = slots; counts = closed_counts a.counts })
  kept_failed j slots f clean wrong same ej room =
      let k = e.still.sound.counts in
      kept_unreleased j slots (Failed a.counts.to f) a.counts.dropped tt (ap (λ (q : Bool). let u : State = record s { running = false; dropped = q; by = n } in u) (sym k.dropped)) (ends, sym k.spoiled ∙ clean, wrong) same ej room

  pub kept_dropped : (j : Vec Entry Global) → a.counts.spoiled ≡ true → j.items ≡ a.journal.items ++ (record { by = n; what = Dropped a.counts.to }) ∷ [] → vec_capacity a.journal ≤ vec_capacity j
      → KeptMachine (record a { journal = j; counts = closed_counts (record a.counts { dropped = true }) })
  kept_dropped j spoiled ej room = kept_unreleased j a.slots (Dropped a.counts.to) true tt refl (ends, sym e.still.sound.counts.spoiled ∙ spoiled) (refl, λ i d l. record { sources = refl; stamp = refl; node = refl }) ej room

  -- ---- by the first fault

  free_of : (i : ℕ) → i < length a.slots.items → ((d : Slot) → IsFaultFree (get_or a.slots.items i d)) → IsNoFault s i
  free_of i l free back wrong fails =
      let d = some_of a.slots.items i l in
      by_stage (get_or a.slots.items i d).stage refl (slot_kept s a.slots.items open_slots i d l)
    where
      by_stage : (st : Stage) → (get_or a.slots.items i (some_of a.slots.items i l)).stage ≡ st → StageKept (scene_of s) i (get_or a.slots.items i (some_of a.slots.items i l)) (get_or a.slots.items i (some_of a.slots.items i l)).stage → ⊥
      by_stage stage.Waiting q k = let h = (subst (λ z. StageKept (scene_of s) i (get_or a.slots.items i (some_of a.slots.items i l)) z) q k).place in cc (h, back)
      by_stage stage.Out q k = let h = (subst (λ z. StageKept (scene_of s) i (get_or a.slots.items i (some_of a.slots.items i l)) z) q k).1 in cc (h, back)
      by_stage (stage.Right points pages) q k = let h = (subst (λ z. StageKept (scene_of s) i (get_or a.slots.items i (some_of a.slots.items i l)) z) q k).1.state in cc (h, fails)
      by_stage (stage.Wrong kept told) q k = free (some_of a.slots.items i l) kept told q
      by_stage stage.Spoiled q k = let h = (subst (λ z. StageKept (scene_of s) i (get_or a.slots.items i (some_of a.slots.items i l)) z) q k).place in cc (h, back)

  pub first_fault : (i : ℕ) (kept told : NodeFault) (d : Slot) → FirstWrong a.slots.items i → (get_or a.slots.items i d).stage ≡ stage.Wrong kept told → (wrong_of told ≡ wrong_of kept) × FirstFault s i (wrong_of kept)
  first_fault i kept told d h q =
      let k = subst (λ z. StageKept (scene_of s) i (get_or a.slots.items i d) z) q (slot_kept s a.slots.items open_slots i d h.below) in (
        k.1,
        record {
          below = let l = h.below in let m = many s a.slots.items open_slots in omega (arith, l, m);
          back = k.0.place;
          fails = k.2;
          first = λ j l. free_of j (let b = h.below in omega (arith, b, l)) (λ d'. h.first j d' l);
        },
      )

  pub fault_is : (i : ℕ) (kept told : NodeFault) (d : Slot) → a.counts.spoiled ≡ false → FirstWrong a.slots.items i → (get_or a.slots.items i d).stage ≡ stage.Wrong kept told → script_wrong c (new_inputs s) ≡ Some (fault_said (fault.At i kept))
  fault_is i kept told d clean h q = script_wrong-first s open_slots.agrees.checked (unspoiled clean) i (wrong_of kept) (first_fault i kept told d h q).1

  -- ---- by no fault

  module _ (clean : a.counts.spoiled ≡ false) (free : EachSlot (λ i slot. IsFaultFree slot) a.slots.items) where
    none : NoFault s
    none i l = let b : i < length a.slots.items = let m = many s a.slots.items open_slots in omega (arith, l, m) in free_of i b (λ d. free i d b)

    -- each statement came back with a data set
    pub right : (i : ℕ) (d : Slot) → i < length a.slots.items → (points : ℕ) × (pages : Option Page) × ((get_or a.slots.items i d).stage ≡ stage.Right points pages) × BackKept (scene_of s) i (get_or a.slots.items i d) Back × ResultKept (scene_of s) i points pages (get_or a.slots.items i d).node
    right i d l = by_stage (get_or a.slots.items i d).stage refl (slot_kept s a.slots.items open_slots i d l)
      where
        back : s.status i ≡ Back
        back = (came_back-all s open_slots.agrees.checked (unspoiled clean) none open_slots.agrees.same_inputs i (let m = many s a.slots.items open_slots in omega (arith, l, m))).0

        by_stage : (st : Stage) → (get_or a.slots.items i d).stage ≡ st → StageKept (scene_of s) i (get_or a.slots.items i d) st → (points : ℕ) × (pages : Option Page) × (st ≡ stage.Right points pages) × BackKept (scene_of s) i (get_or a.slots.items i d) Back × ResultKept (scene_of s) i points pages (get_or a.slots.items i d).node
        by_stage stage.Waiting q k = let h = k.place in absurd (cc (h, back))
        by_stage stage.Out q k = let h = k.1 in absurd (cc (h, back))
        by_stage (stage.Right points pages) q k = (points, pages, refl, k.0, k.1)
        by_stage (stage.Wrong kept told) q k = absurd (free i d l kept told q)
        by_stage stage.Spoiled q k = let h = k.place in absurd (cc (h, back))

    abbrev all_points : List ℕ
    all_points = points_from (states c (new_inputs s)) 0 (length a.slots.items)

    are_points : ArePoints c (new_inputs s) all_points
    are_points = record {
      many = points_from-long (states c (new_inputs s)) 0 (length a.slots.items) ∙ many s a.slots.items open_slots;
      each = λ i l. points_from-at (states c (new_inputs s)) 0 (length a.slots.items) i (let m = many s a.slots.items open_slots in omega (arith, l, m)) ∙ ap (λ m. points_in (states c (new_inputs s) m)) (omega arith);
    }

    same_told : told (points_in_all a.slots.items) ≡ told (sum all_points)
    same_told = told_sum (states c (new_inputs s)) 0 a.slots.items (λ i d l.
        let h = right i d l in
        ap points_of_stage h.2 ∙ h.4.points_are ∙ ap (λ st. told (points_in st)) (sym h.4.state) ∙ ap (λ m. told (points_in (states c (new_inputs s) m))) (omega arith))

    wrong_by_points : script_wrong c (new_inputs s) ≡ or_total None (sum all_points)
    wrong_by_points = script_wrong-points s open_slots.agrees.checked (unspoiled clean) none all_points are_points

    pub in_bounds : points_in_all a.slots.items ≤ POINTS_LIMIT → script_wrong c (new_inputs s) ≡ None
    in_bounds l = wrong_by_points ∙ or_total-few (sum all_points) (told-few (points_in_all a.slots.items) (sum all_points) 6000000 same_told (omega arith) l)

    pub too_many : (m : ℕ) → POINTS_LIMIT < points_in_all a.slots.items → m ≡ min (points_in_all a.slots.items) 18446744073709551615 → script_wrong c (new_inputs s) ≡ Some (fault_said (fault.Total m))
    too_many m l q = wrong_by_points ∙ or_total-many (sum all_points) (told-many (points_in_all a.slots.items) (sum all_points) 6000000 same_told (omega arith) l) ∙ ap (λ x. Some (Total x)) (sym (q ∙ same_told))

    -- the pages of the release
    pub pages_are : pages_in a.slots.items ≡ pages_on c (new_inputs s)
    pages_are = pages_on-each (λ slot. pages_of_stage slot.stage) pages_in refl (λ y ys. refl) c (new_inputs s) a.slots.items (many s a.slots.items open_slots) (λ i d statement there.
        let b : i < length a.slots.items = let m = many s a.slots.items open_slots in let w = Rattle.std.proofs.lemmas.Option.slice_get_within c.statements i statement there in omega (arith, w, m) in
        let h = right i d b in
        ap pages_of_stage h.2 ∙ h.4.pages_are statement there ∙ ap (published statement) (sym (operand_on-has c (new_inputs s) i h.4.has h.4.state)))

    -- every node's patches become part of the release
    slots_published : (after : List Slot) → SameHomes a.slots.items after → SlotsKept (let v : Scene = record { script = c; published = s.rounds; round = s.rounds; olds = new_inputs s; news = new_inputs s; status = s.status } in v) false after
    slots_published after same = record {
      many = same.0 ∙ many s a.slots.items open_slots;
      each = λ i d m.
          let b : i < length a.slots.items = let q = same.0 in omega (arith, m, q) in
          let h = right i d b in
          let old = get_or a.slots.items i d in
          let new = get_or after i d in
          let to = same.1 i d b in
          let stamp : new.stamp ≡ s.rounds = to.stamp ∙ h.3.now in record {
            sources = to.sources ∙ slot_sources s a.slots.items open_slots i d b;
            place = record {
              earlier = omega (arith, stamp);
              home = home_of c (new_inputs s) i Apply (settle_by new.stamp s.rounds) old new (sym (settle_now new.stamp s.rounds (let q = earlier in omega (arith, stamp, q)) stamp)) to h.4.pending;
            };
          };
    }

    pub kept_published : (j : Vec Entry Global) (slots : Vec Slot Global) (rest : Vec Page Global) (i : Inputs) (r : Release) (es : Vec Release Global) → points_in_all a.slots.items ≤ POINTS_LIMIT → SameHomes a.slots.items slots.items → rest.items ≡ []
        → InputsKept (new_inputs s) (new_inputs s) (inputs_now s) i → r.number ≡ number s + 1 → r.prefix ≡ a.counts.to → r.script ≡ a.counts.script → r.pages ≡ pages_in a.slots.items → es.items ≡ drop (length a.earlier.items + 1 - EARLIER_LIMIT) a.earlier.items ++ a.latest ∷ [] → EARLIER_LIMIT ≤ vec_capacity es
        → j.items ≡ a.journal.items ++ (record { by = n; what = Published a.counts.to }) ∷ [] → vec_capacity a.journal ≤ vec_capacity j
        → KeptMachine (record a { journal = j; slots = slots; room = rest; inputs = i; latest = r; earlier = es; counts = closed_counts (record a.counts { published = a.counts.rounds; base = a.counts.to }) })
    kept_published j slots rest i r es few same er inputs_kept en ep ec eg ee fit ej room =
        let w : What = Published a.counts.to in
        let k = e.still.sound in
        let p = in_order a e.still.within in
        let b : Machine = record a { journal = j; slots = slots; room = rest; inputs = i; latest = r; earlier = es; counts = closed_counts (record a.counts { published = a.counts.rounds; base = a.counts.to }) } in
        let t : State = after_what s n (Published s.to) in
        let base_is : base t ≡ s.to = ap (λ (q : Bool). cond q s.to 0) (eq-eqb s.round.number s.round.number refl) in
        let counts : CountsKept b.counts t = record { accepted = k.counts.accepted; fields = k.counts.fields; newest = k.counts.newest; published = k.counts.rounds; rounds = k.counts.rounds; script = k.counts.script; base = k.counts.to ∙ sym base_is; running = refl; dropped = k.counts.dropped; spoiled = k.counts.spoiled; to = k.counts.to; aside = refl } in
        let sound : Sound b t = record {
          scripts = record { first = k.scripts.first; newest = k.scripts.newest; round = k.scripts.round };
          counts = counts;
          inputs = subst (λ m. InputsKept (inputs m t) (new_inputs t) (inputs_now t) i) (sym base_is) inputs_kept;
          slots = subst (λ m. SlotsKept (let v : Scene = record { script = c; published = s.rounds; round = s.rounds; olds = inputs m t; news = new_inputs s; status = s.status } in v) false slots.items) (sym base_is) (slots_published slots.items same);
          passed = λ q. cc q;
          release = IsRelease-made s n r en (ep ∙ k.counts.to) (ec ∙ k.counts.script) (eg ∙ pages_are);
          earlier = earlier_published s n s.to a.earlier.items es.items a.latest p k.earlier k.release ee;
          earlier_fit = fit;
          pages = er;
          pages_fit = λ q. cc q;
        } in
        kept_closed b w t (record { first = refl; limits = refl; items = ej; may = (ends, sym k.counts.spoiled ∙ clean, in_bounds few) }) (ap (λ m. after_what s n (Published m)) (sym k.counts.to)) refl sound refl refl refl room

-- ---- the parts of an end

pub same_homes_set : (slots : List Slot) (i : ℕ) (slot x : Slot) → slot ≡ get_or slots i slot → SameHome slot x → SameHomes slots (set slots i x)
same_homes_set slots i slot x e h = (
  length-set slots i x,
  λ j d l. elim (cases_eq j i) [
    | inl same ↦
        let m : i < length slots = omega (arith, l, same) in
        subst (λ (q : ℕ). SameHome (get_or slots q d) (get_or (set slots i x) q d)) (sym same)
        (subst (λ (y : Slot). SameHome y (get_or (set slots i x) i d)) (e ∙ get_or_any slots i slot d m) (subst (λ (y : Slot). SameHome slot y) (sym (get_or-set_same slots i x d m)) h))
    | inr other ↦ subst (λ (y : Slot). SameHome (get_or slots j d) y) (sym (get_or-set_other slots i j x d other)) (record { sources = refl; stamp = refl; node = refl })
  ],
)

pub still_of_over : (a : Machine) (n : ℕ) → OpenStill a n → Over (state_at a) → AllStill a.slots.items
still_of_over a n o over = still_of (state_at a) a.slots.items (opened_of a o.within o.sound (o.sound.counts.running ∙ o.running)) over

pub inputs_closed : (a : Machine) (i : Inputs) → Sound a (state_at a) → i.sets ≡ a.inputs.sets → AllClosed a.inputs.changes.items i.changes.items → InputsKept (new_inputs (state_at a)) (new_inputs (state_at a)) (inputs_now (state_at a)) i
inputs_closed a i sound es h =
    let k = sound.inputs in
    let s : State = state_at a in record {
      sets = ap (λ (v : Vec DataSet Global). v.items) es ∙ k.sets;
      many = h.many ∙ k.many;
      each = λ n d l.
          let m : n < length a.inputs.changes.items = let q = k.many in omega (arith, l, q) in
          subst (λ (x : InputChange). ChangeKept (input (new_inputs s) n) (input (new_inputs s) n) (input (inputs_now s) n) x) (sym (h.each n d m)) (record { older = refl; newer = (k.each n d l).newer });
    }
