-- How rounds end that had nothing given up.
use Rattle.std.proofs.Common.{◌≡◌, ◌≢◌, ◌≤◌, ◌<◌, ◌⊎◌, ◌↔◌, inl, inr, ℕ, zero, suc, Bool, true, false, ◌&&◌, List, [], ◌∷◌, map, take, length, get_or, add-one, Some, None, is_some, min, sym, ◌∙◌, ap, refl, arith, subst}
use Rattle.std.specs.Prelude.{sum}
use Rattle.std.specs.List.{All, list_all}
use Rattle.std.proofs.Math.Bool.{and-false}
use Rattle.std.proofs.lemmas.Bool.{le-leb}
use Rattle.std.proofs.lemmas.Bool.Decides.{leb_tells}
use Rattle.std.proofs.lemmas.List.{take_all, map-append}
use Rattle.std.proofs.lemmas.List.Elements.{All-nil, All-head, All-tail, All-cons, All-weaker}
use Rattle.std.proofs.lemmas.List.Sums.{sum_by-append, sum_by_more}
use Rattle.point_sets.specs.DataSets.{DataSet}
use Rattle.data_set_trees.specs.declared.tree.Source.{Source}
use Rattle.data_set_trees.specs.declared.tree.Source.TheVariants.{Input, Result as ResultOf}
use Rattle.data_set_trees.specs.checked.Scripts.{Script, IsChecked, names_of}
use Rattle.operator_meaning.specs.Results.{Wrong}
use Rattle.operator_meaning.specs.Scripts.{State as Value, Fails, Idle, set_in, set_named, states, first_states, points_in, POINTS_LIMIT, ScriptWrong, At, Total, or_total}
use Rattle.round_journal.specs.declared.entry.What.{What}
use Rattle.round_journal.specs.declared.entry.What.TheVariants.{Judged, Rescripted, Opened, Claimed, Returned, GaveUp, Published, Failed, Dropped}
use Rattle.round_journal.specs.declared.verdict.ScriptFault.{ScriptFault}
use Rattle.round_journal.specs.Journals.{State, Status, Waiting, Out, Back, Spoiled, new_inputs, round_wrong, fault_said, IsThere, Over, MayCome}
use Rattle.round_journal.specs.Ends.{OverUnspoiled, HasSet, IsNoFault, FirstFault, NoFault, ArePoints}
use Rattle.round_journal.proofs.InputLemmas.{inputs-long}
use Rattle.round_journal.proofs.ScriptLemmas.{OfResult, along_order, sources_of-all, all_named-true, state_cases, Idle-from_names, worked-from_names, script_wrong-at, script_wrong-total}

module _ (s : State) (checked : IsChecked s.round.script) (over : OverUnspoiled s) where
  abbrev c : Script
  c = s.round.script

  abbrev ys : List DataSet
  ys = new_inputs s

  -- ---- what waits is idle

  abbrev WaitsIdle : ℕ → Type 0
  WaitsIdle j = (j < length c.statements) × (s.status j ≡ Waiting → states c ys j ≡ Idle)

  has_or_not : (j : ℕ) → s.status j ≡ Back → (b : Bool) → is_some (set_in (states c ys j)) ≡ b → IsThere c s.status ys (ResultOf j) ⊎ (is_some (set_in (states c ys j)) ≡ false)
  has_or_not j back true e = inl (back, e)
  has_or_not j back false e = inr e

  result_there : (j : ℕ) → WaitsIdle j → (status : Status) → s.status j ≡ status → IsThere c s.status ys (ResultOf j) ⊎ (is_some (set_in (states c ys j)) ≡ false)
  result_there j h Waiting e = inr (ap (λ v. is_some (set_in v)) (h.1 e))
  result_there j h (Out n) e = absurd (over.over.none_out j n h.0 e)
  result_there j h Back e = has_or_not j e (is_some (set_in (states c ys j))) refl
  result_there j h Spoiled e = absurd (over.unspoiled j h.0 e)

  name_there : (n : Source) → OfResult WaitsIdle n → IsThere c s.status ys n ⊎ (is_some (set_named ys (states c ys) n) ≡ false)
  name_there (Input n) h = inl tt
  name_there (ResultOf j) h = result_there j h (s.status j) refl

  all_there : (ns : List Source) → All (OfResult WaitsIdle) ns → All (IsThere c s.status ys) ns ⊎ (list_all (λ n. is_some (set_named ys (states c ys) n)) ns ≡ false)
  all_there [] h = inl (All-nil (IsThere c s.status ys))
  all_there (n ∷ ns) h = elim (name_there n (All-head (OfResult WaitsIdle) n ns h)) [
    | inr missing ↦ inr (ap (λ b. b && list_all (λ n. is_some (set_named ys (states c ys) n)) ns) missing)
    | inl there ↦ elim (all_there ns (All-tail (OfResult WaitsIdle) n ns h)) [
      | inl rest ↦ inl (All-cons (IsThere c s.status ys) n ns there rest)
      | inr missing ↦ inr (ap (λ b. is_some (set_named ys (states c ys) n) && b) missing ∙ and-false (is_some (set_named ys (states c ys) n)))
    ]
  ]

  -- a waiting statement isn't ready
  unready : (i : ℕ) → i < length c.statements → s.status i ≡ Waiting → All (IsThere c s.status ys) (names_of c i) → ⊥
  unready i l waits there = over.over.none_ready i (record { below = l; waits = waits; operands = sources_of-all c (IsThere c s.status ys) i there })

  waits_idle : (i : ℕ) → i < length c.statements → All (OfResult WaitsIdle) (names_of c i) → WaitsIdle i
  waits_idle i l h = (l, λ waits. elim (all_there (names_of c i) h) [ inl there ↦ absurd (unready i l waits there) | inr missing ↦ Idle-from_names c ys checked i l missing ])

  pub Idle-waiting : (i : ℕ) → i < length c.statements → s.status i ≡ Waiting → states c ys i ≡ Idle
  Idle-waiting i l waits = (along_order c WaitsIdle waits_idle checked i l).1 waits

  -- ---- faults came back

  by_status : (i : ℕ) → i < length c.statements → IsNoFault s i → (wrong : Wrong) → states c ys i ≡ Fails wrong → (status : Status) → s.status i ≡ status → ⊥
  by_status i l none wrong e Waiting at = let idle = Idle-waiting i l at in cc
  by_status i l none wrong e (Out n) at = over.over.none_out i n l at
  by_status i l none wrong e Back at = none at wrong e
  by_status i l none wrong e Spoiled at = over.unspoiled i l at

  no_fault : (i : ℕ) → i < length c.statements → IsNoFault s i → (wrong : Wrong) → states c ys i ≢ Fails wrong
  no_fault i l none wrong e = by_status i l none wrong e (s.status i) refl

  pub script_wrong-first : (i : ℕ) (wrong : Wrong) → FirstFault s i wrong → round_wrong s ≡ Some (At i wrong)
  script_wrong-first i wrong h = script_wrong-at c ys i wrong h.below h.fails (λ j l. no_fault j (omega (arith, h.below)) (h.first j l))

  -- ---- all came back with data sets

  module _ (free : NoFault s) where
    abbrev CameBack : ℕ → Type 0
    CameBack j = (s.status j ≡ Back) × HasSet c ys j

    there_from_back : (n : Source) → OfResult CameBack n → IsThere c s.status ys n
    there_from_back (Input n) h = tt
    there_from_back (ResultOf j) h = (h.0, ap (λ v. is_some (set_in v)) h.1.1)

    set_from_back : (n : Source) → OfResult CameBack n → OfResult (λ j. is_some (set_in (states c ys j)) ≡ true) n
    set_from_back (Input n) h = tt
    set_from_back (ResultOf j) h = ap (λ v. is_some (set_in v)) h.1.1

    is_back : (i : ℕ) → i < length c.statements → All (OfResult CameBack) (names_of c i) → (status : Status) → s.status i ≡ status → s.status i ≡ Back
    is_back i l h Waiting at = absurd (unready i l at (All-weaker (OfResult CameBack) (IsThere c s.status ys) there_from_back (names_of c i) h))
    is_back i l h (Out n) at = absurd (over.over.none_out i n l at)
    is_back i l h Back at = at
    is_back i l h Spoiled at = absurd (over.unspoiled i l at)

    came_back : c.inputs ≡ s.first.inputs → (i : ℕ) → i < length c.statements → All (OfResult CameBack) (names_of c i) → CameBack i
    came_back same i l h =
        let back = is_back i l h (s.status i) refl in
        let long = inputs-long c s.to s same in
        let named = all_named-true c ys checked long i (All-weaker (OfResult CameBack) (OfResult (λ j. is_some (set_in (states c ys j)) ≡ true)) set_from_back (names_of c i) h) in (
          back,
          elim (state_cases (states c ys i)) [
            | inl has ↦ has
            | inr other ↦ elim other [ inl fails ↦ absurd (free i l back fails.0 fails.1) | inr idle ↦ absurd (worked-from_names c ys checked i l named idle) ]
          ],
        )

    -- where the script has the inputs of the production
    pub came_back-all : c.inputs ≡ s.first.inputs → (i : ℕ) → i < length c.statements → (s.status i ≡ Back) × HasSet c ys i
    came_back-all same i l = along_order c CameBack (came_back same) checked i l

    pub script_wrong-points : (points : List ℕ) → ArePoints c ys points → round_wrong s ≡ or_total None (sum points)
    script_wrong-points points h =
        script_wrong-total c ys (λ i l. no_fault i l (free i l)) ∙ ap (or_total None) (sym (points_total (length c.statements) (states c ys) points h.many h.each))
      where
        sum_points : (n : ℕ) (f : ℕ → Value) (ps : List ℕ) → n ≤ length ps → ((i : ℕ) → i < n → get_or ps i 0 ≡ points_in (f i)) → sum (take n ps) ≡ sum (map points_in (first_states n f))
        sum_points zero f ps l h = refl
        sum_points (suc n) f ps l h =
            let before = sum_points n f ps (omega arith) (λ i m. h i (omega arith)) in
            let here = h n (omega arith) in
            let more' = ap (λ k. sum (take k ps)) (sym (add-one n)) ∙ sum_by_more (λ x. x) ps n 0 (omega arith) in
            let parts = ap sum (map-append points_in (first_states n f) (f n ∷ [])) ∙ sum_by-append (λ x. x) (map points_in (first_states n f)) (points_in (f n) ∷ []) in
            omega (arith, before, here, more', parts)

        points_total : (n : ℕ) (f : ℕ → Value) (ps : List ℕ) → length ps ≡ n → ((i : ℕ) → i < n → get_or ps i 0 ≡ points_in (f i)) → sum ps ≡ sum (map points_in (first_states n f))
        points_total n f ps long h = ap sum (sym (take_all n ps (omega (arith, long)))) ∙ sum_points n f ps (omega (arith, long)) h

pub or_total-few : (points : ℕ) → points ≤ POINTS_LIMIT → or_total None points ≡ None
or_total-few points l = let few = le-leb points POINTS_LIMIT l in rw few refl

pub or_total-many : (points : ℕ) → POINTS_LIMIT < points → or_total None points ≡ Some (Total (min points 18446744073709551615))
or_total-many points l = elim (leb_tells points POINTS_LIMIT) [ inl few ↦ absurd (omega (arith, few.1)) | inr many ↦ rw many.0 refl ]

-- ---- the entry that ends a round

-- after a round is over only an end may come
module _ (s : State) (n : ℕ) (over : Over s) (P : What → Type 0) where
  pub by_end : ((to : ℕ) → MayCome s n (Published to) → P (Published to)) → ((to : ℕ) (fault : ScriptFault) → MayCome s n (Failed to fault) → P (Failed to fault)) → ((to : ℕ) → MayCome s n (Dropped to) → P (Dropped to))
      → (w : What) → MayCome s n w → P w
  by_end published failed dropped (Judged r v) may = absurd (may.0 over)
  by_end published failed dropped (Rescripted c) may = absurd (may.0 over)
  by_end published failed dropped (Opened to) may = absurd (cc (over.open_still, may.none_open))
  by_end published failed dropped (Claimed i) may = absurd (over.none_ready i may.1.ready)
  by_end published failed dropped (Returned i) may = absurd (over.none_out i n may.below may.out)
  by_end published failed dropped (GaveUp i) may = absurd (over.none_out i n may.below may.out)
  by_end published failed dropped (Published to) may = published to may
  by_end published failed dropped (Failed to fault) may = failed to fault may
  by_end published failed dropped (Dropped to) may = dropped to may

pub ends_dropped : (s : State) (n : ℕ) (w : What) → Over s → MayCome s n w → s.spoiled ≡ true → w ≡ Dropped s.to
ends_dropped s n w over may spoiled =
    by_end s n over (λ w. w ≡ Dropped s.to) (λ to may. absurd (cc (spoiled, may.1))) (λ to fault may. absurd (cc (spoiled, may.1))) (λ to may. ap (λ m. Dropped m) may.0.prefix) w may

is_published : (s : State) (n : ℕ) (w : What) → Over s → MayCome s n w → s.spoiled ≡ false → round_wrong s ≡ None → w ≡ Published s.to
is_published s n w over may clean none =
    by_end s n over (λ w. w ≡ Published s.to) (λ to may. ap (λ m. Published m) may.0.prefix) (λ to fault may. absurd (cc (sym none ∙ may.2))) (λ to may. absurd (cc (clean, may.1))) w may

pub ends_published : (s : State) (n : ℕ) (w : What) → Over s → MayCome s n w → s.spoiled ≡ false → (w ≡ Published s.to) ↔ (round_wrong s ≡ None)
ends_published s n w over may clean = (λ e. (subst (MayCome s n) e may).2, is_published s n w over may clean)

abbrev IsFailedBy : State → ScriptWrong → What → Type 0
IsFailedBy s wrong w = (fault : ScriptFault) × (w ≡ Failed s.to fault) × (fault_said fault ≡ wrong)

said_so : (s : State) (wrong said : ScriptWrong) → round_wrong s ≡ Some wrong → round_wrong s ≡ Some said → said ≡ wrong
said_so s wrong said a b = let e : Some said ≡ Some wrong = sym b ∙ a in cc e

is_failed : (s : State) (n : ℕ) (w : What) (wrong : ScriptWrong) → Over s → MayCome s n w → s.spoiled ≡ false → round_wrong s ≡ Some wrong → IsFailedBy s wrong w
is_failed s n w wrong over may clean some =
    by_end s n over (IsFailedBy s wrong) (λ to may. absurd (cc (sym some ∙ may.2))) (λ to fault may. (fault, ap (λ m. Failed m fault) may.0.prefix, said_so s wrong (fault_said fault) some may.2)) (λ to may. absurd (cc (clean, may.1))) w may

pub ends_failed : (s : State) (n : ℕ) (w : What) (wrong : ScriptWrong) → Over s → MayCome s n w → s.spoiled ≡ false → IsFailedBy s wrong w ↔ (round_wrong s ≡ Some wrong)
ends_failed s n w wrong over may clean = (λ h. (subst (MayCome s n) h.1 may).2 ∙ ap (λ said. Some said) h.2, is_failed s n w wrong over may clean)
