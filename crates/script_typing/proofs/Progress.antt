-- Where no statement has a fault, each has a data set.
use Rattle.std.proofs.Common.{◌≡◌, ◌≢◌, inl, inr, ℕ, zero, suc, ◌+◌, ◌<◌, Bool, true, ◌&&◌, List, [], ◌∷◌, ◌++◌, Option, Some, None, Result, Ok, Err, if◌then◌else◌, length, get_or, set, slice_get, All, AllPairs, Contains, refl, sym, ap, ◌∙◌, subst, arith, append_assoc, append-nil, length-append, length-set, get_or-append-add}
use Rattle.std.proofs.lemmas.List.Elements.{All-head, All-tail, Contains-append_right, Contains-push_cases}
use Rattle.std.proofs.lemmas.Option.{slice_get-get_or}
use Rattle.std.proofs.Math.Seq.{get_or-append_seam}
use Rattle.vtl_syntax.specs.declared.script.Statement.{Statement}
use Rattle.shortest_cycles.specs.Paths.{Graph, targets_of}
use Rattle.script_graph.specs.Orders.{FollowUses}
use Rattle.script_graph.proofs.Orders.{not_before}
use Rattle.scalar_trees.specs.declared.typing.stop.Refusal.{Refusal}
use Rattle.data_set_trees.specs.declared.operand.DataSet.{DataSet}
use Rattle.data_set_trees.specs.declared.checked.script.CheckedStatement.{CheckedStatement}
use Rattle.script_typing.specs.declared.state.State.{State}
use Rattle.script_typing.specs.declared.state.State.TheVariants.{Waits, Has, Fails}
use Rattle.script_typing.specs.States.{SoFar, has_set, all_have_sets, statement_typed, state_of, turn, with_set, comes_to, after_turn, after_turns}

-- ---- lists

pub set-other : {X : Type 0} (xs : List X) (i k : ℕ) (x : X) → k ≢ i → slice_get (set xs i x) k ≡ slice_get xs k
set-other [] i k x differ = refl
set-other (y ∷ ys) zero zero x differ = absurd (differ refl)
set-other (y ∷ ys) zero (suc k) x differ = refl
set-other (y ∷ ys) (suc i) zero x differ = refl
set-other (y ∷ ys) (suc i) (suc k) x differ = set-other ys i k x (λ e. differ (ap suc e))

pub set-same : {X : Type 0} (xs : List X) (i : ℕ) (x : X) → i < length xs → slice_get (set xs i x) i ≡ Some x
set-same [] i x less = absurd (omega arith)
set-same (y ∷ ys) zero x less = refl
set-same (y ∷ ys) (suc i) x less = set-same ys i x (omega arith)

-- what stands once stands nowhere later
pub not_after : (front : List ℕ) (i : ℕ) (back : List ℕ) → AllPairs (λ j k. j ≢ k) (front ++ i ∷ back) → Contains back i → ⊥
not_after front i back once c =
    let within : length front + suc c.0 < length (front ++ i ∷ back) = omega (arith, length-append front (i ∷ back), c.1) in
    let less : length front < length front + suc c.0 = omega arith in
    once (length front) (length front + suc c.0) i less within (get_or-append_seam front i back i ∙ sym (get_or-append-add front (i ∷ back) (suc c.0) i ∙ c.2))

pub first : (i : ℕ) (is : List ℕ) → Contains (i ∷ is) i
first i is = (0, omega arith, refl)

pub later : (i : ℕ) (is : List ℕ) (k : ℕ) → Contains is k → Contains (i ∷ is) k
later i is k c = Contains-append_right (i ∷ []) is k c

pub there : {X : Type 0} (xs : List X) (i : ℕ) → i < length xs → (x : X) × (slice_get xs i ≡ Some x)
there [] i less = absurd (omega arith)
there (x ∷ xs) i less = (get_or (x ∷ xs) i x, slice_get-get_or (x ∷ xs) i x less)

both-true : (a b : Bool) → a ≡ true → b ≡ true → (a && b) ≡ true
both-true a b x y = rw (x, y) refl

-- ---- states

-- statement i has a data set
abbrev pub HasSet : List State → ℕ → Type 0
HasSet states i = (c : CheckedStatement) × (slice_get states i ≡ Some (Has c))

-- none has a fault
abbrev pub NoFault : List State → Type 0
NoFault states = (k : ℕ) (r : Refusal) → slice_get states k ≡ Some (Fails r) → ⊥

have-all : (states : List State) (done ks : List ℕ) → ((k : ℕ) → Contains done k → HasSet states k) → All (Contains done) ks → all_have_sets states ks ≡ true
have-all states done [] have all = refl
have-all states done (k ∷ ks) have all =
    both-true (has_set (slice_get states k)) (all_have_sets states ks)
    (ap has_set (have k (All-head (Contains done) k ks all)).1)
    (have-all states done ks have (All-tail (Contains done) k ks all))

module _ (g : Graph) where
  -- what isn't to come any more stays
  other-kept : (i k : ℕ) (o : Option State) (s : SoFar) → k ≢ i → slice_get (comes_to i o s).states k ≡ slice_get s.states k
  other-kept i k None s differ = refl
  other-kept i k (Some state) s differ = set-other s.states i k state differ

  pub kept : (is : List ℕ) (k : ℕ) (s : SoFar) → (Contains is k → ⊥) → slice_get (after_turns g is s).states k ≡ slice_get s.states k
  kept [] k s out = refl
  kept (i ∷ is) k s out =
      kept is k (after_turn (targets_of g i) i s) (λ c. out (later i is k c))
      ∙ other-kept i k (turn s.naming s.states (targets_of g i) (slice_get s.states i)) s (λ e. out (subst (Contains (i ∷ is)) (sym e) (first i is)))

module _ (g : Graph) (ts : List Statement) where
  -- those before have data sets; those to come are as they are written, each stands once, and uses what stands before it
  pub record Meets (done rest : List ℕ) (s : SoFar) : Type 0 where
    pub once : AllPairs (λ i j. i ≢ j) (done ++ rest)
    pub below : All (λ i. i < length ts) rest
    pub follows : FollowUses g done rest
    pub long : length s.states ≡ length ts
    pub have : (k : ℕ) → Contains done k → HasSet s.states k
    pub wait : (k : ℕ) (t : Statement) → Contains rest k → slice_get ts k ≡ Some t → slice_get s.states k ≡ Some (Waits t)

  -- the next one is typed, and has a data set
  pub record Next (i : ℕ) (s : SoFar) : Type 0 where
    pub t : Statement
    pub at : slice_get ts i ≡ Some t
    pub d : DataSet
    pub typed : statement_typed s.naming t ≡ Ok d
    pub is : after_turn (targets_of g i) i s ≡ comes_to i (Some (Has (with_set t d))) s

  ready : (done is : List ℕ) (i : ℕ) (t : Statement) (s : SoFar) → Meets done (i ∷ is) s → slice_get ts i ≡ Some t → after_turn (targets_of g i) i s ≡ comes_to i (Some (state_of t (statement_typed s.naming t))) s
  ready done is i t s m at =
      ap (λ (o : Option State). comes_to i (turn s.naming s.states (targets_of g i) o) s) (m.wait i t (first i is) at)
      ∙ ap (λ (b : Bool). comes_to i (if b then Some (state_of t (statement_typed s.naming t)) else None) s) (have-all s.states done (targets_of g i) m.have m.follows.0)

  from_state : (done is : List ℕ) (i : ℕ) (t : Statement) (s : SoFar) → Meets done (i ∷ is) s → slice_get ts i ≡ Some t → NoFault (after_turns g (i ∷ is) s).states → (r : Result DataSet Refusal) → statement_typed s.naming t ≡ r → after_turn (targets_of g i) i s ≡ comes_to i (Some (state_of t r)) s → Next i s
  from_state done is i t s m at none (Ok d) typed e = record { t = t; at = at; d = d; typed = typed; is = e }
  from_state done is i t s m at none (Err r) typed e =
      let less : i < length s.states = subst (λ (n : ℕ). i < n) (sym m.long) (All-head (λ j. j < length ts) i is m.below) in
      absurd (none i r (
      kept g is i (after_turn (targets_of g i) i s) (not_after done i is m.once)
      ∙ ap (λ (z : SoFar). slice_get z.states i) e
      ∙ set-same s.states i (Fails r) less
      ))

  pub next : (done is : List ℕ) (i : ℕ) (s : SoFar) → Meets done (i ∷ is) s → NoFault (after_turns g (i ∷ is) s).states → Next i s
  next done is i s m none =
      let t = there ts i (All-head (λ j. j < length ts) i is m.below) in
      from_state done is i t.0 s m t.1 none (statement_typed s.naming t.0) refl (ready done is i t.0 s m t.1)

  pub meets_next : (done is : List ℕ) (i : ℕ) (c : CheckedStatement) (s : SoFar) → Meets done (i ∷ is) s → Meets (done ++ i ∷ []) is (comes_to i (Some (Has c)) s)
  meets_next done is i c s m = record {
    once = subst (AllPairs (λ j k. j ≢ k)) (sym (append_assoc done (i ∷ []) is)) m.once;
    below = All-tail (λ j. j < length ts) i is m.below;
    follows = m.follows.1;
    long = length-set s.states i (Has c) ∙ m.long;
    have = λ k in_done. elim (Contains-push_cases done i k in_done) [
      | inl old ↦
          let h = m.have k old in
          (h.0, set-other s.states i k (Has c) (λ e. not_before done i is m.once (subst (Contains done) e old)) ∙ h.1)
      | inr same ↦
          let less : i < length s.states = subst (λ (n : ℕ). i < n) (sym m.long) (All-head (λ j. j < length ts) i is m.below) in
          (c, subst (λ (j : ℕ). slice_get (set s.states i (Has c)) j ≡ Some (Has c)) same (set-same s.states i (Has c) less))
    ];
    wait = λ k t in_rest at.
        set-other s.states i k (Has c) (λ e. not_after done i is m.once (subst (Contains is) e in_rest))
        ∙ m.wait k t (later i is k in_rest) at;
  }

  -- all have data sets at the end
  pub all_have : (done rest : List ℕ) (s : SoFar) → Meets done rest s → NoFault (after_turns g rest s).states → (k : ℕ) → Contains (done ++ rest) k → HasSet (after_turns g rest s).states k
  all_have done [] s m none k c = m.have k (subst (λ (ks : List ℕ). Contains ks k) (append-nil done) c)
  all_have done (i ∷ is) s m none k c =
      let n = next done is i s m none in
      let checked = with_set n.t n.d in
      let after = comes_to i (Some (Has checked)) s in
      subst (λ (z : SoFar). HasSet (after_turns g is z).states k) (sym n.is)
      (all_have (done ++ i ∷ []) is after (meets_next done is i checked s m)
      (λ j r h. none j r (ap (λ (z : SoFar). slice_get (after_turns g is z).states j) n.is ∙ h))
      k (subst (λ (ks : List ℕ). Contains ks k) (sym (append_assoc done (i ∷ []) is)) c))
