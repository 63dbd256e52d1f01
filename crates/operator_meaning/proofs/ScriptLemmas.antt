-- Scripts, statement by statement in their order.
use Rattle.std.proofs.Common.{◌≡◌, ◌≢◌, ◌<◌, ℕ, List, [], ◌∷◌, ◌++◌, length, Bool, ◌&&◌, cond, Option, Some, None, Ok, refl, sym, ◌∙◌, ap, subst, inl, inr}
use Rattle.std.specs.Option.{is_some, unwrap_or}
use Rattle.std.specs.List.{All, AllPairs, Contains, list_all, slice_get}
use Rattle.std.proofs.lemmas.Bool.{eq-eqb, ne_eqb}
use Rattle.std.proofs.lemmas.List.Elements.{All-head, All-tail, All-push, All-weaker, All-contains, All-nil}
use Rattle.std.specs.FinMap.{empty}
use Rattle.point_sets.specs.DataSets.{DataSet}
use Rattle.data_set_trees.specs.declared.checked.script.CheckedStatement.{CheckedStatement}
use Rattle.data_set_trees.specs.declared.tree.Source.{Source}
use Rattle.data_set_trees.specs.declared.tree.Source.TheVariants.{Input, Result as ResultOf}
use Rattle.data_set_trees.specs.checked.Expressions.{Expression, Expressions, Named, Applied, none, more, expression_of}
use Rattle.data_set_trees.specs.checked.Scripts.{Script, IsOrder, IsChecked, FollowOperands, IsOneOf, names_in, names_in_all, names_of}
use Rattle.operator_meaning.specs.Results.{gathered, worked, result_of, results_of}
use Rattle.operator_meaning.specs.Scripts.{State, Idle, state_of, set_in, set_named, worked_out, state_at, with_at, states_after, states}
use Rattle.operator_meaning.proofs.Items.{All-left, All-right, AllPairs-head, AllPairs-tail, Contains-nothing, Contains-head_or_tail, Contains-from_distinct_below}

-- ---- names that stand for the same

module _ {N : Type 0} where
  mutual
    -- a result goes by what the expression names
    pub result_of-same : (f g : N → DataSet) (e : Expression N) → All (λ n. f n ≡ g n) (names_in e) → result_of f e ≡ result_of g e
    result_of-same f g (Named n) h = let same : f n ≡ g n = All-head (λ m. f m ≡ g m) n [] h in ap (λ (x : DataSet). Ok (record { set = x; points = 0 })) same
    result_of-same f g (Applied o place es) h = ap (worked o place) (results_of-same f g es h)

    pub results_of-same : (f g : N → DataSet) (es : Expressions N) → All (λ n. f n ≡ g n) (names_in_all es) → results_of f es ≡ results_of g es
    results_of-same f g none h = refl
    results_of-same f g (more e es) h =
        ap (λ r. gathered r (results_of f es)) (result_of-same f g e (All-left (λ n. f n ≡ g n) (names_in e) (names_in_all es) h))
        ∙ ap (gathered (result_of g e)) (results_of-same f g es (All-right (λ n. f n ≡ g n) (names_in e) (names_in_all es) h))

  list_all-same : (p q : N → Bool) (ns : List N) → All (λ n. p n ≡ q n) ns → list_all p ns ≡ list_all q ns
  list_all-same p q [] h = refl
  list_all-same p q (n ∷ ns) h = ap (λ b. b && list_all p ns) (All-head (λ n. p n ≡ q n) n ns h) ∙ ap (λ b. q n && b) (list_all-same p q ns (All-tail (λ n. p n ≡ q n) n ns h))

  pub worked_out-same : (f g : N → Option DataSet) (e : Expression N) → All (λ n. f n ≡ g n) (names_in e) → worked_out f e ≡ worked_out g e
  worked_out-same f g e h =
      ap (λ b. cond b (state_of (result_of (λ n. unwrap_or (f n) empty) e)) Idle) (list_all-same (λ n. is_some (f n)) (λ n. is_some (g n)) (names_in e) (All-weaker (λ n. f n ≡ g n) (λ n. is_some (f n) ≡ is_some (g n)) (λ n s. ap is_some s) (names_in e) h))
      ∙ ap (λ r. cond (list_all (λ n. is_some (g n)) (names_in e)) (state_of r) Idle) (result_of-same (λ n. unwrap_or (f n) empty) (λ n. unwrap_or (g n) empty) e (All-weaker (λ n. f n ≡ g n) (λ n. unwrap_or (f n) empty ≡ unwrap_or (g n) empty) (λ n s. ap (λ x. unwrap_or x empty) s) (names_in e) h))

-- ---- one statement

pub with_at-same : {X : Type 0} (i : ℕ) (x : X) (f : ℕ → X) → with_at i x f i ≡ x
with_at-same i x f = rw (eq-eqb i i refl) refl

pub with_at-other : {X : Type 0} (i : ℕ) (x : X) (f : ℕ → X) (j : ℕ) → i ≢ j → with_at i x f j ≡ f j
with_at-other i x f j h = rw (ne_eqb j i (λ e. h (sym e))) refl

pub names_of-there : (s : Script) (i : ℕ) (statement : CheckedStatement) → slice_get s.statements i ≡ Some statement → names_of s i ≡ names_in (expression_of statement.tree)
names_of-there s i statement h = rw h refl

module _ (s : Script) (xs : List DataSet) where
  state_at-same : (f g : ℕ → State) (i : ℕ) → All (λ n. set_named xs f n ≡ set_named xs g n) (names_of s i) → state_at s xs f i ≡ state_at s xs g i
  state_at-same f g i h = by_statement (slice_get s.statements i) refl
    where
      by_statement : (o : Option CheckedStatement) → slice_get s.statements i ≡ o → state_at s xs f i ≡ state_at s xs g i
      by_statement None e = rw e refl
      by_statement (Some statement) e =
          let same = worked_out-same (set_named xs f) (set_named xs g) (expression_of statement.tree) (subst (λ (ns : List Source). All (λ n. set_named xs f n ≡ set_named xs g n) ns) (names_of-there s i statement e) h) in
          rw e same

  -- statements that are yet to come leave the others as they are
  pub states_after-other : (is : List ℕ) (f : ℕ → State) (j : ℕ) → All (λ i. i ≢ j) is → states_after s xs is f j ≡ f j
  states_after-other [] f j h = refl
  states_after-other (i ∷ is) f j h =
      states_after-other is (with_at i (state_at s xs f i) f) j (All-tail (λ i. i ≢ j) i is h) ∙ with_at-other i (state_at s xs f i) f j (All-head (λ i. i ≢ j) i is h)

  -- what an earlier statement's name stands for stays
  named_stays : (is done : List ℕ) (f : ℕ → State) → All (λ d. All (λ i. i ≢ d) is) done → (n : Source) → IsOneOf done n → set_named xs f n ≡ set_named xs (states_after s xs is f) n
  named_stays is done f apart (Input m) h = refl
  named_stays is done f apart (ResultOf j) h = ap set_in (sym (states_after-other is f j (All-contains (λ d. All (λ i. i ≢ d) is) done j apart h)))

  pub states_after-fixed : (is done : List ℕ) (f : ℕ → State) → FollowOperands s done is → AllPairs (λ a b. a ≢ b) is → All (λ d. All (λ i. i ≢ d) is) done → (i : ℕ) → Contains is i → states_after s xs is f i ≡ state_at s xs (states_after s xs is f) i
  states_after-fixed [] done f follow once apart i there = absurd (Contains-nothing i there)
  states_after-fixed (k ∷ ks) done f follow once apart i there = elim (Contains-head_or_tail i k ks there) [
    | inl same ↦
        let final : ℕ → State = states_after s xs (k ∷ ks) f in
        let own : final k ≡ state_at s xs f k = states_after-other ks (with_at k (state_at s xs f k) f) k (All-weaker (λ j. k ≢ j) (λ j. j ≢ k) (λ j h e. h (sym e)) ks (AllPairs-head (λ a b. a ≢ b) k ks once)) ∙ with_at-same k (state_at s xs f k) f in
        let along : state_at s xs f k ≡ state_at s xs final k = state_at-same f final k (All-weaker (IsOneOf done) (λ n. set_named xs f n ≡ set_named xs final n) (named_stays (k ∷ ks) done f apart) (names_of s k) follow.0) in
        subst (λ j. final j ≡ state_at s xs final j) same (own ∙ along)
    | inr later ↦ states_after-fixed ks (done ++ k ∷ []) (with_at k (state_at s xs f k) f) follow.1 (AllPairs-tail (λ a b. a ≢ b) k ks once)
        (All-push (λ d. All (λ i. i ≢ d) ks) done k (All-weaker (λ d. All (λ i. i ≢ d) (k ∷ ks)) (λ d. All (λ i. i ≢ d) ks) (λ d h. All-tail (λ i. i ≢ d) k ks h) done apart) (All-weaker (λ j. k ≢ j) (λ j. j ≢ k) (λ j h e. h (sym e)) ks (AllPairs-head (λ a b. a ≢ b) k ks once)))
        i later
  ]

  pub in_order : IsOrder s → (i : ℕ) → i < length s.statements → Contains s.order i
  in_order o i l = Contains-from_distinct_below s.order (length s.statements) i o.all o.below o.once l

  -- each statement's state goes by those of the statements that it names
  pub states-fixed : IsChecked s → (i : ℕ) → i < length s.statements → states s xs i ≡ state_at s xs (states s xs) i
  states-fixed checked i l = states_after-fixed s.order [] (λ i. Idle) checked.ordered.follows checked.ordered.once (All-nil (λ d. All (λ i. i ≢ d) s.order)) i (in_order checked.ordered i l)
