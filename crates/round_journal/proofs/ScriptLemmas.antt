-- Statements of checked scripts, and what they have on inputs.
use Rattle.std.proofs.Common.{◌≡◌, ◌≢◌, ◌<◌, ◌+◌, ◌⊎◌, inl, inr, ℕ, zero, suc, Bool, true, false, List, [], ◌∷◌, ◌++◌, map, length, Option, Some, None, Result, Ok, Err, option_map, is_some, length-append, sym, ◌∙◌, ap, refl, arith, subst}
use Rattle.std.specs.Prelude.{sum, ⊤}
use Rattle.std.specs.Option.{unwrap_or}
use Rattle.std.specs.FinMap.{empty}
use Rattle.std.specs.List.{All, list_all, slice_get}
use Rattle.std.proofs.lemmas.Bool.{cases_eq}
use Rattle.std.proofs.lemmas.List.Elements.{All-nil, All-head, All-tail, All-cons, All-push, All-contains, All-weaker, All-filter}
use Rattle.vtl_values.specs.Structures.{NamedStructures}
use Rattle.point_sets.specs.DataSets.{DataSet}
use Rattle.data_set_trees.specs.declared.checked.script.CheckedStatement.{CheckedStatement}
use Rattle.data_set_trees.specs.declared.tree.Source.{Source}
use Rattle.data_set_trees.specs.declared.tree.Source.TheVariants.{Input, Result as ResultOf}
use Rattle.data_set_trees.specs.checked.Expressions.{expression_of}
use Rattle.data_set_trees.specs.checked.Scripts.{Script, IsChecked, FollowOperands, IsOneOf, names_in, names_of, once_each, sources_of, structure_of_source}
use Rattle.operator_meaning.specs.Results.{Wrong, Evaluated, result_of}
use Rattle.operator_meaning.specs.Scripts.{State, Has, Fails, Idle, state_of, set_in, set_named, worked_out, states, first_states, all_states, points_in, At, ScriptWrong, first_wrong, or_total, script_wrong}
use Rattle.operator_meaning.proofs.ScriptLemmas.{names_of-there, in_order, states-fixed}
use Rattle.operator_meaning.proofs.EmptyLemmas.{names_in-typed, typed_statement, list_all-true}

-- ---- along the order

-- it holds of the statement, if the name is that of a result
abbrev pub OfResult : (ℕ → Type 0) → Source → Type 0
OfResult P (Input n) = ⊤
OfResult P (ResultOf i) = P i

OfResult-from : (P : ℕ → Type 0) (done : List ℕ) → All P done → (n : Source) → IsOneOf done n → OfResult P n
OfResult-from P done h (Input n) among = tt
OfResult-from P done h (ResultOf i) among = All-contains P done i h among

module _ (c : Script) (P : ℕ → Type 0) (step : (i : ℕ) → i < length c.statements → All (OfResult P) (names_of c i) → P i) where
  along : (done is : List ℕ) → All P done → FollowOperands c done is → All (λ i. i < length c.statements) is → All P is
  along done [] h follow below = All-nil P
  along done (i ∷ is) h follow below =
      let here : P i = step i (All-head (λ i. i < length c.statements) i is below) (All-weaker (IsOneOf done) (OfResult P) (OfResult-from P done h) (names_of c i) follow.0) in
      All-cons P i is here (along (done ++ i ∷ []) is (All-push P done i h here) follow.1 (All-tail (λ i. i < length c.statements) i is below))

  -- what holds of a statement where it holds of those whose results it names, holds of each
  pub along_order : IsChecked c → (i : ℕ) → i < length c.statements → P i
  along_order checked i l =
      let all = along [] c.order (All-nil P) checked.ordered.follows checked.ordered.below in
      All-contains P c.order i all (in_order c [] checked.ordered i l)

-- ---- names

once_each-all : (P : Source → Type 0) (ns : List Source) → All P ns → All P (once_each ns)
once_each-all P [] h = h
once_each-all P (n ∷ ns) h =
    All-cons P n _ (All-head P n ns h) (All-filter _ P (once_each ns) (once_each-all P ns (All-tail P n ns h)))

pub sources_of-all : (c : Script) (P : Source → Type 0) (i : ℕ) → All P (names_of c i) → All P (sources_of c i)
sources_of-all c P i h = once_each-all P (names_of c i) h

-- what a statement of a checked script names has a structure
pub names_of-typed : (c : Script) (i : ℕ) → IsChecked c → All (λ n. is_some (structure_of_source c n) ≡ true) (names_of c i)
names_of-typed c i checked = by_statement (slice_get c.statements i) refl
  where
    by_statement : (o : Option CheckedStatement) → slice_get c.statements i ≡ o → All (λ n. is_some (structure_of_source c n) ≡ true) (names_of c i)
    by_statement None e = rw e (All-nil (λ n. is_some (structure_of_source c n) ≡ true))
    by_statement (Some statement) e =
        subst (λ (ns : List Source). All (λ n. is_some (structure_of_source c n) ≡ true) ns) (sym (names_of-there c i statement e))
        (names_in-typed (structure_of_source c) (expression_of statement.tree) statement.structure (typed_statement c i statement checked e))

input_has : (structures : NamedStructures) (xs : List DataSet) (n : ℕ) → length xs ≡ length structures → is_some (option_map (λ named. named.1) (slice_get structures n)) ≡ true → is_some (slice_get xs n) ≡ true
input_has [] xs n long h = cc
input_has (s ∷ ss) [] n long h = absurd (omega (arith, long))
input_has (s ∷ ss) (x ∷ xs) zero long h = refl
input_has (s ∷ ss) (x ∷ xs) (suc n) long h = input_has ss xs n (omega (arith, long)) h

-- ---- one statement

-- a state is one of three
pub state_cases : (st : State) → ((e : Evaluated) × (st ≡ Has e)) ⊎ (((wrong : Wrong) × (st ≡ Fails wrong)) ⊎ (st ≡ Idle))
state_cases (Has e) = inl (e, refl)
state_cases (Fails wrong) = inr (inl (wrong, refl))
state_cases Idle = inr (inr refl)

-- a statement all of whose names have data sets isn't idle; another is
abbrev pub all_named : Script → List DataSet → ℕ → Bool
all_named c xs i = list_all (λ n. is_some (set_named xs (states c xs) n)) (names_of c i)

module _ (c : Script) (xs : List DataSet) (checked : IsChecked c) (i : ℕ) (l : i < length c.statements) where
  state_there : (statement : CheckedStatement) → slice_get c.statements i ≡ Some statement → states c xs i ≡ worked_out (set_named xs (states c xs)) (expression_of statement.tree)
  state_there statement e = states-fixed c xs checked i l ∙ rw e refl

  all_named-there : (statement : CheckedStatement) → slice_get c.statements i ≡ Some statement → (b : Bool) → all_named c xs i ≡ b → list_all (λ n. is_some (set_named xs (states c xs) n)) (names_in (expression_of statement.tree)) ≡ b
  all_named-there statement e b h = subst (λ (ns : List Source). list_all (λ n. is_some (set_named xs (states c xs) n)) ns ≡ b) (names_of-there c i statement e) h

  the_statement : (statement : CheckedStatement) × (slice_get c.statements i ≡ Some statement)
  the_statement = there (slice_get c.statements i) refl
    where
      there : (o : Option CheckedStatement) → slice_get c.statements i ≡ o → (statement : CheckedStatement) × (slice_get c.statements i ≡ Some statement)
      there None e = absurd (nothing_there c.statements i l e)
        where
          nothing_there : {A : Type 0} (ys : List A) (n : ℕ) → n < length ys → slice_get ys n ≡ None → ⊥
          nothing_there [] n l e = omega arith
          nothing_there (a ∷ ys) zero l e = cc
          nothing_there (a ∷ ys) (suc n) l e = nothing_there ys n (omega arith) e
      there (Some statement) e = (statement, e)

  pub Idle-from_names : all_named c xs i ≡ false → states c xs i ≡ Idle
  Idle-from_names h =
      let st = the_statement in
      state_there st.0 st.1 ∙ rw (all_named-there st.0 st.1 false h) refl

  pub worked-from_names : all_named c xs i ≡ true → states c xs i ≢ Idle
  worked-from_names h e =
      let st = the_statement in
      let sets : Source → DataSet = λ n. unwrap_or (set_named xs (states c xs) n) empty in
      let is : states c xs i ≡ state_of (result_of sets (expression_of st.0.tree)) = state_there st.0 st.1 ∙ rw (all_named-there st.0 st.1 true h) refl in
      not_idle (result_of sets (expression_of st.0.tree)) (sym is ∙ e)
    where
      not_idle : (r : Result Evaluated Wrong) → state_of r ≡ Idle → ⊥
      not_idle (Ok e) h = cc
      not_idle (Err wrong) h = cc

-- ---- the first fault

first_wrong-front : (k : ℕ) (xs ys : List State) (wrong : ScriptWrong) → first_wrong k xs ≡ Some wrong → first_wrong k (xs ++ ys) ≡ Some wrong
first_wrong-front k [] ys wrong h = cc
first_wrong-front k (Has e ∷ xs) ys wrong h = first_wrong-front (k + 1) xs ys wrong h
first_wrong-front k (Fails w ∷ xs) ys wrong h = h
first_wrong-front k (Idle ∷ xs) ys wrong h = first_wrong-front (k + 1) xs ys wrong h

first_wrong-behind : (k : ℕ) (xs ys : List State) → first_wrong k xs ≡ None → first_wrong k (xs ++ ys) ≡ first_wrong (k + length xs) ys
first_wrong-behind k [] ys h = ap (λ n. first_wrong n ys) (omega arith)
first_wrong-behind k (Has e ∷ xs) ys h = first_wrong-behind (k + 1) xs ys h ∙ ap (λ n. first_wrong n ys) (omega arith)
first_wrong-behind k (Fails w ∷ xs) ys h = cc
first_wrong-behind k (Idle ∷ xs) ys h = first_wrong-behind (k + 1) xs ys h ∙ ap (λ n. first_wrong n ys) (omega arith)

first_states-long : (n : ℕ) (f : ℕ → State) → length (first_states n f) ≡ n
first_states-long zero f = refl
first_states-long (suc n) f = omega (arith, first_states-long n f, length-append (first_states n f) (f n ∷ []))

first_wrong-one : (k : ℕ) (st : State) → ((wrong : Wrong) → st ≢ Fails wrong) → first_wrong k (st ∷ []) ≡ None
first_wrong-one k (Has e) h = refl
first_wrong-one k (Fails wrong) h = absurd (h wrong refl)
first_wrong-one k Idle h = refl

pub first_wrong-none : (n : ℕ) (f : ℕ → State) → ((i : ℕ) → i < n → (wrong : Wrong) → f i ≢ Fails wrong) → first_wrong 0 (first_states n f) ≡ None
first_wrong-none zero f h = refl
first_wrong-none (suc n) f h =
    first_wrong-behind 0 (first_states n f) (f n ∷ []) (first_wrong-none n f (λ i l. h i (omega arith))) ∙ first_wrong-one (0 + length (first_states n f)) (f n) (h n (omega arith))

pub first_wrong-at : (n : ℕ) (f : ℕ → State) (i : ℕ) (wrong : Wrong) → i < n → f i ≡ Fails wrong → ((j : ℕ) → j < i → (w : Wrong) → f j ≢ Fails w) → first_wrong 0 (first_states n f) ≡ Some (At i wrong)
first_wrong-at zero f i wrong l e h = absurd (omega arith)
first_wrong-at (suc n) f i wrong l e h = elim (cases_eq i n) [
  | inl same ↦
      let before = first_wrong-none n f (λ j m. h j (omega (arith, same))) in
      let place : 0 + length (first_states n f) ≡ i = omega (arith, first_states-long n f, same) in
      first_wrong-behind 0 (first_states n f) (f n ∷ []) before ∙ ap (λ (st : State). first_wrong (0 + length (first_states n f)) (st ∷ [])) (ap f (sym same) ∙ e) ∙ ap (λ (k : ℕ). Some (At k wrong)) place
  | inr other ↦ first_wrong-front 0 (first_states n f) (f n ∷ []) (At i wrong) (first_wrong-at n f i wrong (omega (arith, other)) e h)
]

first_wrong-parts : (k : ℕ) (xs ys : List State) → first_wrong k (xs ++ ys) ≡ None → (first_wrong k xs ≡ None) × (first_wrong (k + length xs) ys ≡ None)
first_wrong-parts k [] ys h = (refl, ap (λ n. first_wrong n ys) (omega arith) ∙ h)
first_wrong-parts k (Has e ∷ xs) ys h = let p = first_wrong-parts (k + 1) xs ys h in (p.0, ap (λ n. first_wrong n ys) (omega arith) ∙ p.1)
first_wrong-parts k (Fails w ∷ xs) ys h = cc
first_wrong-parts k (Idle ∷ xs) ys h = let p = first_wrong-parts (k + 1) xs ys h in (p.0, ap (λ n. first_wrong n ys) (omega arith) ∙ p.1)

pub no_wrong-from_none : (n : ℕ) (f : ℕ → State) → first_wrong 0 (first_states n f) ≡ None → (i : ℕ) → i < n → (wrong : Wrong) → f i ≢ Fails wrong
no_wrong-from_none zero f h i l wrong e = omega arith
no_wrong-from_none (suc n) f h i l wrong e =
    let p = first_wrong-parts 0 (first_states n f) (f n ∷ []) h in
    elim (cases_eq i n) [
      | inl same ↦
          let one : first_wrong (0 + length (first_states n f)) (Fails wrong ∷ []) ≡ None = subst (λ (st : State). first_wrong (0 + length (first_states n f)) (st ∷ []) ≡ None) (ap f (sym same) ∙ e) p.1 in
          cc one
      | inr other ↦ no_wrong-from_none n f p.0 i (omega (arith, other)) wrong e
    ]

-- ---- the script's fault

or_total-some : (o : Option ScriptWrong) (points : ℕ) → or_total o points ≡ None → o ≡ None
or_total-some None points h = refl
or_total-some (Some wrong) points h = cc

pub script_wrong-at : (c : Script) (xs : List DataSet) (i : ℕ) (wrong : Wrong) → i < length c.statements → states c xs i ≡ Fails wrong → ((j : ℕ) → j < i → (w : Wrong) → states c xs j ≢ Fails w) → script_wrong c xs ≡ Some (At i wrong)
script_wrong-at c xs i wrong l e h = ap (λ o. or_total o (sum (map points_in (all_states c xs)))) (first_wrong-at (length c.statements) (states c xs) i wrong l e h)

pub script_wrong-total : (c : Script) (xs : List DataSet) → ((i : ℕ) → i < length c.statements → (w : Wrong) → states c xs i ≢ Fails w) → script_wrong c xs ≡ or_total None (sum (map points_in (all_states c xs)))
script_wrong-total c xs h = ap (λ o. or_total o (sum (map points_in (all_states c xs)))) (first_wrong-none (length c.statements) (states c xs) h)

-- in a script with a meaning no statement has a fault
pub no_wrong-from_bounds : (c : Script) (xs : List DataSet) → script_wrong c xs ≡ None → (i : ℕ) → i < length c.statements → (wrong : Wrong) → states c xs i ≢ Fails wrong
no_wrong-from_bounds c xs h = no_wrong-from_none (length c.statements) (states c xs) (or_total-some (first_wrong 0 (all_states c xs)) (sum (map points_in (all_states c xs))) h)

-- ---- data sets of all statements

module _ (c : Script) (xs : List DataSet) (checked : IsChecked c) (long : length xs ≡ length c.inputs) where
  -- a name has a data set where it is that of an input, or of a result that has one
  pub has_set : (n : Source) → is_some (structure_of_source c n) ≡ true → OfResult (λ j. is_some (set_in (states c xs j)) ≡ true) n → is_some (set_named xs (states c xs) n) ≡ true
  has_set (Input n) typed there = input_has c.inputs xs n long typed
  has_set (ResultOf j) typed there = there

  pub all_named-true : (i : ℕ) → All (OfResult (λ j. is_some (set_in (states c xs j)) ≡ true)) (names_of c i) → all_named c xs i ≡ true
  all_named-true i h =
      let typed = names_of-typed c i checked in
      list_all-true (λ n. is_some (set_named xs (states c xs) n)) (names_of c i) (λ k d l. has_set _ (typed k d l) (h k d l))
