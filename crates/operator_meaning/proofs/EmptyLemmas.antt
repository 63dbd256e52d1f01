-- What operators, expressions and scripts give on empty data sets.
use Rattle.std.proofs.Common.{◌≡◌, ◌<◌, ◌≤◌, ◌+◌, ℕ, zero, suc, List, [], ◌∷◌, ◌++◌, map, length, Bool, true, ◌&&◌, cond, Option, Some, None, Ok, option_map, refl, ◌∙◌, ap, subst, inl, inr, ◌⊎◌, arith, zero-add}
use Rattle.std.specs.Prelude.{sum as total}
use Rattle.std.specs.Option.{is_some, unwrap_or}
use Rattle.std.specs.List.{All, Contains, list_all, slice_get}
use Rattle.std.specs.FinMap.{empty, len, len-empty}
use Rattle.std.proofs.lemmas.Bool.{cases_eq}
use Rattle.std.proofs.lemmas.List.Elements.{All-nil, All-head, All-tail, All-append, All-push, All-get_or, All-weaker, Contains-append_left, Contains-push, Contains-push_cases}
use Rattle.std.proofs.lemmas.Option.{get_or_from_slice_get, slice_get_within}
use Rattle.vtl_values.specs.declared.structure.Component.{Component}
use Rattle.vtl_values.specs.declared.place.Place.{Place}
use Rattle.vtl_values.specs.declared.value.Value.{Value}
use Rattle.vtl_values.specs.Order.{key_cmp}
use Rattle.vtl_values.specs.Structures.{NamedStructures, IsStructure}
use Rattle.data_model.specs.Outcomes.{made}
use Rattle.point_sets.specs.DataSets.{DataSet}
use Rattle.data_set_trees.specs.declared.checked.script.CheckedStatement.{CheckedStatement}
use Rattle.data_set_trees.specs.declared.tree.Source.{Source}
use Rattle.data_set_trees.specs.declared.tree.Source.TheVariants.{Input, Result as ResultOf}
use Rattle.data_set_trees.specs.clauses.Frames.{frame_of}
use Rattle.data_set_trees.specs.declared.tree.DataSetOperator.{DataSetOperator}
use Rattle.data_set_trees.specs.declared.tree.DataSetOperator.TheVariants.{Clause, Pair, Choice, ExistsIn, Set, Join, InJoin, Aggregate, Window, WindowInJoin, Time, Check, Datapoint, Hierarchy}
use Rattle.data_set_trees.specs.checked.Choices.{branches}
use Rattle.data_set_trees.specs.checked.Operators.{an_operator, Operator, IsTyped, TakesOperands}
use Rattle.data_set_trees.specs.checked.Expressions.{Expression, Expressions, Named, Applied, none, more, expression_of}
use Rattle.data_set_trees.specs.checked.Scripts.{Script, IsChecked, FollowOperands, IsOneOf, names_in, names_in_all, names_of, structure_of_source}
use Rattle.data_set_trees.specs.checked.Typing.{HasStructure, HaveStructures}
use Rattle.clause_meaning.proofs.Covered.{meaning-empty}
use Rattle.operator_meaning.proofs.aggregates.Covered as aggregates
use Rattle.operator_meaning.specs.pairs.Typed.{pair_on}
use Rattle.operator_meaning.proofs.pairs.Paired.{left-empty}
use Rattle.operator_meaning.specs.sets.Sets.{set_on}
use Rattle.operator_meaning.proofs.sets.Covered.{set-empty}
use Rattle.operator_meaning.specs.exists.Exists.{exists_on}
use Rattle.operator_meaning.proofs.exists.Told.{first-empty}
use Rattle.operator_meaning.specs.choices.Choices.{choice_on, choice_meaning}
use Rattle.operator_meaning.proofs.choices.Chosen.{nothing-chosen}
use Rattle.operator_meaning.specs.joins.Joins.{join_on}
use Rattle.operator_meaning.proofs.joins.Covered.{join-empty}
use Rattle.operator_meaning.specs.Operators.{meaning_of}
use Rattle.operator_meaning.specs.Results.{Evaluated, without_points, sets_of, points_of, placed, worked, gathered, result_of, results_of}
use Rattle.operator_meaning.specs.Scripts.{State, Has, Idle, state_of, set_in, set_named, worked_out, state_at, with_at, states_after, states, first_states, all_states, points_in, first_wrong, or_total, script_wrong}
use Rattle.operator_meaning.proofs.Items.{Contains-nothing, Contains-head_or_tail}
use Rattle.operator_meaning.proofs.ScriptLemmas.{result_of-same, with_at-same, with_at-other, names_of-there, in_order}

-- ---- operators

abbrev pub empties : {A : Type 0} → List A → List DataSet
empties = map (λ _. empty)

parts-empty : (operator : DataSetOperator) (operands : List (List Component)) (structure : List Component) → All IsStructure operands → IsStructure structure → TakesOperands (an_operator operator operands structure) → meaning_of (an_operator operator operands structure) (empties operands) ≡ made empty
parts-empty (Clause clause) operands structure structures result takes = ap (λ (ss : List (List Component)). meaning_of (an_operator (Clause clause) ss structure) (empties ss)) takes.one ∙ meaning-empty clause (frame_of takes.operand)
parts-empty (Pair items) operands structure structures result takes = ap (λ (ss : List (List Component)). meaning_of (an_operator (Pair items) ss structure) (empties ss)) takes.two ∙ left-empty (pair_on items takes.left takes.right structure) empty
parts-empty (Choice holds fails items) operands structure structures result takes =
    let on = choice_on holds fails items operands structure in
    ap (λ (ss : List (List Component)). choice_meaning on (empties ss)) takes.operands_are ∙ nothing-chosen on (empties (branches takes.when_holds takes.when_fails))
parts-empty (ExistsIn rows) operands structure structures result takes = ap (λ (ss : List (List Component)). meaning_of (an_operator (ExistsIn rows) ss structure) (empties ss)) takes.two ∙ first-empty (exists_on rows takes.left takes.right structure) empty
parts-empty (Set operation) operands structure structures result takes = set-empty (set_on operation operands structure)
parts-empty (Join f) operands structure structures result takes = join-empty (join_on f operands structure) (record { structures = structures; structure_is = result; join = takes })
parts-empty (InJoin clause) operands structure structures result takes = ap (λ (ss : List (List Component)). meaning_of (an_operator (InJoin clause) ss structure) (empties ss)) takes.one ∙ meaning-empty clause (frame_of takes.operand)
parts-empty (Aggregate a) operands structure structures result takes = ap (λ (ss : List (List Component)). meaning_of (an_operator (Aggregate a) ss structure) (empties ss)) takes.one ∙ aggregates.meaning-empty a takes.operand
parts-empty (Window w) operands structure structures result takes = refl
parts-empty (WindowInJoin w) operands structure structures result takes = refl
parts-empty (Time t) operands structure structures result takes = refl
parts-empty (Check c) operands structure structures result takes = refl
parts-empty (Datapoint d) operands structure structures result takes = refl
parts-empty (Hierarchy h) operands structure structures result takes = refl

-- what a typed operator gives on empty operands is empty
pub meaning_of-empty : (o : Operator) → IsTyped o → meaning_of o (empties o.operands) ≡ made empty
meaning_of-empty o typed = parts-empty o.operator o.operands o.structure typed.structures typed.result typed.takes

-- ---- expressions

abbrev pub withouts : {A : Type 0} → List A → List Evaluated
withouts = map (λ _. without_points)

pub sets_of-withouts : {A : Type 0} (ts : List A) → sets_of (withouts ts) ≡ empties ts
sets_of-withouts [] = refl
sets_of-withouts (t ∷ ts) = ap (λ (xs : List DataSet). empty ∷ xs) (sets_of-withouts ts)

points_of-withouts : {A : Type 0} (ts : List A) → points_of (withouts ts) ≡ 0
points_of-withouts [] = refl
points_of-withouts (t ∷ ts) = points_of-withouts ts

placed-empty : (place : Place) → placed place 0 (made empty) ≡ Ok without_points
placed-empty place = ap (λ n. Ok (record { set = empty; points = n })) (zero-add (len (empty {X = List Value} {R = key_cmp})) ∙ len-empty key_cmp (List Value))

module _ {N : Type 0} (structures : N → Option (List Component)) where
  mutual
    pub result_of-empty : (e : Expression N) (t : List Component) → HasStructure structures e t → result_of (λ _. empty) e ≡ Ok without_points
    result_of-empty (Named n) t h = refl
    result_of-empty (Applied o place es) t h =
        ap (worked o place) (results_of-empty es o.operands h.2)
        ∙ ap (λ n. placed place n (meaning_of o (sets_of (withouts o.operands)))) (points_of-withouts o.operands)
        ∙ ap (λ xs. placed place 0 (meaning_of o xs)) (sets_of-withouts o.operands)
        ∙ ap (placed place 0) (meaning_of-empty o h.1)
        ∙ placed-empty place

    pub results_of-empty : (es : Expressions N) (ts : List (List Component)) → HaveStructures structures es ts → results_of (λ _. empty) es ≡ Ok (withouts ts)
    results_of-empty none [] h = refl
    results_of-empty none (t ∷ ts) h = absurd h
    results_of-empty (more e es) [] h = absurd h
    results_of-empty (more e es) (t ∷ ts) h = ap (λ r. gathered r (results_of (λ _. empty) es)) (result_of-empty e t h.0) ∙ ap (gathered (Ok without_points)) (results_of-empty es ts h.1)

  mutual
    -- what a well typed expression names has a structure
    pub names_in-typed : (e : Expression N) (t : List Component) → HasStructure structures e t → All (λ n. is_some (structures n) ≡ true) (names_in e)
    names_in-typed (Named n) t h = All-push (λ n. is_some (structures n) ≡ true) [] n (All-nil (λ n. is_some (structures n) ≡ true)) (ap is_some h)
    names_in-typed (Applied o place es) t h = names_in_all-typed es o.operands h.2

    names_in_all-typed : (es : Expressions N) (ts : List (List Component)) → HaveStructures structures es ts → All (λ n. is_some (structures n) ≡ true) (names_in_all es)
    names_in_all-typed none [] h = All-nil (λ n. is_some (structures n) ≡ true)
    names_in_all-typed none (t ∷ ts) h = absurd h
    names_in_all-typed (more e es) [] h = absurd h
    names_in_all-typed (more e es) (t ∷ ts) h = All-append (λ n. is_some (structures n) ≡ true) (names_in e) (names_in_all es) (names_in-typed e t h.0) (names_in_all-typed es ts h.1)

-- ---- statements

pub list_all-true : {A : Type 0} (p : A → Bool) (xs : List A) → All (λ x. p x ≡ true) xs → list_all p xs ≡ true
list_all-true p [] h = refl
list_all-true p (x ∷ xs) h = ap (λ b. b && list_all p xs) (All-head (λ x. p x ≡ true) x xs h) ∙ list_all-true p xs (All-tail (λ x. p x ≡ true) x xs h)

input-empty : (ss : NamedStructures) (n : ℕ) → is_some (option_map (λ named. named.1) (slice_get ss n)) ≡ true → slice_get (empties ss) n ≡ Some empty
input-empty [] n h = cc
input-empty (s ∷ ss) zero h = refl
input-empty (s ∷ ss) (suc n) h = input-empty ss n h

pub typed_statement : (s : Script) (i : ℕ) (statement : CheckedStatement) → IsChecked s → slice_get s.statements i ≡ Some statement → HasStructure (structure_of_source s) (expression_of statement.tree) statement.structure
typed_statement s i statement checked there =
    subst (λ (st : CheckedStatement). HasStructure (structure_of_source s) (expression_of st.tree) st.structure) (get_or_from_slice_get s.statements i statement statement there)
    (All-get_or (λ st. HasStructure (structure_of_source s) (expression_of st.tree) st.structure) s.statements i statement (slice_get_within s.statements i statement there) checked.typed)

module _ (s : Script) (checked : IsChecked s) where
  abbrev xs : List DataSet
  xs = empties s.inputs

  named-empty : (done : List ℕ) (f : ℕ → State) → ((j : ℕ) → Contains done j → f j ≡ Has without_points) → (n : Source) → IsOneOf done n → is_some (structure_of_source s n) ≡ true → set_named xs f n ≡ Some empty
  named-empty done f h (Input m) among typed = input-empty s.inputs m typed
  named-empty done f h (ResultOf j) among typed = ap set_in (h j among)

  worked_out-empty : (f : Source → Option DataSet) (e : Expression Source) (t : List Component) → HasStructure (structure_of_source s) e t → All (λ n. f n ≡ Some empty) (names_in e) → worked_out f e ≡ Has without_points
  worked_out-empty f e t typed h =
      ap (λ b. cond b (state_of (result_of (λ n. unwrap_or (f n) empty) e)) Idle) (list_all-true (λ n. is_some (f n)) (names_in e) (All-weaker (λ n. f n ≡ Some empty) (λ n. is_some (f n) ≡ true) (λ n there. ap is_some there) (names_in e) h))
      ∙ ap state_of (result_of-same (λ n. unwrap_or (f n) empty) (λ _. empty) e (All-weaker (λ n. f n ≡ Some empty) (λ n. unwrap_or (f n) empty ≡ empty) (λ n there. ap (λ o. unwrap_or o empty) there) (names_in e) h))
      ∙ ap state_of (result_of-empty (structure_of_source s) e t typed)

  state_at-empty : (done : List ℕ) (f : ℕ → State) → ((j : ℕ) → Contains done j → f j ≡ Has without_points) → (i : ℕ) → i < length s.statements → All (IsOneOf done) (names_of s i) → state_at s xs f i ≡ Has without_points
  state_at-empty done f h i l follow = by_statement (slice_get s.statements i) refl
    where
      by_statement : (o : Option CheckedStatement) → slice_get s.statements i ≡ o → state_at s xs f i ≡ Has without_points
      by_statement None e = absurd (omega (arith, l, nothing_there s.statements i e))
        where
          nothing_there : {A : Type 0} (ys : List A) (n : ℕ) → slice_get ys n ≡ None → length ys ≤ n
          nothing_there [] n e = omega arith
          nothing_there (a ∷ ys) zero e = cc
          nothing_there (a ∷ ys) (suc n) e = let more' = nothing_there ys n e in omega (arith, more')
      by_statement (Some statement) e =
          let typed = typed_statement s i statement checked e in
          let among = subst (λ (ns : List Source). All (IsOneOf done) ns) (names_of-there s i statement e) follow in
          let typed' = names_in-typed (structure_of_source s) (expression_of statement.tree) statement.structure typed in
          rw e (worked_out-empty (set_named xs f) (expression_of statement.tree) statement.structure typed (λ k d l. named-empty done f h _ (among k d l) (typed' k d l)))

  states_after-empty : (is done : List ℕ) (f : ℕ → State) → FollowOperands s done is → All (λ i. i < length s.statements) is → ((j : ℕ) → Contains done j → f j ≡ Has without_points) → (j : ℕ) → Contains done j ⊎ Contains is j → states_after s xs is f j ≡ Has without_points
  states_after-empty [] done f follow below h j (inl d) = h j d
  states_after-empty [] done f follow below h j (inr c) = absurd (Contains-nothing j c)
  states_after-empty (k ∷ ks) done f follow below h j which =
      let own : state_at s xs f k ≡ Has without_points = state_at-empty done f h k (All-head (λ i. i < length s.statements) k ks below) follow.0 in
      let f' : ℕ → State = with_at k (state_at s xs f k) f in
      states_after-empty ks (done ++ k ∷ []) f' follow.1 (All-tail (λ i. i < length s.statements) k ks below)
      (λ i c. elim (cases_eq k i) [
        | inl same ↦ subst (λ m. f' m ≡ Has without_points) same (with_at-same k (state_at s xs f k) f ∙ own)
        | inr other ↦ elim (Contains-push_cases done k i c) [
          | inl d ↦ with_at-other k (state_at s xs f k) f i other ∙ h i d
          | inr same ↦ absurd (other same)
        ]
      ])
      j (elim which [
        | inl d ↦ inl (Contains-append_left done (k ∷ []) j d)
        | inr c ↦ elim (Contains-head_or_tail j k ks c) [ inl same ↦ inl (subst (λ m. Contains (done ++ k ∷ []) m) same (Contains-push done k)) | inr later ↦ inr later ]
      ])

  pub states-empty : (i : ℕ) → i < length s.statements → states s xs i ≡ Has without_points
  states-empty i l = states_after-empty s.order [] (λ i. Idle) checked.ordered.follows checked.ordered.below (λ j c. absurd (Contains-nothing j c)) i (inr (in_order s xs checked.ordered i l))

  first_states-empty : (n : ℕ) → n ≤ length s.statements → All (λ st. st ≡ Has without_points) (first_states n (states s xs))
  first_states-empty zero l = All-nil (λ st. st ≡ Has without_points)
  first_states-empty (suc n) l = All-push (λ st. st ≡ Has without_points) (first_states n (states s xs)) (states s xs n) (first_states-empty n (omega arith)) (states-empty n (omega arith))

first_wrong-none : (i : ℕ) (sts : List State) → All (λ st. st ≡ Has without_points) sts → first_wrong i sts ≡ None
first_wrong-none i [] h = refl
first_wrong-none i (st ∷ sts) h = ap (λ u. first_wrong i (u ∷ sts)) (All-head (λ st. st ≡ Has without_points) st sts h) ∙ first_wrong-none (i + 1) sts (All-tail (λ st. st ≡ Has without_points) st sts h)

points_in-none : (sts : List State) → All (λ st. st ≡ Has without_points) sts → total (map points_in sts) ≡ 0
points_in-none [] h = refl
points_in-none (st ∷ sts) h = ap (λ u. total (map points_in (u ∷ sts))) (All-head (λ st. st ≡ Has without_points) st sts h) ∙ points_in-none sts (All-tail (λ st. st ≡ Has without_points) st sts h)

-- a checked script is in bounds on empty inputs
pub script_wrong-empty : (s : Script) → IsChecked s → script_wrong s (empties s.inputs) ≡ None
script_wrong-empty s checked =
    let all = first_states-empty s checked (length s.statements) (omega arith) in
    ap (λ w. or_total w (total (map points_in (all_states s (empties s.inputs))))) (first_wrong-none 0 (all_states s (empties s.inputs)) all)
    ∙ ap (or_total None) (points_in-none (all_states s (empties s.inputs)) all)
