-- Data sets that operators, expressions and statements give are of their structures.
use Rattle.std.proofs.Common.{◌≡◌, ◌+◌, ℕ, zero, suc, List, [], ◌∷◌, map, Bool, true, false, cond, Option, Some, None, Result, Ok, Err, option_map, refl, sym, ◌∙◌, subst, inl, inr, arith}
use Rattle.std.specs.Option.{is_some, unwrap_or}
use Rattle.std.specs.List.{All, list_all, slice_get}
use Rattle.std.specs.FinMap.{empty, len, get-empty, len-empty}
use Rattle.std.proofs.lemmas.Bool.{cases_eq}
use Rattle.std.proofs.lemmas.List.Elements.{All-get_or, All-head}
use Rattle.std.proofs.lemmas.Option.{get_or_from_slice_get, slice_get_within}
use Rattle.vtl_values.specs.declared.structure.Component.{Component}
use Rattle.vtl_values.specs.declared.value.Value.{Value}
use Rattle.vtl_values.specs.declared.place.Place.{Place}
use Rattle.vtl_values.specs.Order.{key_cmp}
use Rattle.vtl_values.specs.Structures.{NamedStructures, IsStructure}
use Rattle.data_model.specs.Outcomes.{Made, Range, TooMany}
use Rattle.point_sets.specs.DataSets.{DataSet}
use Rattle.structured_sets.specs.Fitting.{IsBoundedSetOf}
use Rattle.data_set_trees.specs.declared.checked.script.CheckedStatement.{CheckedStatement}
use Rattle.data_set_trees.specs.declared.tree.Source.{Source}
use Rattle.data_set_trees.specs.declared.tree.Source.TheVariants.{Input, Result as ResultOf}
use Rattle.data_set_trees.specs.declared.clauses.clause.CheckedClause.{CheckedClause}
use Rattle.data_set_trees.specs.clauses.Frames.{frame_of}
use Rattle.data_set_trees.specs.clauses.WellTyped.{is_well_typed}
use Rattle.data_set_trees.specs.declared.tree.DataSetOperator.{DataSetOperator}
use Rattle.data_set_trees.specs.declared.tree.DataSetOperator.TheVariants.{Clause, Pair, Choice, ExistsIn, Set, Join, InJoin, Aggregate, Window, WindowInJoin, Time, Check, Datapoint, Hierarchy}
use Rattle.data_set_trees.specs.checked.Operators.{an_operator, Operator, IsTyped, TakesOperands}
use Rattle.data_set_trees.specs.checked.Expressions.{Expression, Expressions, Named, Applied, none, more, expression_of}
use Rattle.data_set_trees.specs.checked.Scripts.{Script, IsChecked, names_in, structure_of_source}
use Rattle.data_set_trees.specs.checked.Typing.{HasStructure, HaveStructures}
use Rattle.data_set_trees.specs.declared.aggregates.aggregate.CheckedAggregate.{CheckedAggregate}
use Rattle.data_set_trees.specs.aggregates.Results.{grouped}
use Rattle.data_set_trees.specs.aggregates.WellTyped as aggregates
use Rattle.operator_meaning.proofs.aggregates.Fits.{aggregate-fits}
use Rattle.data_set_trees.specs.Components.{unlisted}
use Rattle.operator_meaning.specs.Operators.{SetOutcome, clause_on, aggregate_on, meaning_of, AreOperands}
use Rattle.operator_meaning.specs.Results.{Wrong, Evaluated, sets_of, points_of, placed, worked, gathered, result_of, results_of}
use Rattle.operator_meaning.specs.Scripts.{State, Has, Fails, Idle, state_of, set_in, set_named, worked_out, state_at, with_at, states_after, states}
use Rattle.operator_meaning.proofs.ClauseFits.{left_by, clause-fits, unlisted-opens}
use Rattle.operator_meaning.proofs.ManyFits.{pair-fit, exists-fit, choice-fit, set-fit, join-fit}
use Rattle.operator_meaning.proofs.Opened.{IsBoundedSetOf-opened, IsBoundedSetOf-renamed, all-opened}
use Rattle.operator_meaning.proofs.ScriptLemmas.{with_at-same, with_at-other}

pub empty-fits : (cs : List Component) → IsBoundedSetOf cs empty
empty-fits cs = record { fits = λ k. rw (get-empty key_cmp k) tt; few = let none = len-empty key_cmp (List Value) in omega (arith, none) }

-- ---- operators

-- a clause on one data set
one-fits : (clause : CheckedClause) (operand : List Component) (operands : List (List Component)) (xs : List DataSet) (y : DataSet) → All IsStructure operands → operands ≡ operand ∷ [] → is_well_typed (frame_of operand) clause ≡ true → AreOperands operands xs → clause_on clause operands xs ≡ Made y → IsBoundedSetOf (left_by clause operand) y
one-fits clause operand operands xs y structures one typed h e =
    of_one xs (subst (λ (ss : List (List Component)). AreOperands ss xs) one h) (subst (λ (ss : List (List Component)). clause_on clause ss xs ≡ Made y) one e)
  where
    first : IsStructure operand
    first = All-head IsStructure operand [] (subst (λ (ss : List (List Component)). All IsStructure ss) one structures)

    of_one : (xs : List DataSet) → AreOperands (operand ∷ []) xs → clause_on clause (operand ∷ []) xs ≡ Made y → IsBoundedSetOf (left_by clause operand) y
    of_one [] h e = absurd h
    of_one (a ∷ []) h e = clause-fits clause operand a y first typed h.0.fits e
    of_one (a ∷ b ∷ xs) h e = absurd h.1

-- aggregates on one data set
aggregate-fit : (aggregate : CheckedAggregate) (operand : List Component) (operands : List (List Component)) (xs : List DataSet) (y : DataSet) → All IsStructure operands → operands ≡ operand ∷ [] → aggregates.is_well_typed operand aggregate ≡ true → AreOperands operands xs → aggregate_on aggregate operands xs ≡ Made y → IsBoundedSetOf (map unlisted (grouped aggregate operand)) y
aggregate-fit aggregate operand operands xs y structures one typed h e =
    of_one xs (subst (λ (ss : List (List Component)). AreOperands ss xs) one h) (subst (λ (ss : List (List Component)). aggregate_on aggregate ss xs ≡ Made y) one e)
  where
    first : IsStructure operand
    first = All-head IsStructure operand [] (subst (λ (ss : List (List Component)). All IsStructure ss) one structures)

    of_one : (xs : List DataSet) → AreOperands (operand ∷ []) xs → aggregate_on aggregate (operand ∷ []) xs ≡ Made y → IsBoundedSetOf (map unlisted (grouped aggregate operand)) y
    of_one [] h e = absurd h
    of_one (a ∷ []) h e =
        IsBoundedSetOf-opened (grouped aggregate operand) (map unlisted (grouped aggregate operand)) y (all-opened unlisted unlisted-opens (grouped aggregate operand)) (aggregate-fits aggregate operand a y first typed h.0 e)
    of_one (a ∷ b ∷ xs) h e = absurd h.1

-- nothing is of each structure
nothing-fits : (cs : List Component) (y : DataSet) → ◌≡◌ {A = SetOutcome} (Made empty) (Made y) → IsBoundedSetOf cs y
nothing-fits cs y e = let same : empty ≡ y = cc in subst (IsBoundedSetOf cs) same (empty-fits cs)

parts-fit : (operator : DataSetOperator) (operands : List (List Component)) (structure : List Component) (xs : List DataSet) (y : DataSet)
    → All IsStructure operands → IsStructure structure → TakesOperands (an_operator operator operands structure) → AreOperands operands xs → meaning_of (an_operator operator operands structure) xs ≡ Made y → IsBoundedSetOf structure y
parts-fit (Clause clause) operands structure xs y structures result takes h e =
    subst (λ (cs : List Component). IsBoundedSetOf cs y) (sym takes.after_it) (one-fits clause takes.operand operands xs y structures takes.one takes.typed h e)
parts-fit (Pair items) operands structure xs y structures result takes h e = pair-fit operands structure xs y structures result h items takes e
parts-fit (Choice holds fails items) operands structure xs y structures result takes h e = choice-fit operands structure xs y structures result h holds fails items takes e
parts-fit (ExistsIn rows) operands structure xs y structures result takes h e = exists-fit operands structure xs y structures result h rows takes e
parts-fit (Set operation) operands structure xs y structures result takes h e = set-fit operands structure xs y structures result h operation takes e
parts-fit (Join f) operands structure xs y structures result takes h e = join-fit operands structure xs y structures result h f takes e
parts-fit (InJoin clause) operands structure xs y structures result takes h e =
    IsBoundedSetOf-renamed structure (left_by clause takes.operand) y takes.after_it (one-fits clause takes.operand operands xs y structures takes.one takes.typed h e)
parts-fit (Aggregate aggregate) operands structure xs y structures result takes h e =
    subst (λ (cs : List Component). IsBoundedSetOf cs y) (sym takes.after_it) (aggregate-fit aggregate takes.operand operands xs y structures takes.one takes.well h e)
parts-fit (Window w) operands structure xs y structures result takes h e = nothing-fits structure y e
parts-fit (WindowInJoin w) operands structure xs y structures result takes h e = nothing-fits structure y e
parts-fit (Time t) operands structure xs y structures result takes h e = nothing-fits structure y e
parts-fit (Check c) operands structure xs y structures result takes h e = nothing-fits structure y e
parts-fit (Datapoint d) operands structure xs y structures result takes h e = nothing-fits structure y e
parts-fit (Hierarchy hierarchy) operands structure xs y structures result takes h e = nothing-fits structure y e

-- what a typed operator gives on operands of its structures is of its structure
pub meaning_of-fits : (o : Operator) (xs : List DataSet) (y : DataSet) → IsTyped o → AreOperands o.operands xs → meaning_of o xs ≡ Made y → IsBoundedSetOf o.structure y
meaning_of-fits o xs y typed h e = parts-fit o.operator o.operands o.structure xs y typed.structures typed.result typed.takes h e

-- ---- expressions

pub record IsGathered (r : Result Evaluated Wrong) (rs : Result (List Evaluated) Wrong) (vs : List Evaluated) : Type 0 where
  pub first : Evaluated
  pub rest : List Evaluated
  pub first_is : r ≡ Ok first
  pub rest_is : rs ≡ Ok rest
  pub all_are : first ∷ rest ≡ vs

pub gathered-ok : (r : Result Evaluated Wrong) (rs : Result (List Evaluated) Wrong) (vs : List Evaluated) → gathered r rs ≡ Ok vs → IsGathered r rs vs
gathered-ok (Ok v) (Ok ws) vs e = record { first = v; rest = ws; first_is = refl; rest_is = refl; all_are = cc }
gathered-ok (Ok v) (Err w) vs e = cc
gathered-ok (Err w) rs vs e = cc

pub record IsPlaced (n : ℕ) (m : SetOutcome) (v : Evaluated) : Type 0 where
  pub made : m ≡ Made v.set
  pub points : v.points ≡ n + len v.set

pub placed-ok : (place : Place) (n : ℕ) (m : SetOutcome) (v : Evaluated) → placed place n m ≡ Ok v → IsPlaced n m v
placed-ok place n (Made x) v e =
    let same : ◌≡◌ {A = Evaluated} (record { set = x; points = n + len x }) v = cc in
    subst (λ (w : Evaluated). IsPlaced n (Made x) w) same (record { made = refl; points = refl })
placed-ok place n (Range k) v e = cc
placed-ok place n TooMany v e = cc

pub record IsWorked (o : Operator) (r : Result (List Evaluated) Wrong) (v : Evaluated) : Type 0 where
  pub operands : List Evaluated
  pub gathered : r ≡ Ok operands
  pub made : meaning_of o (sets_of operands) ≡ Made v.set
  pub points : v.points ≡ points_of operands + len v.set

pub worked-ok : (o : Operator) (place : Place) (r : Result (List Evaluated) Wrong) (v : Evaluated) → worked o place r ≡ Ok v → IsWorked o r v
worked-ok o place (Ok vs) v e = let p = placed-ok place (points_of vs) (meaning_of o (sets_of vs)) v e in record { operands = vs; gathered = refl; made = p.made; points = p.points }
worked-ok o place (Err w) v e = cc

module _ {N : Type 0} (structures : N → Option (List Component)) (sets : N → DataSet) (fit : (n : N) (t : List Component) → structures n ≡ Some t → IsBoundedSetOf t (sets n)) where
  mutual
    -- what a well typed expression gives is of its structure
    pub result_of-fits : (e : Expression N) (t : List Component) (v : Evaluated) → HasStructure structures e t → result_of sets e ≡ Ok v → IsBoundedSetOf t v.set
    result_of-fits (Named n) t v h e =
        let same : ◌≡◌ {A = Evaluated} (record { set = sets n; points = 0 }) v = cc in
        subst (λ (w : Evaluated). IsBoundedSetOf t w.set) same (fit n t h)
    result_of-fits (Applied o place es) t v h e =
        let w = worked-ok o place (results_of sets es) v e in
        subst (λ (u : List Component). IsBoundedSetOf u v.set) (sym h.0) (meaning_of-fits o (sets_of w.operands) v.set h.1 (results_of-fit es o.operands w.operands h.2 w.gathered) w.made)

    pub results_of-fit : (es : Expressions N) (ts : List (List Component)) (vs : List Evaluated) → HaveStructures structures es ts → results_of sets es ≡ Ok vs → AreOperands ts (sets_of vs)
    results_of-fit none [] vs h e = let same : ◌≡◌ {A = List Evaluated} [] vs = cc in subst (λ (ws : List Evaluated). AreOperands [] (sets_of ws)) same tt
    results_of-fit none (t ∷ ts) vs h e = absurd h
    results_of-fit (more e es) [] vs h eq = absurd h
    results_of-fit (more e es) (t ∷ ts) vs h eq =
        let g = gathered-ok (result_of sets e) (results_of sets es) vs eq in
        subst (λ (ws : List Evaluated). AreOperands (t ∷ ts) (sets_of ws)) g.all_are (result_of-fits e t g.first h.0 g.first_is, results_of-fit es ts g.rest h.1 g.rest_is)

-- ---- statements

pub record IsWorkedOut (all : Bool) (r : Result Evaluated Wrong) (v : Evaluated) : Type 0 where
  pub all_there : all ≡ true
  pub result_is : r ≡ Ok v

pub worked_out-has : (all : Bool) (r : Result Evaluated Wrong) (v : Evaluated) → cond all (state_of r) Idle ≡ Has v → IsWorkedOut all r v
worked_out-has true (Ok w) v e = record { all_there = refl; result_is = cc }
worked_out-has true (Err w) v e = cc
worked_out-has false r v e = cc

input-fits : (ss : NamedStructures) (xs : List DataSet) (n : ℕ) (t : List Component) → AreOperands (map (λ named. named.1) ss) xs → option_map (λ named. named.1) (slice_get ss n) ≡ Some t → IsBoundedSetOf t (unwrap_or (slice_get xs n) empty)
input-fits [] xs n t h e = cc
input-fits (s ∷ ss) [] n t h e = absurd h
input-fits (s ∷ ss) (x ∷ xs) zero t h e = let same : s.1 ≡ t = cc in subst (λ (u : List Component). IsBoundedSetOf u x) same h.0
input-fits (s ∷ ss) (x ∷ xs) (suc n) t h e = input-fits ss xs n t h.1 e

module _ (s : Script) (xs : List DataSet) (checked : IsChecked s) (inputs : AreOperands (map (λ named. named.1) s.inputs) xs) where
  -- the data sets that statements have are of their structures
  abbrev AllFit : (ℕ → State) → Type 0
  AllFit f = (j : ℕ) (v : Evaluated) (statement : CheckedStatement) → f j ≡ Has v → slice_get s.statements j ≡ Some statement → IsBoundedSetOf statement.structure v.set

  pub named-fits : (f : ℕ → State) → AllFit f → (n : Source) (t : List Component) → structure_of_source s n ≡ Some t → IsBoundedSetOf t (unwrap_or (set_named xs f n) empty)
  named-fits f h (Input n) t e = input-fits s.inputs xs n t inputs e
  named-fits f h (ResultOf j) t e = by_state (f j) refl (slice_get s.statements j) refl e
    where
      by_state : (state : State) → f j ≡ state → (o : Option CheckedStatement) → slice_get s.statements j ≡ o → option_map (λ statement. statement.structure) o ≡ Some t → IsBoundedSetOf t (unwrap_or (set_in state) empty)
      by_state (Has v) is None there e = cc
      by_state (Has v) is (Some statement) there e = let same : statement.structure ≡ t = cc in subst (λ (u : List Component). IsBoundedSetOf u v.set) same (h j v statement is there)
      by_state (Fails w) is o there e = empty-fits t
      by_state Idle is o there e = empty-fits t

  state_at-fits : (f : ℕ → State) → AllFit f → (i : ℕ) (v : Evaluated) (statement : CheckedStatement) → state_at s xs f i ≡ Has v → slice_get s.statements i ≡ Some statement → IsBoundedSetOf statement.structure v.set
  state_at-fits f h i v statement e there =
      let out : worked_out (set_named xs f) (expression_of statement.tree) ≡ Has v = rw there at e in
      let w = worked_out-has (list_all (λ n. is_some (set_named xs f n)) (names_in (expression_of statement.tree))) (result_of (λ n. unwrap_or (set_named xs f n) empty) (expression_of statement.tree)) v out in
      let typed = All-get_or (λ st. HasStructure (structure_of_source s) (expression_of st.tree) st.structure) s.statements i statement (slice_get_within s.statements i statement there) checked.typed in
      let typed' : HasStructure (structure_of_source s) (expression_of statement.tree) statement.structure = subst (λ (st : CheckedStatement). HasStructure (structure_of_source s) (expression_of st.tree) st.structure) (get_or_from_slice_get s.statements i statement statement there) typed in
      result_of-fits (structure_of_source s) (λ n. unwrap_or (set_named xs f n) empty) (named-fits f h) (expression_of statement.tree) statement.structure v typed' w.result_is

  states_after-fit : (is : List ℕ) (f : ℕ → State) → AllFit f → AllFit (states_after s xs is f)
  states_after-fit [] f h = h
  states_after-fit (i ∷ is) f h = states_after-fit is (with_at i (state_at s xs f i) f) (λ j v statement e there. elim (cases_eq i j) [
    | inl same ↦
        let here : state_at s xs f j ≡ Has v = sym (subst (λ k. with_at i (state_at s xs f i) f k ≡ state_at s xs f k) same (with_at-same i (state_at s xs f i) f)) ∙ e in
        state_at-fits f h j v statement here there
    | inr other ↦ h j v statement (sym (with_at-other i (state_at s xs f i) f j other) ∙ e) there
  ])

  pub states-fit : AllFit (states s xs)
  states-fit = states_after-fit s.order (λ i. Idle) (λ j v statement e there. cc)
