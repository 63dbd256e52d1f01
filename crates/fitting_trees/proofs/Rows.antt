-- What each form of an expression is checked to be fits, where its operands do.
use Rattle.std.proofs.Common.{◌≡◌, refl, ℕ, ℤ, Bool, true, false, ◌&&◌, List, [], ◌∷◌, map, length, Option, Some, None, Result, Ok, sym, subst, ◌∙◌, if◌then◌else◌}
use Rattle.std.proofs.lemmas.List.Folds.{list_all-map}
use Rattle.std.proofs.lemmas.List.Elements.{All-nil, All-cons, All-head, All-tail}
use Rattle.std.specs.Prelude.{nat_le, unwrap_or, option_map}
use Rattle.std.specs.List.{All, list_all}
use Rattle.std.specs.Option.{option_to_list}
use Rattle.vtl_values.specs.declared.place.Place.{Place}
use Rattle.vtl_values.specs.declared.structure.Component.{Component}
use Rattle.vtl_values.specs.declared.value.Value.{Value}
use Rattle.vtl_syntax.specs.declared.words.ExistsRows.{ExistsRows}
use Rattle.vtl_syntax.specs.declared.words.ExistsRows.TheVariants as rows
use Rattle.vtl_syntax.specs.declared.words.Sort.{Sort}
use Rattle.vtl_syntax.specs.declared.words.Sort.TheVariants as sort
use Rattle.vtl_syntax.specs.declared.words.AggregateFunction.{AggregateFunction}
use Rattle.vtl_syntax.specs.declared.ruleset.DatapointRules.{DatapointRules}
use Rattle.vtl_syntax.specs.declared.ruleset.HierarchyRules.{HierarchyRules}
use Rattle.vtl_syntax.specs.declared.words.CheckInput.{CheckInput}
use Rattle.vtl_syntax.specs.declared.words.CheckOutput.{CheckOutput}
use Rattle.vtl_syntax.specs.declared.words.HierarchyInput.{HierarchyInput}
use Rattle.vtl_syntax.specs.declared.words.HierarchyOutput.{HierarchyOutput}
use Rattle.vtl_syntax.specs.declared.words.Mode.{Mode}
use Rattle.vtl_syntax.specs.declared.words.RowsOutput.{RowsOutput}
use Rattle.vtl_syntax.specs.declared.words.FillSpan.{FillSpan}
use Rattle.vtl_syntax.specs.declared.words.OffsetFunction.{OffsetFunction}
use Rattle.vtl_syntax.specs.declared.words.TimeFunction.{TimeFunction}
use Rattle.vtl_syntax.specs.declared.words.WindowFunction.{WindowFunction}
use Rattle.vtl_syntax.specs.declared.expr.Clause.{Clause, out-Clause}
use Rattle.vtl_syntax.specs.declared.expr.Clause.TheOpen.{Clause-F}
use Rattle.vtl_syntax.specs.declared.expr.Expr.{Expr}
use Rattle.vtl_syntax.specs.declared.expr.Groups.{Groups}
use Rattle.vtl_syntax.specs.declared.expr.Item.{Item}
use Rattle.vtl_syntax.specs.declared.expr.JoinOperand.{JoinOperand}
use Rattle.vtl_syntax.specs.declared.expr.Over.{Over}
use Rattle.vtl_syntax.specs.declared.expr.SubstrRange.{SubstrRange}
use Rattle.scalar_trees.specs.WellTyped.{Kinds, in_range}
use Rattle.scalar_trees.specs.declared.typing.stop.Fault.{Fault}
use Rattle.scalar_trees.specs.declared.typing.stop.Refusal.{Refusal}
use Rattle.scalar_trees.specs.declared.typing.stop.Fault.TheVariants.{UnknownComponent, WrongType, WrongStructure, NameTwice, TooManyComponents}
use Rattle.scalar_trees.specs.typing.Scalars.{literal_typed, if_typed, sort_typed, place_of}
use Rattle.scalar_trees.specs.typing.Sound.{IsTyped}
use Rattle.scalar_trees.specs.typing.Steps.{◌>>=◌, or_refused, demanded}
use Rattle.scalar_trees.proofs.typing.Sound.{both, left, right, if-typed, sort-typed}
use Rattle.scalar_trees.proofs.typing.SoundSets.{literal-typed}
use Rattle.data_set_trees.specs.declared.clauses.clause.CheckedClause.{CheckedClause}
use Rattle.data_set_trees.specs.declared.clauses.clause.CheckedClause.TheVariants as clause
use Rattle.data_set_trees.specs.declared.clauses.clause.CheckedMeasure.{CheckedMeasure}
use Rattle.data_set_trees.specs.clauses.Frames.{frame_of}
use Rattle.data_set_trees.specs.clauses.Clauses.{MOST_COMPONENTS, demands}
use Rattle.data_set_trees.specs.clauses.WellTyped.{kinds_on, is_of}
use Rattle.data_set_trees.specs.aggregates.Aggregates.{aggregate_checked, aggr_checked}
use Rattle.data_set_trees.specs.aggregates.Results.{grouped}
use Rattle.data_set_trees.specs.windows.Windows.{window_checked, offset_checked}
use Rattle.data_set_trees.specs.times.Times as times
use Rattle.data_set_trees.specs.times.Times.{time_checked, shift_checked, fill_checked}
use Rattle.data_set_trees.specs.declared.rules.rules.RuleError.{RuleError}
use Rattle.data_set_trees.specs.declared.form.Form.{Form}
use Rattle.data_set_trees.specs.declared.measure.Measure.{Measure}
use Rattle.data_set_trees.specs.declared.operand.DataSet.{DataSet}
use Rattle.data_set_trees.specs.declared.operand.Operand.{Operand}
use Rattle.data_set_trees.specs.declared.operand.Operand.TheVariants as operand
use Rattle.data_set_trees.specs.declared.tree.ChoiceMeasure.{ChoiceMeasure}
use Rattle.data_set_trees.specs.declared.tree.DataSetOperator.{DataSetOperator}
use Rattle.data_set_trees.specs.declared.tree.DataSetOperator.TheVariants as operator
use Rattle.data_set_trees.specs.declared.tree.SetOperation.{SetOperation}
use Rattle.data_set_trees.specs.declared.tree.Source.{Source}
use Rattle.data_set_trees.specs.Components.{measures, virals_agree, are_alike, unlisted}
use Rattle.data_set_trees.specs.Checks.{told_fits, tells, is_numeric, is_imbalance_of, if_imbalance, check_structure}
use Rattle.data_set_trees.specs.Choices.{condition_fits, branches_fit, structures_fit, choice_measures, first_measures, choice_structure, chosen_ids, branch_of, choice_on, choice_typed}
use Rattle.data_set_trees.specs.Exists.{common_agree, exists_structure, exists_typed}
use Rattle.expression_rules.specs.Expressions.{sorted, named_typed}
use Rattle.data_set_trees.specs.Forms.{changed_name, is_of_two}
use Rattle.data_set_trees.specs.Lifted.{answer, each_fits, all_fit, has_one_if, is_free, set_place, measures_checked, on_none, on_one, on_many}
use Rattle.data_set_trees.specs.Members.{in_room, member_from, member_typed}
use Rattle.expression_rules.specs.declared.point_clause.PointClause.{PointClause}
use Rattle.expression_rules.specs.declared.point_clause.PointClause.TheVariants.{Alone, Analytic}
use Rattle.expression_rules.specs.OnClauses.{point_checked, on_points, by_form, on_clause}
use Rattle.expression_rules.specs.OnRules.{datapoint_called, hierarchy_called, with_ruleset, on_datapoint, on_hierarchy, on_check_hierarchy}
use Rattle.expression_rules.specs.PointClauses as points
use Rattle.expression_rules.specs.OnChecks as checks
use Rattle.expression_rules.specs.OnSets as rules
use Rattle.expression_rules.specs.OnSets.{with_operator, on_set, on_aggregate, on_aggr, on_window, on_offset, on_time, on_shift, on_fill}
use Rattle.data_set_trees.specs.Pairs.{identifiers_agree, measures_agree, meeting, both as both_slots, joined, result_fits, pairs_checked, on_two, lifted_on, lifted}
use Rattle.data_set_trees.specs.Sets.{all_data_sets, set_of, sets_typed}
use Rattle.data_set_trees.specs.Trees.{SetAnswer, applied, with_clause, data_sets}
use Rattle.data_set_trees.specs.checked.Operators.{an_operator, kinds_on_both, IsPairOf, IsTypedPair, IsTypedSet, IsTypedExists, IsTypedChoice, IsTypedCheck, TakesOperands}
use Rattle.fitting_trees.specs.Fitting.{IsFitting}
use Rattle.data_set_trees.specs.rules.Datapoints as datapoints
use Rattle.data_set_trees.specs.rules.Datapoints.{datapoint_checked}
use Rattle.data_set_trees.specs.rules.Hierarchies as hierarchies
use Rattle.data_set_trees.specs.rules.Hierarchies.{checked_checked, computed_checked}
use Rattle.literal_ranges.specs.Ranges.{if_given, all_are, clause_in_range, datapoint_in_range, groups_in_range, hierarchy_in_range, item_in_range}
use Rattle.fitting_trees.proofs.Aggregates.{aggregate-typed, aggr-typed}
use Rattle.fitting_trees.proofs.Windows.{window-typed, offset-typed}
use Rattle.fitting_trees.proofs.Times.{time-typed, shift-typed, fill-typed}
use Rattle.fitting_trees.proofs.Applied.{applied-fits, clause-fits}
use Rattle.fitting_trees.proofs.Choices.{structures_of, kinds_in, choice-typed}
use Rattle.fitting_trees.proofs.Analytic.{is_well, point-typed}
use Rattle.fitting_trees.proofs.Clauses.{level_range, clause-range}
use Rattle.fitting_trees.proofs.Rulesets.{checked-typed, computed-typed, datapoint-typed}
use Rattle.fitting_trees.proofs.Components.{measures-there, member-is}
use Rattle.fitting_trees.proofs.Lifted.{form_in_range, ScalarFits, SlotFits, answer-typed, measures-typed, pairs-typed}
use Rattle.fitting_trees.proofs.Pairs.{both-there}
use Rattle.fitting_trees.proofs.Scalars.{answered, refused-never, gave}

-- ---- what was answered

-- what is there was not refused
pub or-given : {A : Type 0} (o : Option A) (fault : Fault) (place : Place) (x : A) → or_refused o fault place ≡ Ok x → o ≡ Some x
or-given None fault place x e = cc
or-given (Some y) fault place x e = cc

-- what is demanded holds
demanded-holds : (b : Bool) (fault : Fault) (place : Place) (u : Unit {0}) → demanded b fault place ≡ Ok u → b ≡ true
demanded-holds true fault place u e = refl
demanded-holds false fault place u e = cc

pub demands-hold : (place : Place) (ds : List (Bool × Fault)) (u : Unit {0}) → demands place ds ≡ Ok u → list_all (λ d. d.0) ds ≡ true
demands-hold place [] u e = refl
demands-hold place (d ∷ ds) u e =
    let first = gave (demanded d.0 d.1 place) (λ met. demands place ds) u e in
    both d.0 (list_all (λ d. d.0) ds) (demanded-holds d.0 d.1 place first.0 first.1) (demands-hold place ds u first.2)

module _ (structures : Source → Option (List Component)) (among : Source → Type 0) where
  -- a data set that fits, or a scalar that is well typed whatever there is, since it names nothing
  abbrev pub IsFit : Operand → Type 0
  IsFit (operand.Scalar t) = (kinds : Kinds) → IsTyped kinds t
  IsFit (operand.DataSet d) = IsFitting structures among d

  -- what is answered fits
  abbrev pub Fits : SetAnswer → Type 0
  Fits answer = (o : Operand) → answer ≡ Ok o → IsFit o

  abbrev SetFits : DataSet → Type 0
  SetFits d = IsFitting structures among d

  scalars-fit : (kinds : Kinds) (os : List Operand) → All IsFit os → All (ScalarFits kinds) os
  scalars-fit kinds [] all = All-nil (ScalarFits kinds)
  scalars-fit kinds (operand.Scalar t ∷ os) all = All-cons (ScalarFits kinds) (operand.Scalar t) os (All-head IsFit (operand.Scalar t) os all kinds) (scalars-fit kinds os (All-tail IsFit (operand.Scalar t) os all))
  scalars-fit kinds (operand.DataSet d ∷ os) all = All-cons (ScalarFits kinds) (operand.DataSet d) os tt (scalars-fit kinds os (All-tail IsFit (operand.DataSet d) os all))

  sets-fit : (os : List Operand) → All IsFit os → All SetFits (data_sets os)
  sets-fit [] all = All-nil SetFits
  sets-fit (operand.Scalar t ∷ os) all = sets-fit os (All-tail IsFit (operand.Scalar t) os all)
  sets-fit (operand.DataSet d ∷ os) all = All-cons SetFits d (data_sets os) (All-head IsFit (operand.DataSet d) os all) (sets-fit os (All-tail IsFit (operand.DataSet d) os all))

  pub given-fits : (given o : Operand) → IsFit given → ◌≡◌ {A = SetAnswer} (Ok given) (Ok o) → IsFit o
  given-fits given o h e = subst IsFit (answered given o e) h

  -- ---- a scalar operator

  module _ (f : Form) (ranged : form_in_range f ≡ true) (place : Place) (os : List Operand) (all : All IsFit os) (changed : Option (List ℕ)) where
    on_none-fits : Fits (on_none f place os)
    on_none-fits o e =
        let value = gave (answer f place os []) (λ t. Ok (operand.Scalar t)) o e in
        given-fits (operand.Scalar value.0) o (λ kinds. answer-typed kinds f ranged place os (scalars-fit kinds os all) [] (All-nil (SlotFits kinds)) value.0 value.1) value.2

    on_one-fits : (d : DataSet) → SetFits d → Fits (on_one f place os changed d)
    on_one-fits d fit o e =
        let s = d.structure in
        let give : List CheckedMeasure → SetAnswer = λ items. Ok (operand.DataSet (with_clause (clause.Measures items) place d)) in
        let asked = gave (demands place ((each_fits f place os, WrongType) ∷ (has_one_if changed (measures s), WrongStructure) ∷ (is_free changed s, NameTwice) ∷ [])) (λ met. answer f place os [] >>= (λ constants. measures_checked f place os changed (measures s) >>= give)) o e in
        let constants = gave (answer f place os []) (λ constants. measures_checked f place os changed (measures s) >>= give) o asked.2 in
        let items = gave (measures_checked f place os changed (measures s)) give o constants.2 in
        let kinds = kinds_on (frame_of s) in
        let well = measures-typed kinds f ranged place os (scalars-fit kinds os all) changed (measures s) (measures-there s) items.0 items.1 in
        given-fits (operand.DataSet (with_clause (clause.Measures items.0) place d)) o (clause-fits structures among (clause.Measures items.0) place d fit well) items.2

    on_two-fits : (s t : DataSet) → All SetFits (s ∷ t ∷ []) → Fits (on_two f place os changed s t)
    on_two-fits s t fit o e =
        let first = s.structure in
        let second = t.structure in
        let met = meeting changed (measures first) (measures second) in
        let set : List CheckedMeasure → DataSet = λ items. applied (operator.Pair items) place (s ∷ t ∷ []) (joined items first second) in
        let give : List CheckedMeasure → SetAnswer = λ items. result_fits place (joined items first second) >>= (λ fits. Ok (operand.DataSet (set items))) in
        let kinds_agree = each_fits f place os && all_fit f place os (map (both_slots (length first)) met) in
        let same = identifiers_agree first second in
        let alike = measures_agree changed (measures first) (measures second) in
        let coded = virals_agree first second in
        let asks : List (Bool × Fault) = (kinds_agree, WrongType) ∷ (same && (alike && coded), WrongStructure) ∷ [] in
        let asked = gave (demands place asks) (λ agree. pairs_checked f place os changed (length first) met >>= give) o e in
        let items = gave (pairs_checked f place os changed (length first) met) give o asked.2 in
        let result = gave (result_fits place (joined items.0 first second)) (λ fits. Ok (operand.DataSet (set items.0))) o items.2 in
        let agree : (same && (alike && coded)) ≡ true = left (same && (alike && coded)) true (right kinds_agree ((same && (alike && coded)) && true) (demands-hold place asks asked.0 asked.1)) in
        let kinds = kinds_on_both first second in
        let pair : IsPairOf items.0 first second (joined items.0 first second) = record {
          identifiers_match = left same (alike && coded) agree;
          virals_match = right alike coded (right same (alike && coded) agree);
          of_kind = pairs-typed kinds f ranged place os (scalars-fit kinds os all) changed (length first) met (both-there first second changed) items.0 items.1;
          is_joined = refl;
        } in
        let takes : IsTypedPair items.0 (first ∷ second ∷ []) (joined items.0 first second) = record { left = first; right = second; two = refl; pair = pair } in
        given-fits (operand.DataSet (set items.0)) o (applied-fits structures among (operator.Pair items.0) place (s ∷ t ∷ []) (joined items.0 first second) fit takes) result.2

    on_many-fits : Fits (on_many f place os)
    on_many-fits o e = absurd (refused-never (demands place ((each_fits f place os, WrongType) ∷ [])) place o e)

    lifted_on-fits : (ds : List DataSet) → All SetFits ds → Fits (lifted_on f place os changed ds)
    lifted_on-fits [] fit = on_none-fits
    lifted_on-fits (d ∷ []) fit = on_one-fits d (All-head SetFits d [] fit)
    lifted_on-fits (s ∷ t ∷ []) fit = elim (is_of_two f) as (λ (b : Bool). Fits (if b then on_two f place os changed s t else on_many f place os)) [ true ↦ on_two-fits s t fit | false ↦ on_many-fits ]
    lifted_on-fits (s ∷ t ∷ d ∷ ds) fit = on_many-fits

  pub lifted-fits : (f : Form) → form_in_range f ≡ true → (place : Place) (os : List Operand) → All IsFit os → Fits (lifted f place os)
  lifted-fits f ranged place os all = lifted_on-fits f ranged place os all (changed_name f (set_place os)) (data_sets os) (sets-fit os all)

  -- ---- names, literals, sorts

  pub literal-fits : (v : Value) → in_range v ≡ true → Fits (Ok (operand.Scalar (literal_typed v)))
  literal-fits v h o e = given-fits (operand.Scalar (literal_typed v)) o (λ kinds. literal-typed kinds v h) e

  pub named-fits : (known : Option DataSet) (place : Place) → ((d : DataSet) → known ≡ Some d → SetFits d) → Fits (named_typed known place)
  named-fits known place fit o e =
      let set = gave (or_refused known UnknownComponent place) (λ d. Ok (operand.DataSet d)) o e in
      given-fits (operand.DataSet set.0) o (fit set.0 (or-given known UnknownComponent place set.0 set.1)) set.2

  pub sorted-fits : (s : Sort) (place : Place) (a : Operand) → IsFit a → Fits (sorted s place a)
  sorted-fits s place (operand.Scalar t) h o e =
      let value = gave (sort_typed s place t) (λ u. Ok (operand.Scalar u)) o e in
      given-fits (operand.Scalar value.0) o (λ kinds. sort-typed kinds s place t (Ok value.0) value.1 (h kinds)) value.2
  sorted-fits sort.Dataset place (operand.DataSet d) h o e = given-fits (operand.DataSet d) o h e
  sorted-fits sort.Integer place (operand.DataSet d) h o e = cc
  sorted-fits sort.Number place (operand.DataSet d) h o e = cc
  sorted-fits sort.Text place (operand.DataSet d) h o e = cc
  sorted-fits sort.Truth place (operand.DataSet d) h o e = cc

  -- ---- operators on data sets

  pub member-fits : (name : List ℕ) (place : Place) (a : Operand) → IsFit a → Fits (member_typed name place a)
  member-fits name place (operand.Scalar t) h o e = cc
  member-fits name place (operand.DataSet d) h o e =
      let s = d.structure in
      let set : CheckedMeasure → DataSet = λ m. with_clause (clause.Measures (m ∷ [])) place d in
      let found = gave (or_refused (member_from 0 name s) UnknownComponent place) (λ m. demanded (is_free (Some m.name) s) NameTwice place >>= (λ met. in_room place (set m))) o e in
      let free = gave (demanded (is_free (Some found.0.name) s) NameTwice place) (λ met. in_room place (set found.0)) o found.2 in
      let room = gave (demanded (nat_le (length (set found.0).structure) MOST_COMPONENTS) TooManyComponents place) (λ met. Ok (operand.DataSet (set found.0))) o free.2 in
      let own = member-is s name found.0 (or-given (member_from 0 name s) UnknownComponent place found.0 found.1) in
      given-fits (operand.DataSet (set found.0)) o (clause-fits structures among (clause.Measures (found.0 ∷ [])) place d h (both (is_of (frame_of s) found.0.kind found.0.value) true own refl)) room.2

  pub exists-fits : (which : Option ExistsRows) (place : Place) (a b : Operand) → IsFit a → IsFit b → Fits (exists_typed which place a b)
  exists-fits which place (operand.DataSet s) (operand.DataSet t) h i o e =
      let result = exists_structure s.structure in
      let set : DataSet = applied (operator.ExistsIn (unwrap_or which rows.All)) place (s ∷ t ∷ []) result in
      let same = common_agree s.structure t.structure in
      let agree = gave (demanded same WrongStructure place) (λ agree. result_fits place result >>= (λ fits. Ok (operand.DataSet set))) o e in
      let fits = gave (result_fits place result) (λ fits. Ok (operand.DataSet set)) o agree.2 in
      let takes : IsTypedExists (s.structure ∷ t.structure ∷ []) result = record { left = s.structure; right = t.structure; two = refl; kinds_match = demanded-holds same WrongStructure place agree.0 agree.1; gives = refl } in
      given-fits (operand.DataSet set) o (applied-fits structures among (operator.ExistsIn (unwrap_or which rows.All)) place (s ∷ t ∷ []) result (All-cons SetFits s (t ∷ []) h (All-cons SetFits t [] i (All-nil SetFits))) takes) fits.2
  exists-fits which place (operand.Scalar s) (operand.Scalar t) h i o e = cc
  exists-fits which place (operand.Scalar s) (operand.DataSet t) h i o e = cc
  exists-fits which place (operand.DataSet s) (operand.Scalar t) h i o e = cc

  pub all_sets-fit : (os : List Operand) (ds : List DataSet) → All IsFit os → all_data_sets os ≡ Some ds → All SetFits ds
  all_sets-fit [] ds all e = let none : [] ≡ ds = cc in subst (All SetFits) none (All-nil SetFits)
  all_sets-fit (operand.Scalar t ∷ os) ds all e = cc
  all_sets-fit (operand.DataSet d ∷ os) ds all e = by_others (all_data_sets os) (λ others i. all_sets-fit os others (All-tail IsFit (operand.DataSet d) os all) i) e
    where
      by_others : (others : Option (List DataSet)) → ((more : List DataSet) → others ≡ Some more → All SetFits more) → option_map (λ ds. d ∷ ds) others ≡ Some ds → All SetFits ds
      by_others None fit h = cc
      by_others (Some others) fit h =
          let same : d ∷ others ≡ ds = cc in
          subst (All SetFits) same (All-cons SetFits d others (All-head IsFit (operand.DataSet d) os all) (fit others refl))

  set_of-fits : (operation : SetOperation) (place : Place) (ds : List DataSet) → All SetFits ds → Fits (set_of operation place ds)
  set_of-fits operation place [] all o e = cc
  set_of-fits operation place (d ∷ ds) all o e =
      let result = map unlisted d.structure in
      let set : DataSet = applied (operator.Set operation) place (d ∷ ds) result in
      let others = map (λ (e : DataSet). e.structure) ds in
      let same = list_all (λ (e : DataSet). are_alike d.structure e.structure) ds in
      let alike = gave (demanded same WrongStructure place) (λ alike. Ok (operand.DataSet set)) o e in
      let takes : IsTypedSet (d.structure ∷ others) result = record {
        first = d.structure;
        others = others;
        some = refl;
        alike = list_all-map (are_alike d.structure) (λ (e : DataSet). e.structure) ds ∙ demanded-holds same WrongStructure place alike.0 alike.1;
        bare = refl;
      } in
      given-fits (operand.DataSet set) o (applied-fits structures among (operator.Set operation) place (d ∷ ds) result all takes) alike.2

  pub sets_typed-fits : (operation : SetOperation) (place : Place) (os : List Operand) → All IsFit os → Fits (sets_typed operation place os)
  sets_typed-fits operation place os all o e =
      let sets = gave (or_refused (all_data_sets os) WrongStructure place) (set_of operation place) o e in
      set_of-fits operation place sets.0 (all_sets-fit os sets.0 all (or-given (all_data_sets os) WrongStructure place sets.0 sets.1)) o sets.2

  -- ---- checks

  -- there is one operand, and an imbalance beside it or none
  operands-are : (d : DataSet) (ds : List DataSet) → checks.at_most_one (checks.structures_of ds) ≡ true → checks.structures_of (d ∷ ds) ≡ d.structure ∷ option_to_list (checks.imbalance_in (checks.structures_of ds))
  operands-are d [] few = refl
  operands-are d (e ∷ []) few = refl
  operands-are d (e ∷ f ∷ more) few = cc

  -- what a check asks for holds, and its result is what it says
  check-takes : (error : RuleError) (said : Option CheckOutput) (place : Place) (d : DataSet) (ds : List DataSet) (structure : List Component) → checks.at_most_one (checks.structures_of ds) ≡ true
      → checks.check_gives place d.structure (checks.imbalance_in (checks.structures_of ds)) ≡ Ok structure → IsTypedCheck (checks.check_of error said (checks.structures_of ds)) (checks.structures_of (d ∷ ds)) structure
  check-takes error said place d ds structure few e =
      let s = d.structure in
      let imbalance = checks.imbalance_in (checks.structures_of ds) in
      let result = check_structure s imbalance in
      let numeric = if_imbalance is_numeric imbalance in
      let belongs = if_imbalance (is_imbalance_of s) imbalance in
      let kinds = told_fits s && numeric in
      let shape = tells s && belongs in
      let asks : List (Bool × Fault) = (kinds, WrongType) ∷ (shape, WrongStructure) ∷ [] in
      let met = gave (demands place asks) (λ met. result_fits place result >>= (λ fits. Ok result)) structure e in
      let fits = gave (result_fits place result) (λ fits. Ok result) structure met.2 in
      let all = demands-hold place asks met.0 met.1 in
      let of_kinds = left kinds (shape && true) all in
      let of_shape = left shape true (right kinds (shape && true) all) in
      record {
        checked = s;
        imbalance = imbalance;
        has = refl;
        operands_are = operands-are d ds few;
        truth = both (told_fits s) (tells s) (left (told_fits s) numeric of_kinds) (left (tells s) belongs of_shape);
        numeric = right (told_fits s) numeric of_kinds;
        belongs = right (tells s) belongs of_shape;
        gives = sym (answered result structure fits.2);
      }

  checked-fits : (error : RuleError) (said : Option CheckOutput) (place : Place) (ds : List DataSet) → All SetFits ds → Fits (checks.checked error said place ds)
  checked-fits error said place [] all o e = cc
  checked-fits error said place (d ∷ ds) all o e =
      let others = checks.structures_of ds in
      let check = checks.check_of error said others in
      let set : List Component → DataSet = λ structure. applied (operator.Check check) place (d ∷ ds) structure in
      let structure = gave (checks.check_on place (checks.structures_of (d ∷ ds))) (λ structure. Ok (operand.DataSet (set structure))) o e in
      let few = gave (demanded (checks.at_most_one others) WrongStructure place) (λ few. checks.check_gives place d.structure (checks.imbalance_in others)) structure.0 structure.1 in
      let takes = check-takes error said place d ds structure.0 (demanded-holds (checks.at_most_one others) WrongStructure place few.0 few.1) few.2 in
      given-fits (operand.DataSet (set structure.0)) o (applied-fits structures among (operator.Check check) place (d ∷ ds) structure.0 all takes) structure.2

  pub check_typed-fits : (error : RuleError) (said : Option CheckOutput) (place : Place) (os : List Operand) → All IsFit os → Fits (checks.check_typed error said place os)
  check_typed-fits error said place os all o e =
      let sets = gave (or_refused (all_data_sets os) WrongStructure place) (checks.checked error said place) o e in
      checked-fits error said place sets.0 (all_sets-fit os sets.0 all (or-given (all_data_sets os) WrongStructure place sets.0 sets.1)) o sets.2

  -- ---- conditionals

  -- what a conditional asks for holds
  choice-asks : (place : Place) (c a b : Operand) (u : Unit {0}) → demands place ((condition_fits c && branches_fit a b, WrongType) ∷ (structures_fit c (data_sets (a ∷ b ∷ [])), WrongStructure) ∷ []) ≡ Ok u → (condition_fits c ≡ true) × (structures_fit c (data_sets (a ∷ b ∷ [])) ≡ true)
  choice-asks place c a b u e =
      let kinds = condition_fits c && branches_fit a b in
      let shape = structures_fit c (data_sets (a ∷ b ∷ [])) in
      let asks : List (Bool × Fault) = (kinds, WrongType) ∷ (shape, WrongStructure) ∷ [] in
      let all = demands-hold place asks u e in
      (left (condition_fits c) (branches_fit a b) (left kinds (shape && true) all), left shape true (right kinds (shape && true) all))

  -- it is well typed
  choice-takes : (place : Place) (c a b : Operand) → All IsFit (c ∷ a ∷ b ∷ []) → condition_fits c ≡ true → structures_fit c (data_sets (a ∷ b ∷ [])) ≡ true → (ms : List Measure) (items : List ChoiceMeasure) → choice_measures place a b ms ≡ Ok items → IsTypedChoice (branch_of a) (branch_of b) items (structures_of (data_sets (c ∷ a ∷ b ∷ []))) (choice_structure items (data_sets (c ∷ a ∷ b ∷ [])) (chosen_ids (data_sets (c ∷ a ∷ b ∷ []))))
  choice-takes place (operand.Scalar t) a b all truths shape ms items e = cc
  choice-takes place (operand.DataSet c) a b all truths shape ms items e =
      let others = All-tail IsFit (operand.DataSet c) (a ∷ b ∷ []) all in
      let first = All-head (ScalarFits (kinds_in a)) a (b ∷ []) (scalars-fit (kinds_in a) (a ∷ b ∷ []) others) in
      let second = All-head (ScalarFits (kinds_in b)) b [] (scalars-fit (kinds_in b) (b ∷ []) (All-tail IsFit a (b ∷ []) others)) in
      choice-typed place a b first second c truths shape ms items e

  choice_on-fits : (place : Place) (c a b : Operand) → All IsFit (c ∷ a ∷ b ∷ []) → Fits (choice_on place c a b)
  choice_on-fits place c a b all o e =
      let ds = data_sets (c ∷ a ∷ b ∷ []) in
      let branches = data_sets (a ∷ b ∷ []) in
      let result : List ChoiceMeasure → List Component = λ items. choice_structure items ds (chosen_ids ds) in
      let set : List ChoiceMeasure → DataSet = λ items. applied (operator.Choice (branch_of a) (branch_of b) items) place ds (result items) in
      let give : List ChoiceMeasure → SetAnswer = λ items. result_fits place (result items) >>= (λ fits. Ok (operand.DataSet (set items))) in
      let agree = gave (demands place ((condition_fits c && branches_fit a b, WrongType) ∷ (structures_fit c branches, WrongStructure) ∷ [])) (λ agree. choice_measures place a b (first_measures branches) >>= give) o e in
      let asks = choice-asks place c a b agree.0 agree.1 in
      let items = gave (choice_measures place a b (first_measures branches)) give o agree.2 in
      let fits = gave (result_fits place (result items.0)) (λ fits. Ok (operand.DataSet (set items.0))) o items.2 in
      let takes = choice-takes place c a b all asks.0 asks.1 (first_measures branches) items.0 items.1 in
      given-fits (operand.DataSet (set items.0)) o (applied-fits structures among (operator.Choice (branch_of a) (branch_of b) items.0) place ds (result items.0) (sets-fit (c ∷ a ∷ b ∷ []) all) takes) fits.2

  pub choice-fits : (place : Place) (c a b : Operand) → All IsFit (c ∷ a ∷ b ∷ []) → Fits (choice_typed place c a b)
  choice-fits place (operand.Scalar c) (operand.Scalar a) (operand.Scalar b) all o e =
      let value = gave (if_typed place c a b) (λ t. Ok (operand.Scalar t)) o e in
      let others = All-tail IsFit (operand.Scalar c) (operand.Scalar a ∷ operand.Scalar b ∷ []) all in
      let own_c = All-head IsFit (operand.Scalar c) (operand.Scalar a ∷ operand.Scalar b ∷ []) all in
      let own_a = All-head IsFit (operand.Scalar a) (operand.Scalar b ∷ []) others in
      let own_b = All-head IsFit (operand.Scalar b) [] (All-tail IsFit (operand.Scalar a) (operand.Scalar b ∷ []) others) in
      given-fits (operand.Scalar value.0) o (λ kinds. if-typed kinds place c a b (Ok value.0) value.1 (own_c kinds) (own_a kinds) (own_b kinds)) value.2
  choice-fits place (operand.Scalar c) (operand.Scalar a) (operand.DataSet b) all o e = choice_on-fits place (operand.Scalar c) (operand.Scalar a) (operand.DataSet b) all o e
  choice-fits place (operand.Scalar c) (operand.DataSet a) b all o e = choice_on-fits place (operand.Scalar c) (operand.DataSet a) b all o e
  choice-fits place (operand.DataSet c) a b all o e = choice_on-fits place (operand.DataSet c) a b all o e

  -- ---- clauses

  -- what a clause that is well typed makes of a data set that fits
  point-fits : (k : PointClause) (place : Place) (d : DataSet) → SetFits d → is_well (frame_of d.structure) k ≡ true → SetFits (points.with_clause k place d)
  point-fits (Alone c) place d h well = clause-fits structures among c place d h well
  point-fits (Analytic w) place d h well =
      applied-fits structures among (operator.Window w) place (d ∷ []) (map unlisted (rules.window_after w d.structure)) (All-cons SetFits d [] h (All-nil SetFits)) (record { operand = d.structure; one = refl; well = well; after_it = refl })

  on_points-fits : (written : Clause) → clause_in_range written ≡ true → (a : Operand) → IsFit a → Fits (on_points written a)
  on_points-fits written r (operand.Scalar t) h o e = cc
  on_points-fits written r (operand.DataSet d) h o e =
      let set : PointClause → DataSet = λ k. points.with_clause k (place_of written) d in
      let checked = gave (point_checked written (frame_of d.structure)) (λ k. Ok (operand.DataSet (set k))) o e in
      given-fits (operand.DataSet (set checked.0)) o (point-fits checked.0 (place_of written) d h (point-typed (frame_of d.structure) written checked.0 r checked.1)) checked.2

  -- ---- operators on one data set

  -- what it is checked to be takes the data set
  on_set-fits : {X : Type 0} (checked : List Component → Result X Refusal) (of : X → DataSetOperator) (after : X → List Component → List Component) (place : Place)
      → ((s : List Component) (x : X) → checked s ≡ Ok x → TakesOperands (an_operator (of x) (s ∷ []) (map unlisted (after x s)))) → (a : Operand) → IsFit a → Fits (on_set checked of after place a)
  on_set-fits checked of after place takes (operand.Scalar t) h o e = cc
  on_set-fits {X} checked of after place takes (operand.DataSet d) h o e =
      let set : X → DataSet = λ x. with_operator (of x) (after x) place d in
      let own = gave (checked d.structure) (λ x. Ok (operand.DataSet (set x))) o e in
      given-fits (operand.DataSet (set own.0)) o (applied-fits structures among (of own.0) place (d ∷ []) (map unlisted (after own.0 d.structure)) (All-cons SetFits d [] h (All-nil SetFits)) (takes d.structure own.0 own.1)) own.2

  pub on_aggregate-fits : (f : AggregateFunction) (groups : Option Groups) (place : Place) → if_given (option_map groups_in_range groups) ≡ true → (a : Operand) → IsFit a → Fits (on_aggregate f groups place a)
  on_aggregate-fits f groups place r =
      on_set-fits (aggregate_checked f place groups) operator.Aggregate grouped place (λ s x e. record { operand = s; one = refl; well = aggregate-typed f place groups s x r e; after_it = refl })

  on_aggr-fits : (items : List Item) (groups : Option Groups) (place : Place) → all_are (map item_in_range items) ≡ true → if_given (option_map groups_in_range groups) ≡ true → (a : Operand) → IsFit a → Fits (on_aggr items groups place a)
  on_aggr-fits items groups place q r =
      on_set-fits (aggr_checked place items groups) operator.Aggregate grouped place (λ s x e. record { operand = s; one = refl; well = aggr-typed place items groups s x q r e; after_it = refl })

  pub on_window-fits : (f : WindowFunction) (over : Over) (place : Place) → (a : Operand) → IsFit a → Fits (on_window f over place a)
  on_window-fits f over place = on_set-fits (window_checked f over place) operator.Window rules.window_after place (λ s x e. record { operand = s; one = refl; well = window-typed f over place s x e; after_it = refl })

  pub on_offset-fits : (f : OffsetFunction) (offset : ℤ) (over : Over) (place : Place) → (a : Operand) → IsFit a → Fits (on_offset f offset over place a)
  on_offset-fits f offset over place =
      on_set-fits (offset_checked f offset over place) operator.Window rules.window_after place (λ s x e. record { operand = s; one = refl; well = offset-typed f offset over place s x e; after_it = refl })

  pub on_time-fits : (f : TimeFunction) (place : Place) → (a : Operand) → IsFit a → Fits (on_time f place a)
  on_time-fits f place = on_set-fits (time_checked f place) operator.Time times.after place (λ s x e. record { operand = s; one = refl; well = time-typed f place s x e; after_it = refl })

  pub on_shift-fits : (places : ℤ) (place : Place) → (a : Operand) → IsFit a → Fits (on_shift places place a)
  on_shift-fits places place = on_set-fits (shift_checked places place) operator.Time times.after place (λ s x e. record { operand = s; one = refl; well = shift-typed places place s x e; after_it = refl })

  pub on_fill-fits : (span : Option FillSpan) (place : Place) → (a : Operand) → IsFit a → Fits (on_fill span place a)
  on_fill-fits span place = on_set-fits (fill_checked span place) operator.Time times.after place (λ s x e. record { operand = s; one = refl; well = fill-typed span place s x e; after_it = refl })

  -- ---- uses of rulesets

  pub on_datapoint-fits : (o : Option RowsOutput) (place : Place) (r : DatapointRules) → list_all datapoint_in_range r.rules ≡ true → (a : Operand) → IsFit a → Fits (on_datapoint o place r a)
  on_datapoint-fits o place r ranged =
      on_set-fits (datapoint_checked r o place) operator.Datapoint datapoints.after place (λ s x e. record { operand = s; one = refl; well = datapoint-typed r o place s x ranged e; after_it = refl })

  pub on_hierarchy-fits : (c : Option (List ℕ)) (m : Option Mode) (i : Option HierarchyInput) (o : Option HierarchyOutput) (place : Place) (r : HierarchyRules) → list_all hierarchy_in_range r.rules ≡ true → (a : Operand) → IsFit a → Fits (on_hierarchy c m i o place r a)
  on_hierarchy-fits c m i o place r ranged =
      on_set-fits (computed_checked r c m i o place) operator.Hierarchy hierarchies.after place (λ s x e. record { operand = s; one = refl; well = computed-typed r c m place s ranged i o x e; after_it = refl })

  pub on_check_hierarchy-fits : (c : Option (List ℕ)) (m : Option Mode) (i : Option CheckInput) (o : Option RowsOutput) (place : Place) (r : HierarchyRules) → list_all hierarchy_in_range r.rules ≡ true → (a : Operand) → IsFit a → Fits (on_check_hierarchy c m i o place r a)
  on_check_hierarchy-fits c m i o place r ranged =
      on_set-fits (checked_checked r c m i o place) operator.Hierarchy hierarchies.after place (λ s x e. record { operand = s; one = refl; well = checked-typed r c m place s ranged i o x e; after_it = refl })

  -- with the ruleset that is meant
  pub with_ruleset-fits : {R : Type 0} (found : Option R) (place : Place) (next : R → SetAnswer) → ((r : R) → found ≡ Some r → Fits (next r)) → Fits (with_ruleset found place next)
  with_ruleset-fits found place next fit o e =
      let r = gave (or_refused found UnknownComponent place) next o e in
      fit r.0 (or-given found UnknownComponent place r.0 r.1) o r.2

  -- ---- any clause

  clause_form-fits : (x : Clause-F Clause Expr Groups Item JoinOperand SubstrRange) (written : Clause) → level_range x ≡ true → clause_in_range written ≡ true → (a : Operand) → IsFit a → Fits (by_form x written a)
  clause_form-fits (Clause-F.Aggr items None place) written q r = on_aggr-fits items None place (left (all_are (map item_in_range items)) true q) refl
  clause_form-fits (Clause-F.Aggr items (Some groups) place) written q r =
      on_aggr-fits items (Some groups) place (left (all_are (map item_in_range items)) (groups_in_range groups) q) (right (all_are (map item_in_range items)) (groups_in_range groups) q)
  clause_form-fits (Clause-F.Filter condition place) written q r = on_points-fits written r
  clause_form-fits (Clause-F.Calc items place) written q r = on_points-fits written r
  clause_form-fits (Clause-F.Keep names place) written q r = on_points-fits written r
  clause_form-fits (Clause-F.Drop names place) written q r = on_points-fits written r
  clause_form-fits (Clause-F.Rename renames place) written q r = on_points-fits written r
  clause_form-fits (Clause-F.Sub items place) written q r = on_points-fits written r
  clause_form-fits (Clause-F.Unpivot identifier measure place) written q r = on_points-fits written r

  pub on_clause-fits : (written : Clause) → clause_in_range written ≡ true → (a : Operand) → IsFit a → Fits (on_clause written a)
  on_clause-fits written r = clause_form-fits (out-Clause written) written (sym (clause-range written) ∙ r) r
