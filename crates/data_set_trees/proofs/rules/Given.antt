-- What the use of a ruleset gives on a structure is one.
use Rattle.std.proofs.Common.{◌≡◌, ◌≢◌, refl, ℕ, Bool, true, false, not, ◌&&◌, ◌||◌, List, [], ◌∷◌, ◌++◌, Option, Some, None, Result, Ok, subst, ◌∙◌, cond, arith}
use Rattle.std.specs.Prelude.{find, nat_eq, codes, flat_map, unwrap_or}
use Rattle.std.specs.List.{All, list_all, list_any, cons_option}
use Rattle.std.proofs.lemmas.Bool.{both_ways}
use Rattle.std.proofs.lemmas.Bool.Decides.{Decides-eqb}
use Rattle.std.proofs.lemmas.List.Elements.{All-nil, All-cons, All-append}
use Rattle.std.proofs.lemmas.List.Folds.{list_any-append}
use Rattle.vtl_values.specs.declared.kind.Kind.TheVariants as kind
use Rattle.vtl_values.specs.declared.kind.Role.TheVariants.{Identifier, Measure, Attribute, Viral}
use Rattle.vtl_values.specs.declared.place.Place.{Place}
use Rattle.vtl_values.specs.declared.structure.Codes.TheVariants.{Any}
use Rattle.vtl_values.specs.declared.structure.Component.{Component}
use Rattle.vtl_values.specs.Structures.{IsStructure, FitsCodes}
use Rattle.vtl_syntax.specs.declared.ruleset.HierarchyRules.{HierarchyRules}
use Rattle.vtl_syntax.specs.declared.words.CheckInput.TheVariants as check_input
use Rattle.vtl_syntax.specs.declared.words.HierarchyInput.TheVariants as input
use Rattle.vtl_syntax.specs.declared.words.HierarchyOutput.TheVariants as output
use Rattle.vtl_syntax.specs.declared.words.RowsOutput.{RowsOutput}
use Rattle.vtl_syntax.specs.declared.words.RowsOutput.TheVariants as rows_of
use Rattle.scalar_trees.specs.declared.typing.stop.Fault.{Fault}
use Rattle.scalar_trees.specs.declared.typing.stop.Fault.TheVariants as fault
use Rattle.scalar_trees.specs.declared.typing.stop.Refusal.{Refusal}
use Rattle.scalar_trees.specs.typing.Steps.{◌>>=◌, demanded, or_refused}
use Rattle.scalar_trees.proofs.typing.Sound.{left, right}
use Rattle.data_set_trees.specs.clauses.After.{made}
use Rattle.data_set_trees.specs.clauses.Clauses.{bare_number_of}
use Rattle.data_set_trees.specs.clauses.Frames.{frame_of, has_role}
use Rattle.data_set_trees.specs.clauses.Laws.{FitTogether}
use Rattle.data_set_trees.proofs.clauses.Names.{none-passes}
use Rattle.data_set_trees.proofs.clauses.Ordered.{orders_structures}
use Rattle.data_set_trees.specs.aggregates.Aggregates.{has_room, names_differ}
use Rattle.data_set_trees.specs.aggregates.Results.{with_numbers}
use Rattle.data_set_trees.proofs.aggregates.Grouped.{apart, numbered_all, plain_left}
use Rattle.data_set_trees.specs.declared.rules.rules.CheckedDatapoint.{CheckedDatapoint}
use Rattle.data_set_trees.specs.declared.rules.rules.CheckedHierarchy.{CheckedHierarchy}
use Rattle.data_set_trees.specs.declared.rules.rules.CheckedHierarchy.TheVariants.{Computed, Checked}
use Rattle.data_set_trees.specs.rules.Datapoints as datapoints
use Rattle.data_set_trees.specs.rules.Datapoints.{datapoint_checked, kept_numbers, row_components, rule_faults, rules_typed, truth_components}
use Rattle.data_set_trees.specs.rules.Hierarchies as hierarchies
use Rattle.data_set_trees.specs.rules.Hierarchies.{checked_checked, computed_checked, condition_faults, content_of, demands_of, hierarchy_checked, measure_kind, rows, rows_demanded, variables_of}
use Rattle.data_set_trees.specs.rules.Laws.{DatapointsGiveStructures, HierarchiesGiveStructures}
use Rattle.data_set_trees.specs.rules.Rules.{RULE_ID, all_faults, are_known, error_components, fault_number, first_fault, is_among, scope_of_rules, unless_faulty, unmet, value_or}

-- ---- faults

found-none : (p : Fault → Bool) (fs : List Fault) → find p fs ≡ None → list_any p fs ≡ false
found-none p [] h = refl
found-none p (f ∷ fs) h = by_test (p f) (found-none p fs) h
  where
    by_test : (b : Bool) → (find p fs ≡ None → list_any p fs ≡ false) → cond b (Some f) (find p fs) ≡ None → (b || list_any p fs) ≡ false
    by_test true later i = cc
    by_test false later i = later i

-- where none is told, none is among them
none-among : (faults : List Fault) → first_fault faults ≡ None → (f : Fault) → is_among faults f ≡ false
none-among faults h f = by_fault f
  where
    none : All (λ g. is_among faults g ≡ false) all_faults
    none = none-passes (is_among faults) all_faults (found-none (is_among faults) all_faults h)

    by_fault : (g : Fault) → is_among faults g ≡ false
    by_fault fault.UnknownComponent = none 0 f (omega arith)
    by_fault fault.WrongType = none 1 f (omega arith)
    by_fault fault.WrongStructure = none 2 f (omega arith)
    by_fault fault.WrongRole = none 3 f (omega arith)
    by_fault fault.NameTwice = none 4 f (omega arith)
    by_fault fault.TooManyComponents = none 5 f (omega arith)
    by_fault fault.BadConstant = none 6 f (omega arith)
    by_fault fault.BadPattern = none 7 f (omega arith)
    by_fault fault.BadRuleset = none 8 f (omega arith)

-- a fault is among those in which it stands
among-itself : (xs ys : List Fault) (f : Fault) → is_among (xs ++ f ∷ ys) f ≡ true
among-itself xs ys f =
    let same = λ (g : Fault). nat_eq (fault_number f) (fault_number g) in
    list_any-append same xs (f ∷ ys) ∙ rw ((Decides-eqb (fault_number f) (fault_number f)).1 refl) (elim (list_any same xs) as (λ b. (b || true) ≡ true) [ true ↦ refl | false ↦ refl ])

-- so all that was demanded is met
all-met : (xs : List Fault) (ds : List (Bool × Fault)) → ((f : Fault) → is_among (xs ++ unmet ds) f ≡ false) → list_all (λ d. d.0) ds ≡ true
all-met xs [] none = refl
all-met xs (d ∷ ds) none = by_test d.0 refl (all-met xs ds) none
  where
    by_test : (b : Bool) → d.0 ≡ b → (((f : Fault) → is_among (xs ++ unmet ds) f ≡ false) → list_all (λ e. e.0) ds ≡ true) → ((f : Fault) → is_among (xs ++ cons_option (cond b None (Some d.1)) (unmet ds)) f ≡ false) → (b && list_all (λ e. e.0) ds) ≡ true
    by_test true is later i = later i
    by_test false is later i = absurd (both_ways (is_among (xs ++ d.1 ∷ unmet ds) d.1) (i d.1) (among-itself xs (unmet ds) d.1))

-- an answer is told only without a fault, and it is the value
told : {A : Type 0} (place : Place) (value v : A) (o : Option Fault) → value_or place value o ≡ Ok v → (o ≡ None) × (value ≡ v)
told place value v None h = (refl, cc)
told place value v (Some f) h = cc

-- then all that was demanded beside the faults is met
met : {A : Type 0} (place : Place) (xs : List Fault) (ds : List (Bool × Fault)) (value v : A) → unless_faulty place (xs ++ unmet ds) value ≡ Ok v → (list_all (λ d. d.0) ds ≡ true) × (value ≡ v)
met place xs ds value v h =
    let answer = told place value v (first_fault (xs ++ unmet ds)) h in
    (all-met xs ds (none-among (xs ++ unmet ds) answer.0), answer.1)

-- ---- components

abbrev Listed : Component → Type 0
Listed c = c.role ≡ Viral → c.codes ≢ Any

abbrev Fitting : Component → Type 0
Fitting c = FitsCodes c.kind c.codes

abbrev Plain : Component → Type 0
Plain c = Listed c × Fitting c

-- of components that stay, and of plain ones, those whose names differ fit together
joined_fit : (cs : List Component) (numbers : List ℕ) (new : List Component) → IsStructure cs → All Plain new → names_differ (with_numbers cs numbers ++ new) ≡ true → FitTogether (with_numbers cs numbers ++ new)
joined_fit cs numbers new is plain differ = record {
  names_differ = apart (with_numbers cs numbers ++ new) differ;
  viral_listed = All-append Listed (with_numbers cs numbers) new (numbered_all Listed cs is.viral_listed numbers) (λ k d within. (plain k d within).0);
  codes_fit = All-append Fitting (with_numbers cs numbers) new (numbered_all Fitting cs is.codes_fit numbers) (λ k d within. (plain k d within).1);
}

plain_error : All Plain error_components
plain_error = All-cons Plain (made Measure kind.Text (codes "errorcode")) (made Measure kind.Integer (codes "errorlevel") ∷ []) ((λ viral. cc), tt) (All-cons Plain (made Measure kind.Integer (codes "errorlevel")) [] ((λ viral. cc), tt) (All-nil Plain))

plain_truth : (o : RowsOutput) (rest : List Component) → All Plain rest → All Plain (truth_components o ++ rest)
plain_truth rows_of.Invalid rest all = all
plain_truth rows_of.All rest all = All-cons Plain (made Measure kind.Truth (codes "bool_var")) rest ((λ viral. cc), tt) all
plain_truth rows_of.AllMeasures rest all = All-cons Plain (made Measure kind.Truth (codes "bool_var")) rest ((λ viral. cc), tt) all

plain_rows : (o : RowsOutput) (rest : List Component) → All Plain rest → All Plain (row_components o rest)
plain_rows o rest all = All-cons Plain (made Identifier kind.Text RULE_ID) (truth_components o ++ rest) ((λ viral. cc), tt) (plain_truth o rest all)

-- ---- datapoint rulesets

pub datapoints_give : DatapointsGiveStructures
datapoints_give r stated place cs d is h = by_known (are_known r.variables cs) h
  where
    o : RowsOutput
    o = unwrap_or stated rows_of.Invalid

    value : CheckedDatapoint
    value = record { rules = rules_typed (scope_of_rules r.variables cs) place r.rules; output = o }

    by_known : (b : Bool) → (demanded b fault.UnknownComponent place >>= (λ known. unless_faulty place (flat_map (rule_faults (scope_of_rules r.variables cs) place) r.rules ++ unmet ((names_differ (datapoints.unordered o cs), fault.NameTwice) ∷ (has_room (datapoints.unordered o cs), fault.TooManyComponents) ∷ [])) value)) ≡ Ok d
        → IsStructure (datapoints.after d cs)
    by_known true i =
        let differ = names_differ (datapoints.unordered o cs) in
        let room = has_room (datapoints.unordered o cs) in
        let answer = met place (flat_map (rule_faults (scope_of_rules r.variables cs) place) r.rules) ((differ, fault.NameTwice) ∷ (room, fault.TooManyComponents) ∷ []) value d i in
        subst (λ (e : CheckedDatapoint). IsStructure (datapoints.after e cs)) answer.1
        (orders_structures (frame_of (datapoints.unordered o cs)) (joined_fit cs (kept_numbers o cs) (row_components o error_components) is (plain_rows o error_components plain_error) (left differ (room && true) answer.0)))
    by_known false i = cc

-- ---- hierarchical rulesets

-- where a use is checked, all that it demands is met
use_met : (r : HierarchyRules) (stated : Option (List ℕ)) (further : List (Bool × Fault)) (checked : ℕ → CheckedHierarchy) (place : Place) (cs : List Component) (h : CheckedHierarchy) → hierarchy_checked r stated further checked place cs ≡ Ok h
    → (item : ℕ) × (list_all (λ d. d.0) (demands_of r item cs ++ further) ≡ true) × (checked item ≡ h)
use_met r stated further checked place cs h e = by_item (bare_number_of (frame_of cs) (unwrap_or stated r.component)) e
  where
    rest : ℕ → Result CheckedHierarchy Refusal
    rest item = unless_faulty place (condition_faults r place cs ++ unmet (demands_of r item cs ++ further)) (checked item)

    by_known : (item : ℕ) (b : Bool) → (demanded b fault.UnknownComponent place >>= (λ known. rest item)) ≡ Ok h → (n : ℕ) × (list_all (λ d. d.0) (demands_of r n cs ++ further) ≡ true) × (checked n ≡ h)
    by_known item true i = let answer = met place (condition_faults r place cs) (demands_of r item cs ++ further) (checked item) h i in (item, answer.0, answer.1)
    by_known item false i = cc

    by_item : (o : Option ℕ) → (or_refused o fault.UnknownComponent place >>= (λ item. demanded (are_known (variables_of r) cs) fault.UnknownComponent place >>= (λ known. rest item))) ≡ Ok h → (n : ℕ) × (list_all (λ d. d.0) (demands_of r n cs ++ further) ≡ true) × (checked n ≡ h)
    by_item None i = cc
    by_item (Some item) i = by_known item (are_known (variables_of r) cs) i

-- what was demanded last is met too
last_met : (ds es : List (Bool × Fault)) → list_all (λ d. d.0) (ds ++ es) ≡ true → list_all (λ d. d.0) es ≡ true
last_met [] es h = h
last_met (d ∷ ds) es h = last_met ds es (right d.0 (list_all (λ e. e.0) (ds ++ es)) h)

pub hierarchies_give : HierarchiesGiveStructures
hierarchies_give = record {
  computed = λ r stated mode i o place cs h is e.
      let answer = use_met r stated [] (λ item. Computed (content_of r item mode place cs) (unwrap_or i input.Rule) (unwrap_or o output.Computed)) place cs h e in
      subst (λ (k : CheckedHierarchy). IsStructure (hierarchies.after k cs)) answer.2 (plain_left cs is);
  checked = λ r stated mode i o place cs h is e.
      let out = unwrap_or o rows_of.Invalid in
      let differ = names_differ (rows out cs) in
      let room = has_room (rows out cs) in
      let answer = use_met r stated (rows_demanded out cs) (λ item. Checked (content_of r item mode place cs) (unwrap_or i check_input.Dataset) out) place cs h e in
      let its : names_differ (rows out cs) ≡ true = left differ (room && true) (last_met (demands_of r answer.0 cs) (rows_demanded out cs) answer.1) in
      let new = made Measure (measure_kind cs) (codes "imbalance") ∷ error_components in
      let plain : All Plain new = All-cons Plain (made Measure (measure_kind cs) (codes "imbalance")) error_components ((λ viral. cc), tt) plain_error in
      subst (λ (k : CheckedHierarchy). IsStructure (hierarchies.after k cs)) answer.2
      (orders_structures (frame_of (rows out cs)) (joined_fit cs (kept_numbers out cs) (row_components out new) is (plain_rows out new plain) its));
}
