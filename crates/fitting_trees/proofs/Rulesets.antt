-- A use of a ruleset that typing gives is well typed, where the literals in the ruleset's rules are in range.
use Rattle.std.proofs.Common.{◌≡◌, refl, ℕ, zero, suc, Bool, true, false, cond, ◌&&◌, ◌||◌, List, [], ◌∷◌, ◌++◌, length, Option, Some, None, Result, Ok, Err, map, ap, sym, subst, ◌∙◌, arith, if◌then◌else◌}
use Rattle.std.specs.Prelude.{filter_map, find, flat_map, is_some, nat_eq, option_map, slice_get, unwrap_or, zip}
use Rattle.std.specs.List.{cons_option, list_all, list_any, range_with_len}
use Rattle.std.specs.Option.{option_map_or, option_or}
use Rattle.std.proofs.lemmas.Bool.Decides.{nat_tests}
use Rattle.vtl_values.specs.Texts.{same_text}
use Rattle.vtl_values.specs.declared.kind.Kind.TheVariants.{Text, Truth}
use Rattle.vtl_values.specs.declared.kind.Role.TheVariants.{Identifier}
use Rattle.vtl_values.specs.declared.place.Place.{Place}
use Rattle.vtl_values.specs.declared.structure.Component.{Component}
use Rattle.vtl_syntax.specs.declared.expr.Expr.{Expr}
use Rattle.vtl_syntax.specs.declared.ruleset.DatapointRule.{DatapointRule}
use Rattle.vtl_syntax.specs.declared.ruleset.DatapointRules.{DatapointRules}
use Rattle.vtl_syntax.specs.declared.ruleset.HierarchyRule.{HierarchyRule}
use Rattle.vtl_syntax.specs.declared.ruleset.HierarchyRules.{HierarchyRules}
use Rattle.vtl_syntax.specs.declared.ruleset.Ruleset.{Ruleset}
use Rattle.vtl_syntax.specs.declared.ruleset.Ruleset.TheVariants as rules
use Rattle.vtl_syntax.specs.declared.ruleset.SignedName.{SignedName}
use Rattle.vtl_syntax.specs.declared.ruleset.Variable.{Variable}
use Rattle.vtl_syntax.specs.declared.words.CheckInput.{CheckInput}
use Rattle.vtl_syntax.specs.declared.words.CheckInput.TheVariants as check_input
use Rattle.vtl_syntax.specs.declared.words.HierarchyInput.{HierarchyInput}
use Rattle.vtl_syntax.specs.declared.words.HierarchyInput.TheVariants as input
use Rattle.vtl_syntax.specs.declared.words.HierarchyOutput.{HierarchyOutput}
use Rattle.vtl_syntax.specs.declared.words.HierarchyOutput.TheVariants as output
use Rattle.vtl_syntax.specs.declared.words.Mode.{Mode}
use Rattle.vtl_syntax.specs.declared.words.RowsOutput.{RowsOutput}
use Rattle.vtl_syntax.specs.declared.words.RowsOutput.TheVariants.{Invalid}
use Rattle.vtl_syntax.specs.declared.words.Sign.TheVariants.{Plus}
use Rattle.scalar_trees.specs.WellTyped.{Kinds, is_kind}
use Rattle.scalar_trees.specs.declared.tree.CheckedExpr.{CheckedExpr}
use Rattle.scalar_trees.specs.declared.typing.scope.Basis.TheVariants.{Point}
use Rattle.scalar_trees.specs.declared.typing.scope.Scope.{Scope}
use Rattle.scalar_trees.specs.declared.typing.stop.Fault.{Fault}
use Rattle.scalar_trees.specs.declared.typing.stop.Fault.TheVariants as fault
use Rattle.scalar_trees.specs.declared.typing.stop.Refusal.{Refusal}
use Rattle.scalar_trees.specs.typing.Scalars.{typed, wanted}
use Rattle.scalar_trees.specs.typing.Scopes.{column_of, kinds_of}
use Rattle.scalar_trees.specs.typing.Steps.{◌>>=◌, demanded, or_refused}
use Rattle.scalar_trees.proofs.typing.Sound.{both, left, right}
use Rattle.data_set_trees.specs.clauses.Clauses.{bare_number_of, passes_at}
use Rattle.data_set_trees.specs.clauses.Frames.{frame_of, has_role}
use Rattle.data_set_trees.specs.aggregates.Aggregates.{are_numeric, has_room, names_differ}
use Rattle.data_set_trees.specs.checked.Uses.{has_items, is_at, is_condition, is_content, is_datapoint, is_hierarchy, is_point_rule, is_truth}
use Rattle.data_set_trees.specs.declared.rules.rules.CheckedDatapoint.{CheckedDatapoint}
use Rattle.data_set_trees.specs.declared.rules.rules.CheckedHierarchy.{CheckedHierarchy}
use Rattle.data_set_trees.specs.declared.rules.rules.CheckedHierarchy.TheVariants.{Computed, Checked}
use Rattle.data_set_trees.specs.declared.rules.rules.HierarchyContent.{HierarchyContent}
use Rattle.data_set_trees.specs.declared.rules.rules.ItemRule.{ItemRule}
use Rattle.data_set_trees.specs.declared.rules.rules.PointRule.{PointRule}
use Rattle.data_set_trees.specs.rules.Datapoints as datapoints
use Rattle.data_set_trees.specs.rules.Datapoints.{datapoint_checked, numbered}
use Rattle.data_set_trees.specs.rules.Hierarchies as hierarchies
use Rattle.data_set_trees.specs.rules.Hierarchies.{checked_checked, computed_checked, condition_faults, content_of, demands_of, has_one_measure, hierarchy_checked, may_condition, passes, rows_demanded, signed, variables_of}
use Rattle.data_set_trees.specs.rules.Rules.{all_faults, are_known, boolean_typed, condition_typed, error_of, fault_number, first_fault, given, is_among, rule_name, scope_of_rules, unless_faulty, unmet, value_or}
use Rattle.expression_rules.specs.OnRules.{datapoint_at, datapoint_called, hierarchy_at, hierarchy_called}
use Rattle.literal_ranges.specs.Ranges.{condition_in_range, datapoint_in_range, hierarchy_in_range, literals_in_range, ruleset_in_range}
use Rattle.fitting_trees.proofs.Clauses.{wanted-is}
use Rattle.fitting_trees.proofs.Numbered.{made-all}
use Rattle.fitting_trees.proofs.Scalars.{answered, gave, scalar-typed}

-- ---- without a fault

-- what isn't found doesn't pass
missed : (q : Fault → Bool) (fs : List Fault) (n : ℕ) (f : Fault) → find q fs ≡ None → slice_get fs n ≡ Some f → q f ≡ false
missed q [] n f none at = cc
missed q (g ∷ gs) n f none at = by_test (q g) refl n (λ (m : ℕ). missed q gs m f) none at
  where
    by_test : (b : Bool) → q g ≡ b → (n : ℕ) → ((m : ℕ) → find q gs ≡ None → slice_get gs m ≡ Some f → q f ≡ false) → cond b (Some g) (find q gs) ≡ None → slice_get (g ∷ gs) n ≡ Some f → q f ≡ false
    by_test true is m later i there = cc
    by_test false is zero later i there = let same : g ≡ f = cc in subst (λ (x : Fault). q x ≡ false) same is
    by_test false is (suc m) later i there = later m i there

placed : (f : Fault) → (n : ℕ) × (slice_get all_faults n ≡ Some f)
placed fault.UnknownComponent = (0, refl)
placed fault.WrongType = (1, refl)
placed fault.WrongStructure = (2, refl)
placed fault.WrongRole = (3, refl)
placed fault.NameTwice = (4, refl)
placed fault.TooManyComponents = (5, refl)
placed fault.BadConstant = (6, refl)
placed fault.BadPattern = (7, refl)
placed fault.BadRuleset = (8, refl)

same-number : (n : ℕ) → nat_eq n n ≡ true
same-number n = grind (arith, nat_tests)

-- where no fault is told there is none
none-told : (fs : List Fault) → first_fault fs ≡ None → fs ≡ []
none-told [] h = refl
none-told (f ∷ fs) h =
    let at = placed f in
    let absent : is_among (f ∷ fs) f ≡ false = missed (is_among (f ∷ fs)) all_faults at.0 f h at.1 in
    let there : is_among (f ∷ fs) f ≡ true = ap (λ (b : Bool). b || is_among fs f) (same-number (fault_number f)) in
    let no : true ≡ false = sym there ∙ absent in
    absurd (cc no)

all-met : (ds : List (Bool × Fault)) → unmet ds ≡ [] → list_all (λ d. d.0) ds ≡ true
all-met [] h = refl
all-met (d ∷ ds) h = by_test d.0 (all-met ds) h
  where
    by_test : (b : Bool) → (unmet ds ≡ [] → list_all (λ e. e.0) ds ≡ true) → cons_option (if b then None else Some d.1) (unmet ds) ≡ [] → (b && list_all (λ e. e.0) ds) ≡ true
    by_test true later i = later i
    by_test false later i = cc

last-none : (xs ys : List Fault) → xs ++ ys ≡ [] → ys ≡ []
last-none [] ys h = h
last-none (x ∷ xs) ys h = cc

-- what is told unless there is a fault
told : {A : Type 0} (place : Place) (faults : List Fault) (value x : A) → unless_faulty place faults value ≡ Ok x → (first_fault faults ≡ None) × (value ≡ x)
told {A} place faults value x h = by_fault (first_fault faults) refl h
  where
    by_fault : (o : Option Fault) → first_fault faults ≡ o → value_or place value o ≡ Ok x → (first_fault faults ≡ None) × (value ≡ x)
    by_fault None is e = (is, answered value x e)
    by_fault (Some f) is e = cc

-- what was answered holds where any answer does
given-is : {A : Type 0} (q : A → Bool) (answer : Result A Refusal) → ((x : A) → answer ≡ Ok x → q x ≡ true) → option_map_or q (given answer) true ≡ true
given-is q (Ok x) holds = holds x refl
given-is q (Err refusal) holds = refl

module _ (s : List Component) (place : Place) (variables : List Variable) where
  abbrev scope : Scope
  scope = scope_of_rules variables s

  abbrev kinds : Kinds
  kinds = kinds_of (map column_of s) Point

  truth-is : (e : Expr) → literals_in_range e ≡ true → (t : CheckedExpr) → boolean_typed scope place e ≡ Ok t → is_truth s t ≡ true
  truth-is e r t h =
      let value = gave (typed scope Point e) (wanted place Truth) t h in
      wanted-is kinds place Truth value.0 t (scalar-typed e r scope Point value.0 value.1) value.2

  condition-is : (c : Option Expr) → condition_in_range c ≡ true → (o : Option CheckedExpr) → condition_typed scope place c ≡ Ok o → is_condition s o ≡ true
  condition-is None r o h = subst (λ (p : Option CheckedExpr). is_condition s p ≡ true) (answered None o h) refl
  condition-is (Some e) r o h =
      let t = gave (boolean_typed scope place e) (λ c. Ok (Some c)) o h in
      subst (λ (p : Option CheckedExpr). is_condition s p ≡ true) (answered (Some t.0) o t.2) (truth-is e r t.0 t.1)

  -- ---- datapoint rulesets

  point-rule : (n : ℕ) (r : DatapointRule) → datapoint_in_range r ≡ true → (p : PointRule) → datapoints.rule_typed scope place n r ≡ Ok p → is_point_rule s p ≡ true
  point-rule n r ranged p h =
      let rule : Option CheckedExpr → CheckedExpr → PointRule = λ condition value. record { name = rule_name n r.name; condition = condition; value = value; error = error_of r.fault } in
      let condition = gave (condition_typed scope place r.condition) (λ c. boolean_typed scope place r.expr >>= (λ v. Ok (rule c v))) p h in
      let value = gave (boolean_typed scope place r.expr) (λ v. Ok (rule condition.0 v)) p condition.2 in
      subst (λ (q : PointRule). is_point_rule s q ≡ true) (answered (rule condition.0 value.0) p value.2)
      (both (is_condition s condition.0) (is_truth s value.0)
      (condition-is r.condition (left (condition_in_range r.condition) (literals_in_range r.expr) ranged) condition.0 condition.1)
      (truth-is r.expr (right (condition_in_range r.condition) (literals_in_range r.expr) ranged) value.0 value.1))

  point-rules : (ns : List ℕ) (rs : List DatapointRule) → list_all datapoint_in_range rs ≡ true
      → list_all (λ (p : ℕ × DatapointRule). option_map_or (is_point_rule s) (given (datapoints.rule_typed scope place p.0 p.1)) true) (zip ns rs) ≡ true
  point-rules [] [] ranged = refl
  point-rules [] (r ∷ rs) ranged = refl
  point-rules (n ∷ ns) [] ranged = refl
  point-rules (n ∷ ns) (r ∷ rs) ranged =
      let one = option_map_or (is_point_rule s) (given (datapoints.rule_typed scope place n r)) true in
      let others = list_all (λ (p : ℕ × DatapointRule). option_map_or (is_point_rule s) (given (datapoints.rule_typed scope place p.0 p.1)) true) (zip ns rs) in
      both one others
      (given-is (is_point_rule s) (datapoints.rule_typed scope place n r) (point-rule n r (left (datapoint_in_range r) (list_all datapoint_in_range rs) ranged)))
      (point-rules ns rs (right (datapoint_in_range r) (list_all datapoint_in_range rs) ranged))

  point-rules-are : (rs : List DatapointRule) → list_all datapoint_in_range rs ≡ true → list_all (is_point_rule s) (datapoints.rules_typed scope place rs) ≡ true
  point-rules-are rs ranged = made-all (λ (p : ℕ × DatapointRule). given (datapoints.rule_typed scope place p.0 p.1)) (is_point_rule s) (numbered rs) (point-rules (range_with_len 1 (length rs)) rs ranged)

  -- ---- hierarchical rulesets

  abbrev has_condition : ItemRule → Bool
  has_condition r = is_condition s r.condition

  item-rule : (n : ℕ) (r : HierarchyRule) → hierarchy_in_range r ≡ true → (p : ItemRule) → hierarchies.rule_typed scope place n r ≡ Ok p → has_condition p ≡ true
  item-rule n r ranged p h =
      let rule : Option CheckedExpr → ItemRule = λ condition. record {
        name = rule_name n r.name;
        condition = condition;
        left = r.left;
        relation = r.relation;
        right = record { sign = unwrap_or r.sign Plus; item = r.first } ∷ map signed r.others;
        error = error_of r.fault;
      } in
      let condition = gave (condition_typed scope place r.condition) (λ c. Ok (rule c)) p h in
      subst (λ (q : ItemRule). has_condition q ≡ true) (answered (rule condition.0) p condition.2) (condition-is r.condition ranged condition.0 condition.1)

  item-rules : (ns : List ℕ) (rs : List HierarchyRule) → list_all hierarchy_in_range rs ≡ true
      → list_all (λ (p : ℕ × HierarchyRule). option_map_or has_condition (given (hierarchies.rule_typed scope place p.0 p.1)) true) (zip ns rs) ≡ true
  item-rules [] [] ranged = refl
  item-rules [] (r ∷ rs) ranged = refl
  item-rules (n ∷ ns) [] ranged = refl
  item-rules (n ∷ ns) (r ∷ rs) ranged =
      let one = option_map_or has_condition (given (hierarchies.rule_typed scope place n r)) true in
      let others = list_all (λ (p : ℕ × HierarchyRule). option_map_or has_condition (given (hierarchies.rule_typed scope place p.0 p.1)) true) (zip ns rs) in
      both one others
      (given-is has_condition (hierarchies.rule_typed scope place n r) (item-rule n r (left (hierarchy_in_range r) (list_all hierarchy_in_range rs) ranged)))
      (item-rules ns rs (right (hierarchy_in_range r) (list_all hierarchy_in_range rs) ranged))

  item-rules-are : (rs : List HierarchyRule) → list_all hierarchy_in_range rs ≡ true → list_all has_condition (hierarchies.rules_typed scope place rs) ≡ true
  item-rules-are rs ranged = made-all (λ (p : ℕ × HierarchyRule). given (hierarchies.rule_typed scope place p.0 p.1)) has_condition (numbered rs) (item-rules (range_with_len 1 (length rs)) rs ranged)

-- ---- uses

pub datapoint-typed : (r : DatapointRules) (stated : Option RowsOutput) (place : Place) (s : List Component) (d : CheckedDatapoint) → list_all datapoint_in_range r.rules ≡ true → datapoint_checked r stated place s ≡ Ok d → is_datapoint s d ≡ true
datapoint-typed r stated place s d ranged h =
    let output = unwrap_or stated Invalid in
    let value : CheckedDatapoint = record { rules = datapoints.rules_typed (scope_of_rules r.variables s) place r.rules; output = output } in
    let rows = datapoints.unordered output s in
    let faults = flat_map (datapoints.rule_faults (scope_of_rules r.variables s) place) r.rules ++ unmet ((names_differ rows, fault.NameTwice) ∷ (has_room rows, fault.TooManyComponents) ∷ []) in
    let known = gave (demanded (are_known r.variables s) fault.UnknownComponent place) (λ (known : Unit {0}). unless_faulty place faults value) d h in
    let is = told place faults value d known.2 in
    subst (λ (e : CheckedDatapoint). is_datapoint s e ≡ true) is.1 (point-rules-are s place r.variables r.rules ranged)

-- an item is a string identifier, where it is both
item-there : (s : List Component) (item : ℕ) → passes (λ c. is_kind c.kind Text) s item ≡ true → passes (has_role Identifier) s item ≡ true → is_at has_items s item ≡ true
item-there s item text identifier = by_component (slice_get s item) text identifier
  where
    by_component : (o : Option Component) → option_map_or (λ (c : Component). is_kind c.kind Text) o false ≡ true → option_map_or (has_role Identifier) o false ≡ true → option_map_or has_items o false ≡ true
    by_component None a b = cc
    by_component (Some c) a b = both (has_role Identifier c) (is_kind c.kind Text) b a

content-is : (r : HierarchyRules) (item : ℕ) (mode : Option Mode) (place : Place) (s : List Component) (further : List (Bool × Fault)) → list_all hierarchy_in_range r.rules ≡ true
    → first_fault (condition_faults r place s ++ unmet (demands_of r item s ++ further)) ≡ None → is_content s (content_of r item mode place s) ≡ true
content-is r item mode place s further ranged none =
    let ds = demands_of r item s ++ further in
    let met = all-met ds (last-none (condition_faults r place s) (unmet ds) (none-told (condition_faults r place s ++ unmet ds) none)) in
    let more = list_all (λ (d : Bool × Fault). d.0) further in
    let text = passes (λ c. is_kind c.kind Text) s item in
    let numeric = are_numeric s && text in
    let single = has_one_measure s in
    let identifier = passes (has_role Identifier) s item in
    let conditions = list_all (may_condition s item) (variables_of r) in
    let fit = identifier && conditions in
    let first = left numeric (single && (fit && more)) met in
    let later = right numeric (single && (fit && more)) met in
    let own = left fit more (right single (fit && more) later) in
    both (is_at has_items s item && (single && are_numeric s)) (list_all (λ (h : ItemRule). is_condition s h.condition) (hierarchies.rules_typed (scope_of_rules (variables_of r) s) place r.rules))
    (both (is_at has_items s item) (single && are_numeric s) (item-there s item (right (are_numeric s) text first) (left identifier conditions own)) (both single (are_numeric s) (left single (fit && more) later) (left (are_numeric s) text first)))
    (item-rules-are s place (variables_of r) r.rules ranged)

module _ (r : HierarchyRules) (stated : Option (List ℕ)) (mode : Option Mode) (place : Place) (s : List Component) (ranged : list_all hierarchy_in_range r.rules ≡ true) where
  hierarchy-is : (further : List (Bool × Fault)) (wrap : HierarchyContent → CheckedHierarchy) (h : CheckedHierarchy) → ((c : HierarchyContent) → is_content s c ≡ true → is_hierarchy s (wrap c) ≡ true)
      → hierarchy_checked r stated further (λ item. wrap (content_of r item mode place s)) place s ≡ Ok h → is_hierarchy s h ≡ true
  hierarchy-is further wrap h well e =
      let faults = λ (item : ℕ). condition_faults r place s ++ unmet (demands_of r item s ++ further) in
      let value = λ (item : ℕ). wrap (content_of r item mode place s) in
      let whole = λ (item : ℕ). unless_faulty place (faults item) (value item) in
      let item = gave (or_refused (bare_number_of (frame_of s) (unwrap_or stated r.component)) fault.UnknownComponent place) (λ item. demanded (are_known (variables_of r) s) fault.UnknownComponent place >>= (λ known. whole item)) h e in
      let known = gave (demanded (are_known (variables_of r) s) fault.UnknownComponent place) (λ (known : Unit {0}). whole item.0) h item.2 in
      let is = told place (faults item.0) (value item.0) h known.2 in
      subst (λ (k : CheckedHierarchy). is_hierarchy s k ≡ true) is.1 (well (content_of r item.0 mode place s) (content-is r item.0 mode place s further ranged is.0))

  pub computed-typed : (i : Option HierarchyInput) (o : Option HierarchyOutput) (h : CheckedHierarchy) → computed_checked r stated mode i o place s ≡ Ok h → is_hierarchy s h ≡ true
  computed-typed i o h = hierarchy-is [] (λ c. Computed c (unwrap_or i input.Rule) (unwrap_or o output.Computed)) h (λ c well. well)

  pub checked-typed : (i : Option CheckInput) (o : Option RowsOutput) (h : CheckedHierarchy) → checked_checked r stated mode i o place s ≡ Ok h → is_hierarchy s h ≡ true
  checked-typed i o h = hierarchy-is (rows_demanded (unwrap_or o Invalid) s) (λ c. Checked c (unwrap_or i check_input.Dataset) (unwrap_or o Invalid)) h (λ c well. well)

-- ---- rulesets by name

pub datapoint-ranged : (rs : List Ruleset) (name : List ℕ) (r : DatapointRules) → list_all ruleset_in_range rs ≡ true → datapoint_called rs name ≡ Some r → list_all datapoint_in_range r.rules ≡ true
datapoint-ranged [] name r ranged is = cc
datapoint-ranged (own ∷ rs) name r ranged is = by_ruleset own (left (ruleset_in_range own) (list_all ruleset_in_range rs) ranged) (datapoint-ranged rs name r (right (ruleset_in_range own) (list_all ruleset_in_range rs) ranged)) is
  where
    by_ruleset : (x : Ruleset) → ruleset_in_range x ≡ true → (datapoint_called rs name ≡ Some r → list_all datapoint_in_range r.rules ≡ true) → option_or (datapoint_at name x) (datapoint_called rs name) ≡ Some r → list_all datapoint_in_range r.rules ≡ true
    by_ruleset (rules.Datapoint d) good later i = by_name (same_text name d.name) i
      where
        by_name : (b : Bool) → option_or (if b then Some d else None) (datapoint_called rs name) ≡ Some r → list_all datapoint_in_range r.rules ≡ true
        by_name true j = let same : d ≡ r = cc in subst (λ (x : DatapointRules). list_all datapoint_in_range x.rules ≡ true) same good
        by_name false j = later j
    by_ruleset (rules.Hierarchy d) good later i = later i

pub hierarchy-ranged : (rs : List Ruleset) (name : List ℕ) (r : HierarchyRules) → list_all ruleset_in_range rs ≡ true → hierarchy_called rs name ≡ Some r → list_all hierarchy_in_range r.rules ≡ true
hierarchy-ranged [] name r ranged is = cc
hierarchy-ranged (own ∷ rs) name r ranged is = by_ruleset own (left (ruleset_in_range own) (list_all ruleset_in_range rs) ranged) (hierarchy-ranged rs name r (right (ruleset_in_range own) (list_all ruleset_in_range rs) ranged)) is
  where
    by_ruleset : (x : Ruleset) → ruleset_in_range x ≡ true → (hierarchy_called rs name ≡ Some r → list_all hierarchy_in_range r.rules ≡ true) → option_or (hierarchy_at name x) (hierarchy_called rs name) ≡ Some r → list_all hierarchy_in_range r.rules ≡ true
    by_ruleset (rules.Hierarchy d) good later i = by_name (same_text name d.name) i
      where
        by_name : (b : Bool) → option_or (if b then Some d else None) (hierarchy_called rs name) ≡ Some r → list_all hierarchy_in_range r.rules ≡ true
        by_name true j = let same : d ≡ r = cc in subst (λ (x : HierarchyRules). list_all hierarchy_in_range x.rules ≡ true) same good
        by_name false j = later j
    by_ruleset (rules.Datapoint d) good later i = later i
