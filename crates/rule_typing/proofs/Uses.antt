-- Uses of rulesets, from what is known of their rules and of the data set.
use Rattle.std.proofs.Common.{◌≡◌, refl, ℕ, Bool, true, false, List, [], ◌∷◌, ◌++◌, Option, Some, None, Result, Ok, IfErr, IsErrAnd, ap, sym, ◌∙◌}
use Rattle.std.specs.Prelude.{flat_map, unwrap_or}
use Rattle.vtl_values.specs.declared.place.Place.{Place}
use Rattle.vtl_values.specs.declared.structure.Component.{Component}
use Rattle.vtl_syntax.specs.declared.ruleset.DatapointRules.{DatapointRules}
use Rattle.vtl_syntax.specs.declared.ruleset.HierarchyRules.{HierarchyRules}
use Rattle.vtl_syntax.specs.declared.words.Mode.{Mode}
use Rattle.vtl_syntax.specs.declared.words.RowsOutput.{RowsOutput}
use Rattle.vtl_syntax.specs.declared.words.RowsOutput.TheVariants.{Invalid}
use Rattle.scalar_trees.specs.declared.typing.stop.Fault.{Fault}
use Rattle.scalar_trees.specs.declared.typing.stop.Fault.TheVariants.{UnknownComponent, NameTwice, TooManyComponents}
use Rattle.scalar_trees.specs.declared.typing.stop.Refusal.{Refusal}
use Rattle.scalar_trees.specs.declared.typing.stop.TypeStop.{TypeStop}
use Rattle.scalar_trees.specs.typing.Steps.{◌>>=◌, Refuses, demanded, or_refused}
use Rattle.operator_typing.proofs.Steps.{fails_after, fails_there, goes_on, passed_on, stops_same, stops_there}
use Rattle.data_set_trees.specs.declared.clauses.frame.Frame.{Frame}
use Rattle.data_set_trees.specs.clauses.Clauses.{bare_number_of}
use Rattle.data_set_trees.specs.clauses.Frames.{frame_of}
use Rattle.data_set_trees.specs.aggregates.Aggregates.{has_room, names_differ}
use Rattle.data_set_trees.specs.declared.rules.rules.CheckedDatapoint.{CheckedDatapoint}
use Rattle.data_set_trees.specs.declared.rules.rules.CheckedHierarchy.{CheckedHierarchy}
use Rattle.data_set_trees.specs.declared.rules.rules.HierarchyContent.{HierarchyContent}
use Rattle.data_set_trees.specs.rules.Datapoints.{datapoint_checked, rule_faults, rules_typed, unordered}
use Rattle.data_set_trees.specs.rules.Hierarchies.{condition_faults, content_of, demands_of, hierarchy_checked, variables_of}
use Rattle.data_set_trees.specs.rules.Rules.{are_known, first_fault, scope_of_rules, unless_faulty, unmet, value_or}
use Rattle.rule_typing.specs.Content.{content_checked, fault_of}
use Rattle.rule_typing.specs.Faults.{earlier, unless_found}
use Rattle.rule_typing.proofs.FirstFaults.{first_fault-append, unmet-append, value_or-after}

-- ---- hierarchical rulesets

module _ (r : HierarchyRules) (stated : Option (List ℕ)) (mode : Option Mode) (further : List (Bool × Fault)) (wrap : HierarchyContent → CheckedHierarchy) (place : Place) (cs : List Component) where
  -- all that is wrong, from the first of each kind
  fault_is : (item : ℕ) → first_fault (condition_faults r place cs ++ unmet (demands_of r item cs ++ further)) ≡ fault_of r (first_fault (unmet further)) place cs item
  fault_is item =
      first_fault-append (condition_faults r place cs) (unmet (demands_of r item cs ++ further)) ∙ ap (earlier (first_fault (condition_faults r place cs))) (unmet-append (demands_of r item cs) further)

  abbrev content : ℕ → HierarchyContent
  content item = content_of r item mode place cs

  wrapped : (value : HierarchyContent) (o : Option Fault) → value_or place (wrap value) o ≡ (value_or place value o >>= (λ c. Ok (wrap c)))
  wrapped value None = refl
  wrapped value (Some f) = refl

  -- a use is its content, with what the call says of it
  pub use_is : hierarchy_checked r stated further (λ item. wrap (content item)) place cs ≡ (content_checked r stated mode (first_fault (unmet further)) place cs >>= (λ c. Ok (wrap c)))
  use_is = by_item (bare_number_of (frame_of cs) (unwrap_or stated r.component))
    where
      whole : ℕ → Result CheckedHierarchy Refusal
      whole item = unless_faulty place (condition_faults r place cs ++ unmet (demands_of r item cs ++ further)) (wrap (content item))

      part : ℕ → Result HierarchyContent Refusal
      part item = value_or place (content item) (fault_of r (first_fault (unmet further)) place cs item)

      by_known : (item : ℕ) (b : Bool) → (demanded b UnknownComponent place >>= (λ known. whole item)) ≡ ((demanded b UnknownComponent place >>= (λ known. part item)) >>= (λ c. Ok (wrap c)))
      by_known item true = ap (value_or place (wrap (content item))) (fault_is item) ∙ wrapped (content item) (fault_of r (first_fault (unmet further)) place cs item)
      by_known item false = refl

      by_item : (o : Option ℕ)
          → (or_refused o UnknownComponent place >>= (λ item. demanded (are_known (variables_of r) cs) UnknownComponent place >>= (λ known. whole item)))
          ≡ ((or_refused o UnknownComponent place >>= (λ item. demanded (are_known (variables_of r) cs) UnknownComponent place >>= (λ known. part item))) >>= (λ c. Ok (wrap c)))
      by_item None = refl
      by_item (Some item) = by_known item (are_known (variables_of r) cs)

  step : HierarchyContent → Result CheckedHierarchy Refusal
  step c = Ok (wrap c)

  -- it is refused where its content is
  pub use_refused : (first : Option Fault) (answer : Result CheckedHierarchy TypeStop) (stop : TypeStop) → first ≡ first_fault (unmet further) → Refuses (content_checked r stated mode first place cs) stop → IsErrAnd answer (λ told. told ≡ stop)
      → IfErr answer (Refuses (hierarchy_checked r stated further (λ item. wrap (content item)) place cs))
  unfolding step
  use_refused first answer stop first_is refuses told =
      let meant = content_checked r stated mode (first_fault (unmet further)) place cs in
      let same : content_checked r stated mode first place cs ≡ meant = ap (λ (o : Option Fault). content_checked r stated mode o place cs) first_is in
      passed_on (hierarchy_checked r stated further (λ item. wrap (content item)) place cs) answer stop
      (stops_same (meant >>= step) (hierarchy_checked r stated further (λ item. wrap (content item)) place cs) stop (sym use_is) (stops_there meant step stop (stops_same (content_checked r stated mode first place cs) meant stop same refuses)))
      told

  pub use_told : (first : Option Fault) (value : HierarchyContent) → first ≡ first_fault (unmet further) → content_checked r stated mode first place cs ≡ Ok value → hierarchy_checked r stated further (λ item. wrap (content item)) place cs ≡ Ok (wrap value)
  unfolding step
  use_told first value first_is is =
      let meant = content_checked r stated mode (first_fault (unmet further)) place cs in
      use_is ∙ goes_on meant step value (sym (ap (λ (o : Option Fault). content_checked r stated mode o place cs) first_is) ∙ is)

module _ (r : HierarchyRules) (stated : Option (List ℕ)) (mode : Option Mode) (further : Option Fault) (place : Place) (cs : List Component) where
  abbrev named : Option ℕ → Result ℕ Refusal
  named o = or_refused o UnknownComponent place

  abbrev of_item : ℕ → Result HierarchyContent Refusal
  of_item item = value_or place (content_of r item mode place cs) (fault_of r further place cs item)

  abbrev of_known : ℕ → Result HierarchyContent Refusal
  of_known item = demanded (are_known (variables_of r) cs) UnknownComponent place >>= (λ known. of_item item)

  -- the rule component is none
  pub component_told : (name : List ℕ) (frame : Frame) (answer : Result HierarchyContent TypeStop) (stop : TypeStop) → name ≡ unwrap_or stated r.component → frame ≡ frame_of cs → Refuses (named (bare_number_of frame name)) stop → IsErrAnd answer (λ told. told ≡ stop)
      → IfErr answer (Refuses (content_checked r stated mode further place cs))
  component_told name frame answer stop name_is frame_is refuses told =
      let meant = named (bare_number_of (frame_of cs) (unwrap_or stated r.component)) in
      fails_there meant of_known answer stop (stops_same (named (bare_number_of frame name)) meant stop (λ i. named (bare_number_of (frame_is i) (name_is i))) refuses) told

  -- the rule component is one
  module _ (name : List ℕ) (frame : Frame) (item : ℕ) (name_is : name ≡ unwrap_or stated r.component) (frame_is : frame ≡ frame_of cs) (found : named (bare_number_of frame name) ≡ Ok item) where
    there : named (bare_number_of (frame_of cs) (unwrap_or stated r.component)) ≡ Ok item
    there = sym (λ i. named (bare_number_of (frame_is i) (name_is i))) ∙ found

    -- a variable isn't
    pub unknown_told : (known : Bool) (answer : Result HierarchyContent TypeStop) (stop : TypeStop) → known ≡ are_known (variables_of r) cs → Refuses (demanded known UnknownComponent place) stop → IsErrAnd answer (λ told. told ≡ stop)
        → IfErr answer (Refuses (content_checked r stated mode further place cs))
    unknown_told known answer stop known_is refuses told =
        fails_after (named (bare_number_of (frame_of cs) (unwrap_or stated r.component))) of_known item answer stop there
        (stops_there (demanded (are_known (variables_of r) cs) UnknownComponent place) (λ met. of_item item) stop
        (stops_same (demanded known UnknownComponent place) (demanded (are_known (variables_of r) cs) UnknownComponent place) stop (ap (λ (b : Bool). demanded b UnknownComponent place) known_is) refuses))
        told

    -- all variables are
    module _ (known : Bool) (fault : Option Fault) (met : Unit {0}) (known_is : known ≡ are_known (variables_of r) cs) (all_known : demanded known UnknownComponent place ≡ Ok met) (fault_is : fault ≡ fault_of r further place cs item) where
      content_is : content_checked r stated mode further place cs ≡ (unless_found place fault >>= (λ (done : Unit {0}). Ok (content_of r item mode place cs)))
      content_is =
          goes_on (named (bare_number_of (frame_of cs) (unwrap_or stated r.component))) of_known item there
          ∙ goes_on (demanded (are_known (variables_of r) cs) UnknownComponent place) (λ met. of_item item) met (ap (λ (b : Bool). demanded b UnknownComponent place) (sym known_is) ∙ all_known)
          ∙ value_or-after place (content_of r item mode place cs) (fault_of r further place cs item)
          ∙ ap (λ (o : Option Fault). unless_found place o >>= (λ (done : Unit {0}). Ok (content_of r item mode place cs))) (sym fault_is)

      pub fault_told : (answer : Result HierarchyContent TypeStop) (stop : TypeStop) → Refuses (unless_found place fault) stop → IsErrAnd answer (λ told. told ≡ stop) → IfErr answer (Refuses (content_checked r stated mode further place cs))
      fault_told answer stop refuses told =
          let next : Unit {0} → Result HierarchyContent Refusal = λ done. Ok (content_of r item mode place cs) in
          passed_on (content_checked r stated mode further place cs) answer stop
          (stops_same (unless_found place fault >>= next) (content_checked r stated mode further place cs) stop (sym content_is) (stops_there (unless_found place fault) next stop refuses))
          told

      pub content_told : (value : HierarchyContent) (done : Unit {0}) → unless_found place fault ≡ Ok done → content_of r item mode place cs ≡ value → content_checked r stated mode further place cs ≡ Ok value
      content_told value done none is =
          content_is ∙ goes_on (unless_found place fault) (λ (d : Unit {0}). Ok (content_of r item mode place cs)) done none ∙ ap (λ (v : HierarchyContent). Ok v) is

-- ---- datapoint rulesets

module _ (r : DatapointRules) (stated : Option RowsOutput) (place : Place) (cs : List Component) where
  abbrev output : RowsOutput
  output = unwrap_or stated Invalid

  abbrev pub of_rows : Option Fault
  of_rows = first_fault (unmet ((names_differ (unordered output cs), NameTwice) ∷ (has_room (unordered output cs), TooManyComponents) ∷ []))

  abbrev pub of_rules : Option Fault
  of_rules = first_fault (flat_map (rule_faults (scope_of_rules r.variables cs) place) r.rules)

  abbrev checked : CheckedDatapoint
  checked = record { rules = rules_typed (scope_of_rules r.variables cs) place r.rules; output = output }

  abbrev all_faults_of : List Fault
  all_faults_of = flat_map (rule_faults (scope_of_rules r.variables cs) place) r.rules ++ unmet ((names_differ (unordered output cs), NameTwice) ∷ (has_room (unordered output cs), TooManyComponents) ∷ [])

  -- a variable is no component
  pub point_unknown_told : (known : Bool) (answer : Result CheckedDatapoint TypeStop) (stop : TypeStop) → known ≡ are_known r.variables cs → Refuses (demanded known UnknownComponent place) stop → IsErrAnd answer (λ told. told ≡ stop)
      → IfErr answer (Refuses (datapoint_checked r stated place cs))
  point_unknown_told known answer stop known_is refuses told =
      fails_there (demanded (are_known r.variables cs) UnknownComponent place) (λ met. unless_faulty place all_faults_of checked) answer stop
      (stops_same (demanded known UnknownComponent place) (demanded (are_known r.variables cs) UnknownComponent place) stop (ap (λ (b : Bool). demanded b UnknownComponent place) known_is) refuses)
      told

  -- all are
  module _ (known : Bool) (fault : Option Fault) (met : Unit {0}) (known_is : known ≡ are_known r.variables cs) (all_known : demanded known UnknownComponent place ≡ Ok met) (fault_is : fault ≡ earlier of_rules of_rows) where
    point_is : datapoint_checked r stated place cs ≡ (unless_found place fault >>= (λ (done : Unit {0}). Ok checked))
    point_is =
        goes_on (demanded (are_known r.variables cs) UnknownComponent place) (λ known. unless_faulty place all_faults_of checked) met (ap (λ (b : Bool). demanded b UnknownComponent place) (sym known_is) ∙ all_known)
        ∙ ap (value_or place checked)
        (first_fault-append (flat_map (rule_faults (scope_of_rules r.variables cs) place) r.rules) (unmet ((names_differ (unordered output cs), NameTwice) ∷ (has_room (unordered output cs), TooManyComponents) ∷ []))
        ∙ sym fault_is)
        ∙ value_or-after place checked fault

    pub point_fault_told : (answer : Result CheckedDatapoint TypeStop) (stop : TypeStop) → Refuses (unless_found place fault) stop → IsErrAnd answer (λ told. told ≡ stop) → IfErr answer (Refuses (datapoint_checked r stated place cs))
    point_fault_told answer stop refuses told =
        let next : Unit {0} → Result CheckedDatapoint Refusal = λ done. Ok checked in
        passed_on (datapoint_checked r stated place cs) answer stop
        (stops_same (unless_found place fault >>= next) (datapoint_checked r stated place cs) stop (sym point_is) (stops_there (unless_found place fault) next stop refuses))
        told

    pub point_told : (value : CheckedDatapoint) (done : Unit {0}) → unless_found place fault ≡ Ok done → checked ≡ value → datapoint_checked r stated place cs ≡ Ok value
    point_told value done none is = point_is ∙ goes_on (unless_found place fault) (λ (d : Unit {0}). Ok checked) done none ∙ ap (λ (v : CheckedDatapoint). Ok v) is
