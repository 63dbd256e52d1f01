-- The expressions of a script become others, and those become others again.
use Rattle.std.proofs.Common.{◌≡◌, Bool, List, [], ◌∷◌, ◌++◌, Option, Some, None, map, refl, sym, ap, ◌∙◌}
use Rattle.std.specs.Prelude.{option_map, find}
use Rattle.std.specs.List.{flat_map}
use Rattle.std.proofs.lemmas.Grind.{flat_map-append}
use Rattle.vtl_syntax.specs.declared.expr.Expr.{Expr}
use Rattle.vtl_syntax.specs.declared.operator.DefinedOperator.{DefinedOperator}
use Rattle.vtl_syntax.specs.declared.ruleset.Ruleset.{Ruleset}
use Rattle.vtl_syntax.specs.declared.ruleset.Ruleset.TheVariants as kind
use Rattle.vtl_syntax.specs.declared.ruleset.DatapointRule.{DatapointRule}
use Rattle.vtl_syntax.specs.declared.ruleset.HierarchyRule.{HierarchyRule}
use Rattle.vtl_syntax.specs.declared.script.Statement.{Statement}
use Rattle.vtl_syntax.specs.declared.script.Script.{Script}
use Rattle.operator_faults.specs.declared.outline.CallSite.{CallSite}
use Rattle.operator_faults.specs.declared.outline.Outline.{Outline}
use Rattle.shortest_cycles.specs.Firsts.{or_else}
use Rattle.operator_faults.specs.Calls.{sites, all_sites}
use Rattle.operator_faults.specs.Outlines.{outlined}
use Rattle.operator_faults.specs.Sketches.{of_statement, of_rule, of_condition, of_datapoint, of_hierarchy, of_ruleset, sketch_of}
use Rattle.operator_faults.proofs.Finds.{find-append}
use Rattle.replaced_calls.specs.Scripts.{statement_with, datapoint_with, hierarchy_with, ruleset_with, script_with}

-- ---- one after the other is both at once

map_twice : {A : Type 0} (h k l : A → A) → ((x : A) → h (k x) ≡ l x) → (xs : List A) → map h (map k xs) ≡ map l xs
map_twice h k l same [] = refl
map_twice h k l same (x ∷ xs) = λ i. same x i ∷ map_twice h k l same xs i

module _ (f g : Expr → Expr) where
  abbrev both : Expr → Expr
  both e = f (g e)

  option_twice : (o : Option Expr) → option_map f (option_map g o) ≡ option_map both o
  option_twice None = refl
  option_twice (Some e) = refl

  datapoint_twice : (r : DatapointRule) → datapoint_with f (datapoint_with g r) ≡ datapoint_with both r
  datapoint_twice r = λ i. record { name = r.name; condition = option_twice r.condition i; expr = both r.expr; fault = r.fault; place = r.place }

  hierarchy_twice : (r : HierarchyRule) → hierarchy_with f (hierarchy_with g r) ≡ hierarchy_with both r
  hierarchy_twice r = λ i. record r { condition = option_twice r.condition i }

  ruleset_twice : (r : Ruleset) → ruleset_with f (ruleset_with g r) ≡ ruleset_with both r
  ruleset_twice (kind.Datapoint d) = λ i. kind.Datapoint (record d { rules = map_twice (datapoint_with f) (datapoint_with g) (datapoint_with both) datapoint_twice d.rules i })
  ruleset_twice (kind.Hierarchy h) = λ i. kind.Hierarchy (record h { rules = map_twice (hierarchy_with f) (hierarchy_with g) (hierarchy_with both) hierarchy_twice h.rules i })

  pub script_twice : (os qs : List DefinedOperator) (s : Script) → script_with f os (script_with g qs s) ≡ script_with both os s
  script_twice os qs s = λ i. record { statements = map_twice (statement_with f) (statement_with g) (statement_with both) (λ x. refl) s.statements i; rulesets = map_twice (ruleset_with f) (ruleset_with g) (ruleset_with both) ruleset_twice s.rulesets i; operators = os }

-- what is the same for each expression is the same for the script
pub script_same : (f g : Expr → Expr) → ((e : Expr) → f e ≡ g e) → (os : List DefinedOperator) (s : Script) → script_with f os s ≡ script_with g os s
script_same f g same os s = λ i. script_with (λ e. same e i) os s

-- ---- the same for a script whose calls all pass

or-first : {A : Type 0} (a b : Option A) → or_else a b ≡ None → a ≡ None
or-first None b none = refl
or-first (Some x) b none = absurd (cc none)

or-second : {A : Type 0} (a b : Option A) → or_else a b ≡ None → b ≡ None
or-second None b none = none
or-second (Some x) b none = absurd (cc none)

pub none-both : {A : Type 0} (a b : Option A) → or_else a b ≡ None → (a ≡ None) × (b ≡ None)
none-both a b none = (or-first a b none, or-second a b none)

module _ (p : CallSite → Bool) where
  -- none of the calls is of that kind
  abbrev pub Passes : List Outline → Type 0
  Passes os = find p (all_sites os) ≡ None

  pub passes-first : (o : Outline) (os : List Outline) → Passes (o ∷ os) → find p (sites o) ≡ None
  passes-first o os h = (none-both (find p (sites o)) (find p (all_sites os)) (sym (find-append p (sites o) (all_sites os)) ∙ h)).0

  pub passes-rest : (o : Outline) (os : List Outline) → Passes (o ∷ os) → Passes os
  passes-rest o os h = (none-both (find p (sites o)) (find p (all_sites os)) (sym (find-append p (sites o) (all_sites os)) ∙ h)).1

  passes-both : (os qs : List Outline) → Passes (os ++ qs) → Passes os × Passes qs
  passes-both os qs h = none-both (find p (all_sites os)) (find p (all_sites qs)) (sym (find-append p (all_sites os) (all_sites qs)) ∙ sym (ap (find p) (flat_map-append sites os qs)) ∙ h)

  module _ (f g : Expr → Expr) (same : (e : Expr) → find p (sites (outlined e)) ≡ None → f e ≡ g e) where
    statements_same : (xs : List Statement) → Passes (map of_statement xs) → map (statement_with f) xs ≡ map (statement_with g) xs
    statements_same [] h = refl
    statements_same (x ∷ xs) h = λ i. record x { expr = same x.expr (passes-first (of_statement x) (map of_statement xs) h) i } ∷ statements_same xs (passes-rest (of_statement x) (map of_statement xs) h) i

    condition_same : (o : Option Expr) → Passes (of_condition o) → option_map f o ≡ option_map g o
    condition_same None h = refl
    condition_same (Some e) h = ap Some (same e (passes-first (outlined e) [] h))

    datapoints_same : (rs : List DatapointRule) → Passes (flat_map of_datapoint rs) → map (datapoint_with f) rs ≡ map (datapoint_with g) rs
    datapoints_same [] h = refl
    datapoints_same (r ∷ rs) h =
        let h0 = passes-both (of_datapoint r) (flat_map of_datapoint rs) h in
        let h1 = passes-both (of_condition r.condition) (of_rule r.expr) h0.0 in
        λ i. record { name = r.name; condition = condition_same r.condition h1.0 i; expr = same r.expr (passes-first (outlined r.expr) [] h1.1) i; fault = r.fault; place = r.place } ∷ datapoints_same rs h0.1 i

    hierarchies_same : (rs : List HierarchyRule) → Passes (flat_map of_hierarchy rs) → map (hierarchy_with f) rs ≡ map (hierarchy_with g) rs
    hierarchies_same [] h = refl
    hierarchies_same (r ∷ rs) h =
        let h0 = passes-both (of_hierarchy r) (flat_map of_hierarchy rs) h in
        λ i. record r { condition = condition_same r.condition h0.0 i } ∷ hierarchies_same rs h0.1 i

    ruleset_same : (r : Ruleset) → Passes (of_ruleset r) → ruleset_with f r ≡ ruleset_with g r
    ruleset_same (kind.Datapoint d) h = λ i. kind.Datapoint (record d { rules = datapoints_same d.rules h i })
    ruleset_same (kind.Hierarchy d) h = λ i. kind.Hierarchy (record d { rules = hierarchies_same d.rules h i })

    rulesets_same : (rs : List Ruleset) → Passes (flat_map of_ruleset rs) → map (ruleset_with f) rs ≡ map (ruleset_with g) rs
    rulesets_same [] h = refl
    rulesets_same (r ∷ rs) h =
        let h0 = passes-both (of_ruleset r) (flat_map of_ruleset rs) h in
        λ i. ruleset_same r h0.0 i ∷ rulesets_same rs h0.1 i

    pub script_alike : (os : List DefinedOperator) (s : Script) → Passes (sketch_of s).statements → Passes (sketch_of s).rulesets → script_with f os s ≡ script_with g os s
    script_alike os s h k = λ i. record { statements = statements_same s.statements h i; rulesets = rulesets_same s.rulesets k i; operators = os }
