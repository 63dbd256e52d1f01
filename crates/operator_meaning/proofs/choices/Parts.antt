-- The parts of a conditional that is well typed.
use Rattle.std.proofs.Common.{◌≡◌, ◌<◌, ℕ, List, [], ◌∷◌, ◌++◌, map, length, get_or, Bool, true, false, not, Option, Some, None, refl, sym, ap, subst, ◌∙◌}
use Rattle.std.specs.Prelude.{filter, slice_get, unwrap_or}
use Rattle.std.specs.List.{All}
use Rattle.std.proofs.lemmas.List.{append-nil}
use Rattle.std.proofs.lemmas.List.Elements.{All-nil, All-head, All-tail, All-weaker, All-map, All-filter, All-append, filter-append}
use Rattle.std.proofs.lemmas.Option.{slice_get-get_or}
use Rattle.vtl_values.specs.Structures.{IsStructure}
use Rattle.vtl_values.specs.declared.kind.Role.{Role}
use Rattle.vtl_values.specs.declared.kind.Role.TheVariants.{Identifier, Measure, Viral}
use Rattle.vtl_values.specs.declared.structure.Component.{Component}
use Rattle.structured_sets.specs.Fitting.{is_identifier, others}
use Rattle.data_set_trees.specs.clauses.After.{made}
use Rattle.data_set_trees.specs.clauses.Frames.{is_role, has_role}
use Rattle.clause_meaning.proofs.ByRole.{filter-pass, filter-none, other-role}
use Rattle.clause_meaning.proofs.Fits.{same_test}
use Rattle.data_set_trees.specs.declared.tree.Branch.{Branch}
use Rattle.data_set_trees.specs.declared.tree.Branch.TheVariants as branch
use Rattle.data_set_trees.specs.declared.tree.ChoiceMeasure.{ChoiceMeasure}
use Rattle.data_set_trees.specs.Components.{identifiers, virals, further, is_taken, unlisted}
use Rattle.data_set_trees.specs.checked.Choices.{is_branch, branches, all_virals, chosen}
use Rattle.data_set_trees.specs.checked.Operators as operators
use Rattle.operator_meaning.proofs.pairs.Joined.{Has, own-role, unlisted-role}
use Rattle.operator_meaning.specs.choices.Choices.{ChoiceOn, choice_on, condition, chosen_structure}

-- ---- operands

module _ (items : List ChoiceMeasure) (first : List Component) (structure : List Component) where
  abbrev on : Branch → Branch → Option (List Component) → Option (List Component) → ChoiceOn
  on holds fails when_holds when_fails = choice_on holds fails items (first ∷ branches when_holds when_fails) structure

  holds-structure : (h f : Branch) (s t : Option (List Component)) → is_branch h s ≡ true → chosen_structure (on h f s t) true ≡ unwrap_or s []
  holds-structure branch.DataSet f (Some s) t e = refl
  holds-structure branch.DataSet f None t e = cc
  holds-structure branch.Scalar f (Some s) t e = cc
  holds-structure branch.Scalar f None t e = refl

  fails-structure : (h f : Branch) (s t : Option (List Component)) → is_branch h s ≡ true → is_branch f t ≡ true → chosen_structure (on h f s t) false ≡ unwrap_or t []
  fails-structure branch.DataSet f None t e i = cc
  fails-structure branch.Scalar f (Some s) t e i = cc
  fails-structure h branch.DataSet s None e i = cc
  fails-structure h branch.Scalar s (Some t) e i = cc
  fails-structure branch.DataSet branch.DataSet (Some s) (Some t) e i = refl
  fails-structure branch.DataSet branch.Scalar (Some s) None e i = refl
  fails-structure branch.Scalar branch.DataSet None (Some t) e i = refl
  fails-structure branch.Scalar branch.Scalar None None e i = refl

module _ (c : ChoiceOn) (typed : operators.IsTypedChoice c.holds c.fails c.measures c.operands c.structure) where
  -- what typing says of the branch that is chosen
  abbrev pub typed_branch : Bool → Option (List Component)
  typed_branch true = typed.when_holds
  typed_branch false = typed.when_fails

  abbrev with_operands : List (List Component) → ChoiceOn
  with_operands operands = choice_on c.holds c.fails c.measures operands c.structure

  pub condition-is : condition c ≡ typed.condition
  condition-is = ap (λ (os : List (List Component)). condition (with_operands os)) typed.operands_are

  pub chosen-is : (truth : Bool) → chosen_structure c truth ≡ unwrap_or (typed_branch truth) []
  chosen-is true = ap (λ (os : List (List Component)). chosen_structure (with_operands os) true) typed.operands_are ∙ holds-structure c.measures typed.condition c.structure c.holds c.fails typed.when_holds typed.when_fails typed.holds_is
  chosen-is false = ap (λ (os : List (List Component)). chosen_structure (with_operands os) false) typed.operands_are ∙ fails-structure c.measures typed.condition c.structure c.holds c.fails typed.when_holds typed.when_fails typed.holds_is typed.fails_is

-- each of them is a structure
pub structure-at : (operands : List (List Component)) → All IsStructure operands → (n : ℕ) → n < length operands → IsStructure (unwrap_or (slice_get operands n) [])
structure-at operands all n within = subst IsStructure (sym (ap (λ (o : Option (List Component)). unwrap_or o []) (slice_get-get_or operands n [] within))) (all n [] within)

-- ---- the components of a result by role

-- what holds of the viral attributes of all structures
pub All-all_virals : (P : Component → Type 0) (before : List Component) (ss : List (List Component)) → All P before → All (λ s. All P (virals s)) ss → All P (all_virals before ss)
All-all_virals P before [] h all = h
All-all_virals P before (s ∷ ss) h all =
    All-all_virals P (before ++ further before (virals s)) ss
    (All-append P before (further before (virals s)) h (All-filter (λ c. not (is_taken c.name before)) P (virals s) (All-head (λ t. All P (virals t)) s ss all)))
    (All-tail (λ t. All P (virals t)) s ss all)

abbrev pub measure_of : ChoiceMeasure → Component
measure_of m = made Measure m.kind m.name

module _ (items : List ChoiceMeasure) (first : List Component) (ss : List (List Component)) where
  abbrev all_of : List Component
  all_of = all_virals [] (first ∷ ss)

  of_parts : (p : Component → Bool) → filter p (chosen items first ss) ≡ (filter p (map unlisted (identifiers first)) ++ filter p (map measure_of items)) ++ filter p all_of
  of_parts p =
      filter-append p (map unlisted (identifiers first) ++ map measure_of items) all_of
      ∙ ap (λ (q : List Component). q ++ filter p all_of) (filter-append p (map unlisted (identifiers first)) (map measure_of items))

  parts : (p : Component → Bool) (i m v : List Component) → filter p (map unlisted (identifiers first)) ≡ i → filter p (map measure_of items) ≡ m → filter p all_of ≡ v → filter p (chosen items first ss) ≡ (i ++ m) ++ v
  parts p i m v x y z = of_parts p ∙ (λ q. (x q ++ y q) ++ z q)

  identify : All (Has Identifier) (map unlisted (identifiers first))
  identify =
      All-map (Has Identifier) unlisted (identifiers first)
      (All-weaker (Has Identifier) (λ c. Has Identifier (unlisted c)) (λ c h. unlisted-role Identifier c ∙ h) (identifiers first) (own-role Identifier first))

  measure : All (Has Measure) (map measure_of items)
  measure = All-map (Has Measure) measure_of items (λ k m within. refl)

  viral : All (Has Viral) all_of
  viral = All-all_virals (Has Viral) [] (first ∷ ss) (All-nil (Has Viral)) (λ k s within. own-role Viral (get_or (first ∷ ss) k s))

  -- those of a role have no other one
  none-of : (r q : Role) (cs : List Component) → is_role r q ≡ false → All (Has q) cs → filter (has_role r) cs ≡ []
  none-of r q cs apart all = filter-none (has_role r) cs (All-weaker (Has q) (λ c. has_role r c ≡ false) (other-role r q apart) cs all)

  pub chosen-identifiers : identifiers (chosen items first ss) ≡ map unlisted (identifiers first)
  chosen-identifiers =
      parts (has_role Identifier) (map unlisted (identifiers first)) [] []
      (filter-pass (has_role Identifier) (map unlisted (identifiers first)) identify)
      (none-of Identifier Measure (map measure_of items) refl measure)
      (none-of Identifier Viral all_of refl viral)
      ∙ append-nil (map unlisted (identifiers first) ++ []) ∙ append-nil (map unlisted (identifiers first))

  pub chosen-virals : virals (chosen items first ss) ≡ all_of
  chosen-virals =
      parts (has_role Viral) [] [] all_of
      (none-of Viral Identifier (map unlisted (identifiers first)) refl identify)
      (none-of Viral Measure (map measure_of items) refl measure)
      (filter-pass (has_role Viral) all_of viral)

  is-other : (r : Role) → is_role Identifier r ≡ false → (c : Component) → Has r c → not (is_identifier c) ≡ true
  is-other r apart c h = ap not (same_test c c.role ∙ other-role Identifier r apart c h)

  pub chosen-others : others (chosen items first ss) ≡ map measure_of items ++ all_of
  chosen-others =
      parts (λ c. not (is_identifier c)) [] (map measure_of items) all_of
      (filter-none (λ c. not (is_identifier c)) (map unlisted (identifiers first)) (All-weaker (Has Identifier) (λ c. not (is_identifier c) ≡ false) (λ c h. ap not (same_test c c.role ∙ h)) (map unlisted (identifiers first)) identify))
      (filter-pass (λ c. not (is_identifier c)) (map measure_of items) (All-weaker (Has Measure) (λ c. not (is_identifier c) ≡ true) (is-other Measure refl) (map measure_of items) measure))
      (filter-pass (λ c. not (is_identifier c)) all_of (All-weaker (Has Viral) (λ c. not (is_identifier c) ≡ true) (is-other Viral refl) all_of viral))
