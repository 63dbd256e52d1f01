-- What may be named on a group has values of its kind.
use Rattle.std.proofs.Common.{◌≡◌, ◌≤◌, ◌+◌, ℕ, zero, suc, Bool, true, false, cond, if◌then◌else◌, List, [], ◌∷◌, zip, length, Option, Some, None, option_map, option_and_then, refl, sym, ap, subst, ◌∙◌, arith}
use Rattle.std.specs.Prelude.{find, nat_eq, slice_get}
use Rattle.std.specs.Option.{IfSome, option_map_or, unwrap_or}
use Rattle.std.specs.List.{AllByRecursion, AllZip, cons_option, list_all}
use Rattle.std.proofs.lemmas.Bool.{eqb-true}
use Rattle.std.proofs.lemmas.List.{length-map}
use Rattle.vtl_values.specs.declared.kind.Kind.{Kind}
use Rattle.vtl_values.specs.declared.kind.Role.TheVariants.{Identifier}
use Rattle.vtl_values.specs.declared.structure.Component.{Component}
use Rattle.vtl_values.specs.declared.value.Value.{Value}
use Rattle.vtl_values.specs.declared.value.Value.TheVariants.{Null}
use Rattle.vtl_values.specs.Texts.{Fits}
use Rattle.vtl_syntax.specs.declared.words.AggregateFunction.{AggregateFunction}
use Rattle.data_model.specs.declared.TheConstants.{POINT_LIMIT}
use Rattle.structured_sets.specs.Fitting.{FitsComponent, FitsIdentifier}
use Rattle.scalar_trees.specs.Kinds.{aggregate_gives, aggregate_takes}
use Rattle.scalar_trees.specs.WellTyped.{given, is_kind, is_some_kind}
use Rattle.scalar_trees.specs.declared.typing.scope.Basis.TheVariants.{Group, Point}
use Rattle.scalar_trees.specs.declared.typing.scope.Column.{Column}
use Rattle.scalar_trees.specs.declared.typing.scope.Slot.{Slot}
use Rattle.scalar_trees.specs.typing.Scopes.{kind_at, seen_slot}
use Rattle.scalar_trees.proofs.typing.Sound.{is_kind-same, left, right}
use Rattle.scalar_meaning.specs.Kept.{IsRowOf}
use Rattle.data_set_trees.specs.clauses.After.{is_among}
use Rattle.data_set_trees.specs.clauses.Clauses.{passes_at}
use Rattle.data_set_trees.specs.clauses.Frames.{frame_of, has_role}
use Rattle.data_set_trees.specs.aggregates.Groups.{column_at, columns_from, kinds_on_groups}
use Rattle.data_set_trees.specs.aggregates.Results.{with_numbers}
use Rattle.operator_meaning.specs.aggregates.Groups.{column, group_row, value_in}
use Rattle.operator_meaning.proofs.aggregates.Reduced.{AllFit, reduced-fits}

-- ---- values of a component

-- what stands at a component's place fits it
fits-at : (cs : List Component) (vs : List Value) (n : ℕ) (c : Component) → AllZip FitsComponent cs vs → slice_get cs n ≡ Some c → FitsComponent c (unwrap_or (slice_get vs n) Null)
fits-at [] vs n c h there = cc
fits-at (d ∷ ds) [] n c h there = absurd h
fits-at (d ∷ ds) (v ∷ vs) zero c h there = let same : d ≡ c = cc in subst (λ (e : Component). FitsComponent e v) same h.0
fits-at (d ∷ ds) (v ∷ vs) (suc n) c h there = fits-at ds vs n c h.1 there

abbrev pub AllPoints : List Component → List (List Value) → Type 0
AllPoints cs points = AllByRecursion (λ values. AllZip FitsComponent cs values) points

pub column-fits : (cs : List Component) (n : ℕ) (c : Component) (points : List (List Value)) → slice_get cs n ≡ Some c → AllPoints cs points → AllByRecursion (FitsComponent c) (column n points)
column-fits cs n c [] there h = tt
column-fits cs n c (p ∷ ps) there h = (fits-at cs p n c h.0 there, column-fits cs n c ps there h.1)

of-kind : (c : Component) (vs : List Value) → AllByRecursion (FitsComponent c) vs → AllFit c.kind vs
of-kind c [] h = tt
of-kind c (v ∷ vs) h = (h.0.kind, of-kind c vs h.1)

-- ---- what may be named

-- the column with a number is its component's
columns-at : (grouping : List ℕ) (n : ℕ) (cs : List Component) (m : ℕ) → slice_get (columns_from grouping n cs) m ≡ option_map (column_at grouping (n + m)) (slice_get cs m)
columns-at grouping n [] m = refl
columns-at grouping n (c ∷ cs) zero = let same : n + 0 ≡ n = omega arith in ap (λ k. Some (column_at grouping k c)) (sym same)
columns-at grouping n (c ∷ cs) (suc m) = let same : (n + 1) + m ≡ n + suc m = omega arith in columns-at grouping (n + 1) cs m ∙ ap (λ k. option_map (column_at grouping k) (slice_get cs m)) same

module _ (cs : List Component) (grouping : List ℕ) where
  column-there : (number : ℕ) → slice_get (columns_from grouping 0 cs) number ≡ option_map (column_at grouping number) (slice_get cs number)
  column-there number = let same : 0 + number ≡ number = omega arith in columns-at grouping 0 cs number ∙ ap (λ k. option_map (column_at grouping k) (slice_get cs number)) same

  -- what an aggregate may take is a component of that kind
  its-component : (number : ℕ) (own : Kind) → is_some_kind own (kind_at (columns_from grouping 0 cs) Point number) ≡ true → (c : Component) × (slice_get cs number ≡ Some c) × (c.kind ≡ own)
  its-component number own h = at (slice_get cs number) refl (ap (λ (o : Option Column). is_some_kind own (option_map (λ s. s.kind) (option_and_then (seen_slot Point number) o))) (sym (column-there number)) ∙ h)
    where
      at : (o : Option Component) → slice_get cs number ≡ o → is_some_kind own (option_map (λ s. s.kind) (option_and_then (seen_slot Point number) (option_map (column_at grouping number) o))) ≡ true → (c : Component) × (slice_get cs number ≡ Some c) × (c.kind ≡ own)
      at None e i = cc
      at (Some c) e i = (c, e, is_kind-same c.kind own i)

  -- what may be named by itself is one of that kind by which groups are formed
  its-identifier : (number : ℕ) (own : Kind) → is_some_kind own (kind_at (columns_from grouping 0 cs) Group number) ≡ true → (c : Component) × (slice_get cs number ≡ Some c) × (c.kind ≡ own) × (is_among grouping number ≡ true)
  its-identifier number own h = at (slice_get cs number) refl (ap (λ (o : Option Column). is_some_kind own (option_map (λ s. s.kind) (option_and_then (seen_slot Group number) o))) (sym (column-there number)) ∙ h)
    where
      by_test : (b : Bool) (s : Slot) → is_some_kind own (option_map (λ (t : Slot). t.kind) (if b then Some s else None)) ≡ true → (s.kind ≡ own) × (b ≡ true)
      by_test true s i = (is_kind-same s.kind own i, refl)
      by_test false s i = cc

      at : (o : Option Component) → slice_get cs number ≡ o → is_some_kind own (option_map (λ s. s.kind) (option_and_then (seen_slot Group number) (option_map (column_at grouping number) o))) ≡ true → (c : Component) × (slice_get cs number ≡ Some c) × (c.kind ≡ own) × (is_among grouping number ≡ true)
      at None e i = cc
      at (Some c) e i = let two = by_test (is_among grouping number) (record { number = number; kind = c.kind }) i in (c, e, two.0, two.1)

-- ---- the value by which groups are formed

module _ (cs : List Component) where
  abbrev pub are_there : List ℕ → Bool
  are_there numbers = list_all (passes_at (has_role Identifier) (frame_of cs)) numbers

  value-fits : (grouping : List ℕ) (group : List Value) (number : ℕ) (c : Component) → are_there grouping ≡ true → AllZip FitsIdentifier (with_numbers cs grouping) group → slice_get cs number ≡ Some c → is_among grouping number ≡ true → FitsComponent c (value_in grouping group number)
  value-fits [] group number c are h there among = cc
  value-fits (m ∷ ms) group number c are h there among =
      let passes = passes_at (has_role Identifier) (frame_of cs) m in
      by_component (slice_get cs m) refl (left passes (are_there ms) are) (λ vs i j. value-fits ms vs number c (right passes (are_there ms) are) i there j) group h
    where
      Later : Type 0
      Later = (vs : List Value) → AllZip FitsIdentifier (with_numbers cs ms) vs → is_among ms number ≡ true → FitsComponent c (value_in ms vs number)

      by_test : (d : Component) (v : Value) (vs : List Value) (b : Bool) → slice_get cs m ≡ Some d → nat_eq number m ≡ b → FitsIdentifier d v → AllZip FitsIdentifier (with_numbers cs ms) vs → Later → FitsComponent c (option_map_or (λ q. q.1) (cond b (Some (m, v)) (find (λ q. nat_eq number q.0) (zip ms vs))) Null)
      by_test d v vs true at e own rest later =
          let one : Some d ≡ Some c = sym at ∙ ap (slice_get cs) (sym (eqb-true number m e)) ∙ there in
          let same : d ≡ c = cc in
          subst (λ (k : Component). FitsComponent k v) same own.fits
      by_test d v vs false at e own rest later = later vs rest (rw e at among)

      by_component : (o : Option Component) → slice_get cs m ≡ o → option_map_or (has_role Identifier) o false ≡ true → Later → (vs : List Value) → AllZip FitsIdentifier (cons_option o (with_numbers cs ms)) vs → FitsComponent c (value_in (m ∷ ms) vs number)
      by_component None at passes later vs i = cc
      by_component (Some d) at passes later [] i = absurd i
      by_component (Some d) at passes later (v ∷ vs) i = by_test d v vs (nat_eq number m) at refl i.0 i.1 later

  -- ---- the row

  module _ (grouping : List ℕ) (group : List Value) (points : List (List Value)) (are : are_there grouping ≡ true) (own : AllZip FitsIdentifier (with_numbers cs grouping) group) (fit : AllPoints cs points) (few : length points ≤ POINT_LIMIT) where
    named-fits : (number : ℕ) (k : Kind) → is_some_kind k ((kinds_on_groups grouping cs).component number) ≡ true → Fits k (value_in grouping group number)
    named-fits number k h =
        let c = its-identifier cs grouping number k h in
        subst (λ (q : Kind). Fits q (value_in grouping group number)) c.2 (value-fits grouping group number c.0 are own c.1 c.3).kind

    aggregated-fits : (f : AggregateFunction) (number : ℕ) (its k : Kind) → is_some_kind its ((kinds_on_groups grouping cs).aggregated number) ≡ true → given (aggregate_gives f) (is_kind its) (aggregate_takes f) k ≡ true → IfSome ((group_row grouping group points).aggregated f number) (Fits k)
    aggregated-fits f number its k h takes =
        let c = its-component cs grouping number its h in
        let all : AllFit its (column number points) = subst (λ (q : Kind). AllFit q (column number points)) c.2 (of-kind c.0 (column number points) (column-fits cs number c.0 points c.1 fit)) in
        let long : length (column number points) ≡ length points = length-map points (λ (values : List Value). unwrap_or (slice_get values number) Null) in
        reduced-fits f its k (column number points) takes all (omega (arith, few, long))

    pub group-is_row : IsRowOf (kinds_on_groups grouping cs) (group_row grouping group points)
    group-is_row = record { component = named-fits; aggregated = aggregated-fits; counted = λ h. omega (arith, few) }
