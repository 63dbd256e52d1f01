-- Components of a data set have their kinds on its frame.
use Rattle.std.proofs.Common.{◌≡◌, ℕ, suc, ◌+◌, Bool, true, false, List, [], ◌∷◌, Option, Some, refl, ap, subst, ◌∙◌, if◌then◌else◌, arith}
use Rattle.std.proofs.lemmas.List.Elements.{All-nil, All-cons}
use Rattle.std.proofs.lemmas.Option.{slice_get-map}
use Rattle.std.specs.Prelude.{slice_get, option_map, option_and_then}
use Rattle.std.specs.List.{All}
use Rattle.vtl_values.specs.declared.kind.Kind.{Kind}
use Rattle.vtl_values.specs.declared.kind.Kind.TheVariants.{Truth}
use Rattle.vtl_values.specs.declared.kind.Role.TheVariants.{Measure}
use Rattle.vtl_values.specs.declared.structure.Component.{Component}
use Rattle.scalar_trees.specs.declared.tree.CheckedExpr.TheVariants as tree
use Rattle.scalar_trees.specs.declared.tree.CheckedExpr.TheOpen.{CheckedExpr-F}
use Rattle.scalar_trees.specs.WellTyped.{Kinds, is_some_kind}
use Rattle.scalar_trees.specs.declared.typing.scope.Basis.TheVariants.{Point}
use Rattle.scalar_trees.specs.declared.typing.scope.Column.{Column}
use Rattle.scalar_trees.specs.typing.Scalars.{typed_as}
use Rattle.scalar_trees.specs.typing.Scopes.{column_of, seen_slot}
use Rattle.scalar_trees.specs.typing.Sound.{IsTyped}
use Rattle.scalar_trees.proofs.typing.Sound.{rolled}
use Rattle.data_set_trees.specs.declared.clauses.clause.CheckedMeasure.{CheckedMeasure}
use Rattle.data_set_trees.specs.clauses.Frames.{frame_of, has_role}
use Rattle.data_set_trees.specs.clauses.WellTyped.{kinds_on, is_of}
use Rattle.data_set_trees.specs.declared.measure.Measure as declared
use Rattle.data_set_trees.specs.Components.{has_name, numbered, name_of_kind, measures_from, measures}
use Rattle.data_set_trees.specs.Members.{as_measure, member_at, member_from}
use Rattle.fitting_trees.proofs.Clauses.{whole-is}

-- a component of a kind is of that kind
pub component-is : (kinds : Kinds) (n : ℕ) (kind : Kind) → kinds.component n ≡ Some kind → IsTyped kinds (typed_as kind (tree.Component n))
component-is kinds n kind h = rolled kinds (CheckedExpr-F.Component n) (tree.rolls-Component n) ∙ (λ i k. is_some_kind k (h i))

module _ (all : List Component) where
  abbrev own : Kinds
  own = kinds_on (frame_of all)

  kind-there : (n : ℕ) (c : Component) → slice_get all n ≡ Some c → own.component n ≡ Some c.kind
  kind-there n c there = ap (λ (o : Option Column). option_map (λ s. s.kind) (option_and_then (seen_slot Point n) o)) (slice_get-map column_of all n ∙ ap (option_map column_of) there)

  module _ (shift : ℕ → ℕ) where
    -- these components stand among all from this number on, where each number is shifted
    abbrev pub AreFrom : ℕ → List Component → Type 0
    AreFrom n cs = (k : ℕ) (c : Component) → slice_get cs k ≡ Some c → slice_get all (shift (n + k)) ≡ Some c

    first-there : (n : ℕ) (c : Component) (cs : List Component) → AreFrom n (c ∷ cs) → own.component (shift n) ≡ Some c.kind
    first-there n c cs h =
        let here : n ≡ n + 0 = omega arith in
        kind-there (shift n) c (ap (λ (m : ℕ). slice_get all (shift m)) here ∙ h 0 c refl)

    rest-from : (n : ℕ) (c : Component) (cs : List Component) → AreFrom n (c ∷ cs) → AreFrom (n + 1) cs
    rest-from n c cs h k d at =
        let next : (n + 1) + k ≡ n + suc k = omega arith in
        ap (λ (m : ℕ). slice_get all (shift m)) next ∙ h (suc k) d at

    -- ---- measures

    abbrev pub IsThere : declared.Measure → Type 0
    IsThere m = own.component (shift m.number) ≡ Some m.kind

    measures-from : (n : ℕ) (cs : List Component) → AreFrom n cs → All IsThere (measures_from n cs)
    measures-from n [] h = All-nil IsThere
    measures-from n (c ∷ cs) h =
        let others = measures_from (n + 1) cs in
        let more = measures-from (n + 1) cs (rest-from n c cs h) in
        elim (has_role Measure c) as (λ (b : Bool). All IsThere (if b then numbered n c ∷ others else others)) [
          | true ↦ All-cons IsThere (numbered n c) others (first-there n c cs h) more
          | false ↦ more
        ]

    -- each measure of components that stand there has its kind
    pub some-there : (cs : List Component) → AreFrom 0 cs → All IsThere (measures cs)
    some-there cs h = measures-from 0 cs h

  all-from : AreFrom (λ n. n) 0 all
  all-from k c at = let same : 0 + k ≡ k = omega arith in ap (slice_get all) same ∙ at

  -- each measure has its kind on the frame
  pub measures-there : All (IsThere (λ n. n)) (measures all)
  measures-there = some-there (λ n. n) all all-from

  -- ---- `a#c`

  abbrev IsOfItsKind : CheckedMeasure → Type 0
  IsOfItsKind m = is_of (frame_of all) m.kind m.value ≡ true

  as_measure-is : (c : Component) (m : CheckedMeasure) → IsOfItsKind m → IsOfItsKind (as_measure c m)
  as_measure-is c m h = elim (has_role Measure c) as (λ (b : Bool). IsOfItsKind (if b then m else record m { name = name_of_kind c.kind })) [ true ↦ h | false ↦ h ]

  member-from : (n : ℕ) (name : List ℕ) (cs : List Component) (m : CheckedMeasure) → AreFrom (λ n. n) n cs → member_from n name cs ≡ Some m → IsOfItsKind m
  member-from n name [] m h e = cc
  member-from n name (c ∷ cs) m h e = by_test (has_name name c) (member-from (n + 1) name cs m (rest-from (λ n. n) n c cs h)) e
    where
      by_test : (b : Bool) → (member_from (n + 1) name cs ≡ Some m → IsOfItsKind m) → (if b then Some (member_at n c) else member_from (n + 1) name cs) ≡ Some m → IsOfItsKind m
      by_test true later i =
          let same : member_at n c ≡ m = cc in
          subst IsOfItsKind same (as_measure-is c (record { name = c.name; kind = c.kind; value = tree.Component n }) (whole-is own Truth (typed_as c.kind (tree.Component n)) (component-is own n c.kind (first-there (λ n. n) n c cs h))))
      by_test false later i = later i

  -- the component of a name is of its kind
  pub member-is : (name : List ℕ) (m : CheckedMeasure) → member_from 0 name all ≡ Some m → is_of (frame_of all) m.kind m.value ≡ true
  member-is name m e = member-from 0 name all m all-from e
