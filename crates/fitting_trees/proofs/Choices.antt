-- A conditional that typing gives is well typed.
use Rattle.std.proofs.Common.{◌≡◌, refl, ℕ, ◌++◌, Bool, true, false, ◌&&◌, List, [], ◌∷◌, map, length, find, nat_eq, Option, Some, None, option_map, Ok, is_some, ap, sym, subst, ◌∙◌, if◌then◌else◌, arith}
use Rattle.std.proofs.lemmas.Bool.{eqb-true}
use Rattle.std.proofs.lemmas.List.Elements.{All-head, All-tail}
use Rattle.std.proofs.lemmas.List.Folds.{list_all-map}
use Rattle.std.specs.Prelude.{◌||◌, unwrap_or}
use Rattle.std.specs.List.{All, list_all}
use Rattle.vtl_values.specs.declared.kind.Kind.{Kind}
use Rattle.vtl_values.specs.declared.kind.Kind.TheVariants.{Integer, Number, Text, Truth}
use Rattle.vtl_values.specs.declared.kind.Role.TheVariants as role
use Rattle.vtl_values.specs.declared.place.Place.{Place}
use Rattle.vtl_values.specs.declared.structure.Component.{Component}
use Rattle.scalar_trees.specs.Kinds.{ANY, may_stand}
use Rattle.scalar_trees.specs.WellTyped.{Kinds, is_of_kind}
use Rattle.scalar_trees.specs.declared.typing.typed.Typed.{Typed}
use Rattle.scalar_trees.specs.typing.Scalars.{Agreed, joint, widened, agreeing}
use Rattle.scalar_trees.specs.typing.Sound.{IsTyped}
use Rattle.scalar_trees.specs.typing.Steps.{◌>>=◌}
use Rattle.scalar_trees.proofs.typing.Sound.{both, left, right, found-passes, joint-agreed}
use Rattle.data_set_trees.specs.clauses.After.{made}
use Rattle.data_set_trees.specs.clauses.Frames.{frame_of}
use Rattle.data_set_trees.specs.clauses.WellTyped.{kinds_on}
use Rattle.data_set_trees.specs.declared.measure.Measure.{Measure}
use Rattle.data_set_trees.specs.declared.operand.DataSet.{DataSet}
use Rattle.data_set_trees.specs.declared.operand.Operand.{Operand}
use Rattle.data_set_trees.specs.declared.operand.Operand.TheVariants as operand
use Rattle.data_set_trees.specs.declared.tree.ChoiceMeasure.{ChoiceMeasure}
use Rattle.data_set_trees.specs.Choices.{branch_of, is_truth, belongs_to as sets_belong, are_of_one as are_sets_of_one, structures_fit, in_branch, choice_measure, choice_measures, all_virals as virals_of_sets, choice_structure}
use Rattle.data_set_trees.specs.Components.{identifiers, virals, measures, further, are_alike, unlisted}
use Rattle.data_set_trees.specs.Lifted.{slot_of}
use Rattle.data_set_trees.specs.Pairs.{is_called}
use Rattle.data_set_trees.specs.Trees.{data_sets}
use Rattle.data_set_trees.specs.checked.Choices.{is_branch, branches, is_of_branch, belongs_to, are_of_one, all_virals, chosen, IsChoiceOf}
use Rattle.data_set_trees.specs.checked.Operators.{IsTypedChoice}
use Rattle.fitting_trees.proofs.Clauses.{widened-is}
use Rattle.fitting_trees.proofs.Components.{measures-there}
use Rattle.fitting_trees.proofs.Lifted.{ScalarFits, SlotFits, stands-typed}
use Rattle.fitting_trees.proofs.Scalars.{answered, gave}

-- the structures of data sets
abbrev pub structures_of : List DataSet → List (List Component)
structures_of ds = map (λ (d : DataSet). d.structure) ds

-- ---- the condition

-- the one measure of a condition, a boolean
record HasTest (ms : List Measure) : Type 0 where
  pub test : Measure
  pub one : ms ≡ test ∷ []
  pub truth : test.kind ≡ Truth

is-truth : (kind : Kind) → is_truth (Some kind) ≡ true → kind ≡ Truth
is-truth Truth h = refl
is-truth Integer h = cc
is-truth Number h = cc
is-truth Text h = cc

test-there : (ms : List Measure) → nat_eq (length ms) 1 ≡ true → list_all (λ m. is_truth (Some m.kind)) ms ≡ true → HasTest ms
test-there [] one all = cc
test-there (m ∷ []) one all = record { test = m; one = refl; truth = is-truth m.kind (left (is_truth (Some m.kind)) true all) }
test-there (m ∷ n ∷ ms) one all = absurd (omega (arith, eqb-true (length (m ∷ n ∷ ms)) 1 one))

-- ---- structures

-- the structure of a branch that is a data set
abbrev pub structure_in : Operand → Option (List Component)
structure_in (operand.Scalar t) = None
structure_in (operand.DataSet d) = Some d.structure

branch-is : (a : Operand) → is_branch (branch_of a) (structure_in a) ≡ true
branch-is (operand.Scalar t) = refl
branch-is (operand.DataSet d) = refl

branches-are : (a b : Operand) → structures_of (data_sets (a ∷ b ∷ [])) ≡ branches (structure_in a) (structure_in b)
branches-are (operand.Scalar t) (operand.Scalar u) = refl
branches-are (operand.Scalar t) (operand.DataSet e) = refl
branches-are (operand.DataSet d) (operand.Scalar u) = refl
branches-are (operand.DataSet d) (operand.DataSet e) = refl

of_one-is : (ds : List DataSet) → are_of_one (structures_of ds) ≡ are_sets_of_one ds
of_one-is [] = refl
of_one-is (d ∷ ds) = list_all-map (are_alike d.structure) (λ (e : DataSet). e.structure) ds

structures-hold : (c : DataSet) (ds : List DataSet) → structures_fit (operand.DataSet c) ds ≡ true → ((nat_eq (length (measures c.structure)) 1 && list_all (sets_belong c) ds) && are_sets_of_one ds) ≡ true
structures-hold c [] h = cc
structures-hold c (d ∷ ds) h = h

some-branch : (c : DataSet) (a b : Operand) → structures_fit (operand.DataSet c) (data_sets (a ∷ b ∷ [])) ≡ true → (is_some (structure_in a) || is_some (structure_in b)) ≡ true
some-branch c (operand.Scalar t) (operand.Scalar u) h = cc
some-branch c (operand.Scalar t) (operand.DataSet e) h = refl
some-branch c (operand.DataSet d) (operand.Scalar u) h = refl
some-branch c (operand.DataSet d) (operand.DataSet e) h = refl

virals-are : (before : List Component) (ds : List DataSet) → virals_of_sets before ds ≡ all_virals before (structures_of ds)
virals-are before [] = refl
virals-are before (d ∷ ds) = virals-are (before ++ further before (virals d.structure)) ds

-- ---- measures

-- two operands, each on its own components, are of the kind at which they agree
agreeing-typed : (K L : Kinds) (place : Place) (a b : Typed) (j : Agreed) → IsTyped K a → IsTyped L b → agreeing place ANY a b ≡ Ok j → (is_of_kind K j.left j.kind && is_of_kind L j.right j.kind) ≡ true
agreeing-typed K L place a b j h i e =
    let make : Kind → Agreed = λ kind. record { kind = kind; left = widened kind a; right = widened kind b } in
    let kinds = a.kind ∷ b.kind ∷ [] in
    let kind = gave (joint place ANY kinds) (λ kind. Ok (make kind)) j e in
    let stand : (may_stand kind.0 a.kind && (may_stand kind.0 b.kind && true)) ≡ true = found-passes (λ kind. list_all (may_stand kind) kinds) ANY kind.0 (joint-agreed K place ANY kinds kind.0 kind.1) in
    let first = widened-is K kind.0 a h (left (may_stand kind.0 a.kind) (may_stand kind.0 b.kind && true) stand) in
    let second = widened-is L kind.0 b i (left (may_stand kind.0 b.kind) true (right (may_stand kind.0 a.kind) (may_stand kind.0 b.kind && true) stand)) in
    subst (λ (u : Agreed). (is_of_kind K u.left u.kind && is_of_kind L u.right u.kind) ≡ true) (answered (make kind.0) j kind.2)
    (both (is_of_kind K (widened kind.0 a) kind.0) (is_of_kind L (widened kind.0 b) kind.0) first second)

-- what a branch may name
abbrev pub kinds_in : Operand → Kinds
kinds_in a = kinds_on (frame_of (unwrap_or (structure_in a) []))

found-fits : (kinds : Kinds) (p : Measure → Bool) (ms : List Measure) → All (λ m. SlotFits kinds (Some (slot_of m))) ms → SlotFits kinds (option_map slot_of (find p ms))
found-fits kinds p [] all = tt
found-fits kinds p (m ∷ ms) all =
    let Fits : Measure → Type 0 = λ m. SlotFits kinds (Some (slot_of m)) in
    elim (p m) as (λ (b : Bool). SlotFits kinds (option_map slot_of (if b then Some m else find p ms))) [
      | true ↦ All-head Fits m ms all
      | false ↦ found-fits kinds p ms (All-tail Fits m ms all)
    ]

in_branch-typed : (name : List ℕ) (a : Operand) → ScalarFits (kinds_in a) a → IsTyped (kinds_in a) (in_branch name a)
in_branch-typed name (operand.Scalar t) h = h
in_branch-typed name (operand.DataSet d) h =
    let kinds = kinds_on (frame_of d.structure) in
    stands-typed kinds (option_map slot_of (find (is_called name) (measures d.structure))) (found-fits kinds (is_called name) (measures d.structure) (measures-there d.structure))

module _ (place : Place) (a b : Operand) (first : ScalarFits (kinds_in a) a) (second : ScalarFits (kinds_in b) b) where
  abbrev is_of_both : ChoiceMeasure → Bool
  is_of_both m = is_of_branch (structure_in a) m.kind m.holds && is_of_branch (structure_in b) m.kind m.fails

  abbrev AreWell : List ChoiceMeasure → Type 0
  AreWell items = list_all is_of_both items ≡ true

  measure-chosen : (m : Measure) (item : ChoiceMeasure) → choice_measure place a b m ≡ Ok item → is_of_both item ≡ true
  measure-chosen m item e =
      let make : Agreed → ChoiceMeasure = λ j. record { name = m.name; kind = j.kind; holds = j.left; fails = j.right } in
      let j = gave (agreeing place ANY (in_branch m.name a) (in_branch m.name b)) (λ j. Ok (make j)) item e in
      let typed = agreeing-typed (kinds_in a) (kinds_in b) place (in_branch m.name a) (in_branch m.name b) j.0 (in_branch-typed m.name a first) (in_branch-typed m.name b second) j.1 in
      subst (λ (i : ChoiceMeasure). is_of_both i ≡ true) (answered (make j.0) item j.2) typed

  measures-chosen : (ms : List Measure) (items : List ChoiceMeasure) → choice_measures place a b ms ≡ Ok items → AreWell items
  measures-chosen [] items e = subst AreWell (answered [] items e) refl
  measures-chosen (m ∷ ms) items e =
      let item = gave (choice_measure place a b m) (λ item. choice_measures place a b ms >>= (λ others. Ok (item ∷ others))) items e in
      let others = gave (choice_measures place a b ms) (λ others. Ok (item.0 ∷ others)) items item.2 in
      subst AreWell (answered (item.0 ∷ others.0) items others.2) (both (is_of_both item.0) (list_all is_of_both others.0) (measure-chosen m item.0 item.1) (measures-chosen ms others.0 others.1))

  -- ---- whole conditionals

  -- the condition and the branches that are data sets
  abbrev pub with_branches : DataSet → List DataSet
  with_branches c = c ∷ data_sets (a ∷ b ∷ [])

  chosen-is : (items : List ChoiceMeasure) (c : DataSet) → choice_structure items (with_branches c) (identifiers c.structure) ≡ chosen items c.structure (branches (structure_in a) (structure_in b))
  chosen-is items c =
      let front = map unlisted (identifiers c.structure) ++ map (λ (m : ChoiceMeasure). made role.Measure m.kind m.name) items in
      ap (λ (virals : List Component). front ++ virals) (virals-are [] (with_branches c) ∙ ap (λ (ss : List (List Component)). all_virals [] (c.structure ∷ ss)) (branches-are a b))

  pub choice-typed : (c : DataSet) → list_all (λ m. is_truth (Some m.kind)) (measures c.structure) ≡ true → structures_fit (operand.DataSet c) (data_sets (a ∷ b ∷ [])) ≡ true → (ms : List Measure) (items : List ChoiceMeasure) → choice_measures place a b ms ≡ Ok items → IsTypedChoice (branch_of a) (branch_of b) items (structures_of (with_branches c)) (choice_structure items (with_branches c) (identifiers c.structure))
  choice-typed c truths fit ms items e =
      let sets = data_sets (a ∷ b ∷ []) in
      let single = nat_eq (length (measures c.structure)) 1 in
      let belong = list_all (sets_belong c) sets in
      let holds = structures-hold c sets fit in
      let part = left (single && belong) (are_sets_of_one sets) holds in
      let test = test-there (measures c.structure) (left single belong part) truths in
      let these = branches-are a b in
      let choice : IsChoiceOf items c.structure (structure_in a) (structure_in b) (choice_structure items (with_branches c) (identifiers c.structure)) = record {
        test = test.test;
        one = test.one;
        truth = test.truth;
        some = some-branch c a b fit;
        belong = ap (list_all (belongs_to c.structure)) (sym these) ∙ list_all-map (belongs_to c.structure) (λ (d : DataSet). d.structure) sets ∙ right single belong part;
        alike = ap are_of_one (sym these) ∙ of_one-is sets ∙ right (single && belong) (are_sets_of_one sets) holds;
        of_kind = measures-chosen ms items e;
        is_chosen = chosen-is items c;
      } in
      record {
        condition = c.structure;
        when_holds = structure_in a;
        when_fails = structure_in b;
        holds_is = branch-is a;
        fails_is = branch-is b;
        operands_are = ap (λ (ss : List (List Component)). c.structure ∷ ss) these;
        choice = choice;
      }
