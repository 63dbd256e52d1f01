-- What typing answers is well typed: components and aggregates.
use Rattle.std.proofs.Common.{◌≡◌, ℕ, Bool, true, false, List, [], ◌∷◌, Option, Some, None, Result, Ok, find, refl, sym, ap, subst, ◌∙◌}
use Rattle.std.specs.Prelude.{IfOk, option_and_then, slice_get, if◌then◌else◌}
use Rattle.std.specs.Option.{option_map, option_map_or}
use Rattle.vtl_values.specs.declared.kind.Kind.{Kind}
use Rattle.vtl_values.specs.declared.kind.Kind.TheVariants.{Integer, Number, Text, Truth}
use Rattle.vtl_values.specs.declared.place.Place.{Place}
use Rattle.vtl_syntax.specs.declared.words.AggregateFunction.{AggregateFunction}
use Rattle.scalar_trees.specs.declared.tree.CheckedExpr.{CheckedExpr, ind-CheckedExpr, roll-CheckedExpr, out-roll-CheckedExpr}
use Rattle.scalar_trees.specs.declared.tree.CheckedExpr.TheVariants as tree
use Rattle.scalar_trees.specs.declared.tree.CheckedExpr.TheOpen.{CheckedExpr-F}
use Rattle.scalar_trees.specs.Kinds.{agreed, aggregate_takes, aggregate_gives}
use Rattle.scalar_trees.specs.WellTyped.{is_kind, is_some_kind, is_exactly, given, is_of_kind}
use Rattle.scalar_trees.specs.declared.typing.scope.Basis.{Basis}
use Rattle.scalar_trees.specs.declared.typing.scope.Basis.TheVariants.{Point, Group}
use Rattle.scalar_trees.specs.declared.typing.scope.Column.{Column}
use Rattle.scalar_trees.specs.declared.typing.scope.Scope.{Scope}
use Rattle.scalar_trees.specs.declared.typing.scope.Slot.{Slot}
use Rattle.scalar_trees.specs.declared.typing.stop.TypeStop.{TypeStop}
use Rattle.scalar_trees.specs.declared.typing.stop.Fault.TheVariants.{WrongStructure}
use Rattle.scalar_trees.specs.declared.typing.typed.Typed.{Typed}
use Rattle.scalar_trees.specs.typing.Steps.{◌>>=◌, or_refused}
use Rattle.scalar_trees.specs.typing.Scopes.{kind_at, slot_at, seen_slot, is_seen, kinds_of, named, member, bare_number, first_number, is_member}
use Rattle.scalar_trees.specs.typing.Scalars.{typed_as, joint, slot_typed, component_typed, component_number, number_step, aggregate_typed, count_at}
use Rattle.scalar_trees.specs.typing.Sound.{IsTyped}
use Rattle.scalar_trees.proofs.typing.Sound.{is_kind-refl, is_kind-same, rolled, Sound, after, answered, joint-agreed, given-is}
use Rattle.scalar_trees.proofs.typing.SoundSets.{own-kind}

-- ---- components

-- a component that is found has the number at which it is found
slot-own : (columns : List Column) (basis : Basis) (n : ℕ) (slot : Slot) → slot_at columns basis n ≡ Some slot → slot_at columns basis slot.number ≡ Some slot
slot-own columns basis n slot e = at (slice_get columns n) refl e
  where
    seen : (c : Column) (b : Bool) → slice_get columns n ≡ Some c → is_seen basis c ≡ b → (if b then Some (record { number = n; kind = c.kind }) else None) ≡ Some slot → slot_at columns basis slot.number ≡ Some slot
    seen c true f s h =
        let made : Slot = record { number = n; kind = c.kind } in
        let same : made ≡ slot = cc in
        subst (λ m. slot_at columns basis m ≡ Some slot) (ap (λ (t : Slot). t.number) same) e
    seen c false f s h = cc

    at : (o : Option Column) → slice_get columns n ≡ o → option_and_then (seen_slot basis n) o ≡ Some slot → slot_at columns basis slot.number ≡ Some slot
    at None f h = cc
    at (Some c) f h = seen c (is_seen basis c) f refl h

found-own : (columns : List Column) (basis : Basis) (n : Option ℕ) (slot : Slot) → option_and_then (slot_at columns basis) n ≡ Some slot → slot_at columns basis slot.number ≡ Some slot
found-own columns basis None slot e = cc
found-own columns basis (Some n) slot e = slot-own columns basis n slot e

pub named-own : (scope : Scope) (basis : Basis) (name : List ℕ) (slot : Slot) → named scope basis name ≡ Some slot → slot_at scope.columns basis slot.number ≡ Some slot
named-own scope basis name slot e = found-own scope.columns basis (bare_number scope.names name) slot e

pub member-own : (scope : Scope) (basis : Basis) (alias name : List ℕ) (slot : Slot) → member scope basis alias name ≡ Some slot → slot_at scope.columns basis slot.number ≡ Some slot
member-own scope basis alias name slot e = found-own scope.columns basis (first_number (is_member alias name) scope.names) slot e

pub component-kinds : (columns : List Column) (basis : Basis) → (kinds_of columns basis).component ≡ kind_at columns basis
component-kinds columns Point = refl
component-kinds columns Group = refl

slot-typed : (columns : List Column) (basis : Basis) (slot : Slot) → slot_at columns basis slot.number ≡ Some slot → IsTyped (kinds_of columns basis) (slot_typed slot)
slot-typed columns basis slot e =
    let kind : (kinds_of columns basis).component slot.number ≡ Some slot.kind = ap (λ (f : ℕ → Option Kind). f slot.number) (component-kinds columns basis) ∙ ap (option_map (λ (s : Slot). s.kind)) e in
    rolled (kinds_of columns basis) (CheckedExpr-F.Component slot.number) (tree.rolls-Component slot.number) ∙ (λ i k. is_some_kind k (kind i))

component-sound : (columns : List Column) (basis : Basis) (o : Option Slot) (place : Place) → ((slot : Slot) → o ≡ Some slot → slot_at columns basis slot.number ≡ Some slot) → Sound (kinds_of columns basis) (component_typed o place)
unfolding Sound
component-sound columns basis None place own = tt
component-sound columns basis (Some slot) place own = slot-typed columns basis slot (own slot refl)

pub named-typed : (scope : Scope) (basis : Basis) (name : List ℕ) (place : Place) (r : Result Typed TypeStop) → IfOk r (λ t. component_typed (named scope basis name) place ≡ Ok t) → IfOk r (IsTyped (kinds_of scope.columns basis))
named-typed scope basis name place r e = answered (kinds_of scope.columns basis) (component_typed (named scope basis name) place) r (component-sound scope.columns basis (named scope basis name) place (named-own scope basis name)) e

pub member-typed : (scope : Scope) (basis : Basis) (alias name : List ℕ) (place : Place) (r : Result Typed TypeStop) → IfOk r (λ t. component_typed (member scope basis alias name) place ≡ Ok t) → IfOk r (IsTyped (kinds_of scope.columns basis))
member-typed scope basis alias name place r e = answered (kinds_of scope.columns basis) (component_typed (member scope basis alias name) place) r (component-sound scope.columns basis (member scope basis alias name) place (member-own scope basis alias name)) e

-- ---- aggregates

count-sound : (columns : List Column) (basis : Basis) (place : Place) → Sound (kinds_of columns basis) (count_at place basis)
unfolding Sound
count-sound columns Point place = tt
count-sound columns Group place = rolled (kinds_of columns Group) CheckedExpr-F.CountAll tree.rolls-CountAll

pub count-typed : (columns : List Column) (basis : Basis) (place : Place) (r : Result Typed TypeStop) → IfOk r (λ t. count_at place basis ≡ Ok t) → IfOk r (IsTyped (kinds_of columns basis))
count-typed columns basis place r e = answered (kinds_of columns basis) (count_at place basis) r (count-sound columns basis place) e

-- a tree with a number is a component
number-tree : (t : CheckedExpr) (n : ℕ) → component_number t ≡ Some n → t ≡ tree.Component n
number-tree t n = ind-CheckedExpr (λ (d : CheckedExpr). component_number d ≡ Some n → d ≡ tree.Component n) (λ x y is e. at x (sym (ap number_step (out-roll-CheckedExpr x)) ∙ e)) t
  where
    at : (x : CheckedExpr-F CheckedExpr) → number_step x ≡ Some n → roll-CheckedExpr x ≡ tree.Component n
    at (CheckedExpr-F.Component m) e = let same : m ≡ n = cc in tree.rolls-Component m ∙ ap tree.Component same
    at _ e = cc

-- what a component is of is its kind
component-kind : (o g : Option Kind) → (λ (k : Kind). is_some_kind k o) ≡ is_exactly g → (k : Kind) × (o ≡ Some k) × (g ≡ Some k)
component-kind None None e = let no : false ≡ true = ap (λ (f : Kind → Bool). f Integer) e in cc
component-kind None (Some k) e = let no : false ≡ true = ap (λ (f : Kind → Bool). f k) e ∙ is_kind-refl k in cc
component-kind (Some Integer) None e = let no : false ≡ true = ap (λ (f : Kind → Bool). f Text) e in cc
component-kind (Some Number) None e = let no : false ≡ true = ap (λ (f : Kind → Bool). f Text) e in cc
component-kind (Some Text) None e = let no : false ≡ true = ap (λ (f : Kind → Bool). f Integer) e in cc
component-kind (Some Truth) None e = let no : false ≡ true = ap (λ (f : Kind → Bool). f Integer) e in cc
component-kind (Some h) (Some k) e = (h, refl, ap Some (sym (is_kind-same h k (ap (λ (f : Kind → Bool). f k) e ∙ is_kind-refl k))))

aggregate-sound : (columns : List Column) (f : AggregateFunction) (is_bare : Bool) (place : Place) (a : Typed) → IsTyped (kinds_of columns Point) a → Sound (kinds_of columns Group) (aggregate_typed f is_bare place a)
unfolding Sound
aggregate-sound columns f is_bare place a h = after (kinds_of columns Group) (joint place (aggregate_takes f) (a.kind ∷ [])) (λ kind. or_refused (if is_bare then component_number a.tree else None) WrongStructure place >>= (λ number. Ok (typed_as (aggregate_gives f kind) (tree.Aggregate f number)))) (λ q e. at q e is_bare (component_number a.tree) refl)
  where
    made : (q : Kind) → joint place (aggregate_takes f) (a.kind ∷ []) ≡ Ok q → (n : ℕ) → component_number a.tree ≡ Some n → IsTyped (kinds_of columns Group) (typed_as (aggregate_gives f q) (tree.Aggregate f n))
    made q e n m =
        let own : (λ (k : Kind). is_some_kind k (kind_at columns Point n)) ≡ is_exactly a.kind = sym (rolled (kinds_of columns Point) (CheckedExpr-F.Component n) (tree.rolls-Component n)) ∙ ap (is_of_kind (kinds_of columns Point)) (sym (number-tree a.tree n m)) ∙ h in
        let found = component-kind (kind_at columns Point n) a.kind own in
        let first : find (is_kind found.0) (aggregate_takes f) ≡ Some q = own-kind f found.0 q (ap (λ (g : Option Kind). agreed (aggregate_takes f) (g ∷ [])) (sym found.2) ∙ joint-agreed (kinds_of columns Group) place (aggregate_takes f) (a.kind ∷ []) q e) in
        rolled (kinds_of columns Group) (CheckedExpr-F.Aggregate f n) (tree.rolls-Aggregate f n)
        ∙ (λ i k. option_map_or (λ kind. given (aggregate_gives f) (is_kind kind) (aggregate_takes f) k) (found.1 i) false)
        ∙ given-is (kinds_of columns Group) (aggregate_gives f) (is_kind found.0) (aggregate_takes f) q first

    at : (q : Kind) → joint place (aggregate_takes f) (a.kind ∷ []) ≡ Ok q → (b : Bool) (n : Option ℕ) → component_number a.tree ≡ n → Sound (kinds_of columns Group) (or_refused (if b then n else None) WrongStructure place >>= (λ number. Ok (typed_as (aggregate_gives f q) (tree.Aggregate f number))))
    at q e true None m = tt
    at q e true (Some n) m = made q e n m
    at q e false n m = tt

pub aggregate-typed : (columns : List Column) (f : AggregateFunction) (is_bare : Bool) (place : Place) (a : Typed) (r : Result Typed TypeStop) → IfOk r (λ t. aggregate_typed f is_bare place a ≡ Ok t) → IsTyped (kinds_of columns Point) a → IfOk r (IsTyped (kinds_of columns Group))
aggregate-typed columns f is_bare place a r e h = answered (kinds_of columns Group) (aggregate_typed f is_bare place a) r (aggregate-sound columns f is_bare place a h) e
