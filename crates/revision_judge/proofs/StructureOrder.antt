-- The identifiers of a structure stand first.
use Rattle.std.proofs.Common.{◌≡◌, ℕ, suc, ◌<◌, ◌≤◌, List, [], ◌∷◌, ◌++◌, length, get_or, Bool, true, false, not, refl, ap, inl, inr, arith}
use Rattle.std.proofs.lemmas.Bool.{cases_Bool}
use Rattle.vtl_values.specs.declared.kind.Role.{Role}
use Rattle.vtl_values.specs.declared.kind.Role.TheVariants.{Identifier, Measure, Attribute, Viral}
use Rattle.vtl_values.specs.declared.structure.Component.{Component}
use Rattle.vtl_values.specs.Structures.{IsStructure, place_of}
use Rattle.point_sets.specs.declared.revision.RawField.{RawField}
use Rattle.point_sets.specs.declared.revision.RawField.TheVariants.{Empty}
use Rattle.structured_sets.specs.Fitting.{is_identifier}
use Rattle.revision_judge.specs.Fields.{Cell, cells, key_cells, rest_cells}

-- the component in another role
abbrev at_role : Component → Role → Component
at_role c r = record { name = c.name; role = r; kind = c.kind; codes = c.codes }

-- after a component that is no identifier stands none
later-role : (c d : Component) (r s : Role) → place_of r ≤ place_of s → is_identifier (at_role c r) ≡ false → is_identifier (at_role d s) ≡ false
later-role c d Identifier s h no' = cc
later-role c d r Measure h no' = refl
later-role c d r Attribute h no' = refl
later-role c d r Viral h no' = refl
later-role c d Measure Identifier h no' = absurd (omega (arith, h))
later-role c d Attribute Identifier h no' = absurd (omega (arith, h))
later-role c d Viral Identifier h no' = absurd (omega (arith, h))

-- where no component is an identifier, all cells are those of others
all_others : (components : List Component) (fields : List RawField) → ((k : ℕ) (d : Component) → k < length components → is_identifier (get_or components k d) ≡ false) → (key_cells components fields ≡ []) × (rest_cells components fields ≡ cells components fields)
all_others [] fields h = (refl, refl)
all_others (c ∷ cs) [] h =
    let first : is_identifier c ≡ false = h 0 c (omega arith) in
    let later = all_others cs [] (λ k d l. h (suc k) d (omega (arith, l))) in
    rw first (later.0, ap (λ (t : List Cell). (c, Empty) ∷ t) later.1)
all_others (c ∷ cs) (f ∷ fs) h =
    let first : is_identifier c ≡ false = h 0 c (omega arith) in
    let later = all_others cs fs (λ k d l. h (suc k) d (omega (arith, l))) in
    rw first (later.0, ap (λ (t : List Cell). (c, f) ∷ t) later.1)

-- no component stands after one of a later role
abbrev InOrder : List Component → Type 0
InOrder components = (i j : ℕ) (d : Component) → i < j → j < length components → place_of (get_or components i d).role ≤ place_of (get_or components j d).role

split : (components : List Component) (fields : List RawField) → InOrder components → cells components fields ≡ key_cells components fields ++ rest_cells components fields
split [] fields h = refl
split (c ∷ cs) [] h = elim (cases_Bool (is_identifier c)) [
  | inl yes' ↦ rw yes' (ap (λ (t : List Cell). (c, Empty) ∷ t) (split cs [] (λ i j d l m. h (suc i) (suc j) d (omega (arith, l)) (omega (arith, m)))))
  | inr no' ↦ let others = all_others cs [] (λ k d l. later-role c (get_or cs k d) c.role (get_or cs k d).role (h 0 (suc k) d (omega arith) (omega (arith, l))) no') in rw no' (rw (others.0, others.1) refl)
]
split (c ∷ cs) (f ∷ fs) h = elim (cases_Bool (is_identifier c)) [
  | inl yes' ↦ rw yes' (ap (λ (t : List Cell). (c, f) ∷ t) (split cs fs (λ i j d l m. h (suc i) (suc j) d (omega (arith, l)) (omega (arith, m)))))
  | inr no' ↦ let others = all_others cs fs (λ k d l. later-role c (get_or cs k d) c.role (get_or cs k d).role (h 0 (suc k) d (omega arith) (omega (arith, l))) no') in rw no' (rw (others.0, others.1) refl)
]

pub cells-in_order : (components : List Component) (fields : List RawField) → IsStructure components → cells components fields ≡ key_cells components fields ++ rest_cells components fields
cells-in_order components fields h = split components fields h.in_order
