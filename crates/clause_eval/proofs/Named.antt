-- The value of the measure that a name tells.
use Rattle.std.proofs.Common.{◌≡◌, ◌≢◌, ℕ, zero, suc, List, [], ◌∷◌, zip, Option, Some, Bool, true, false, ◌&&◌, not, option_map, refl, ap, sym, subst, inl, inr}
use Rattle.std.specs.Prelude.{find, slice_get, AllPairs}
use Rattle.std.specs.Ordering.{is_eq}
use Rattle.std.proofs.lemmas.Bool.{cases_Bool}
use Rattle.std.specs.List.{All}
use Rattle.std.proofs.lemmas.Option.{slice_get_within, get_or_from_slice_get}
use Rattle.vtl_values.specs.declared.kind.Role.TheVariants.{Measure, Viral}
use Rattle.vtl_values.specs.declared.structure.Component.{Component}
use Rattle.vtl_values.specs.declared.value.Value.{Value}
use Rattle.vtl_values.specs.declared.value.Value.TheVariants.{Text}
use Rattle.vtl_values.specs.Order.{value_cmp}
use Rattle.vtl_values.proofs.Values.{value_cmp-IsTotalOrder, value_cmp-IsAntisymmetric}
use Rattle.data_model.proofs.MapLemmas.{equal, tied_to_itself}
use Rattle.data_set_trees.specs.declared.clauses.frame.Frame.{Frame}
use Rattle.data_model.specs.Maps.{if_passes}
use Rattle.scalar_meaning.specs.Comparisons.{is_null}
use Rattle.data_set_trees.specs.clauses.Frames.{has_role, numbers_of}
use Rattle.data_set_trees.proofs.clauses.Parts.{pairs_head, pairs_tail}
use Rattle.clause_meaning.specs.Clauses.{is_measure_called, measure_point, values_at}
use Rattle.clause_eval.specs.Measures.{IsMeasureAt}

-- a measure is called by its own name
called-itself : (c : Component) → has_role Measure c ≡ true → is_measure_called (Text c.name) c ≡ true
called-itself c measure = let same : is_eq (value_cmp (Text c.name) (Text c.name)) ≡ true = tied_to_itself value_cmp-IsTotalOrder (Text c.name) in rw (measure, same) refl

-- and by no other one
and_false : (b : Bool) → (b && false) ≡ false
and_false true = refl
and_false false = refl

not-called : (c d : Component) → d.name ≢ c.name → is_measure_called (Text c.name) d ≡ false
not-called c d apart = elim (cases_Bool (is_eq (value_cmp (Text c.name) (Text d.name)))) [
  | inl same ↦
      let texts : Text c.name ≡ Text d.name = value_cmp-IsAntisymmetric (Text c.name) (Text d.name) (equal (value_cmp (Text c.name) (Text d.name)) same) in
      let names : c.name ≡ d.name = cc in
      absurd (apart (sym names))
  | inr other ↦ rw other (and_false (has_role Measure d))
]

-- what all have, the one with a number has
at-number : (P : Component → Type 0) (cs : List Component) (n : ℕ) (c : Component) → All P cs → slice_get cs n ≡ Some c → P c
at-number P cs n c all there = subst P (get_or_from_slice_get cs n c c there) (all n c (slice_get_within cs n c there))

-- the value that a measure's name tells is the one with its number
pub value-called : (cs : List Component) (n : ℕ) (c : Component) (vs : List Value) → slice_get cs n ≡ Some c → has_role Measure c ≡ true → AllPairs (λ a b. a.name ≢ b.name) cs → option_map (λ (p : Component × Value). p.1) (find (λ p. is_measure_called (Text c.name) p.0) (zip cs vs)) ≡ slice_get vs n
value-called [] n c vs there measure apart = cc
value-called (d ∷ ds) zero c [] there measure apart = refl
value-called (d ∷ ds) (suc n) c [] there measure apart = refl
value-called (d ∷ ds) zero c (v ∷ vs) there measure apart =
    let same : c ≡ d = cc in
    let called : is_measure_called (Text c.name) d ≡ true = subst (λ (e : Component). is_measure_called (Text c.name) e ≡ true) same (called-itself c measure) in
    rw called refl
value-called (d ∷ ds) (suc n) c (v ∷ vs) there measure apart =
    let other : d.name ≢ c.name = at-number (λ e. d.name ≢ e.name) ds n c (pairs_head (λ a b. a.name ≢ b.name) d ds apart) there in
    rw (not-called c d other) (value-called ds n c vs there measure (pairs_tail (λ a b. a.name ≢ b.name) d ds apart))

-- the point of a measure, by its number
pub measure-point : (frame : Frame) (n : ℕ) (c : Component) (values : List Value) → IsMeasureAt frame n c → measure_point frame values (Text c.name) ≡ option_map (λ (v : Value). v ∷ values_at (numbers_of Viral frame.components) values) (if_passes (λ v. not (is_null v)) (slice_get values n))
measure-point frame n c values at = ap (λ (o : Option Value). option_map (λ (v : Value). v ∷ values_at (numbers_of Viral frame.components) values) (if_passes (λ v. not (is_null v)) o)) (value-called frame.components n c values at.there at.measure at.names_differ)
