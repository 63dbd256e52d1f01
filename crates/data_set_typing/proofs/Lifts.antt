-- A scalar operator on any operands is its plan, carried out.
use Rattle.std.proofs.Common.{◌≡◌, refl, ℕ, Bool, true, false, List, [], ◌∷◌, map, length, Option, Some, Result, Ok, unwrap_or, sym, ◌∙◌, if◌then◌else◌}
use Rattle.vtl_values.specs.declared.place.Place.{Place}
use Rattle.scalar_trees.specs.declared.typing.stop.Fault.TheVariants.{WrongType, WrongStructure}
use Rattle.scalar_trees.specs.declared.typing.stop.Refusal.{Refusal}
use Rattle.scalar_trees.specs.declared.typing.typed.Typed.{Typed}
use Rattle.scalar_trees.specs.typing.Steps.{◌>>=◌, refused}
use Rattle.data_set_trees.specs.declared.clauses.clause.CheckedMeasure.{CheckedMeasure}
use Rattle.data_set_trees.specs.clauses.Clauses.{demands}
use Rattle.data_set_trees.specs.declared.form.Form.{Form}
use Rattle.data_set_trees.specs.declared.measure.Measure.{Measure}
use Rattle.data_set_trees.specs.declared.operand.DataSet.{DataSet}
use Rattle.data_set_trees.specs.declared.operand.Operand.{Operand}
use Rattle.data_set_trees.specs.Components.{measures}
use Rattle.data_set_trees.specs.Forms.{changed_name, is_of_two}
use Rattle.data_set_trees.specs.Trees.{data_sets}
use Rattle.data_set_trees.specs.Lifted.{answer, slot_of, each_fits, set_place, checked_measure, measures_checked, on_none, on_one, on_many}
use Rattle.data_set_trees.specs.Pairs.{both, pairs_checked, result_fits, joined, on_two, lifted_on, lifted}
use Rattle.data_set_typing.specs.declared.plan.Plan.{Plan}
use Rattle.data_set_typing.specs.declared.plan.Plan.TheVariants as plan
use Rattle.data_set_parts.specs.Walks.{each}
use Rattle.data_set_typing.specs.Plans.{measure_checked, demands_on_one, items_on_one, of_one, planned_on_one, pair_checked, met_of, demands_on_two, items_on_two, of_two, planned_on_two, planned_on_none, too_many, planned_on, planned, carried_out}
use Rattle.data_set_parts.proofs.Follows.{assoc}

-- ---- one item after the other

measures_are : (form : Form) (place : Place) (operands : List Operand) (changed : Option (List ℕ)) (ms : List Measure) → measures_checked form place operands changed ms ≡ each (measure_checked form place operands changed) ms
measures_are form place operands changed [] = refl
measures_are form place operands changed (m ∷ ms) =
    let h = measure_checked form place operands changed in
    let here = answer form place operands (Some (slot_of m) ∷ []) in
    let of = λ (t : Typed). checked_measure (unwrap_or changed m.name) t in
    (λ i. here >>= (λ t. measures_are form place operands changed ms i >>= (λ others. Ok (of t ∷ others))))
    ∙ sym (assoc here (λ t. Ok (of t)) (λ y. each h ms >>= (λ ys. Ok (y ∷ ys))))

pairs_are : (form : Form) (place : Place) (operands : List Operand) (changed : Option (List ℕ)) (count : ℕ) (ps : List (Measure × Measure)) → pairs_checked form place operands changed count ps ≡ each (pair_checked form place operands changed count) ps
pairs_are form place operands changed count [] = refl
pairs_are form place operands changed count (p ∷ ps) =
    let h = pair_checked form place operands changed count in
    let here = answer form place operands (both count p) in
    let of = λ (t : Typed). checked_measure (unwrap_or changed p.0.name) t in
    (λ i. here >>= (λ t. pairs_are form place operands changed count ps i >>= (λ others. Ok (of t ∷ others))))
    ∙ sym (assoc here (λ t. Ok (of t)) (λ y. each h ps >>= (λ ys. Ok (y ∷ ys))))

-- ---- by the number of data sets

abbrev carried : Place → List DataSet → Plan → Result Operand Refusal
carried place sets p = Ok (carried_out place p sets)

none_lifts : (form : Form) (place : Place) (operands : List Operand) → on_none form place operands ≡ (planned_on_none form place operands >>= carried place [])
none_lifts form place operands = sym (assoc (answer form place operands []) (λ t. Ok (plan.Scalar t)) (carried place []))

many_lifts : (form : Form) (place : Place) (operands : List Operand) (sets : List DataSet) → on_many form place operands ≡ (too_many form place operands >>= carried place sets)
many_lifts form place operands sets = sym (assoc (demands place ((each_fits form place operands, WrongType) ∷ [])) (λ met. refused WrongStructure place) (carried place sets))

one_lifts : (form : Form) (place : Place) (operands : List Operand) (changed : Option (List ℕ)) (d : DataSet) → on_one form place operands changed d ≡ (planned_on_one form place operands changed d.structure >>= carried place (d ∷ []))
one_lifts form place operands changed d =
    let s = d.structure in
    let asked = demands_on_one form place operands changed s in
    let constants = answer form place operands [] in
    let all = each (measure_checked form place operands changed) (measures s) in
    let last : List CheckedMeasure → Result Operand Refusal = λ items. carried place (d ∷ []) (of_one s items) in
    (λ i. asked >>= (λ met. constants >>= (λ t. measures_are form place operands changed (measures s) i >>= last)))
    ∙ (λ i. asked >>= (λ met. sym (assoc constants (λ t. all) last) i))
    ∙ sym (assoc asked (λ met. constants >>= (λ t. all)) last)
    ∙ sym (assoc (items_on_one form place operands changed s) (λ items. Ok (of_one s items)) (carried place (d ∷ [])))

two_lifts : (form : Form) (place : Place) (operands : List Operand) (changed : Option (List ℕ)) (s t : DataSet) → on_two form place operands changed s t ≡ (planned_on_two form place operands changed s.structure t.structure >>= carried place (s ∷ t ∷ []))
two_lifts form place operands changed s t =
    let a = s.structure in
    let b = t.structure in
    let asked = demands_on_two form place operands changed a b in
    let met = met_of changed a b in
    let all = each (pair_checked form place operands changed (length a)) met in
    let fits = λ (items : List CheckedMeasure). result_fits place (joined items a b) in
    let k = carried place (s ∷ t ∷ []) in
    let last : List CheckedMeasure → Result Operand Refusal = λ items. fits items >>= (λ fit. k (of_two a b items)) in
    let split : (items : List CheckedMeasure) → last items ≡ ((fits items >>= (λ fit. Ok (of_two a b items))) >>= k) = λ items. sym (assoc (fits items) (λ fit. Ok (of_two a b items)) k) in
    (λ i. asked >>= (λ agree. pairs_are form place operands changed (length a) met i >>= last))
    ∙ sym (assoc asked (λ agree. all) last)
    ∙ (λ i. items_on_two form place operands changed a b >>= (λ items. split items i))
    ∙ sym (assoc (items_on_two form place operands changed a b) (λ items. fits items >>= (λ fit. Ok (of_two a b items))) k)

lifts_on : (form : Form) (place : Place) (operands : List Operand) (changed : Option (List ℕ)) (sets : List DataSet) → lifted_on form place operands changed sets ≡ (planned_on form place operands changed (map (λ (d : DataSet). d.structure) sets) >>= carried place sets)
lifts_on form place operands changed [] = none_lifts form place operands
lifts_on form place operands changed (d ∷ []) = one_lifts form place operands changed d
lifts_on form place operands changed (s ∷ t ∷ []) =
    let k = carried place (s ∷ t ∷ []) in
    elim (is_of_two form) as (λ (b : Bool). (if b then on_two form place operands changed s t else on_many form place operands) ≡ ((if b then planned_on_two form place operands changed s.structure t.structure else too_many form place operands) >>= k)) [
      | true ↦ two_lifts form place operands changed s t
      | false ↦ many_lifts form place operands (s ∷ t ∷ [])
    ]
lifts_on form place operands changed (s ∷ t ∷ u ∷ sets) = many_lifts form place operands (s ∷ t ∷ u ∷ sets)

pub lifts : (form : Form) (place : Place) (operands : List Operand) → lifted form place operands ≡ (planned form place operands >>= (λ p. Ok (carried_out place p (data_sets operands))))
lifts form place operands = lifts_on form place operands (changed_name form (set_place operands)) (data_sets operands)
