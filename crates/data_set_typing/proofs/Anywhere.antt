-- Plans depend on the structures of data sets and on nothing else of them, and not on the place of the operator.
use Rattle.std.proofs.Common.{◌≡◌, ◌∙◌, ℕ, suc, Bool, ◌&&◌, ◌++◌, List, [], ◌∷◌, length, map, Option, Some, None, Result, Ok, refl, sym, ap, if◌then◌else◌}
use Rattle.std.specs.Prelude.{unwrap_or, true, false, nat_le}
use Rattle.vtl_values.specs.declared.place.Place.{Place}
use Rattle.vtl_values.specs.declared.structure.Component.{Component}
use Rattle.scalar_trees.specs.declared.typing.scope.Slot.{Slot}
use Rattle.scalar_trees.specs.declared.typing.stop.Fault.{Fault}
use Rattle.scalar_trees.specs.declared.typing.stop.Fault.TheVariants.{WrongType, WrongStructure, NameTwice, TooManyComponents}
use Rattle.scalar_trees.specs.declared.typing.stop.Refusal.{Refusal}
use Rattle.scalar_trees.specs.declared.typing.typed.Typed.{Typed}
use Rattle.scalar_trees.specs.typing.Steps.{◌>>=◌, refused}
use Rattle.data_set_trees.specs.declared.clauses.clause.CheckedMeasure.{CheckedMeasure}
use Rattle.data_set_trees.specs.clauses.Clauses.{demands, MOST_COMPONENTS}
use Rattle.data_set_trees.specs.declared.form.Form.{Form}
use Rattle.data_set_trees.specs.declared.measure.Measure.{Measure}
use Rattle.data_set_trees.specs.declared.operand.Operand.{Operand}
use Rattle.data_set_trees.specs.declared.operand.Operand.TheVariants as operand
use Rattle.data_set_trees.specs.Components.{measures, names_differ}
use Rattle.data_set_trees.specs.Forms.{formed, changed_name, is_of_two}
use Rattle.data_set_trees.specs.Trees.{data_sets}
use Rattle.data_set_trees.specs.Lifted.{with_slots, answer, slot_of, all_fit, alone, each_fits, set_place, has_one_if, is_free, checked_measure, stands}
use Rattle.data_set_trees.specs.Pairs.{both, joined, result_fits}
use Rattle.data_set_parts.specs.Results.{structures_of}
use Rattle.data_set_parts.specs.Walks.{each}
use Rattle.data_set_typing.specs.declared.plan.Plan.{Plan}
use Rattle.data_set_typing.specs.declared.plan.Plan.TheVariants as plan
use Rattle.data_set_typing.specs.Plans as own
use Rattle.data_set_typing.specs.Known.{by_structure, by_structures, IsPlanOf}
use Rattle.data_set_typing.proofs.Places.{unplaced, Same, then_same, given_so, demands_same, formed_same, fit_same}

-- ---- operands by their structures

slots_by_structure : (slots : List (Option Slot)) (os : List Operand) → with_slots slots os ≡ with_slots slots (by_structures os)
slots_by_structure slots [] = refl
slots_by_structure slots (operand.Scalar t ∷ os) = ap (λ (ts : List Typed). t ∷ ts) (slots_by_structure slots os)
slots_by_structure [] (operand.DataSet d ∷ os) = ap (λ (ts : List Typed). stands None ∷ ts) (slots_by_structure [] os)
slots_by_structure (slot ∷ slots) (operand.DataSet d ∷ os) = ap (λ (ts : List Typed). stands slot ∷ ts) (slots_by_structure slots os)

alone_by_structure : (before : List (Option Slot)) (os : List Operand) → alone before (data_sets os) ≡ alone before (data_sets (by_structures os))
alone_by_structure before [] = refl
alone_by_structure before (operand.Scalar t ∷ os) = alone_by_structure before os
alone_by_structure before (operand.DataSet d ∷ os) =
    ap (λ (choices : List (List (Option Slot))). map (λ (m : Measure). before ++ Some (slot_of m) ∷ []) (measures d.structure) ++ choices) (alone_by_structure (before ++ None ∷ []) os)

place_by_structure : (os : List Operand) → set_place os ≡ set_place (by_structures os)
place_by_structure [] = refl
place_by_structure (operand.DataSet d ∷ os) = refl
place_by_structure (operand.Scalar t ∷ os) = ap suc (place_by_structure os)

structures_by_structure : (os : List Operand) → structures_of os ≡ structures_of (by_structures os)
structures_by_structure [] = refl
structures_by_structure (operand.Scalar t ∷ os) = structures_by_structure os
structures_by_structure (operand.DataSet d ∷ os) = ap (λ (all : List (List Component)). d.structure ∷ all) (structures_by_structure os)

-- ---- answers

answer_same : (f : Form) (p q : Place) (os : List Operand) (slots : List (Option Slot)) → Same (answer f p os slots) (answer f q (by_structures os) slots)
answer_same f p q os slots = formed_same f (with_slots slots os) p q ∙ ap (λ (ts : List Typed). unplaced (formed f q ts)) (slots_by_structure slots os)

all_fit_same : (f : Form) (p q : Place) (os : List Operand) (choices : List (List (Option Slot))) → all_fit f p os choices ≡ all_fit f q (by_structures os) choices
all_fit_same f p q os [] = refl
all_fit_same f p q os (slots ∷ choices) =
    λ i. fit_same (answer f p os slots) (answer f q (by_structures os) slots) (answer_same f p q os slots) i && all_fit_same f p q os choices i

each_fits_same : (f : Form) (p q : Place) (os : List Operand) → each_fits f p os ≡ each_fits f q (by_structures os)
each_fits_same f p q os =
    all_fit_same f p q os ([] ∷ alone [] (data_sets os)) ∙ ap (λ (choices : List (List (Option Slot))). all_fit f q (by_structures os) ([] ∷ choices)) (alone_by_structure [] os)

-- demands of which the first is met alike
first_same : (b c : Bool) (fault : Fault) (ds : List (Bool × Fault)) (p q : Place) → b ≡ c → Same (demands p ((b, fault) ∷ ds)) (demands q ((c, fault) ∷ ds))
first_same b c fault ds p q is = demands_same ((b, fault) ∷ ds) p q ∙ ap (λ (x : Bool). unplaced (demands q ((x, fault) ∷ ds))) is

each_same : {X Y : Type 0} (h k : X → Result Y Refusal) (xs : List X) → ((x : X) → Same (h x) (k x)) → Same (each h xs) (each k xs)
each_same h k [] all = refl
each_same {X} {Y} h k (x ∷ xs) all =
    let more : (X → Result Y Refusal) → Y → Result (List Y) Refusal = λ step y. each step xs >>= (λ ys. Ok (y ∷ ys)) in
    then_same (h x) (k x) (more h) (more k) (all x) (λ y. then_same (each h xs) (each k xs) (λ ys. Ok (y ∷ ys)) (λ ys. Ok (y ∷ ys)) (each_same h k xs all) (λ ys. refl))

-- ---- plans

fits_same : (cs : List Component) (p q : Place) → Same (result_fits p cs) (result_fits q cs)
fits_same cs p q = demands_same ((names_differ cs, NameTwice) ∷ (nat_le (length cs) MOST_COMPONENTS, TooManyComponents) ∷ []) p q

checked_same : (f : Form) (p q : Place) (os : List Operand) (slots : List (Option Slot)) (changed : Option (List ℕ)) (name : List ℕ) → Same (own.checked_at f p os slots changed name) (own.checked_at f q (by_structures os) slots changed name)
checked_same f p q os slots changed name =
    let next : Typed → Result CheckedMeasure Refusal = λ t. Ok (checked_measure (unwrap_or changed name) t) in
    then_same (answer f p os slots) (answer f q (by_structures os) slots) next next (answer_same f p q os slots) (λ t. refl)

one_same : (f : Form) (p q : Place) (os : List Operand) (changed : Option (List ℕ)) (s : List Component) → Same (own.planned_on_one f p os changed s) (own.planned_on_one f q (by_structures os) changed s)
one_same f p q os changed s =
    let worked : Place → List Operand → Result (List CheckedMeasure) Refusal = λ place operands. each (own.measure_checked f place operands changed) (measures s) in
    let items_same : Same (own.items_on_one f p os changed s) (own.items_on_one f q (by_structures os) changed s) =
    then_same (own.demands_on_one f p os changed s) (own.demands_on_one f q (by_structures os) changed s) (λ met. answer f p os [] >>= (λ constants. worked p os)) (λ met. answer f q (by_structures os) [] >>= (λ constants. worked q (by_structures os)))
    (first_same (each_fits f p os) (each_fits f q (by_structures os)) WrongType ((has_one_if changed (measures s), WrongStructure) ∷ (is_free changed s, NameTwice) ∷ []) p q (each_fits_same f p q os))
    (λ met. then_same (answer f p os []) (answer f q (by_structures os) []) (λ constants. worked p os) (λ constants. worked q (by_structures os)) (answer_same f p q os [])
    (λ constants. each_same (own.measure_checked f p os changed) (own.measure_checked f q (by_structures os) changed) (measures s) (λ m. checked_same f p q os (Some (slot_of m) ∷ []) changed m.name)))
    in
    then_same (own.items_on_one f p os changed s) (own.items_on_one f q (by_structures os) changed s) (λ items. Ok (own.of_one s items)) (λ items. Ok (own.of_one s items)) items_same (λ items. refl)

two_same : (f : Form) (p q : Place) (os : List Operand) (changed : Option (List ℕ)) (s t : List Component) → Same (own.planned_on_two f p os changed s t) (own.planned_on_two f q (by_structures os) changed s t)
two_same f p q os changed s t =
    let met = own.met_of changed s t in
    let fit_so : (each_fits f p os && all_fit f p os (map (both (length s)) met)) ≡ (each_fits f q (by_structures os) && all_fit f q (by_structures os) (map (both (length s)) met)) =
    λ i. each_fits_same f p q os i && all_fit_same f p q os (map (both (length s)) met) i
    in
    let worked : Place → List Operand → Result (List CheckedMeasure) Refusal = λ place operands. each (own.pair_checked f place operands changed (length s)) met in
    let items_same : Same (own.items_on_two f p os changed s t) (own.items_on_two f q (by_structures os) changed s t) =
    then_same (own.demands_on_two f p os changed s t) (own.demands_on_two f q (by_structures os) changed s t) (λ agree. worked p os) (λ agree. worked q (by_structures os))
    (first_same (each_fits f p os && all_fit f p os (map (both (length s)) met)) (each_fits f q (by_structures os) && all_fit f q (by_structures os) (map (both (length s)) met)) WrongType ((own.structures_meet changed s t, WrongStructure) ∷ []) p q fit_so)
    (λ agree. each_same (own.pair_checked f p os changed (length s)) (own.pair_checked f q (by_structures os) changed (length s)) met (λ pair. checked_same f p q os (both (length s) pair) changed pair.0.name))
    in
    let last : Place → List CheckedMeasure → Result Plan Refusal = λ place items. result_fits place (joined items s t) >>= (λ fits. Ok (own.of_two s t items)) in
    then_same (own.items_on_two f p os changed s t) (own.items_on_two f q (by_structures os) changed s t) (last p) (last q) items_same
    (λ items. then_same (result_fits p (joined items s t)) (result_fits q (joined items s t)) (λ fits. Ok (own.of_two s t items)) (λ fits. Ok (own.of_two s t items)) (fits_same (joined items s t) p q) (λ fits. refl))

many_same : (f : Form) (p q : Place) (os : List Operand) → Same (own.too_many f p os) (own.too_many f q (by_structures os))
many_same f p q os =
    then_same (demands p ((each_fits f p os, WrongType) ∷ [])) (demands q ((each_fits f q (by_structures os), WrongType) ∷ [])) (λ met. refused {A = Plan} WrongStructure p) (λ met. refused {A = Plan} WrongStructure q)
    (first_same (each_fits f p os) (each_fits f q (by_structures os)) WrongType [] p q (each_fits_same f p q os)) (λ met. refl)

on_same : (f : Form) (p q : Place) (os : List Operand) (changed : Option (List ℕ)) (structures : List (List Component)) → Same (own.planned_on f p os changed structures) (own.planned_on f q (by_structures os) changed structures)
on_same f p q os changed [] = then_same (answer f p os []) (answer f q (by_structures os) []) (λ t. Ok (plan.Scalar t)) (λ t. Ok (plan.Scalar t)) (answer_same f p q os []) (λ t. refl)
on_same f p q os changed (s ∷ []) = one_same f p q os changed s
on_same f p q os changed (s ∷ t ∷ []) =
    elim (is_of_two f) as (λ (b : Bool). Same (if b then own.planned_on_two f p os changed s t else own.too_many f p os) (if b then own.planned_on_two f q (by_structures os) changed s t else own.too_many f q (by_structures os))) [
      | true ↦ two_same f p q os changed s t
      | false ↦ many_same f p q os
    ]
on_same f p q os changed (s ∷ t ∷ u ∷ more) = many_same f p q os

planned_same : (f : Form) (p q : Place) (os : List Operand) → Same (own.planned f p os) (own.planned f q (by_structures os))
planned_same f p q os =
    on_same f p q os (changed_name f (set_place os)) (structures_of os)
    ∙ ap (λ (at : ℕ). unplaced (own.planned_on f q (by_structures os) (changed_name f at) (structures_of os))) (place_by_structure os)
    ∙ ap (λ (structures : List (List Component)). unplaced (own.planned_on f q (by_structures os) (changed_name f (set_place (by_structures os))) structures)) (structures_by_structure os)

-- a plan at one place is the plan at each, also on other data sets of the same structures
pub plan_anywhere : (f : Form) (p : Place) (os kept : List Operand) (it : Plan) → own.planned f p os ≡ Ok it → by_structures kept ≡ by_structures os → IsPlanOf f kept it
plan_anywhere f p os kept it is alike q =
    let there : own.planned f q (by_structures kept) ≡ Ok it = ap (own.planned f q) alike ∙ given_so (own.planned f p os) (own.planned f q (by_structures os)) it (planned_same f p q os) is in
    given_so (own.planned f q (by_structures kept)) (own.planned f q kept) it (sym (planned_same f q q kept)) there

-- what is known of an operator holds of the same one on operands that are alike
pub known_elsewhere : (f g : Form) (kept os : List Operand) (it copy : Plan) → IsPlanOf f kept it → f ≡ g → by_structures kept ≡ by_structures os → copy ≡ it → IsPlanOf g os copy
known_elsewhere f g kept os it copy known one alike same q =
    let there : own.planned f q os ≡ Ok it = plan_anywhere f q kept os it (known q) (sym alike) q in
    ap (λ (h : Form). own.planned h q os) (sym one) ∙ there ∙ ap (λ (x : Plan). Ok x) (sym same)

-- those that are kept are like themselves
pub kept_alike : (os : List Operand) → by_structures (by_structures os) ≡ by_structures os
kept_alike [] = refl
kept_alike (operand.Scalar t ∷ os) = ap (λ (all : List Operand). operand.Scalar t ∷ all) (kept_alike os)
kept_alike (operand.DataSet d ∷ os) = ap (λ (all : List Operand). by_structure (operand.DataSet d) ∷ all) (kept_alike os)

-- what an operator comes to is what it comes to on what is kept of its operands
pub known_here : (f g : Form) (p : Place) (os kept : List Operand) (it copy : Plan) → own.planned f p os ≡ Ok it → g ≡ f → kept ≡ by_structures os → copy ≡ it → IsPlanOf g kept copy
known_here f g p os kept it copy is one like same q =
    let alike : by_structures kept ≡ by_structures os = ap by_structures like ∙ kept_alike os in
    ap (λ (h : Form). own.planned h q kept) one ∙ plan_anywhere f p os kept it is alike q ∙ ap (λ (x : Plan). Ok x) (sym same)
