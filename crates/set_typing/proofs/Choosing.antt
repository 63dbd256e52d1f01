-- A conditional on data sets is what it comes to, carried out.
use Rattle.std.proofs.Common.{◌≡◌, refl, ◌&&◌, ◌++◌, List, [], ◌∷◌, map, length, Ok, ap, sym, ◌∙◌}
use Rattle.std.specs.Prelude.{nat_eq}
use Rattle.std.proofs.lemmas.List.Folds.{list_all-map}
use Rattle.vtl_values.specs.declared.place.Place.{Place}
use Rattle.vtl_values.specs.declared.structure.Component.{Component}
use Rattle.scalar_trees.specs.declared.typing.stop.Fault.TheVariants.{WrongType, WrongStructure}
use Rattle.scalar_trees.specs.typing.Steps.{◌>>=◌}
use Rattle.data_set_trees.specs.clauses.Clauses.{demands}
use Rattle.data_set_trees.specs.declared.measure.Measure.{Measure}
use Rattle.data_set_trees.specs.declared.operand.DataSet.{DataSet}
use Rattle.data_set_trees.specs.declared.operand.Operand.{Operand}
use Rattle.data_set_trees.specs.declared.operand.Operand.TheVariants as operand
use Rattle.data_set_trees.specs.declared.tree.ChoiceMeasure.{ChoiceMeasure}
use Rattle.data_set_trees.specs.Choices.{branch_of, are_of_one, condition_fits, branches_fit, choice_measure, choice_measures, chosen_ids, choice_structure, choice_on}
use Rattle.data_set_trees.specs.Choices as meant
use Rattle.data_set_trees.specs.Components.{virals, measures, further, are_alike}
use Rattle.data_set_trees.specs.Pairs.{result_fits}
use Rattle.data_set_trees.specs.Trees.{SetAnswer, data_sets}
use Rattle.data_set_parts.specs.Joins.{by_parts}
use Rattle.data_set_parts.specs.Results.{structures_of}
use Rattle.data_set_parts.specs.Walks.{each}
use Rattle.data_set_parts.proofs.Follows.{assoc}
use Rattle.set_typing.specs.declared.chosen.Chosen.{Chosen}
use Rattle.set_typing.specs.Conditionals.{belongs, of_one, structures_fit, demanded_of, first_measures, items_of, first_identifiers, all_virals, item_component, components_with, structure_with, choice_planned, chosen_on}

-- ---- by structures

abbrev parts : DataSet → List Component
parts d = d.structure

one_same : (ds : List DataSet) → are_of_one ds ≡ of_one (map parts ds)
one_same [] = refl
one_same (d ∷ ds) = sym (list_all-map (are_alike d.structure) parts ds)

fit_same : (c : Operand) (ds : List DataSet) → meant.structures_fit c ds ≡ structures_fit c (map parts ds)
fit_same (operand.Scalar t) ds = refl
fit_same (operand.DataSet c) [] = refl
fit_same (operand.DataSet c) (d ∷ ds) =
    λ i. (nat_eq (length (measures c.structure)) 1 && sym (list_all-map (belongs c.structure) parts (d ∷ ds)) i) && one_same (d ∷ ds) i

first_same : (ds : List DataSet) → meant.first_measures ds ≡ first_measures (map parts ds)
first_same [] = refl
first_same (d ∷ ds) = refl

identifiers_same : (ds : List DataSet) → chosen_ids ds ≡ first_identifiers (map parts ds)
identifiers_same [] = refl
identifiers_same (d ∷ ds) = refl

virals_same : (before : List Component) (ds : List DataSet) → meant.all_virals before ds ≡ all_virals before (map parts ds)
virals_same before [] = refl
virals_same before (d ∷ ds) = virals_same (before ++ further before (virals d.structure)) ds

components_same : (items : List ChoiceMeasure) (ds : List DataSet) → choice_structure items ds (chosen_ids ds) ≡ components_with items (map parts ds)
components_same items ds = λ i. by_parts (identifiers_same ds i) (map item_component items) (virals_same [] ds i)

measures_same : (place : Place) (a b : Operand) (ms : List Measure) → choice_measures place a b ms ≡ each (choice_measure place a b) ms
measures_same place a b [] = refl
measures_same place a b (m ∷ ms) = λ i. choice_measure place a b m >>= (λ item. measures_same place a b ms i >>= (λ items. Ok (item ∷ items)))

-- ---- carried out

abbrev pub carried : Place → Operand → Operand → List DataSet → Chosen → SetAnswer
carried place a b sets p = Ok (chosen_on place (branch_of a) (branch_of b) sets p)

pub choice_lifts : (place : Place) (c a b : Operand) → choice_on place c a b ≡ (choice_planned place c a b >>= carried place a b (data_sets (c ∷ a ∷ b ∷ [])))
choice_lifts place c a b =
    let branches = data_sets (a ∷ b ∷ []) in
    let ds = data_sets (c ∷ a ∷ b ∷ []) in
    let bs = structures_of (a ∷ b ∷ []) in
    let ss = structures_of (c ∷ a ∷ b ∷ []) in
    let k = carried place a b ds in
    let h = choice_measure place a b in
    let asked = demanded_of place c a b bs in
    let all = each h (first_measures bs) in
    let of = λ (items : List ChoiceMeasure) (structure : List Component). k (record { items = items; structure = structure }) in
    let next = λ (items : List ChoiceMeasure). structure_with place items ss >>= (λ structure. Ok (record { items = items; structure = structure })) in
    let told : choice_measures place a b (meant.first_measures branches) ≡ all = measures_same place a b (meant.first_measures branches) ∙ ap (each h) (first_same branches) in
    let split : (items : List ChoiceMeasure) → (result_fits place (components_with items ss) >>= (λ fits. of items (components_with items ss))) ≡ (next items >>= k) = λ items.
    sym (assoc (result_fits place (components_with items ss)) (λ fits. Ok (components_with items ss)) (of items)) ∙ sym (assoc (structure_with place items ss) (λ structure. Ok (record { items = items; structure = structure })) k) in
    (λ i. demands place ((condition_fits c && branches_fit a b, WrongType) ∷ (fit_same c branches i, WrongStructure) ∷ []) >>= (λ agree. told i >>= (λ items. result_fits place (components_same items ds i) >>= (λ fits. of items (components_same items ds i)))))
    ∙ (λ i. asked >>= (λ agree. all >>= (λ items. split items i)))
    ∙ sym (assoc asked (λ met. all) (λ items. next items >>= k))
    ∙ sym (assoc (items_of place c a b bs) next k)
