-- Operators on data sets are their structures, applied.
use Rattle.std.proofs.Common.{◌≡◌, refl, List, [], ◌∷◌, map, Option, Some, None, option_map, unwrap_or, Result, Ok, ap, sym, ◌∙◌}
use Rattle.std.specs.Prelude.{Err, IfOk, IfErr}
use Rattle.std.specs.List.{list_all}
use Rattle.std.proofs.lemmas.List.Folds.{list_all-map}
use Rattle.vtl_values.specs.declared.place.Place.{Place}
use Rattle.vtl_values.specs.declared.structure.Component.{Component}
use Rattle.vtl_syntax.specs.declared.words.ExistsRows.{ExistsRows}
use Rattle.vtl_syntax.specs.declared.words.ExistsRows.TheVariants.{All}
use Rattle.scalar_trees.specs.declared.typing.stop.Fault.TheVariants.{WrongStructure}
use Rattle.scalar_trees.specs.declared.typing.stop.TypeStop.{TypeStop}
use Rattle.scalar_trees.specs.typing.Steps.{◌>>=◌, Refuses, or_refused, demanded}
use Rattle.operator_typing.proofs.Steps.{stops_same, stops_there, goes_on}
use Rattle.data_set_trees.specs.declared.operand.DataSet.{DataSet}
use Rattle.data_set_trees.specs.declared.operand.Operand.{Operand}
use Rattle.data_set_trees.specs.declared.operand.Operand.TheVariants as operand
use Rattle.data_set_trees.specs.declared.tree.DataSetOperator.{DataSetOperator}
use Rattle.data_set_trees.specs.declared.tree.DataSetOperator.TheVariants as operator
use Rattle.data_set_trees.specs.declared.tree.SetOperation.{SetOperation}
use Rattle.data_set_trees.specs.Components.{unlisted, are_alike}
use Rattle.data_set_trees.specs.Exists as exists
use Rattle.data_set_trees.specs.Pairs.{result_fits}
use Rattle.data_set_trees.specs.Sets.{all_data_sets, set_of, sets_typed}
use Rattle.data_set_trees.specs.Trees.{SetAnswer, applied, data_sets}
use Rattle.data_set_parts.proofs.Follows.{assoc}
use Rattle.set_typing.specs.Plans.{exists_structure, exists_on, exists_planned, all_structures, set_on, sets_planned}

-- the operator on the data sets among operands, with this structure of its result
abbrev pub carried : DataSetOperator → Place → List DataSet → List Component → SetAnswer
carried o place sets structure = Ok (operand.DataSet (applied o place sets structure))

exists_lifts_on : (o : DataSetOperator) (place : Place) (s t : DataSet)
    → (demanded (exists.common_agree s.structure t.structure) WrongStructure place >>= (λ agree. result_fits place (exists.exists_structure s.structure) >>= (λ fits. carried o place (s ∷ t ∷ []) (exists.exists_structure s.structure))))
    ≡ (exists_on place s.structure t.structure >>= carried o place (s ∷ t ∷ []))
exists_lifts_on o place s t =
    let k = carried o place (s ∷ t ∷ []) in
    let asked = demanded (exists.common_agree s.structure t.structure) WrongStructure place in
    let fits = result_fits place (exists.exists_structure s.structure) in
    (λ i. asked >>= (λ agree. sym (assoc fits (λ fit. Ok (exists.exists_structure s.structure)) k) i))
    ∙ sym (assoc asked (λ agree. exists_structure place s.structure) k)

pub exists_lifts : (rows : Option ExistsRows) (place : Place) (left right : Operand)
    → exists.exists_typed rows place left right ≡ (exists_planned place (left ∷ right ∷ []) >>= carried (operator.ExistsIn (unwrap_or rows All)) place (data_sets (left ∷ right ∷ [])))
exists_lifts rows place (operand.DataSet s) (operand.DataSet t) = exists_lifts_on (operator.ExistsIn (unwrap_or rows All)) place s t
exists_lifts rows place (operand.DataSet s) (operand.Scalar t) = refl
exists_lifts rows place (operand.Scalar s) right = refl

-- ---- set operators

abbrev pub parts : DataSet → List Component
parts d = d.structure

fused : (d : DataSet) (q : Option (List DataSet)) → option_map (λ ss. d.structure ∷ ss) (option_map (map parts) q) ≡ option_map (map parts) (option_map (λ ds. d ∷ ds) q)
fused d None = refl
fused d (Some ds) = refl

pub all_structures_are : (os : List Operand) → all_structures os ≡ option_map (map parts) (all_data_sets os)
all_structures_are [] = refl
all_structures_are (operand.Scalar t ∷ os) = refl
all_structures_are (operand.DataSet d ∷ os) = ap (option_map (λ ss. d.structure ∷ ss)) (all_structures_are os) ∙ fused d (all_data_sets os)

one_more : (d : DataSet) (rest ds : List DataSet) (q : Option (List DataSet)) → option_map (λ es. d ∷ es) q ≡ Some ds → ((es : List DataSet) → q ≡ Some es → rest ≡ es) → d ∷ rest ≡ ds
one_more d rest ds None is same = cc
one_more d rest ds (Some es) is same = let all : d ∷ es ≡ ds = cc in ap (λ (q : List DataSet). d ∷ q) (same es refl) ∙ all

-- where all are data sets, those among them are all
pub all_are : (os : List Operand) (ds : List DataSet) → all_data_sets os ≡ Some ds → data_sets os ≡ ds
all_are [] ds is = cc
all_are (operand.Scalar t ∷ os) ds is = cc
all_are (operand.DataSet d ∷ os) ds is = one_more d (data_sets os) ds (all_data_sets os) is (all_are os)

sets_lift_on : (o : SetOperation) (place : Place) (sets : List DataSet) (q : Option (List DataSet)) → ((ds : List DataSet) → q ≡ Some ds → sets ≡ ds)
    → (or_refused q WrongStructure place >>= set_of o place) ≡ ((or_refused (option_map (map parts) q) WrongStructure place >>= set_on place) >>= carried (operator.Set o) place sets)
sets_lift_on o place sets None same = refl
sets_lift_on o place sets (Some []) same = refl
sets_lift_on o place sets (Some (d ∷ ds)) same =
    let it : sets ≡ d ∷ ds = same (d ∷ ds) refl in
    let alike = are_alike d.structure in
    let k = carried (operator.Set o) place sets in
    (λ i. demanded (sym (list_all-map alike parts ds) i) WrongStructure place >>= (λ met. carried (operator.Set o) place (sym it i) (map unlisted d.structure)))
    ∙ sym (assoc (demanded (list_all alike (map parts ds)) WrongStructure place) (λ met. Ok (map unlisted d.structure)) k)

pub sets_lift : (o : SetOperation) (place : Place) (operands : List Operand) → sets_typed o place operands ≡ (sets_planned place operands >>= carried (operator.Set o) place (data_sets operands))
sets_lift o place operands =
    sets_lift_on o place (data_sets operands) (all_data_sets operands) (all_are operands)
    ∙ (λ i. (or_refused (sym (all_structures_are operands) i) WrongStructure place >>= set_on place) >>= carried (operator.Set o) place (data_sets operands))

-- ---- results that fit

-- a result that fits is the structure of its components
pub fits_ok : (place : Place) (cs meant : List Component) (answer : Result (List Component) TypeStop) → cs ≡ meant → IfOk answer (λ s. result_fits place cs ≡ Ok tt) → IfOk answer (λ s. s ≡ cs)
    → IfOk answer (λ s. (result_fits place meant >>= (λ fits. Ok meant)) ≡ Ok s)
fits_ok place cs meant (Ok s) same fits is = goes_on (result_fits place meant) (λ fits. Ok meant) tt (ap (result_fits place) (sym same) ∙ fits) ∙ ap Ok (sym (is ∙ same))
fits_ok place cs meant (Err stop) same fits is = tt

pub fits_err : (place : Place) (cs meant : List Component) (answer : Result (List Component) TypeStop) → cs ≡ meant → IfErr answer (Refuses (result_fits place cs)) → IfErr answer (Refuses (result_fits place meant >>= (λ fits. Ok meant)))
fits_err place cs meant (Ok s) same refuses = tt
fits_err place cs meant (Err stop) same refuses = stops_there (result_fits place meant) (λ fits. Ok meant) stop (stops_same (result_fits place cs) (result_fits place meant) stop (ap (result_fits place) same) refuses)
