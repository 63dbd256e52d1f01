-- Whether kinds fit, one operand after the other and in one go.
use Rattle.std.proofs.Common.{◌≡◌, Bool, ◌&&◌, List, [], ◌∷◌, ◌++◌, Option, Some, None, map, refl, sym, ◌∙◌}
use Rattle.std.proofs.lemmas.List.Folds.{list_all-append, list_all-map}
use Rattle.vtl_values.specs.declared.place.Place.{Place}
use Rattle.scalar_trees.specs.declared.typing.scope.Slot.{Slot}
use Rattle.data_set_trees.specs.declared.form.Form.{Form}
use Rattle.data_set_trees.specs.declared.measure.Measure.{Measure}
use Rattle.data_set_trees.specs.declared.operand.Operand.{Operand}
use Rattle.data_set_trees.specs.declared.operand.Operand.TheVariants as operand
use Rattle.data_set_trees.specs.Components.{measures}
use Rattle.data_set_trees.specs.Trees.{data_sets}
use Rattle.data_set_trees.specs.Lifted.{slot_of, kinds_fit, answer, all_fit, alone}
use Rattle.data_set_typing.specs.Kinds.{operands_fit}

pub operands_fit_alone : (form : Form) (place : Place) (operands : List Operand) (before : List (Option Slot)) (os : List Operand) → operands_fit form place operands before os ≡ all_fit form place operands (alone before (data_sets os))
operands_fit_alone form place operands before [] = refl
operands_fit_alone form place operands before (operand.Scalar t ∷ os) = operands_fit_alone form place operands before os
operands_fit_alone form place operands before (operand.DataSet d ∷ os) =
    let fit : List (Option Slot) → Bool = λ slots. kinds_fit (answer form place operands slots) in
    let here = λ (m : Measure). before ++ Some (slot_of m) ∷ [] in
    let more = alone (before ++ None ∷ []) (data_sets os) in
    let ms = measures d.structure in
    (λ i. sym (list_all-map fit here ms) i && operands_fit_alone form place operands (before ++ None ∷ []) os i)
    ∙ sym (list_all-append fit (map here ms) more)
