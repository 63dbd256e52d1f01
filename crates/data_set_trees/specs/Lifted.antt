-- A scalar operator on data sets and scalars: on each measure it is what it is on that component (docs/language.md,
-- "Structures of results").
use Rattle.std.specs.Prelude.{ℕ, suc, Bool, true, false, not, ◌++◌, List, [], ◌∷◌, map, length, nat_eq, Option, Some, None, Result, Ok, Err, unwrap_or}
use Rattle.std.specs.List.{list_all}
use Rattle.std.specs.Option.{option_map_or}
use Rattle.vtl_values.specs.declared.kind.Kind.TheVariants.{Truth}
use Rattle.vtl_values.specs.declared.place.Place.{Place}
use Rattle.vtl_values.specs.declared.structure.Component.{Component}
use Rattle.vtl_values.specs.declared.value.Value.TheVariants.{Null}
use Rattle.scalar_trees.specs.declared.typing.scope.Slot.{Slot}
use Rattle.scalar_trees.specs.declared.typing.stop.Fault.{Fault}
use Rattle.scalar_trees.specs.declared.typing.stop.Fault.TheVariants.{WrongType, WrongStructure, NameTwice}
use Rattle.scalar_trees.specs.declared.typing.stop.Refusal.{Refusal}
use Rattle.scalar_trees.specs.declared.typing.typed.Typed.{Typed}
use Rattle.scalar_trees.specs.typing.Scalars.{Answer, literal_typed, slot_typed, whole_kind}
use Rattle.scalar_trees.specs.typing.Steps.{◌>>=◌, refused}
use Rattle.data_set_trees.specs.declared.clauses.clause.CheckedMeasure.{CheckedMeasure}
use Rattle.data_set_trees.specs.declared.clauses.clause.CheckedClause.TheVariants as clause
use Rattle.data_set_trees.specs.clauses.Clauses.{demands}
use Rattle.data_set_trees.specs.declared.form.Form.{Form}
use Rattle.data_set_trees.specs.declared.measure.Measure.{Measure}
use Rattle.data_set_trees.specs.declared.operand.DataSet.{DataSet}
use Rattle.data_set_trees.specs.declared.operand.Operand.{Operand}
use Rattle.data_set_trees.specs.declared.operand.Operand.TheVariants as operand
use Rattle.data_set_trees.specs.Components.{identifiers, virals, measures, is_taken}
use Rattle.data_set_trees.specs.Forms.{formed}
use Rattle.data_set_trees.specs.Trees.{SetAnswer, with_clause, data_sets}

-- ---- on components

-- what stands for a data set: a component of it, or nothing, which agrees with everything, as null does
abbrev pub stands : Option Slot → Typed
stands (Some slot) = slot_typed slot
stands None = literal_typed Null

-- the operands, where these stand for the data sets among them, in their order
abbrev pub with_slots : List (Option Slot) → List Operand → List Typed
with_slots slots [] = []
with_slots slots (operand.Scalar t ∷ os) = t ∷ with_slots slots os
with_slots [] (operand.DataSet d ∷ os) = stands None ∷ with_slots [] os
with_slots (slot ∷ slots) (operand.DataSet d ∷ os) = stands slot ∷ with_slots slots os

-- what the operator is where these stand for its data sets
abbrev pub answer : Form → Place → List Operand → List (Option Slot) → Answer
answer form place operands slots = formed form place (with_slots slots operands)

abbrev pub slot_of : Measure → Slot
slot_of m = record { number = m.number; kind = m.kind }

-- ---- kinds

abbrev pub is_wrong_type : Fault → Bool
is_wrong_type WrongType = true
is_wrong_type _ = false

abbrev pub kinds_fit : Answer → Bool
kinds_fit (Ok t) = true
kinds_fit (Err refusal) = not (is_wrong_type refusal.fault)

-- the kinds fit, whichever of these stand for the data sets
abbrev pub all_fit : Form → Place → List Operand → List (List (Option Slot)) → Bool
all_fit form place operands choices = list_all (λ slots. kinds_fit (answer form place operands slots)) choices

-- each measure of each data set by itself, while nothing stands for the others
abbrev pub alone : List (Option Slot) → List DataSet → List (List (Option Slot))
alone before [] = []
alone before (d ∷ ds) = map (λ m. before ++ Some (slot_of m) ∷ []) (measures d.structure) ++ alone (before ++ None ∷ []) ds

-- the constants fit the operator and each other, and so does each measure by itself
abbrev pub each_fits : Form → Place → List Operand → Bool
each_fits form place operands = all_fit form place operands ([] ∷ alone [] (data_sets operands))

-- ---- on one data set

-- at which place the first data set stands
abbrev pub set_place : List Operand → ℕ
set_place [] = 0
set_place (operand.DataSet d ∷ os) = 0
set_place (operand.Scalar t ∷ os) = suc (set_place os)

-- what changes the basic type takes one measure
abbrev pub has_one_if : {A B : Type 0} → Option A → List B → Bool
has_one_if None xs = true
has_one_if (Some changed) xs = nat_eq (length xs) 1

-- no identifier and no viral attribute has the name, if there is a new one
abbrev pub is_free : Option (List ℕ) → List Component → Bool
is_free name cs = option_map_or (λ n. not (is_taken n (identifiers cs ++ virals cs))) name true

abbrev pub checked_measure : List ℕ → Typed → CheckedMeasure
checked_measure name t = record { name = name; kind = whole_kind Truth t.kind; value = t.tree }

-- each measure with what the operator is on it, under the new name if there is one
abbrev pub measures_checked : Form → Place → List Operand → Option (List ℕ) → List Measure → Result (List CheckedMeasure) Refusal
measures_checked form place operands changed [] = Ok []
measures_checked form place operands changed (m ∷ ms) =
    answer form place operands (Some (slot_of m) ∷ []) >>= (λ t. measures_checked form place operands changed ms >>= (λ others. Ok (checked_measure (unwrap_or changed m.name) t ∷ others)))

abbrev pub on_one : Form → Place → List Operand → Option (List ℕ) → DataSet → SetAnswer
on_one form place operands changed d =
    demands place ((each_fits form place operands, WrongType) ∷ (has_one_if changed (measures d.structure), WrongStructure) ∷ (is_free changed d.structure, NameTwice) ∷ [])
    >>= (λ met. answer form place operands [] >>= (λ constants. measures_checked form place operands changed (measures d.structure) >>= (λ items. Ok (operand.DataSet (with_clause (clause.Measures items) place d)))))

-- on more data sets than the operator takes
abbrev pub on_many : Form → Place → List Operand → SetAnswer
on_many form place operands = demands place ((each_fits form place operands, WrongType) ∷ []) >>= (λ met. refused WrongStructure place)

-- on none
abbrev pub on_none : Form → Place → List Operand → SetAnswer
on_none form place operands = answer form place operands [] >>= (λ t. Ok (operand.Scalar t))
