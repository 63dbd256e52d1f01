-- What operators on data sets come to, by the structures of their operands.
use Rattle.std.specs.Prelude.{ℕ, Bool, true, false, ◌&&◌, List, [], ◌∷◌, map, Option, Some, None, option_map, Result, Ok}
use Rattle.std.specs.List.{list_all}
use Rattle.vtl_values.specs.declared.kind.Kind.TheVariants.{Truth}
use Rattle.vtl_values.specs.declared.kind.Role.TheVariants as role
use Rattle.vtl_values.specs.declared.place.Place.{Place}
use Rattle.vtl_values.specs.declared.structure.Component.{Component}
use Rattle.scalar_trees.specs.declared.tree.CheckedExpr.TheVariants as tree
use Rattle.scalar_trees.specs.declared.typing.stop.Fault.TheVariants.{UnknownComponent, WrongType, WrongStructure, NameTwice}
use Rattle.scalar_trees.specs.declared.typing.stop.Refusal.{Refusal}
use Rattle.scalar_trees.specs.typing.Steps.{◌>>=◌, or_refused, demanded, refused}
use Rattle.data_set_trees.specs.declared.clauses.clause.CheckedClause.{CheckedClause}
use Rattle.data_set_trees.specs.declared.clauses.clause.CheckedClause.TheVariants as clause
use Rattle.data_set_trees.specs.declared.clauses.clause.CheckedMeasure.{CheckedMeasure}
use Rattle.data_set_trees.specs.clauses.After.{made}
use Rattle.data_set_trees.specs.clauses.Clauses.{demands}
use Rattle.data_set_trees.specs.declared.measure.Measure.{Measure}
use Rattle.data_set_trees.specs.declared.operand.DataSet.{DataSet}
use Rattle.data_set_trees.specs.declared.operand.Operand.{Operand}
use Rattle.data_set_trees.specs.declared.operand.Operand.TheVariants as operand
use Rattle.data_set_trees.specs.Components.{BOOL_VAR, unlisted, are_alike}
use Rattle.data_set_trees.specs.Checks as checks
use Rattle.data_set_trees.specs.Exists as exists
use Rattle.data_set_trees.specs.Lifted.{is_free}
use Rattle.data_set_trees.specs.Members.{member_from}
use Rattle.data_set_trees.specs.Pairs.{result_fits}
use Rattle.data_set_trees.specs.Trees.{with_clause}
use Rattle.expression_rules.specs.OnChecks.{check_on}

-- the structure of a result, or its fault
abbrev pub StructureAnswer : Type 0
StructureAnswer = Result (List Component) Refusal

-- ---- exists_in

abbrev pub whether_there : List Component
whether_there = made role.Measure Truth BOOL_VAR ∷ []

abbrev pub exists_structure : Place → List Component → StructureAnswer
exists_structure place s = result_fits place (exists.exists_structure s) >>= (λ fits. Ok (exists.exists_structure s))

abbrev pub exists_on : Place → List Component → List Component → StructureAnswer
exists_on place s t = demanded (exists.common_agree s t) WrongStructure place >>= (λ agree. exists_structure place s)

abbrev pub exists_planned : Place → List Operand → StructureAnswer
exists_planned place (operand.DataSet s ∷ operand.DataSet t ∷ []) = exists_on place s.structure t.structure
exists_planned place _ = refused WrongStructure place

-- ---- `a#c`

-- a measure that is chosen, as it is worked out
abbrev pub chosen : Measure → CheckedMeasure
chosen m = record { name = m.name; kind = m.kind; value = tree.Component m.number }

abbrev pub member_measure : List ℕ → Place → List Component → Result CheckedMeasure Refusal
member_measure name place s = or_refused (member_from 0 name s) UnknownComponent place >>= (λ m. demanded (is_free (Some m.name) s) NameTwice place >>= (λ met. Ok m))

abbrev pub member_clause : List ℕ → Place → List Component → Result CheckedClause Refusal
member_clause name place s = member_measure name place s >>= (λ m. Ok (clause.Measures (m ∷ [])))

abbrev pub member_of : List ℕ → Place → DataSet → Result DataSet Refusal
member_of name place d = member_clause name place d.structure >>= (λ c. Ok (with_clause c place d))

-- ---- set operators

-- the structures of operands, where all are data sets
abbrev pub all_structures : List Operand → Option (List (List Component))
all_structures [] = Some []
all_structures (operand.Scalar t ∷ os) = None
all_structures (operand.DataSet d ∷ os) = option_map (λ ss. d.structure ∷ ss) (all_structures os)

-- the others are of the first one's structure
abbrev pub set_on : Place → List (List Component) → StructureAnswer
set_on place [] = refused WrongStructure place
set_on place (s ∷ ss) = demanded (list_all (are_alike s) ss) WrongStructure place >>= (λ alike. Ok (map unlisted s))

abbrev pub sets_planned : Place → List Operand → StructureAnswer
sets_planned place operands = or_refused (all_structures operands) WrongStructure place >>= set_on place

-- ---- check

-- more than one
abbrev pub has_more : {A : Type 0} → List A → Bool
has_more [] = false
has_more (a ∷ []) = false
has_more (a ∷ b ∷ more) = true

abbrev pub check_structure : Place → List Component → Option (List Component) → StructureAnswer
check_structure place s imbalance = result_fits place (checks.check_structure s imbalance) >>= (λ fits. Ok (checks.check_structure s imbalance))

-- what is asked of what is checked and of its imbalance
abbrev pub check_demanded : Place → List Component → Option (List Component) → Result (Unit {0}) Refusal
check_demanded place s imbalance =
    demands place ((checks.told_fits s && checks.if_imbalance checks.is_numeric imbalance, WrongType) ∷ (checks.tells s && checks.if_imbalance (checks.is_imbalance_of s) imbalance, WrongStructure) ∷ [])

abbrev pub check_planned : Place → List Operand → StructureAnswer
check_planned place operands = or_refused (all_structures operands) WrongStructure place >>= check_on place
