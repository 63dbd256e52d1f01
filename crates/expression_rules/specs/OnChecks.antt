-- What `check` is checked to be on a data set and its imbalance, or its first fault (docs/language.md, "Structures of
-- results", "Faults of structures").
use Rattle.std.specs.Prelude.{Bool, true, false, ◌&&◌, List, [], ◌∷◌, map, Option, Some, None, is_some, unwrap_or, Result, Ok}
use Rattle.vtl_values.specs.declared.place.Place.{Place}
use Rattle.vtl_values.specs.declared.structure.Component.{Component}
use Rattle.vtl_syntax.specs.declared.words.CheckOutput.{CheckOutput}
use Rattle.vtl_syntax.specs.declared.words.CheckOutput.TheVariants.{All}
use Rattle.scalar_trees.specs.declared.typing.stop.Fault.TheVariants.{WrongType, WrongStructure}
use Rattle.scalar_trees.specs.declared.typing.stop.Refusal.{Refusal}
use Rattle.scalar_trees.specs.typing.Steps.{◌>>=◌, demanded, or_refused, refused}
use Rattle.data_set_trees.specs.clauses.Clauses.{demands}
use Rattle.data_set_trees.specs.declared.rules.rules.CheckedCheck.{CheckedCheck}
use Rattle.data_set_trees.specs.declared.rules.rules.RuleError.{RuleError}
use Rattle.data_set_trees.specs.declared.operand.DataSet.{DataSet}
use Rattle.data_set_trees.specs.declared.operand.Operand.{Operand}
use Rattle.data_set_trees.specs.declared.operand.Operand.TheVariants as operand
use Rattle.data_set_trees.specs.declared.tree.DataSetOperator.TheVariants as operator
use Rattle.data_set_trees.specs.Checks.{told_fits, tells, is_numeric, is_imbalance_of, if_imbalance, check_structure}
use Rattle.data_set_trees.specs.Pairs.{result_fits}
use Rattle.data_set_trees.specs.Sets.{all_data_sets}
use Rattle.data_set_trees.specs.Trees.{SetAnswer, applied}

-- the structure of the result, from that of what is checked and that of its imbalance
abbrev pub check_gives : Place → List Component → Option (List Component) → Result (List Component) Refusal
check_gives place s imbalance =
    demands place ((told_fits s && if_imbalance is_numeric imbalance, WrongType) ∷ (tells s && if_imbalance (is_imbalance_of s) imbalance, WrongStructure) ∷ [])
    >>= (λ met. result_fits place (check_structure s imbalance)
    >>= (λ fits. Ok (check_structure s imbalance)))

-- the first operand is checked, and the other one, if there is one, is its imbalance
abbrev pub imbalance_in : List (List Component) → Option (List Component)
imbalance_in [] = None
imbalance_in (t ∷ ts) = Some t

abbrev pub at_most_one : List (List Component) → Bool
at_most_one [] = true
at_most_one (t ∷ []) = true
at_most_one (t ∷ u ∷ more) = false

abbrev pub check_on : Place → List (List Component) → Result (List Component) Refusal
check_on place [] = refused WrongStructure place
check_on place (s ∷ ss) = demanded (at_most_one ss) WrongStructure place >>= (λ few. check_gives place s (imbalance_in ss))

abbrev pub structures_of : List DataSet → List (List Component)
structures_of ds = map (λ (d : DataSet). d.structure) ds

-- all points are told where no output is said
abbrev pub check_of : RuleError → Option CheckOutput → List (List Component) → CheckedCheck
check_of error output others = record { error = error; has_imbalance = is_some (imbalance_in others); output = unwrap_or output All }

abbrev pub checked : RuleError → Option CheckOutput → Place → List DataSet → SetAnswer
checked error output place [] = refused WrongStructure place
checked error output place (d ∷ ds) =
    check_on place (structures_of (d ∷ ds)) >>= (λ structure. Ok (operand.DataSet (applied (operator.Check (check_of error output (structures_of ds))) place (d ∷ ds) structure)))

-- each operand is a data set
abbrev pub check_typed : RuleError → Option CheckOutput → Place → List Operand → SetAnswer
check_typed error output place operands = or_refused (all_data_sets operands) WrongStructure place >>= checked error output place
