-- Operators, and where they are well typed (docs/language.md, "Clauses", "Structures of results").
use Rattle.std.specs.Prelude.{◌≡◌, ◌++◌, ◌&&◌, Bool, true, List, [], ◌∷◌, map, Option, is_some, refl}
use Rattle.std.specs.Option.{option_to_list}
use Rattle.std.specs.Coded.{Coded, code_by, coded×, coded_list}
use Rattle.std.specs.List.{All, list_all}
use Rattle.vtl_values.specs.declared.structure.Component.{Component}
use Rattle.vtl_values.specs.Structures.{IsStructure}
use Rattle.vtl_values.specs.contracts.structure.Structure as structure
use Rattle.scalar_trees.specs.WellTyped.{Kinds, is_of_kind}
use Rattle.scalar_trees.specs.declared.typing.scope.Basis.TheVariants.{Point}
use Rattle.scalar_trees.specs.typing.Scopes.{kinds_of, column_of}
use Rattle.data_set_trees.specs.declared.clauses.clause.CheckedClause.{CheckedClause}
use Rattle.data_set_trees.specs.declared.clauses.clause.CheckedMeasure.{CheckedMeasure}
use Rattle.data_set_trees.specs.clauses.Frames.{frame_of}
use Rattle.data_set_trees.specs.clauses.After.{after}
use Rattle.data_set_trees.specs.clauses.WellTyped.{is_well_typed}
use Rattle.data_set_trees.specs.aggregates.Results.{grouped}
use Rattle.data_set_trees.specs.aggregates.WellTyped as aggregates
use Rattle.data_set_trees.specs.declared.windows.analytic.CheckedWindow.{CheckedWindow}
use Rattle.data_set_trees.specs.windows.Results as windows
use Rattle.data_set_trees.specs.windows.WellTyped as windows_typed
use Rattle.data_set_trees.specs.times.Times as times
use Rattle.data_set_trees.specs.declared.rules.rules.CheckedCheck.{CheckedCheck}
use Rattle.data_set_trees.specs.rules.Datapoints as datapoints
use Rattle.data_set_trees.specs.rules.Hierarchies as hierarchies
use Rattle.data_set_trees.specs.contracts.tree.DataSetOperator as operator
use Rattle.data_set_trees.specs.declared.tree.Branch.{Branch}
use Rattle.data_set_trees.specs.declared.tree.ChoiceMeasure.{ChoiceMeasure}
use Rattle.data_set_trees.specs.declared.tree.DataSetOperator.{DataSetOperator}
use Rattle.data_set_trees.specs.declared.tree.DataSetOperator.TheVariants.{Clause, Pair, Choice, ExistsIn, Set, Join, InJoin, Aggregate, Window, WindowInJoin, Time, Check, Datapoint, Hierarchy}
use Rattle.data_set_trees.specs.Components.{unlisted, virals_agree, are_alike}
use Rattle.data_set_trees.specs.Checks.{told_fits, tells, is_numeric, is_imbalance_of, if_imbalance, check_structure}
use Rattle.vtl_syntax.specs.declared.words.JoinFunction.{JoinFunction}
use Rattle.data_set_trees.specs.Exists.{common_agree, exists_structure}
use Rattle.data_set_trees.specs.Joins.{may_join, join_components}
use Rattle.data_set_trees.specs.Pairs.{identifiers_agree, joined}
use Rattle.data_set_trees.specs.checked.Choices.{is_branch, branches, IsChoiceOf}
use Rattle.data_set_trees.specs.checked.Uses.{is_series, is_datapoint, is_hierarchy}

-- an operator with the structures of its operands and of its result
pub record Operator : Type 0 where
  pub operator : DataSetOperator
  pub operands : List (List Component)
  pub structure : List Component

abbrev pub an_operator : DataSetOperator → List (List Component) → List Component → Operator
an_operator operator operands structure = record { operator = operator; operands = operands; structure = structure }

abbrev pub operator_coded : Coded Operator
operator_coded = code_by (DataSetOperator × (List (List Component) × List Component)) (coded× (operator.the_row).coded (coded× (coded_list (structure.the_row).coded) (structure.the_row).coded)) (λ o. (o.operator, (o.operands, o.structure))) (λ p. an_operator p.0 p.1.0 p.1.1) (λ _. refl)

-- a clause takes one data set, on which it is well typed, and gives what stands after it
pub record IsTypedClause (clause : CheckedClause) (operands : List (List Component)) (structure : List Component) : Type 0 where
  pub operand : List Component
  pub one : operands ≡ operand ∷ []
  pub typed : is_well_typed (frame_of operand) clause ≡ true
  pub after_it : structure ≡ map unlisted (after clause (frame_of operand)).components

-- the kinds of the components of both operands, which the measures of a pair may name
abbrev pub kinds_on_both : List Component → List Component → Kinds
kinds_on_both left right = kinds_of (map column_of (left ++ right)) Point

-- One operand's identifiers include the other's, viral attributes of one name have one code list, each measure is of its
-- kind, and the result has the identifiers of the first operand and further ones of the second, the measures, and the
-- viral attributes likewise.
pub record IsPairOf (items : List CheckedMeasure) (left right structure : List Component) : Type 0 where
  pub identifiers_match : identifiers_agree left right ≡ true
  pub virals_match : virals_agree left right ≡ true
  pub of_kind : list_all (λ m. is_of_kind (kinds_on_both left right) m.value m.kind) items ≡ true
  pub is_joined : structure ≡ joined items left right

-- a scalar operator on two data sets
pub record IsTypedPair (items : List CheckedMeasure) (operands : List (List Component)) (structure : List Component) : Type 0 where
  pub left : List Component
  pub right : List Component
  pub two : operands ≡ left ∷ right ∷ []
  pub pair : IsPairOf items left right structure

-- `exists_in`: identifiers of one name are of one kind, and the result has the identifiers and viral attributes of the
-- first operand, and whether the second one has a point
pub record IsTypedExists (operands : List (List Component)) (structure : List Component) : Type 0 where
  pub left : List Component
  pub right : List Component
  pub two : operands ≡ left ∷ right ∷ []
  pub kinds_match : common_agree left right ≡ true
  pub gives : structure ≡ exists_structure left

-- a conditional takes its condition, and then the branches that are data sets
pub record IsTypedChoice (holds fails : Branch) (items : List ChoiceMeasure) (operands : List (List Component)) (structure : List Component) : Type 0 where
  pub condition : List Component
  pub when_holds : Option (List Component)
  pub when_fails : Option (List Component)
  pub holds_is : is_branch holds when_holds ≡ true
  pub fails_is : is_branch fails when_fails ≡ true
  pub operands_are : operands ≡ condition ∷ branches when_holds when_fails
  pub choice : IsChoiceOf items condition when_holds when_fails structure

-- The others are of the first one's structure, whatever their order, and the result has the first one's.
pub record IsTypedSet (operands : List (List Component)) (structure : List Component) : Type 0 where
  pub first : List Component
  pub others : List (List Component)
  pub some : operands ≡ first ∷ others
  pub alike : list_all (are_alike first) others ≡ true
  pub bare : structure ≡ map unlisted first

-- the component without its name
abbrev pub unnamed : Component → Component
unnamed c = record c { name = [] }

-- the same components in the same order, whatever their names
abbrev pub AreSameButNames : List Component → List Component → Type 0
AreSameButNames s t = map unnamed s ≡ map unnamed t

-- The operands have in common what the join wants, and the result has the join's components. At the end of a join they have
-- their names, and before that numbers in place of them.
pub record IsTypedJoin (f : JoinFunction) (operands : List (List Component)) (structure : List Component) : Type 0 where
  pub first : List Component
  pub others : List (List Component)
  pub some : operands ≡ first ∷ others
  pub may : may_join f operands ≡ true
  pub gives : AreSameButNames structure (map unlisted (join_components f operands))

-- a clause in a join is as one on a data set, but for the names of what it leaves
pub record IsTypedInJoin (clause : CheckedClause) (operands : List (List Component)) (structure : List Component) : Type 0 where
  pub operand : List Component
  pub one : operands ≡ operand ∷ []
  pub typed : is_well_typed (frame_of operand) clause ≡ true
  pub after_it : AreSameButNames structure (map unlisted (after clause (frame_of operand)).components)

-- an operator on one data set, on whose components it is well typed, and what it makes of them
pub record IsTypedOnOne (typed : List Component → Bool) (after : List Component → List Component) (operands : List (List Component)) (structure : List Component) : Type 0 where
  pub operand : List Component
  pub one : operands ≡ operand ∷ []
  pub well : typed operand ≡ true
  pub after_it : structure ≡ map unlisted (after operand)

-- what analytic operators make of components, and where they are well typed
abbrev pub window_after : CheckedWindow → List Component → List Component
window_after w components = (windows.after w (frame_of components)).components

abbrev pub is_window : CheckedWindow → List Component → Bool
is_window w components = windows_typed.is_well_typed (frame_of components) w

-- analytic operators in a join are as those on a data set, but for the names of what they leave
pub record IsTypedWindowInJoin (w : CheckedWindow) (operands : List (List Component)) (structure : List Component) : Type 0 where
  pub operand : List Component
  pub one : operands ≡ operand ∷ []
  pub well : is_window w operand ≡ true
  pub after_it : AreSameButNames structure (map unlisted (window_after w operand))

-- `check` takes a data set of the one measure `bool_var`, a boolean, and the imbalance, if there is one
pub record IsTypedCheck (c : CheckedCheck) (operands : List (List Component)) (structure : List Component) : Type 0 where
  pub checked : List Component
  pub imbalance : Option (List Component)
  pub has : is_some imbalance ≡ c.has_imbalance
  pub operands_are : operands ≡ checked ∷ option_to_list imbalance
  pub truth : told_fits checked && tells checked ≡ true
  pub numeric : if_imbalance is_numeric imbalance ≡ true
  pub belongs : if_imbalance (is_imbalance_of checked) imbalance ≡ true
  pub gives : structure ≡ check_structure checked imbalance

-- the operator takes these structures and gives that one
abbrev pub TakesOperands : Operator → Type 0
TakesOperands o = by_operator o.operator
  where
    by_operator : DataSetOperator → Type 0
    by_operator (Clause clause) = IsTypedClause clause o.operands o.structure
    by_operator (Pair items) = IsTypedPair items o.operands o.structure
    by_operator (Choice holds fails items) = IsTypedChoice holds fails items o.operands o.structure
    by_operator (ExistsIn rows) = IsTypedExists o.operands o.structure
    by_operator (Set operation) = IsTypedSet o.operands o.structure
    by_operator (Join f) = IsTypedJoin f o.operands o.structure
    by_operator (InJoin clause) = IsTypedInJoin clause o.operands o.structure
    by_operator (Aggregate a) = IsTypedOnOne (λ s. aggregates.is_well_typed s a) (grouped a) o.operands o.structure
    by_operator (Window w) = IsTypedOnOne (is_window w) (window_after w) o.operands o.structure
    by_operator (WindowInJoin w) = IsTypedWindowInJoin w o.operands o.structure
    by_operator (Time t) = IsTypedOnOne (λ s. is_series s t) (times.after t) o.operands o.structure
    by_operator (Check c) = IsTypedCheck c o.operands o.structure
    by_operator (Datapoint d) = IsTypedOnOne (λ s. is_datapoint s d) (datapoints.after d) o.operands o.structure
    by_operator (Hierarchy h) = IsTypedOnOne (λ s. is_hierarchy s h) (hierarchies.after h) o.operands o.structure

-- its operands and its result are data sets of structures, which it takes and gives
pub record IsTyped (o : Operator) : Type 0 where
  pub structures : All IsStructure o.operands
  pub result : IsStructure o.structure
  pub takes : TakesOperands o
