-- The clauses inside a join, and whole joins (docs/language.md, "Joins", "Structures of results").
use Rattle.std.specs.Prelude.{ℕ, ◌&&◌, List, [], ◌∷◌, map, Option, Result, Ok}
use Rattle.vtl_values.specs.declared.place.Place.{Place}
use Rattle.vtl_values.specs.declared.structure.Component.{Component}
use Rattle.vtl_syntax.specs.declared.words.JoinFunction.{JoinFunction}
use Rattle.vtl_syntax.specs.declared.expr.Clause.{Clause}
use Rattle.scalar_trees.specs.declared.typing.stop.Fault.TheVariants.{WrongStructure, NameTwice, TooManyComponents}
use Rattle.scalar_trees.specs.declared.typing.stop.Refusal.{Refusal}
use Rattle.scalar_trees.specs.typing.Scalars.{place_of}
use Rattle.scalar_trees.specs.typing.Steps.{◌>>=◌, demanded, or_refused}
use Rattle.data_set_trees.specs.declared.clauses.frame.Frame.{Frame}
use Rattle.data_set_trees.specs.clauses.Clauses as clauses
use Rattle.data_set_trees.specs.declared.operand.DataSet.{DataSet}
use Rattle.data_set_trees.specs.declared.operand.Operand.{Operand}
use Rattle.data_set_trees.specs.declared.operand.Operand.TheVariants as operand
use Rattle.data_set_trees.specs.declared.tree.DataSetOperator.TheVariants as operator
use Rattle.data_set_trees.specs.Components.{names_differ, unlisted}
use Rattle.data_set_trees.specs.Trees.{SetAnswer, applied}
use Rattle.data_set_trees.specs.Sets.{all_data_sets}
use Rattle.data_set_trees.specs.Joins.{Aliased, structures_of, may_join, join_frame, numbered, all_aliased, aliases_differ}
use Rattle.expression_rules.specs.declared.point_clause.PointClause.{PointClause}
use Rattle.expression_rules.specs.OnClauses.{point_checked}
use Rattle.expression_rules.specs.PointClauses.{after, operator_inside}

-- ---- the clauses inside

-- a clause at its place
pub record Placed : Type 0 where
  pub clause : PointClause
  pub place : Place

-- the clauses, each on what the one before it leaves, or the first fault
abbrev pub inside : List Clause → Frame → Result (List Placed) Refusal
inside [] frame = Ok []
inside (c ∷ cs) frame = point_checked c frame >>= (λ checked. inside cs (after checked frame) >>= (λ others. Ok (record { clause = checked; place = place_of c } ∷ others)))

abbrev pub after_all : List Placed → Frame → Frame
after_all [] frame = frame
after_all (c ∷ cs) frame = after_all cs (after c.clause frame)

-- what a data set in a join has where these clauses follow: at the end each component has its name
abbrev pub structure_before : List Placed → Frame → List Component
structure_before [] frame = map unlisted frame.components
structure_before (c ∷ cs) frame = numbered 0 (map unlisted frame.components)

-- the clauses on a data set of a join, whose frame is this one
abbrev pub with_clauses : List Placed → Frame → DataSet → DataSet
with_clauses [] frame d = d
with_clauses (c ∷ cs) frame d = with_clauses cs (after c.clause frame) (applied (operator_inside c.clause) c.place (d ∷ []) (structure_before cs (after c.clause frame)))

-- ---- a join

abbrev pub joined : JoinFunction → Place → List DataSet → List Placed → Frame → DataSet
joined f place ds checked frame = with_clauses checked frame (applied (operator.Join f) place ds (structure_before checked frame))

-- The join without its clauses has its faults first, then each clause at its own word; and at the end names differ.
abbrev pub join_of : JoinFunction → Place → List Clause → List DataSet → List Aliased → SetAnswer
join_of f place cs ds operands =
    clauses.demands place
    ((may_join f (structures_of operands), WrongStructure)
    ∷ (aliases_differ operands && clauses.names_differ (join_frame f operands), NameTwice)
    ∷ (clauses.has_room (join_frame f operands), TooManyComponents) ∷ [])
    >>= (λ met. inside cs (join_frame f operands)
    >>= (λ checked. demanded (names_differ (after_all checked (join_frame f operands)).components) NameTwice place
    >>= (λ differ. Ok (operand.DataSet (joined f place ds checked (join_frame f operands))))))

-- each operand is a data set, and has an alias
abbrev pub join_typed : JoinFunction → Place → List (Option (List ℕ)) → List Clause → List Operand → SetAnswer
join_typed f place aliases cs operands =
    or_refused (all_data_sets operands) WrongStructure place
    >>= (λ ds. or_refused (all_aliased aliases ds) WrongStructure place
    >>= (λ aliased. join_of f place cs ds aliased))
