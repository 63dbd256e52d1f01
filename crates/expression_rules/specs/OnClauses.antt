-- A clause on a data set (docs/language.md, "Clauses").
use Rattle.std.specs.Prelude.{Bool, true, false, List, [], ◌∷◌, Option, Some, None, Result, Ok, if◌then◌else◌}
use Rattle.std.specs.List.{list_any}
use Rattle.vtl_syntax.specs.declared.expr.Clause.{Clause, out-Clause}
use Rattle.vtl_syntax.specs.declared.expr.Expr.{Expr, out-Expr}
use Rattle.vtl_syntax.specs.declared.expr.Groups.{Groups}
use Rattle.vtl_syntax.specs.declared.expr.Item.{Item, out-Item}
use Rattle.vtl_syntax.specs.declared.expr.JoinOperand.{JoinOperand}
use Rattle.vtl_syntax.specs.declared.expr.SubstrRange.{SubstrRange}
use Rattle.vtl_syntax.specs.declared.expr.Clause.TheOpen.{Clause-F, Expr-F}
use Rattle.vtl_values.specs.declared.kind.Kind.{Kind}
use Rattle.vtl_values.specs.declared.place.Place.{Place}
use Rattle.scalar_trees.specs.declared.typing.scope.Basis.TheVariants.{Point}
use Rattle.scalar_trees.specs.declared.typing.stop.Fault.TheVariants.{WrongStructure}
use Rattle.scalar_trees.specs.declared.typing.stop.Refusal.{Refusal}
use Rattle.scalar_trees.specs.typing.Scalars.{typed, place_of}
use Rattle.scalar_trees.specs.typing.Steps.{◌>>=◌, refused}
use Rattle.data_set_trees.specs.declared.clauses.clause.CheckedItem.{CheckedItem}
use Rattle.data_set_trees.specs.declared.clauses.frame.Frame.{Frame}
use Rattle.data_set_trees.specs.clauses.Frames.{frame_of, scope_of_frame}
use Rattle.data_set_trees.specs.clauses.Clauses as clauses
use Rattle.data_set_trees.specs.clauses.Clauses.{filter_typed, item_typed, calc_typed, keep_typed, drop_typed, rename_typed, sub_typed, unpivot_typed}
use Rattle.data_set_trees.specs.declared.windows.analytic.AnalyticItem.{AnalyticItem}
use Rattle.data_set_trees.specs.declared.windows.analytic.CheckedAnalytic.{CheckedAnalytic}
use Rattle.data_set_trees.specs.windows.Windows.{analytic_item, calc_checked, offset_typed, rank_typed, scalar_item, window_typed}
use Rattle.data_set_trees.specs.declared.operand.Operand.{Operand}
use Rattle.data_set_trees.specs.declared.operand.Operand.TheVariants as operand
use Rattle.data_set_trees.specs.Trees.{SetAnswer}
use Rattle.expression_rules.specs.declared.point_clause.PointClause.{PointClause}
use Rattle.expression_rules.specs.declared.point_clause.PointClause.TheVariants.{Alone, Analytic}
use Rattle.expression_rules.specs.OnSets.{on_aggr}
use Rattle.expression_rules.specs.PointClauses.{with_clause}

-- ---- a clause that works on each point by itself

-- an item, whose expression is worked out on the operand's point
abbrev pub item_checked : Frame → Item → Result CheckedItem Refusal
item_checked frame i = typed (scope_of_frame frame) Point (out-Item i).expr >>= (λ t. Ok (item_typed frame (out-Item i).role (out-Item i).name t))

-- the items, or the first fault of the first that has one
abbrev pub items_checked : Frame → List Item → Result (List CheckedItem) Refusal
items_checked frame [] = Ok []
items_checked frame (i ∷ is) = item_checked frame i >>= (λ c. items_checked frame is >>= (λ cs. Ok (c ∷ cs)))

-- its expressions first, in order, and then its own faults at its word; `aggr` works on groups, and has no place here
abbrev pub clause_step : Clause-F Clause Expr Groups Item JoinOperand SubstrRange → Frame → clauses.Answer
clause_step (Clause-F.Filter condition place) frame = typed (scope_of_frame frame) Point condition >>= filter_typed place
clause_step (Clause-F.Calc items place) frame = items_checked frame items >>= (λ checked. calc_typed place checked frame)
clause_step (Clause-F.Keep components place) frame = keep_typed place components frame
clause_step (Clause-F.Drop components place) frame = drop_typed place components frame
clause_step (Clause-F.Rename renames place) frame = rename_typed place renames frame
clause_step (Clause-F.Sub items place) frame = sub_typed place items frame
clause_step (Clause-F.Unpivot identifier measure place) frame = unpivot_typed place identifier measure frame
clause_step (Clause-F.Aggr items groups place) frame = refused WrongStructure place

abbrev pub clause_checked : Clause → Frame → clauses.Answer
clause_checked clause frame = clause_step (out-Clause clause) frame

-- ---- `calc` with an item that is analytic

-- the value of an item whose whole expression is an analytic operator, with its kind; none of any other expression
abbrev pub analytic_step : Expr-F Clause Expr Groups Item JoinOperand SubstrRange → Frame → Result (Option (Kind × CheckedAnalytic)) Refusal
analytic_step (Expr-F.Window f a over place) frame = window_typed f a over place frame >>= (λ v. Ok (Some v))
analytic_step (Expr-F.Offset f a offset over place) frame = offset_typed f a offset over place frame >>= (λ v. Ok (Some v))
analytic_step (Expr-F.Rank over place) frame = rank_typed over place frame >>= (λ v. Ok (Some v))
analytic_step _ frame = Ok None

abbrev pub analytic_value : Expr → Frame → Result (Option (Kind × CheckedAnalytic)) Refusal
analytic_value e frame = analytic_step (out-Expr e) frame

-- the item with that value, or else with that of its expression on the operand's point
abbrev pub with_value : Frame → Item → Option (Kind × CheckedAnalytic) → Result AnalyticItem Refusal
with_value frame i (Some v) = Ok (analytic_item frame (out-Item i).role (out-Item i).name v)
with_value frame i None = typed (scope_of_frame frame) Point (out-Item i).expr >>= (λ t. Ok (scalar_item frame (out-Item i).role (out-Item i).name t))

abbrev pub analytic_checked : Frame → Item → Result AnalyticItem Refusal
analytic_checked frame i = analytic_value (out-Item i).expr frame >>= with_value frame i

-- the items, or the first fault of the first that has one
abbrev pub all_analytic_checked : Frame → List Item → Result (List AnalyticItem) Refusal
all_analytic_checked frame [] = Ok []
all_analytic_checked frame (i ∷ is) = analytic_checked frame i >>= (λ c. all_analytic_checked frame is >>= (λ cs. Ok (c ∷ cs)))

abbrev pub is_analytic_step : Expr-F Clause Expr Groups Item JoinOperand SubstrRange → Bool
is_analytic_step (Expr-F.Window f a over place) = true
is_analytic_step (Expr-F.Offset f a offset over place) = true
is_analytic_step (Expr-F.Rank over place) = true
is_analytic_step _ = false

-- its whole expression is an analytic operator
abbrev pub is_analytic : Item → Bool
is_analytic i = is_analytic_step (out-Expr (out-Item i).expr)

-- ---- any clause on points

abbrev pub Answer : Type 0
Answer = Result PointClause Refusal

abbrev pub on_parts : List Item → Place → Frame → Answer
on_parts items place frame = all_analytic_checked frame items >>= (λ checked. calc_checked place checked frame >>= (λ w. Ok (Analytic w)))

abbrev pub alone : Clause → Frame → Answer
alone clause frame = clause_checked clause frame >>= (λ c. Ok (Alone c))

-- `calc` works on parts where an item is analytic, and so does no other clause
abbrev pub point_step : Clause-F Clause Expr Groups Item JoinOperand SubstrRange → Clause → Frame → Answer
point_step (Clause-F.Calc items place) clause frame = if list_any is_analytic items then on_parts items place frame else alone clause frame
point_step _ clause frame = alone clause frame

abbrev pub point_checked : Clause → Frame → Answer
point_checked clause frame = point_step (out-Clause clause) clause frame

-- it has no place on a scalar, and isn't looked into there
abbrev pub on_points : Clause → Operand → SetAnswer
on_points clause (operand.Scalar t) = refused WrongStructure (place_of clause)
on_points clause (operand.DataSet d) = point_checked clause (frame_of d.structure) >>= (λ c. Ok (operand.DataSet (with_clause c (place_of clause) d)))

-- ---- any clause

-- `aggr` works on groups of points, each other clause on the points
abbrev pub by_form : Clause-F Clause Expr Groups Item JoinOperand SubstrRange → Clause → Operand → SetAnswer
by_form (Clause-F.Aggr items groups place) clause = on_aggr items groups place
by_form _ clause = on_points clause

abbrev pub on_clause : Clause → Operand → SetAnswer
on_clause clause = by_form (out-Clause clause) clause
