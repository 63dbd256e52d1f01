-- Aggregates, analytic operators and operators on time series, on one data set (docs/language.md, "Structures of results").
use Rattle.std.specs.Prelude.{ℤ, List, [], ◌∷◌, map, Option, Result, Ok}
use Rattle.vtl_values.specs.declared.place.Place.{Place}
use Rattle.vtl_values.specs.declared.structure.Component.{Component}
use Rattle.vtl_syntax.specs.declared.expr.Groups.{Groups}
use Rattle.vtl_syntax.specs.declared.expr.Item.{Item}
use Rattle.vtl_syntax.specs.declared.expr.Over.{Over}
use Rattle.vtl_syntax.specs.declared.words.AggregateFunction.{AggregateFunction}
use Rattle.vtl_syntax.specs.declared.words.FillSpan.{FillSpan}
use Rattle.vtl_syntax.specs.declared.words.OffsetFunction.{OffsetFunction}
use Rattle.vtl_syntax.specs.declared.words.TimeFunction.{TimeFunction}
use Rattle.vtl_syntax.specs.declared.words.WindowFunction.{WindowFunction}
use Rattle.scalar_trees.specs.declared.typing.stop.Fault.TheVariants.{WrongStructure}
use Rattle.scalar_trees.specs.declared.typing.stop.Refusal.{Refusal}
use Rattle.scalar_trees.specs.typing.Steps.{◌>>=◌, refused}
use Rattle.data_set_trees.specs.clauses.Frames.{frame_of}
use Rattle.data_set_trees.specs.aggregates.Aggregates.{aggregate_checked, aggr_checked}
use Rattle.data_set_trees.specs.aggregates.Results.{grouped}
use Rattle.data_set_trees.specs.declared.windows.analytic.CheckedWindow.{CheckedWindow}
use Rattle.data_set_trees.specs.windows.Results as windows
use Rattle.data_set_trees.specs.windows.Windows.{window_checked, offset_checked}
use Rattle.data_set_trees.specs.times.Times as times
use Rattle.data_set_trees.specs.times.Times.{time_checked, shift_checked, fill_checked}
use Rattle.data_set_trees.specs.declared.operand.DataSet.{DataSet}
use Rattle.data_set_trees.specs.declared.operand.Operand.{Operand}
use Rattle.data_set_trees.specs.declared.operand.Operand.TheVariants as operand
use Rattle.data_set_trees.specs.declared.tree.DataSetOperator.{DataSetOperator}
use Rattle.data_set_trees.specs.declared.tree.DataSetOperator.TheVariants as operator
use Rattle.data_set_trees.specs.Components.{unlisted}
use Rattle.data_set_trees.specs.Trees.{SetAnswer, applied}

-- the operator at its place on a data set, and what it makes of the components
abbrev pub with_operator : DataSetOperator → (List Component → List Component) → Place → DataSet → DataSet
with_operator o after place d = applied o place (d ∷ []) (map unlisted (after d.structure))

-- a scalar is refused at the word of the operator, before anything else is looked at
abbrev pub data_set_of : Place → Operand → Result DataSet Refusal
data_set_of place (operand.Scalar t) = refused WrongStructure place
data_set_of place (operand.DataSet d) = Ok d

-- what an operator on one data set is checked to be, with what it makes of the components
abbrev pub on_set : {X : Type 0} → (List Component → Result X Refusal) → (X → DataSetOperator) → (X → List Component → List Component) → Place → Operand → SetAnswer
on_set checked o after place a = data_set_of place a >>= (λ d. checked d.structure >>= (λ x. Ok (operand.DataSet (with_operator (o x) (after x) place d))))

-- ---- aggregates

abbrev pub on_aggregate : AggregateFunction → Option Groups → Place → Operand → SetAnswer
on_aggregate f groups place = on_set (aggregate_checked f place groups) operator.Aggregate grouped place

abbrev pub on_aggr : List Item → Option Groups → Place → Operand → SetAnswer
on_aggr items groups place = on_set (aggr_checked place items groups) operator.Aggregate grouped place

-- ---- analytic operators

abbrev pub window_after : CheckedWindow → List Component → List Component
window_after w components = (windows.after w (frame_of components)).components

abbrev pub on_window : WindowFunction → Over → Place → Operand → SetAnswer
on_window f over place = on_set (window_checked f over place) operator.Window window_after place

abbrev pub on_offset : OffsetFunction → ℤ → Over → Place → Operand → SetAnswer
on_offset f offset over place = on_set (offset_checked f offset over place) operator.Window window_after place

-- ---- operators on time series

abbrev pub on_time : TimeFunction → Place → Operand → SetAnswer
on_time f place = on_set (time_checked f place) operator.Time times.after place

abbrev pub on_shift : ℤ → Place → Operand → SetAnswer
on_shift places place = on_set (shift_checked places place) operator.Time times.after place

abbrev pub on_fill : Option FillSpan → Place → Operand → SetAnswer
on_fill span place = on_set (fill_checked span place) operator.Time times.after place
