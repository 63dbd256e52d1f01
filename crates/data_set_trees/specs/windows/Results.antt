-- Which components analytic operators give (docs/language.md, "Analytic operators").
use Rattle.std.specs.Prelude.{◌++◌, List, map}
use Rattle.vtl_values.specs.declared.kind.Role.TheVariants.{Identifier, Measure, Viral}
use Rattle.vtl_values.specs.declared.structure.Component.{Component}
use Rattle.vtl_values.specs.declared.value.Value.TheVariants.{Null}
use Rattle.scalar_trees.specs.declared.tree.CheckedExpr.TheVariants as tree
use Rattle.data_set_trees.specs.declared.clauses.clause.CheckedItem.{CheckedItem}
use Rattle.data_set_trees.specs.declared.clauses.frame.Frame.{Frame}
use Rattle.data_set_trees.specs.clauses.After.{made, calculated}
use Rattle.data_set_trees.specs.clauses.Frames.{frame_of, numbers_of, by_role}
use Rattle.data_set_trees.specs.aggregates.Results.{with_numbers}
use Rattle.data_set_trees.specs.declared.windows.analytic.AnalyticItem.{AnalyticItem}
use Rattle.data_set_trees.specs.declared.windows.analytic.AnalyticMeasure.{AnalyticMeasure}
use Rattle.data_set_trees.specs.declared.windows.analytic.CheckedWindow.{CheckedWindow}
use Rattle.data_set_trees.specs.declared.windows.analytic.CheckedWindow.TheVariants as window

-- ---- on each measure

abbrev pub made_by : AnalyticMeasure → Component
made_by i = made Measure i.kind i.name

-- identifiers and viral attributes stay, and then come the measures that are worked out, not yet by role
abbrev pub unordered : List AnalyticMeasure → List Component → List Component
unordered items components = with_numbers components (numbers_of Identifier components ++ numbers_of Viral components) ++ map made_by items

-- ---- in `calc`

-- an item of `calc` with the same target, role and kind, which is all that the result's components go by
abbrev pub as_item : AnalyticItem → CheckedItem
as_item i = record { target = i.target; role = i.role; kind = i.kind; value = tree.Literal Null }

-- ---- a window operator

abbrev pub after : CheckedWindow → Frame → Frame
after (window.Measures items) frame = by_role (frame_of (unordered items frame.components))
after (window.Calc items) frame = by_role (calculated (map as_item items) frame)
