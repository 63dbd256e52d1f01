-- A checked operator may be sent to threads and shared by them. For a type above that holds one:
-- `search (operator_send, operator_sync, crosses, sendable)`, with `crosses` of `Rattle.std.proofs.Crossing`.
use Rattle.std.proofs.Crossing.{crosses}
use Rattle.scalar_trees.proofs.tree.CheckedExpr.TheLaws.TheKnot as knot
use denote.Param.Send.{IsSend, IsSync, sendable}
use denote.Enum.Declared.{Record}
use denote.Param.SendFields.{declared_send, declared_sync, variants_send, variants_sync}
use Rattle.scalar_texts.proofs.Shared.{pattern_send, pattern_sync}
use Rattle.scalar_trees.specs.contracts.pattern.SharedPattern as Shared
use Rattle.scalar_trees.specs.contracts.pattern.SharedPattern.TheInside as Inside
use Rattle.scalar_trees.specs.contracts.tree.CheckedExpr as Expr
use Rattle.data_set_trees.specs.contracts.clauses.clause.CheckedClause as Clause
use Rattle.data_set_trees.specs.contracts.clauses.clause.CheckedItem as Item
use Rattle.data_set_trees.specs.contracts.clauses.clause.CheckedRename as Rename
use Rattle.data_set_trees.specs.contracts.clauses.clause.CheckedSubItem as SubItem
use Rattle.data_set_trees.specs.contracts.clauses.clause.CheckedMeasure as Measure
use Rattle.data_set_trees.specs.contracts.aggregates.aggregate.AggregateItem as AggregateItem
use Rattle.data_set_trees.specs.contracts.aggregates.aggregate.CheckedAggregate as Aggregate
use Rattle.data_set_trees.specs.contracts.windows.analytic.Parts as WindowParts
use Rattle.data_set_trees.specs.contracts.windows.analytic.CheckedAnalytic as Analytic
use Rattle.data_set_trees.specs.contracts.windows.analytic.AnalyticMeasure as AnalyticMeasure
use Rattle.data_set_trees.specs.contracts.windows.analytic.AnalyticValue as AnalyticValue
use Rattle.data_set_trees.specs.contracts.windows.analytic.AnalyticItem as AnalyticItem
use Rattle.data_set_trees.specs.contracts.windows.analytic.CheckedWindow as Window
use Rattle.data_set_trees.specs.contracts.rules.rules.RuleError as RuleError
use Rattle.data_set_trees.specs.contracts.rules.rules.PointRule as PointRule
use Rattle.data_set_trees.specs.contracts.rules.rules.CheckedDatapoint as Datapoint
use Rattle.data_set_trees.specs.contracts.rules.rules.CheckedCheck as Check
use Rattle.data_set_trees.specs.contracts.rules.rules.SignedItem as SignedItem
use Rattle.data_set_trees.specs.contracts.rules.rules.ItemRule as ItemRule
use Rattle.data_set_trees.specs.contracts.rules.rules.HierarchyContent as Content
use Rattle.data_set_trees.specs.contracts.rules.rules.CheckedHierarchy as Hierarchy
use Rattle.data_set_trees.specs.contracts.tree.ChoiceMeasure as ChoiceMeasure
use Rattle.data_set_trees.specs.contracts.tree.DataSetOperator as Operator
use Rattle.data_set_trees.specs.contracts.shared.SharedOperator as SharedOperator
use Rattle.data_set_trees.specs.contracts.shared.SharedOperator.TheInside as InsideOperator

-- ---- patterns and expressions

inside_send : IsSend Inside.the_row
inside_send = declared_send Inside.the_type (search (pattern_send, pattern_sync, crosses, sendable) depth 30)

inside_sync : IsSync Inside.the_row
inside_sync = declared_sync Inside.the_type (search (pattern_send, pattern_sync, crosses, sendable) depth 30)

shared_send : IsSend Shared.the_row
shared_send = search (inside_send, sendable)

shared_sync : IsSync Shared.the_row
shared_sync = search (inside_sync, sendable)

ruleset shared = (shared_send, shared_sync, crosses, knot.crosses, sendable)

expr_send : IsSend Expr.the_row
expr_send = search shared depth 60 fits 20000

expr_sync : IsSync Expr.the_row
expr_sync = search shared depth 60 fits 20000

-- ---- what a clause is made of

item_send : IsSend Item.the_row
item_send = declared_send Item.the_type (search (expr_send, crosses, sendable) depth 40)

item_sync : IsSync Item.the_row
item_sync = declared_sync Item.the_type (search (expr_sync, crosses, sendable) depth 40)

measure_send : IsSend Measure.the_row
measure_send = declared_send Measure.the_type (search (expr_send, crosses, sendable) depth 40)

measure_sync : IsSync Measure.the_row
measure_sync = declared_sync Measure.the_type (search (expr_sync, crosses, sendable) depth 40)

rename_send : IsSend Rename.the_row
rename_send = declared_send Rename.the_type (search (crosses, sendable) depth 40)

rename_sync : IsSync Rename.the_row
rename_sync = declared_sync Rename.the_type (search (crosses, sendable) depth 40)

sub_send : IsSend SubItem.the_row
sub_send = declared_send SubItem.the_type (search (crosses, sendable) depth 40)

sub_sync : IsSync SubItem.the_row
sub_sync = declared_sync SubItem.the_type (search (crosses, sendable) depth 40)

-- the clauses, as their type lists them
abbrev clauses : Record
clauses = record { name = Clause.the_type.name; args = Clause.the_type.args; types = Clause.the_type.types; parts = Clause.the_parts; D = Clause.the_type.D; as_values = _; make = Clause.the_make; eta = Clause.the_eta; beta = Clause.the_beta }

clause_send : IsSend Clause.the_row
clause_send = variants_send clauses (search (expr_send, item_send, measure_send, rename_send, sub_send, crosses, sendable) depth 40 fits 20000)

clause_sync : IsSync Clause.the_row
clause_sync = variants_sync clauses (search (expr_sync, item_sync, measure_sync, rename_sync, sub_sync, crosses, sendable) depth 40 fits 20000)

-- ---- what other operators on one data set are made of

aggregate_item_send : IsSend AggregateItem.the_row
aggregate_item_send = declared_send AggregateItem.the_type (search (expr_send, crosses, sendable) depth 40)

aggregate_item_sync : IsSync AggregateItem.the_row
aggregate_item_sync = declared_sync AggregateItem.the_type (search (expr_sync, crosses, sendable) depth 40)

aggregate_send : IsSend Aggregate.the_row
aggregate_send = declared_send Aggregate.the_type (search (expr_send, aggregate_item_send, crosses, sendable) depth 40)

aggregate_sync : IsSync Aggregate.the_row
aggregate_sync = declared_sync Aggregate.the_type (search (expr_sync, aggregate_item_sync, crosses, sendable) depth 40)

parts_send : IsSend WindowParts.the_row
parts_send = declared_send WindowParts.the_type (search (crosses, sendable) depth 40)

parts_sync : IsSync WindowParts.the_row
parts_sync = declared_sync WindowParts.the_type (search (crosses, sendable) depth 40)

analytic_send : IsSend Analytic.the_row
analytic_send = declared_send Analytic.the_type (search (parts_send, crosses, sendable) depth 40)

analytic_sync : IsSync Analytic.the_row
analytic_sync = declared_sync Analytic.the_type (search (parts_sync, crosses, sendable) depth 40)

analytic_measure_send : IsSend AnalyticMeasure.the_row
analytic_measure_send = declared_send AnalyticMeasure.the_type (search (analytic_send, crosses, sendable) depth 40)

analytic_measure_sync : IsSync AnalyticMeasure.the_row
analytic_measure_sync = declared_sync AnalyticMeasure.the_type (search (analytic_sync, crosses, sendable) depth 40)

-- what an item of `calc` is worked out by, as its type lists it
abbrev values : Record
values = record { name = AnalyticValue.the_type.name; args = AnalyticValue.the_type.args; types = AnalyticValue.the_type.types; parts = AnalyticValue.the_parts; D = AnalyticValue.the_type.D; as_values = _; make = AnalyticValue.the_make; eta = AnalyticValue.the_eta; beta = AnalyticValue.the_beta }

analytic_value_send : IsSend AnalyticValue.the_row
analytic_value_send = variants_send values (search (expr_send, analytic_send, crosses, sendable) depth 40 fits 20000)

analytic_value_sync : IsSync AnalyticValue.the_row
analytic_value_sync = variants_sync values (search (expr_sync, analytic_sync, crosses, sendable) depth 40 fits 20000)

analytic_item_send : IsSend AnalyticItem.the_row
analytic_item_send = declared_send AnalyticItem.the_type (search (analytic_value_send, crosses, sendable) depth 40)

analytic_item_sync : IsSync AnalyticItem.the_row
analytic_item_sync = declared_sync AnalyticItem.the_type (search (analytic_value_sync, crosses, sendable) depth 40)

-- what analytic operators work out, as its type lists it
abbrev windows : Record
windows = record { name = Window.the_type.name; args = Window.the_type.args; types = Window.the_type.types; parts = Window.the_parts; D = Window.the_type.D; as_values = _; make = Window.the_make; eta = Window.the_eta; beta = Window.the_beta }

window_send : IsSend Window.the_row
window_send = variants_send windows (search (analytic_measure_send, analytic_item_send, crosses, sendable) depth 40 fits 20000)

window_sync : IsSync Window.the_row
window_sync = variants_sync windows (search (analytic_measure_sync, analytic_item_sync, crosses, sendable) depth 40 fits 20000)

error_send : IsSend RuleError.the_row
error_send = declared_send RuleError.the_type (search (crosses, sendable) depth 40)

error_sync : IsSync RuleError.the_row
error_sync = declared_sync RuleError.the_type (search (crosses, sendable) depth 40)

point_rule_send : IsSend PointRule.the_row
point_rule_send = declared_send PointRule.the_type (search (expr_send, error_send, crosses, sendable) depth 40)

point_rule_sync : IsSync PointRule.the_row
point_rule_sync = declared_sync PointRule.the_type (search (expr_sync, error_sync, crosses, sendable) depth 40)

datapoint_send : IsSend Datapoint.the_row
datapoint_send = declared_send Datapoint.the_type (search (point_rule_send, crosses, sendable) depth 40)

datapoint_sync : IsSync Datapoint.the_row
datapoint_sync = declared_sync Datapoint.the_type (search (point_rule_sync, crosses, sendable) depth 40)

check_send : IsSend Check.the_row
check_send = declared_send Check.the_type (search (error_send, crosses, sendable) depth 40)

check_sync : IsSync Check.the_row
check_sync = declared_sync Check.the_type (search (error_sync, crosses, sendable) depth 40)

signed_send : IsSend SignedItem.the_row
signed_send = declared_send SignedItem.the_type (search (crosses, sendable) depth 40)

signed_sync : IsSync SignedItem.the_row
signed_sync = declared_sync SignedItem.the_type (search (crosses, sendable) depth 40)

item_rule_send : IsSend ItemRule.the_row
item_rule_send = declared_send ItemRule.the_type (search (expr_send, signed_send, error_send, crosses, sendable) depth 40)

item_rule_sync : IsSync ItemRule.the_row
item_rule_sync = declared_sync ItemRule.the_type (search (expr_sync, signed_sync, error_sync, crosses, sendable) depth 40)

content_send : IsSend Content.the_row
content_send = declared_send Content.the_type (search (item_rule_send, crosses, sendable) depth 40)

content_sync : IsSync Content.the_row
content_sync = declared_sync Content.the_type (search (item_rule_sync, crosses, sendable) depth 40)

-- a use of a hierarchical ruleset, as its type lists it
abbrev hierarchies : Record
hierarchies = record { name = Hierarchy.the_type.name; args = Hierarchy.the_type.args; types = Hierarchy.the_type.types; parts = Hierarchy.the_parts; D = Hierarchy.the_type.D; as_values = _; make = Hierarchy.the_make; eta = Hierarchy.the_eta; beta = Hierarchy.the_beta }

hierarchy_send : IsSend Hierarchy.the_row
hierarchy_send = variants_send hierarchies (search (content_send, crosses, sendable) depth 40 fits 20000)

hierarchy_sync : IsSync Hierarchy.the_row
hierarchy_sync = variants_sync hierarchies (search (content_sync, crosses, sendable) depth 40 fits 20000)

-- ---- operators

choice_measure_send : IsSend ChoiceMeasure.the_row
choice_measure_send = declared_send ChoiceMeasure.the_type (search (expr_send, crosses, sendable) depth 40)

choice_measure_sync : IsSync ChoiceMeasure.the_row
choice_measure_sync = declared_sync ChoiceMeasure.the_type (search (expr_sync, crosses, sendable) depth 40)

-- the operators, as their type lists them
abbrev operators : Record
operators = record { name = Operator.the_type.name; args = Operator.the_type.args; types = Operator.the_type.types; parts = Operator.the_parts; D = Operator.the_type.D; as_values = _; make = Operator.the_make; eta = Operator.the_eta; beta = Operator.the_beta }

one_operator_send : IsSend Operator.the_row
one_operator_send = variants_send operators (search (clause_send, measure_send, choice_measure_send, aggregate_send, window_send, check_send, datapoint_send, hierarchy_send, crosses, sendable) depth 40 fits 20000)

one_operator_sync : IsSync Operator.the_row
one_operator_sync = variants_sync operators (search (clause_sync, measure_sync, choice_measure_sync, aggregate_sync, window_sync, check_sync, datapoint_sync, hierarchy_sync, crosses, sendable) depth 40 fits 20000)

inside_operator_send : IsSend InsideOperator.the_row
inside_operator_send = declared_send InsideOperator.the_type (search (one_operator_send, one_operator_sync, crosses, sendable) depth 30)

inside_operator_sync : IsSync InsideOperator.the_row
inside_operator_sync = declared_sync InsideOperator.the_type (search (one_operator_send, one_operator_sync, crosses, sendable) depth 30)

pub operator_send : IsSend SharedOperator.the_row
operator_send = search (inside_operator_send, sendable)

pub operator_sync : IsSync SharedOperator.the_row
operator_sync = search (inside_operator_sync, sendable)
