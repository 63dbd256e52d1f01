-- Trees with every place put to one, so that two trees are the same but for places if these are equal.
use Rattle.std.specs.Prelude.{◌≡◌, map, option_map}
use Rattle.vtl_values.specs.declared.place.Place.{Place}
use Rattle.vtl_syntax.specs.declared.expr.Expr.{Expr, fold-Expr}
use Rattle.vtl_syntax.specs.declared.expr.Expr.TheVariants as tree
use Rattle.vtl_syntax.specs.declared.expr.Clause.{Clause, fold-Clause}
use Rattle.vtl_syntax.specs.declared.expr.Clause.TheVariants as clause_tree
use Rattle.vtl_syntax.specs.declared.expr.Groups.{Groups, fold-Groups}
use Rattle.vtl_syntax.specs.declared.expr.Item.{Item, fold-Item}
use Rattle.vtl_syntax.specs.declared.expr.JoinOperand.{JoinOperand, fold-JoinOperand}
use Rattle.vtl_syntax.specs.declared.expr.SubstrRange.{SubstrRange, fold-SubstrRange}
use Rattle.vtl_syntax.specs.declared.expr.Clause.TheOpen.{Expr-F, Clause-F, Groups-F, Item-F, JoinOperand-F, SubstrRange-F}
use Rattle.vtl_syntax.specs.declared.expr.Comp.{Comp}
use Rattle.vtl_syntax.specs.declared.expr.Rename.{Rename}
use Rattle.vtl_syntax.specs.declared.expr.SubItem.{SubItem}
use Rattle.vtl_syntax.specs.declared.expr.Grouping.{Grouping}
use Rattle.vtl_syntax.specs.declared.expr.Over.{Over}
use Rattle.vtl_syntax.specs.declared.expr.OrderItem.{OrderItem}
use Rattle.vtl_syntax.specs.declared.expr.Points.{Points}
use Rattle.vtl_syntax.specs.declared.ruleset.Ruleset.{Ruleset}
use Rattle.vtl_syntax.specs.declared.ruleset.Ruleset.TheVariants as kind
use Rattle.vtl_syntax.specs.declared.ruleset.Variable.{Variable}
use Rattle.vtl_syntax.specs.declared.ruleset.FaultPart.{FaultPart}
use Rattle.vtl_syntax.specs.declared.ruleset.SignedName.{SignedName}
use Rattle.vtl_syntax.specs.declared.ruleset.DatapointRule.{DatapointRule}
use Rattle.vtl_syntax.specs.declared.ruleset.HierarchyRule.{HierarchyRule}
use Rattle.vtl_syntax.specs.declared.operator.Param.{Param}
use Rattle.vtl_syntax.specs.declared.operator.DefinedOperator.{DefinedOperator}
use Rattle.vtl_syntax.specs.declared.script.Statement.{Statement}
use Rattle.vtl_syntax.specs.declared.script.Script.{Script}

abbrev pub nowhere : Place
nowhere = record { line = 0; column = 0 }

-- ---- what holds no expression

abbrev pub comp_placeless : Comp → Comp
comp_placeless c = record c { place = nowhere }

abbrev pub rename_placeless : Rename → Rename
rename_placeless r = record { component = comp_placeless r.component; name = r.name; place = nowhere }

abbrev pub sub_item_placeless : SubItem → SubItem
sub_item_placeless i = record i { place = nowhere }

abbrev pub grouping_placeless : Grouping → Grouping
grouping_placeless g = record g { place = nowhere }

abbrev pub order_item_placeless : OrderItem → OrderItem
order_item_placeless i = record i { place = nowhere }

abbrev pub points_placeless : Points → Points
points_placeless p = record p { place = nowhere }

abbrev pub over_placeless : Over → Over
over_placeless o = record { partition = o.partition; order = option_map (λ is. map order_item_placeless is) o.order; points = option_map points_placeless o.points; place = nowhere }

-- ---- expressions, clauses and what stands in them, where each part is placeless

abbrev pub expr_bare : Expr-F Clause Expr Groups Item JoinOperand SubstrRange → Expr
expr_bare (Expr-F.If c a b p) = tree.If c a b nowhere
expr_bare (Expr-F.Or a s b p) = tree.Or a s b nowhere
expr_bare (Expr-F.And a b p) = tree.And a b nowhere
expr_bare (Expr-F.Compare a s b p) = tree.Compare a s b nowhere
expr_bare (Expr-F.In a s vs p) = tree.In a s vs nowhere
expr_bare (Expr-F.Sum a s b p) = tree.Sum a s b nowhere
expr_bare (Expr-F.Product a s b p) = tree.Product a s b nowhere
expr_bare (Expr-F.Signed s a p) = tree.Signed s a nowhere
expr_bare (Expr-F.Member a w p) = tree.Member a w nowhere
expr_bare (Expr-F.Clause a c p) = tree.Clause a c nowhere
expr_bare (Expr-F.Literal v p) = tree.Literal v nowhere
expr_bare (Expr-F.Name w p) = tree.Name w nowhere
expr_bare (Expr-F.Bracket a p) = tree.Bracket a nowhere
expr_bare (Expr-F.Unary f a p) = tree.Unary f a nowhere
expr_bare (Expr-F.Round f a n p) = tree.Round f a n nowhere
expr_bare (Expr-F.Binary f a b p) = tree.Binary f a b nowhere
expr_bare (Expr-F.Between a u v p) = tree.Between a u v nowhere
expr_bare (Expr-F.MatchCharacters a t p) = tree.MatchCharacters a t nowhere
expr_bare (Expr-F.Substr a r p) = tree.Substr a r nowhere
expr_bare (Expr-F.Replace a b c p) = tree.Replace a b c nowhere
expr_bare (Expr-F.ExistsIn a b r p) = tree.ExistsIn a b r nowhere
expr_bare (Expr-F.Sets f a b cs p) = tree.Sets f a b cs nowhere
expr_bare (Expr-F.Difference f a b p) = tree.Difference f a b nowhere
expr_bare (Expr-F.Join f a b cs u v w x p) = tree.Join f a b cs u v w x nowhere
expr_bare (Expr-F.Aggregate f a g p) = tree.Aggregate f a g nowhere
expr_bare (Expr-F.Window f a o p) = tree.Window f a (over_placeless o) nowhere
expr_bare (Expr-F.CountAll p) = tree.CountAll nowhere
expr_bare (Expr-F.Offset f a n o p) = tree.Offset f a n (over_placeless o) nowhere
expr_bare (Expr-F.Rank o p) = tree.Rank (over_placeless o) nowhere
expr_bare (Expr-F.CheckDatapoint a r q o p) = tree.CheckDatapoint a r nowhere o nowhere
expr_bare (Expr-F.Hierarchy a r q c m i o p) = tree.Hierarchy a r nowhere c m i o nowhere
expr_bare (Expr-F.CheckHierarchy a r q c m i o p) = tree.CheckHierarchy a r nowhere c m i o nowhere
expr_bare (Expr-F.Check a c l i o p) = tree.Check a c l i o nowhere
expr_bare (Expr-F.Time f a p) = tree.Time f a nowhere
expr_bare (Expr-F.Timeshift a z p) = tree.Timeshift a z nowhere
expr_bare (Expr-F.FillTimeSeries a s p) = tree.FillTimeSeries a s nowhere
expr_bare (Expr-F.CallOf w as' p) = tree.CallOf w as' nowhere
expr_bare (Expr-F.Typed s a p) = tree.Typed s a nowhere

abbrev pub clause_bare : Clause-F Clause Expr Groups Item JoinOperand SubstrRange → Clause
clause_bare (Clause-F.Filter a p) = clause_tree.Filter a nowhere
clause_bare (Clause-F.Calc is p) = clause_tree.Calc is nowhere
clause_bare (Clause-F.Keep cs p) = clause_tree.Keep (map comp_placeless cs) nowhere
clause_bare (Clause-F.Drop cs p) = clause_tree.Drop (map comp_placeless cs) nowhere
clause_bare (Clause-F.Rename rs p) = clause_tree.Rename (map rename_placeless rs) nowhere
clause_bare (Clause-F.Sub is p) = clause_tree.Sub (map sub_item_placeless is) nowhere
clause_bare (Clause-F.Unpivot i m p) = clause_tree.Unpivot i m nowhere
clause_bare (Clause-F.Aggr is g p) = clause_tree.Aggr is g nowhere

abbrev pub groups_bare : Groups-F Clause Expr Groups Item JoinOperand SubstrRange → Groups
groups_bare g = record { grouping = grouping_placeless g.grouping; having = g.having; place = nowhere }

abbrev pub item_bare : Item-F Clause Expr Groups Item JoinOperand SubstrRange → Item
item_bare i = record { role = i.role; name = i.name; expr = i.expr; place = nowhere }

abbrev pub operand_bare : JoinOperand-F Clause Expr Groups Item JoinOperand SubstrRange → JoinOperand
operand_bare o = record { expr = o.expr; alias = o.alias; place = nowhere }

abbrev pub range_bare : SubstrRange-F Clause Expr Groups Item JoinOperand SubstrRange → SubstrRange
range_bare r = record { start = r.start; length = r.length; place = nowhere }

abbrev pub placeless : Expr → Expr
placeless = fold-Expr Clause Expr Groups Item JoinOperand SubstrRange clause_bare expr_bare groups_bare item_bare operand_bare range_bare

abbrev pub clause_placeless : Clause → Clause
clause_placeless = fold-Clause Clause Expr Groups Item JoinOperand SubstrRange clause_bare expr_bare groups_bare item_bare operand_bare range_bare

abbrev pub groups_placeless : Groups → Groups
groups_placeless = fold-Groups Clause Expr Groups Item JoinOperand SubstrRange clause_bare expr_bare groups_bare item_bare operand_bare range_bare

abbrev pub item_placeless : Item → Item
item_placeless = fold-Item Clause Expr Groups Item JoinOperand SubstrRange clause_bare expr_bare groups_bare item_bare operand_bare range_bare

abbrev pub operand_placeless : JoinOperand → JoinOperand
operand_placeless = fold-JoinOperand Clause Expr Groups Item JoinOperand SubstrRange clause_bare expr_bare groups_bare item_bare operand_bare range_bare

abbrev pub range_placeless : SubstrRange → SubstrRange
range_placeless = fold-SubstrRange Clause Expr Groups Item JoinOperand SubstrRange clause_bare expr_bare groups_bare item_bare operand_bare range_bare

-- ---- rulesets, defined operators and scripts

abbrev pub variable_placeless : Variable → Variable
variable_placeless v = record v { place = nowhere }

abbrev pub fault_placeless : FaultPart → FaultPart
fault_placeless f = record f { place = nowhere }

abbrev pub signed_name_placeless : SignedName → SignedName
signed_name_placeless s = record s { place = nowhere }

abbrev pub datapoint_rule_placeless : DatapointRule → DatapointRule
datapoint_rule_placeless r = record { name = r.name; condition = option_map placeless r.condition; expr = placeless r.expr; fault = fault_placeless r.fault; place = nowhere }

abbrev pub hierarchy_rule_placeless : HierarchyRule → HierarchyRule
hierarchy_rule_placeless r = record { name = r.name; condition = option_map placeless r.condition; left = r.left; relation = r.relation; sign = r.sign; first = r.first; others = map signed_name_placeless r.others; fault = fault_placeless r.fault; place = nowhere }

abbrev pub ruleset_placeless : Ruleset → Ruleset
ruleset_placeless (kind.Datapoint d) = kind.Datapoint (record { name = d.name; variables = map variable_placeless d.variables; rules = map datapoint_rule_placeless d.rules; place = nowhere })
ruleset_placeless (kind.Hierarchy h) = kind.Hierarchy (record { name = h.name; variables = option_map (λ vs. map variable_placeless vs) h.variables; component = h.component; rules = map hierarchy_rule_placeless h.rules; place = nowhere })

abbrev pub param_placeless : Param → Param
param_placeless p = record p { place = nowhere }

abbrev pub operator_placeless : DefinedOperator → DefinedOperator
operator_placeless o = record { name = o.name; params = map param_placeless o.params; returns = o.returns; body = placeless o.body; place = nowhere }

abbrev pub statement_placeless : Statement → Statement
statement_placeless s = record { name = s.name; persistent = s.persistent; expr = placeless s.expr; place = nowhere }

abbrev pub script_placeless : Script → Script
script_placeless s = record { statements = map statement_placeless s.statements; rulesets = map ruleset_placeless s.rulesets; operators = map operator_placeless s.operators }

-- ---- the same but for places

abbrev pub IsSameButPlaces : Script → Script → Type 0
IsSameButPlaces s t = script_placeless s ≡ script_placeless t
