-- Expressions whose literals are in range (docs/language.md, "Values").
use Rattle.std.specs.Prelude.{Bool, true, ◌&&◌, List, Option, Some, None, option_map}
use Rattle.std.specs.List.{list_all}
use Rattle.vtl_syntax.specs.declared.expr.Clause.{Clause, fold-Clause}
use Rattle.vtl_syntax.specs.declared.expr.Clause.TheOpen.{Clause-F, Expr-F, Groups-F, Item-F, JoinOperand-F, SubstrRange-F}
use Rattle.vtl_syntax.specs.declared.expr.Expr.{Expr, fold-Expr}
use Rattle.vtl_syntax.specs.declared.expr.Groups.{Groups, fold-Groups}
use Rattle.vtl_syntax.specs.declared.expr.Item.{Item, fold-Item}
use Rattle.vtl_syntax.specs.declared.expr.JoinOperand.{JoinOperand, fold-JoinOperand}
use Rattle.vtl_syntax.specs.declared.expr.SubstrRange.{SubstrRange, fold-SubstrRange}
use Rattle.vtl_syntax.specs.declared.ruleset.DatapointRule.{DatapointRule}
use Rattle.vtl_syntax.specs.declared.ruleset.HierarchyRule.{HierarchyRule}
use Rattle.vtl_syntax.specs.declared.ruleset.Ruleset.{Ruleset}
use Rattle.vtl_syntax.specs.declared.ruleset.Ruleset.TheVariants.{Datapoint, Hierarchy}
use Rattle.scalar_trees.specs.WellTyped.{in_range}

-- a part that may be left out
abbrev pub if_given : Option Bool → Bool
if_given None = true
if_given (Some b) = b

abbrev pub all_are : List Bool → Bool
all_are bs = list_all (λ b. b) bs

-- one level, where each part says whether its literals are in range; what typing refuses whatever stands in it is passed over
abbrev pub range_step : Expr-F Bool Bool Bool Bool Bool Bool → Bool
range_step (Expr-F.Literal v place) = in_range v
range_step (Expr-F.In a sign set place) = a && list_all in_range set
range_step (Expr-F.Between a low high place) = a && (in_range low && in_range high)
range_step (Expr-F.Bracket a place) = a
range_step (Expr-F.Signed sign a place) = a
range_step (Expr-F.Unary f a place) = a
range_step (Expr-F.Or a sign b place) = a && b
range_step (Expr-F.And a b place) = a && b
range_step (Expr-F.Compare a sign b place) = a && b
range_step (Expr-F.Sum a sign b place) = a && b
range_step (Expr-F.Product a sign b place) = a && b
range_step (Expr-F.Binary f a b place) = a && b
range_step (Expr-F.Round f a digits place) = a
range_step (Expr-F.MatchCharacters a pattern place) = a
range_step (Expr-F.Substr a range place) = a && if_given range
range_step (Expr-F.Replace a old by place) = a && (old && if_given by)
range_step (Expr-F.If c a b place) = c && (a && b)
range_step (Expr-F.Typed sort a place) = a
range_step (Expr-F.Member a name place) = a
range_step (Expr-F.Clause a clause place) = a && clause
range_step (Expr-F.ExistsIn a b rows place) = a && b
range_step (Expr-F.Sets f a b others place) = a && (b && all_are others)
range_step (Expr-F.Difference f a b place) = a && b
range_step (Expr-F.Join f a b others filter calc keep rename place) = (a && (b && all_are others)) && (if_given filter && (if_given calc && (if_given keep && if_given rename)))
range_step (Expr-F.Aggregate f a groups place) = a && if_given groups
range_step (Expr-F.Window f a over place) = a
range_step (Expr-F.Offset f a offset over place) = a
range_step (Expr-F.CheckDatapoint a rules rules_place output place) = a
range_step (Expr-F.Hierarchy a rules rules_place component mode input output place) = a
range_step (Expr-F.CheckHierarchy a rules rules_place component mode input output place) = a
range_step (Expr-F.Check a code level imbalance output place) = a && if_given imbalance
range_step (Expr-F.Time f a place) = a
range_step (Expr-F.Timeshift a shift place) = a
range_step (Expr-F.FillTimeSeries a span place) = a
range_step _ = true

abbrev pub clause_range_step : Clause-F Bool Bool Bool Bool Bool Bool → Bool
clause_range_step (Clause-F.Filter condition place) = condition
clause_range_step (Clause-F.Calc items place) = all_are items
clause_range_step (Clause-F.Aggr items groups place) = all_are items && if_given groups
clause_range_step _ = true

abbrev pub groups_range_step : Groups-F Bool Bool Bool Bool Bool Bool → Bool
groups_range_step g = if_given g.having

abbrev pub item_range_step : Item-F Bool Bool Bool Bool Bool Bool → Bool
item_range_step i = i.expr

abbrev pub operand_range_step : JoinOperand-F Bool Bool Bool Bool Bool Bool → Bool
operand_range_step o = o.expr

abbrev pub part_range_step : SubstrRange-F Bool Bool Bool Bool Bool Bool → Bool
part_range_step r = r.start && if_given r.length

-- the literals in an expression, and in its clauses, are in range
abbrev pub literals_in_range : Expr → Bool
literals_in_range = fold-Expr Bool Bool Bool Bool Bool Bool clause_range_step range_step groups_range_step item_range_step operand_range_step part_range_step

-- those in a clause
abbrev pub clause_in_range : Clause → Bool
clause_in_range = fold-Clause Bool Bool Bool Bool Bool Bool clause_range_step range_step groups_range_step item_range_step operand_range_step part_range_step

-- those in a condition on groups
abbrev pub groups_in_range : Groups → Bool
groups_in_range = fold-Groups Bool Bool Bool Bool Bool Bool clause_range_step range_step groups_range_step item_range_step operand_range_step part_range_step

-- those in an item of `calc`, or of `aggr`
abbrev pub item_in_range : Item → Bool
item_in_range = fold-Item Bool Bool Bool Bool Bool Bool clause_range_step range_step groups_range_step item_range_step operand_range_step part_range_step

-- those in an operand of a join
abbrev pub operand_in_range : JoinOperand → Bool
operand_in_range = fold-JoinOperand Bool Bool Bool Bool Bool Bool clause_range_step range_step groups_range_step item_range_step operand_range_step part_range_step

-- those in `, start, length`
abbrev pub part_in_range : SubstrRange → Bool
part_in_range = fold-SubstrRange Bool Bool Bool Bool Bool Bool clause_range_step range_step groups_range_step item_range_step operand_range_step part_range_step

-- ---- rulesets

-- those in a condition, if there is one
abbrev pub condition_in_range : Option Expr → Bool
condition_in_range condition = if_given (option_map literals_in_range condition)

abbrev pub datapoint_in_range : DatapointRule → Bool
datapoint_in_range r = condition_in_range r.condition && literals_in_range r.expr

abbrev pub hierarchy_in_range : HierarchyRule → Bool
hierarchy_in_range r = condition_in_range r.condition

-- those in all rules of a ruleset
abbrev pub ruleset_in_range : Ruleset → Bool
ruleset_in_range (Datapoint r) = list_all datapoint_in_range r.rules
ruleset_in_range (Hierarchy r) = list_all hierarchy_in_range r.rules
