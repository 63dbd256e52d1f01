-- Which names an expression mentions, in the order of the text.
use Rattle.std.specs.Prelude.{ℕ, List, [], ◌∷◌, ◌++◌, Bool, true, false, Option, Some, None, if◌then◌else◌}
use Rattle.std.specs.List.{flat_map}
use Rattle.vtl_values.specs.declared.place.Place.{Place}
use Rattle.vtl_syntax.specs.declared.expr.Expr.{Expr, fold-Expr}
use Rattle.vtl_syntax.specs.declared.expr.Clause.{Clause, fold-Clause}
use Rattle.vtl_syntax.specs.declared.expr.Groups.{Groups, fold-Groups}
use Rattle.vtl_syntax.specs.declared.expr.Item.{Item, fold-Item}
use Rattle.vtl_syntax.specs.declared.expr.JoinOperand.{JoinOperand, fold-JoinOperand}
use Rattle.vtl_syntax.specs.declared.expr.SubstrRange.{SubstrRange, fold-SubstrRange}
use Rattle.vtl_syntax.specs.declared.expr.Clause.TheOpen.{Expr-F, Clause-F, Groups-F, Item-F, JoinOperand-F, SubstrRange-F}
use Rattle.vtl_syntax.specs.declared.script.Statement.{Statement}
use Rattle.vtl_syntax.specs.declared.ruleset.Ruleset.{Ruleset}
use Rattle.vtl_syntax.specs.declared.ruleset.Ruleset.TheVariants as kind
use Rattle.vtl_syntax.specs.declared.ruleset.DatapointRule.{DatapointRule}
use Rattle.vtl_syntax.specs.declared.ruleset.HierarchyRule.{HierarchyRule}
use Rattle.script_graph.specs.declared.sort.NameSort.{NameSort}
use Rattle.script_graph.specs.declared.sort.NameSort.TheVariants as sort

-- a name, where it stands, and what it has to be the name of
pub record Mention : Type 0 where
  pub sort : NameSort
  pub name : List ℕ
  pub place : Place

-- what a part mentions: outside of clauses, rules and `having`, or inside, where names are those of components
abbrev pub Mentions : Type 0
Mentions = Bool → List Mention

abbrev pub mention : NameSort → List ℕ → Place → Mention
mention s w p = record { sort = s; name = w; place = p }

-- a name that is an expression
abbrev pub name_mentions : List ℕ → Place → Mentions
name_mentions w p inside = if inside then [] else mention sort.DataSet w p ∷ []

-- what may be left out
abbrev pub optional : {A : Type 0} → (A → Mentions) → Option A → Mentions
optional f None inside = []
optional f (Some x) inside = f x inside

-- one after the other
abbrev pub each : {A : Type 0} → (A → Mentions) → List A → Mentions
each f xs inside = flat_map (λ x. f x inside) xs

-- the same of clauses, whatever they stand in
abbrev pub optional_inside : {A : Type 0} → (A → Mentions) → Option A → List Mention
optional_inside f x = optional f x true

abbrev pub it : Mentions → Mentions
it m = m

-- ---- one level of a tree, where each part has its mentions

abbrev pub expr_step : Expr-F Mentions Mentions Mentions Mentions Mentions Mentions → Mentions
expr_step (Expr-F.If c a b p) inside = (c inside ++ a inside) ++ b inside
expr_step (Expr-F.Or a s b p) inside = a inside ++ b inside
expr_step (Expr-F.And a b p) inside = a inside ++ b inside
expr_step (Expr-F.Compare a s b p) inside = a inside ++ b inside
expr_step (Expr-F.In a s vs p) inside = a inside
expr_step (Expr-F.Sum a s b p) inside = a inside ++ b inside
expr_step (Expr-F.Product a s b p) inside = a inside ++ b inside
expr_step (Expr-F.Signed s a p) inside = a inside
expr_step (Expr-F.Member a w p) inside = a inside
expr_step (Expr-F.Clause a c p) inside = a inside ++ c true
expr_step (Expr-F.Literal v p) inside = []
expr_step (Expr-F.Name w p) inside = name_mentions w p inside
expr_step (Expr-F.Bracket a p) inside = a inside
expr_step (Expr-F.Unary f a p) inside = a inside
expr_step (Expr-F.Round f a n p) inside = a inside
expr_step (Expr-F.Binary f a b p) inside = a inside ++ b inside
expr_step (Expr-F.Between a u v p) inside = a inside
expr_step (Expr-F.MatchCharacters a t p) inside = a inside
expr_step (Expr-F.Substr a r p) inside = a inside ++ optional it r inside
expr_step (Expr-F.Replace a b c p) inside = (a inside ++ b inside) ++ optional it c inside
expr_step (Expr-F.ExistsIn a b r p) inside = a inside ++ b inside
expr_step (Expr-F.Sets f a b cs p) inside = (a inside ++ b inside) ++ each it cs inside
expr_step (Expr-F.Difference f a b p) inside = a inside ++ b inside
expr_step (Expr-F.Join f a b cs u v w x p) inside = ((a inside ++ b inside) ++ each it cs inside) ++ ((optional_inside it u ++ optional_inside it v) ++ (optional_inside it w ++ optional_inside it x))
expr_step (Expr-F.Aggregate f a g p) inside = a inside ++ optional_inside it g
expr_step (Expr-F.Window f a o p) inside = a inside
expr_step (Expr-F.CountAll p) inside = []
expr_step (Expr-F.Offset f a n o p) inside = a inside
expr_step (Expr-F.Rank o p) inside = []
expr_step (Expr-F.CheckDatapoint a r q o p) inside = a inside ++ mention sort.Datapoint r q ∷ []
expr_step (Expr-F.Hierarchy a r q c m i o p) inside = a inside ++ mention sort.Hierarchy r q ∷ []
expr_step (Expr-F.CheckHierarchy a r q c m i o p) inside = a inside ++ mention sort.Hierarchy r q ∷ []
expr_step (Expr-F.Check a c l i o p) inside = a inside ++ optional it i inside
expr_step (Expr-F.Time f a p) inside = a inside
expr_step (Expr-F.Timeshift a n p) inside = a inside
expr_step (Expr-F.FillTimeSeries a s p) inside = a inside
expr_step (Expr-F.CallOf w arguments p) inside = each it arguments inside
expr_step (Expr-F.Typed s a p) inside = a inside

abbrev pub clause_step : Clause-F Mentions Mentions Mentions Mentions Mentions Mentions → Mentions
clause_step (Clause-F.Filter a p) inside = a inside
clause_step (Clause-F.Calc is p) inside = each it is inside
clause_step (Clause-F.Keep cs p) inside = []
clause_step (Clause-F.Drop cs p) inside = []
clause_step (Clause-F.Rename rs p) inside = []
clause_step (Clause-F.Sub is p) inside = []
clause_step (Clause-F.Unpivot i m p) inside = []
clause_step (Clause-F.Aggr is g p) inside = each it is inside ++ optional it g inside

abbrev pub groups_step : Groups-F Mentions Mentions Mentions Mentions Mentions Mentions → Mentions
groups_step g = optional it g.having

abbrev pub item_step : Item-F Mentions Mentions Mentions Mentions Mentions Mentions → Mentions
item_step i = i.expr

abbrev pub operand_step : JoinOperand-F Mentions Mentions Mentions Mentions Mentions Mentions → Mentions
operand_step o = o.expr

abbrev pub range_step : SubstrRange-F Mentions Mentions Mentions Mentions Mentions Mentions → Mentions
range_step r inside = r.start inside ++ optional it r.length inside

-- ---- whole trees

abbrev pub mentions : Expr → Mentions
mentions = fold-Expr Mentions Mentions Mentions Mentions Mentions Mentions clause_step expr_step groups_step item_step operand_step range_step

abbrev pub clause_mentions : Clause → Mentions
clause_mentions = fold-Clause Mentions Mentions Mentions Mentions Mentions Mentions clause_step expr_step groups_step item_step operand_step range_step

abbrev pub groups_mentions : Groups → Mentions
groups_mentions = fold-Groups Mentions Mentions Mentions Mentions Mentions Mentions clause_step expr_step groups_step item_step operand_step range_step

abbrev pub item_mentions : Item → Mentions
item_mentions = fold-Item Mentions Mentions Mentions Mentions Mentions Mentions clause_step expr_step groups_step item_step operand_step range_step

abbrev pub operand_mentions : JoinOperand → Mentions
operand_mentions = fold-JoinOperand Mentions Mentions Mentions Mentions Mentions Mentions clause_step expr_step groups_step item_step operand_step range_step

abbrev pub range_mentions : SubstrRange → Mentions
range_mentions = fold-SubstrRange Mentions Mentions Mentions Mentions Mentions Mentions clause_step expr_step groups_step item_step operand_step range_step

-- ---- statements and rulesets; a rule is the inside of its ruleset

abbrev pub of_statement : Statement → List Mention
of_statement s = mentions s.expr false

abbrev pub of_condition : Option Expr → List Mention
of_condition c = optional_inside mentions c

abbrev pub of_datapoint : DatapointRule → List Mention
of_datapoint r = of_condition r.condition ++ mentions r.expr true

abbrev pub of_hierarchy : HierarchyRule → List Mention
of_hierarchy r = of_condition r.condition

abbrev pub of_ruleset : Ruleset → List Mention
of_ruleset (kind.Datapoint d) = flat_map of_datapoint d.rules
of_ruleset (kind.Hierarchy h) = flat_map of_hierarchy h.rules
