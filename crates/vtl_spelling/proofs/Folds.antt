-- What a function made by steps over trees gives of each tree.
use Rattle.std.proofs.Common.{◌≡◌, ℕ, List, Option, map, sym, ap, ◌∙◌}
use Rattle.std.specs.Prelude.{ℤ, option_map}
use Rattle.vtl_values.specs.declared.place.Place.{Place}
use Rattle.vtl_values.specs.declared.value.Value.{Value}
use Rattle.vtl_syntax.specs.declared.expr.Clause.{Clause, fold-Clause, fold-roll-Clause, roll-Clause, map-Clause}
use Rattle.vtl_syntax.specs.declared.expr.Expr.{Expr, fold-Expr, fold-roll-Expr, roll-Expr, map-Expr}
use Rattle.vtl_syntax.specs.declared.expr.Groups.{Groups, fold-Groups, fold-roll-Groups}
use Rattle.vtl_syntax.specs.declared.expr.Item.{Item, fold-Item, fold-roll-Item}
use Rattle.vtl_syntax.specs.declared.expr.JoinOperand.{JoinOperand, fold-JoinOperand, fold-roll-JoinOperand}
use Rattle.vtl_syntax.specs.declared.expr.SubstrRange.{SubstrRange, fold-SubstrRange, fold-roll-SubstrRange}
use Rattle.vtl_syntax.specs.declared.expr.Expr.TheVariants as tree
use Rattle.vtl_syntax.specs.declared.expr.Clause.TheVariants as clause_tree
use Rattle.vtl_syntax.specs.declared.expr.Groups as Groups'
use Rattle.vtl_syntax.specs.declared.expr.Item as Item'
use Rattle.vtl_syntax.specs.declared.expr.JoinOperand as JoinOperand'
use Rattle.vtl_syntax.specs.declared.expr.SubstrRange as SubstrRange'
use Rattle.vtl_syntax.specs.declared.expr.Clause.TheOpen.{Expr-F, Clause-F, Groups-F, Item-F, JoinOperand-F, SubstrRange-F}
use Rattle.vtl_syntax.specs.declared.expr.Comp.{Comp}
use Rattle.vtl_syntax.specs.declared.expr.Rename.{Rename}
use Rattle.vtl_syntax.specs.declared.expr.SubItem.{SubItem}
use Rattle.vtl_syntax.specs.declared.expr.Over.{Over}
use Rattle.vtl_syntax.specs.declared.expr.Grouping.{Grouping}
use Rattle.vtl_syntax.specs.declared.words.OrSign.{OrSign}
use Rattle.vtl_syntax.specs.declared.words.Comparison.{Comparison}
use Rattle.vtl_syntax.specs.declared.words.InSign.{InSign}
use Rattle.vtl_syntax.specs.declared.words.SumSign.{SumSign}
use Rattle.vtl_syntax.specs.declared.words.ProductSign.{ProductSign}
use Rattle.vtl_syntax.specs.declared.words.Prefix.{Prefix}
use Rattle.vtl_syntax.specs.declared.words.UnaryFunction.{UnaryFunction}
use Rattle.vtl_syntax.specs.declared.words.RoundFunction.{RoundFunction}
use Rattle.vtl_syntax.specs.declared.words.BinaryFunction.{BinaryFunction}
use Rattle.vtl_syntax.specs.declared.words.ExistsRows.{ExistsRows}
use Rattle.vtl_syntax.specs.declared.words.SetFunction.{SetFunction}
use Rattle.vtl_syntax.specs.declared.words.DifferenceFunction.{DifferenceFunction}
use Rattle.vtl_syntax.specs.declared.words.JoinFunction.{JoinFunction}
use Rattle.vtl_syntax.specs.declared.words.AggregateFunction.{AggregateFunction}
use Rattle.vtl_syntax.specs.declared.words.WindowFunction.{WindowFunction}
use Rattle.vtl_syntax.specs.declared.words.OffsetFunction.{OffsetFunction}
use Rattle.vtl_syntax.specs.declared.words.RowsOutput.{RowsOutput}
use Rattle.vtl_syntax.specs.declared.words.CheckOutput.{CheckOutput}
use Rattle.vtl_syntax.specs.declared.words.Mode.{Mode}
use Rattle.vtl_syntax.specs.declared.words.HierarchyInput.{HierarchyInput}
use Rattle.vtl_syntax.specs.declared.words.HierarchyOutput.{HierarchyOutput}
use Rattle.vtl_syntax.specs.declared.words.CheckInput.{CheckInput}
use Rattle.vtl_syntax.specs.declared.words.ItemRole.{ItemRole}
use Rattle.vtl_syntax.specs.declared.words.TimeFunction.{TimeFunction}
use Rattle.vtl_syntax.specs.declared.words.FillSpan.{FillSpan}
use Rattle.vtl_syntax.specs.declared.words.Sort.{Sort}
use Rattle.vtl_syntax.proofs.Maps.{maps-Substr, maps-Replace, maps-Join, maps-Aggregate, maps-Check, clause_maps-Aggr, groups_maps, range_maps}

-- a step for each kind of tree, where each part has its answer
pub record Steps : Type 1 where
  pub A : Type 0
  pub B : Type 0
  pub C : Type 0
  pub D : Type 0
  pub E : Type 0
  pub F : Type 0
  pub of_clause : Clause-F A B C D E F → A
  pub of_expr : Expr-F A B C D E F → B
  pub of_groups : Groups-F A B C D E F → C
  pub of_item : Item-F A B C D E F → D
  pub of_operand : JoinOperand-F A B C D E F → E
  pub of_range : SubstrRange-F A B C D E F → F

module _ (s : Steps) where
  abbrev pub clause : Clause → s.A
  clause = fold-Clause s.A s.B s.C s.D s.E s.F s.of_clause s.of_expr s.of_groups s.of_item s.of_operand s.of_range

  abbrev pub expr : Expr → s.B
  expr = fold-Expr s.A s.B s.C s.D s.E s.F s.of_clause s.of_expr s.of_groups s.of_item s.of_operand s.of_range

  abbrev pub groups : Groups → s.C
  groups = fold-Groups s.A s.B s.C s.D s.E s.F s.of_clause s.of_expr s.of_groups s.of_item s.of_operand s.of_range

  abbrev pub item : Item → s.D
  item = fold-Item s.A s.B s.C s.D s.E s.F s.of_clause s.of_expr s.of_groups s.of_item s.of_operand s.of_range

  abbrev pub operand : JoinOperand → s.E
  operand = fold-JoinOperand s.A s.B s.C s.D s.E s.F s.of_clause s.of_expr s.of_groups s.of_item s.of_operand s.of_range

  abbrev pub range : SubstrRange → s.F
  range = fold-SubstrRange s.A s.B s.C s.D s.E s.F s.of_clause s.of_expr s.of_groups s.of_item s.of_operand s.of_range

  -- of a tree that one level rolls up to
  rolled : (x : Expr-F Clause Expr Groups Item JoinOperand SubstrRange) {e : Expr} → roll-Expr x ≡ e → expr e ≡ s.of_expr (map-Expr Clause Expr Groups Item JoinOperand SubstrRange s.A s.B s.C s.D s.E s.F clause expr groups item operand range x)
  rolled x {e} is = ap expr (sym is) ∙ fold-roll-Expr s.A s.B s.C s.D s.E s.F s.of_clause s.of_expr s.of_groups s.of_item s.of_operand s.of_range x

  clause_rolled : (x : Clause-F Clause Expr Groups Item JoinOperand SubstrRange) {c : Clause} → roll-Clause x ≡ c → clause c ≡ s.of_clause (map-Clause Clause Expr Groups Item JoinOperand SubstrRange s.A s.B s.C s.D s.E s.F clause expr groups item operand range x)
  clause_rolled x {c} is = ap clause (sym is) ∙ fold-roll-Clause s.A s.B s.C s.D s.E s.F s.of_clause s.of_expr s.of_groups s.of_item s.of_operand s.of_range x

  pub folded-If : (x0 : Expr) (x1 : Expr) (x2 : Expr) (p : Place) → expr (tree.If x0 x1 x2 p) ≡ s.of_expr (Expr-F.If (expr x0) (expr x1) (expr x2) p)
  folded-If x0 x1 x2 p = rolled (Expr-F.If x0 x1 x2 p) (tree.rolls-If x0 x1 x2 p)

  pub folded-Or : (x0 : Expr) (x1 : OrSign) (x2 : Expr) (p : Place) → expr (tree.Or x0 x1 x2 p) ≡ s.of_expr (Expr-F.Or (expr x0) x1 (expr x2) p)
  folded-Or x0 x1 x2 p = rolled (Expr-F.Or x0 x1 x2 p) (tree.rolls-Or x0 x1 x2 p)

  pub folded-And : (x0 : Expr) (x1 : Expr) (p : Place) → expr (tree.And x0 x1 p) ≡ s.of_expr (Expr-F.And (expr x0) (expr x1) p)
  folded-And x0 x1 p = rolled (Expr-F.And x0 x1 p) (tree.rolls-And x0 x1 p)

  pub folded-Compare : (x0 : Expr) (x1 : Comparison) (x2 : Expr) (p : Place) → expr (tree.Compare x0 x1 x2 p) ≡ s.of_expr (Expr-F.Compare (expr x0) x1 (expr x2) p)
  folded-Compare x0 x1 x2 p = rolled (Expr-F.Compare x0 x1 x2 p) (tree.rolls-Compare x0 x1 x2 p)

  pub folded-In : (x0 : Expr) (x1 : InSign) (x2 : List Value) (p : Place) → expr (tree.In x0 x1 x2 p) ≡ s.of_expr (Expr-F.In (expr x0) x1 x2 p)
  folded-In x0 x1 x2 p = rolled (Expr-F.In x0 x1 x2 p) (tree.rolls-In x0 x1 x2 p)

  pub folded-Sum : (x0 : Expr) (x1 : SumSign) (x2 : Expr) (p : Place) → expr (tree.Sum x0 x1 x2 p) ≡ s.of_expr (Expr-F.Sum (expr x0) x1 (expr x2) p)
  folded-Sum x0 x1 x2 p = rolled (Expr-F.Sum x0 x1 x2 p) (tree.rolls-Sum x0 x1 x2 p)

  pub folded-Product : (x0 : Expr) (x1 : ProductSign) (x2 : Expr) (p : Place) → expr (tree.Product x0 x1 x2 p) ≡ s.of_expr (Expr-F.Product (expr x0) x1 (expr x2) p)
  folded-Product x0 x1 x2 p = rolled (Expr-F.Product x0 x1 x2 p) (tree.rolls-Product x0 x1 x2 p)

  pub folded-Signed : (x0 : Prefix) (x1 : Expr) (p : Place) → expr (tree.Signed x0 x1 p) ≡ s.of_expr (Expr-F.Signed x0 (expr x1) p)
  folded-Signed x0 x1 p = rolled (Expr-F.Signed x0 x1 p) (tree.rolls-Signed x0 x1 p)

  pub folded-Member : (x0 : Expr) (x1 : List ℕ) (p : Place) → expr (tree.Member x0 x1 p) ≡ s.of_expr (Expr-F.Member (expr x0) x1 p)
  folded-Member x0 x1 p = rolled (Expr-F.Member x0 x1 p) (tree.rolls-Member x0 x1 p)

  pub folded-Clause : (x0 : Expr) (x1 : Clause) (p : Place) → expr (tree.Clause x0 x1 p) ≡ s.of_expr (Expr-F.Clause (expr x0) (clause x1) p)
  folded-Clause x0 x1 p = rolled (Expr-F.Clause x0 x1 p) (tree.rolls-Clause x0 x1 p)

  pub folded-Literal : (x0 : Value) (p : Place) → expr (tree.Literal x0 p) ≡ s.of_expr (Expr-F.Literal x0 p)
  folded-Literal x0 p = rolled (Expr-F.Literal x0 p) (tree.rolls-Literal x0 p)

  pub folded-Name : (x0 : List ℕ) (p : Place) → expr (tree.Name x0 p) ≡ s.of_expr (Expr-F.Name x0 p)
  folded-Name x0 p = rolled (Expr-F.Name x0 p) (tree.rolls-Name x0 p)

  pub folded-Bracket : (x0 : Expr) (p : Place) → expr (tree.Bracket x0 p) ≡ s.of_expr (Expr-F.Bracket (expr x0) p)
  folded-Bracket x0 p = rolled (Expr-F.Bracket x0 p) (tree.rolls-Bracket x0 p)

  pub folded-Unary : (x0 : UnaryFunction) (x1 : Expr) (p : Place) → expr (tree.Unary x0 x1 p) ≡ s.of_expr (Expr-F.Unary x0 (expr x1) p)
  folded-Unary x0 x1 p = rolled (Expr-F.Unary x0 x1 p) (tree.rolls-Unary x0 x1 p)

  pub folded-Round : (x0 : RoundFunction) (x1 : Expr) (x2 : Option ℤ) (p : Place) → expr (tree.Round x0 x1 x2 p) ≡ s.of_expr (Expr-F.Round x0 (expr x1) x2 p)
  folded-Round x0 x1 x2 p = rolled (Expr-F.Round x0 x1 x2 p) (tree.rolls-Round x0 x1 x2 p)

  pub folded-Binary : (x0 : BinaryFunction) (x1 : Expr) (x2 : Expr) (p : Place) → expr (tree.Binary x0 x1 x2 p) ≡ s.of_expr (Expr-F.Binary x0 (expr x1) (expr x2) p)
  folded-Binary x0 x1 x2 p = rolled (Expr-F.Binary x0 x1 x2 p) (tree.rolls-Binary x0 x1 x2 p)

  pub folded-Between : (x0 : Expr) (x1 : Value) (x2 : Value) (p : Place) → expr (tree.Between x0 x1 x2 p) ≡ s.of_expr (Expr-F.Between (expr x0) x1 x2 p)
  folded-Between x0 x1 x2 p = rolled (Expr-F.Between x0 x1 x2 p) (tree.rolls-Between x0 x1 x2 p)

  pub folded-MatchCharacters : (x0 : Expr) (x1 : List ℕ) (p : Place) → expr (tree.MatchCharacters x0 x1 p) ≡ s.of_expr (Expr-F.MatchCharacters (expr x0) x1 p)
  folded-MatchCharacters x0 x1 p = rolled (Expr-F.MatchCharacters x0 x1 p) (tree.rolls-MatchCharacters x0 x1 p)

  pub folded-Substr : (x0 : Expr) (x1 : Option SubstrRange) (p : Place) → expr (tree.Substr x0 x1 p) ≡ s.of_expr (Expr-F.Substr (expr x0) (option_map range x1) p)
  folded-Substr x0 x1 p = rolled (Expr-F.Substr x0 x1 p) (tree.rolls-Substr x0 x1 p) ∙ ap s.of_expr (maps-Substr Clause Expr Groups Item JoinOperand SubstrRange s.A s.B s.C s.D s.E s.F clause expr groups item operand range x0 x1 p)

  pub folded-Replace : (x0 : Expr) (x1 : Expr) (x2 : Option Expr) (p : Place) → expr (tree.Replace x0 x1 x2 p) ≡ s.of_expr (Expr-F.Replace (expr x0) (expr x1) (option_map expr x2) p)
  folded-Replace x0 x1 x2 p = rolled (Expr-F.Replace x0 x1 x2 p) (tree.rolls-Replace x0 x1 x2 p) ∙ ap s.of_expr (maps-Replace Clause Expr Groups Item JoinOperand SubstrRange s.A s.B s.C s.D s.E s.F clause expr groups item operand range x0 x1 x2 p)

  pub folded-ExistsIn : (x0 : Expr) (x1 : Expr) (x2 : Option ExistsRows) (p : Place) → expr (tree.ExistsIn x0 x1 x2 p) ≡ s.of_expr (Expr-F.ExistsIn (expr x0) (expr x1) x2 p)
  folded-ExistsIn x0 x1 x2 p = rolled (Expr-F.ExistsIn x0 x1 x2 p) (tree.rolls-ExistsIn x0 x1 x2 p)

  pub folded-Sets : (x0 : SetFunction) (x1 : Expr) (x2 : Expr) (x3 : List Expr) (p : Place) → expr (tree.Sets x0 x1 x2 x3 p) ≡ s.of_expr (Expr-F.Sets x0 (expr x1) (expr x2) (map expr x3) p)
  folded-Sets x0 x1 x2 x3 p = rolled (Expr-F.Sets x0 x1 x2 x3 p) (tree.rolls-Sets x0 x1 x2 x3 p)

  pub folded-Difference : (x0 : DifferenceFunction) (x1 : Expr) (x2 : Expr) (p : Place) → expr (tree.Difference x0 x1 x2 p) ≡ s.of_expr (Expr-F.Difference x0 (expr x1) (expr x2) p)
  folded-Difference x0 x1 x2 p = rolled (Expr-F.Difference x0 x1 x2 p) (tree.rolls-Difference x0 x1 x2 p)

  pub folded-Join : (x0 : JoinFunction) (x1 : JoinOperand) (x2 : JoinOperand) (x3 : List JoinOperand) (x4 : Option Clause) (x5 : Option Clause) (x6 : Option Clause) (x7 : Option Clause) (p : Place) → expr (tree.Join x0 x1 x2 x3 x4 x5 x6 x7 p) ≡ s.of_expr (Expr-F.Join x0 (operand x1) (operand x2) (map operand x3) (option_map clause x4) (option_map clause x5) (option_map clause x6) (option_map clause x7) p)
  folded-Join x0 x1 x2 x3 x4 x5 x6 x7 p = rolled (Expr-F.Join x0 x1 x2 x3 x4 x5 x6 x7 p) (tree.rolls-Join x0 x1 x2 x3 x4 x5 x6 x7 p) ∙ ap s.of_expr (maps-Join Clause Expr Groups Item JoinOperand SubstrRange s.A s.B s.C s.D s.E s.F clause expr groups item operand range x0 x1 x2 x3 x4 x5 x6 x7 p)

  pub folded-Aggregate : (x0 : AggregateFunction) (x1 : Expr) (x2 : Option Groups) (p : Place) → expr (tree.Aggregate x0 x1 x2 p) ≡ s.of_expr (Expr-F.Aggregate x0 (expr x1) (option_map groups x2) p)
  folded-Aggregate x0 x1 x2 p = rolled (Expr-F.Aggregate x0 x1 x2 p) (tree.rolls-Aggregate x0 x1 x2 p) ∙ ap s.of_expr (maps-Aggregate Clause Expr Groups Item JoinOperand SubstrRange s.A s.B s.C s.D s.E s.F clause expr groups item operand range x0 x1 x2 p)

  pub folded-Window : (x0 : WindowFunction) (x1 : Expr) (x2 : Over) (p : Place) → expr (tree.Window x0 x1 x2 p) ≡ s.of_expr (Expr-F.Window x0 (expr x1) x2 p)
  folded-Window x0 x1 x2 p = rolled (Expr-F.Window x0 x1 x2 p) (tree.rolls-Window x0 x1 x2 p)

  pub folded-CountAll : (p : Place) → expr (tree.CountAll p) ≡ s.of_expr (Expr-F.CountAll p)
  folded-CountAll p = rolled (Expr-F.CountAll p) (tree.rolls-CountAll p)

  pub folded-Offset : (x0 : OffsetFunction) (x1 : Expr) (x2 : ℤ) (x3 : Over) (p : Place) → expr (tree.Offset x0 x1 x2 x3 p) ≡ s.of_expr (Expr-F.Offset x0 (expr x1) x2 x3 p)
  folded-Offset x0 x1 x2 x3 p = rolled (Expr-F.Offset x0 x1 x2 x3 p) (tree.rolls-Offset x0 x1 x2 x3 p)

  pub folded-Rank : (x0 : Over) (p : Place) → expr (tree.Rank x0 p) ≡ s.of_expr (Expr-F.Rank x0 p)
  folded-Rank x0 p = rolled (Expr-F.Rank x0 p) (tree.rolls-Rank x0 p)

  pub folded-CheckDatapoint : (x0 : Expr) (x1 : List ℕ) (x2 : Place) (x3 : Option RowsOutput) (p : Place) → expr (tree.CheckDatapoint x0 x1 x2 x3 p) ≡ s.of_expr (Expr-F.CheckDatapoint (expr x0) x1 x2 x3 p)
  folded-CheckDatapoint x0 x1 x2 x3 p = rolled (Expr-F.CheckDatapoint x0 x1 x2 x3 p) (tree.rolls-CheckDatapoint x0 x1 x2 x3 p)

  pub folded-Hierarchy : (x0 : Expr) (x1 : List ℕ) (x2 : Place) (x3 : Option (List ℕ)) (x4 : Option Mode) (x5 : Option HierarchyInput) (x6 : Option HierarchyOutput) (p : Place) → expr (tree.Hierarchy x0 x1 x2 x3 x4 x5 x6 p) ≡ s.of_expr (Expr-F.Hierarchy (expr x0) x1 x2 x3 x4 x5 x6 p)
  folded-Hierarchy x0 x1 x2 x3 x4 x5 x6 p = rolled (Expr-F.Hierarchy x0 x1 x2 x3 x4 x5 x6 p) (tree.rolls-Hierarchy x0 x1 x2 x3 x4 x5 x6 p)

  pub folded-CheckHierarchy : (x0 : Expr) (x1 : List ℕ) (x2 : Place) (x3 : Option (List ℕ)) (x4 : Option Mode) (x5 : Option CheckInput) (x6 : Option RowsOutput) (p : Place) → expr (tree.CheckHierarchy x0 x1 x2 x3 x4 x5 x6 p) ≡ s.of_expr (Expr-F.CheckHierarchy (expr x0) x1 x2 x3 x4 x5 x6 p)
  folded-CheckHierarchy x0 x1 x2 x3 x4 x5 x6 p = rolled (Expr-F.CheckHierarchy x0 x1 x2 x3 x4 x5 x6 p) (tree.rolls-CheckHierarchy x0 x1 x2 x3 x4 x5 x6 p)

  pub folded-Check : (x0 : Expr) (x1 : Option (List ℕ)) (x2 : Option ℤ) (x3 : Option Expr) (x4 : Option CheckOutput) (p : Place) → expr (tree.Check x0 x1 x2 x3 x4 p) ≡ s.of_expr (Expr-F.Check (expr x0) x1 x2 (option_map expr x3) x4 p)
  folded-Check x0 x1 x2 x3 x4 p = rolled (Expr-F.Check x0 x1 x2 x3 x4 p) (tree.rolls-Check x0 x1 x2 x3 x4 p) ∙ ap s.of_expr (maps-Check Clause Expr Groups Item JoinOperand SubstrRange s.A s.B s.C s.D s.E s.F clause expr groups item operand range x0 x1 x2 x3 x4 p)

  pub folded-Time : (x0 : TimeFunction) (x1 : Expr) (p : Place) → expr (tree.Time x0 x1 p) ≡ s.of_expr (Expr-F.Time x0 (expr x1) p)
  folded-Time x0 x1 p = rolled (Expr-F.Time x0 x1 p) (tree.rolls-Time x0 x1 p)

  pub folded-Timeshift : (x0 : Expr) (x1 : ℤ) (p : Place) → expr (tree.Timeshift x0 x1 p) ≡ s.of_expr (Expr-F.Timeshift (expr x0) x1 p)
  folded-Timeshift x0 x1 p = rolled (Expr-F.Timeshift x0 x1 p) (tree.rolls-Timeshift x0 x1 p)

  pub folded-FillTimeSeries : (x0 : Expr) (x1 : Option FillSpan) (p : Place) → expr (tree.FillTimeSeries x0 x1 p) ≡ s.of_expr (Expr-F.FillTimeSeries (expr x0) x1 p)
  folded-FillTimeSeries x0 x1 p = rolled (Expr-F.FillTimeSeries x0 x1 p) (tree.rolls-FillTimeSeries x0 x1 p)

  pub folded-CallOf : (x0 : List ℕ) (x1 : List Expr) (p : Place) → expr (tree.CallOf x0 x1 p) ≡ s.of_expr (Expr-F.CallOf x0 (map expr x1) p)
  folded-CallOf x0 x1 p = rolled (Expr-F.CallOf x0 x1 p) (tree.rolls-CallOf x0 x1 p)

  pub folded-Typed : (x0 : Sort) (x1 : Expr) (p : Place) → expr (tree.Typed x0 x1 p) ≡ s.of_expr (Expr-F.Typed x0 (expr x1) p)
  folded-Typed x0 x1 p = rolled (Expr-F.Typed x0 x1 p) (tree.rolls-Typed x0 x1 p)

  pub clause_folded-Filter : (x0 : Expr) (p : Place) → clause (clause_tree.Filter x0 p) ≡ s.of_clause (Clause-F.Filter (expr x0) p)
  clause_folded-Filter x0 p = clause_rolled (Clause-F.Filter x0 p) (clause_tree.rolls-Filter x0 p)

  pub clause_folded-Calc : (x0 : List Item) (p : Place) → clause (clause_tree.Calc x0 p) ≡ s.of_clause (Clause-F.Calc (map item x0) p)
  clause_folded-Calc x0 p = clause_rolled (Clause-F.Calc x0 p) (clause_tree.rolls-Calc x0 p)

  pub clause_folded-Keep : (x0 : List Comp) (p : Place) → clause (clause_tree.Keep x0 p) ≡ s.of_clause (Clause-F.Keep x0 p)
  clause_folded-Keep x0 p = clause_rolled (Clause-F.Keep x0 p) (clause_tree.rolls-Keep x0 p)

  pub clause_folded-Drop : (x0 : List Comp) (p : Place) → clause (clause_tree.Drop x0 p) ≡ s.of_clause (Clause-F.Drop x0 p)
  clause_folded-Drop x0 p = clause_rolled (Clause-F.Drop x0 p) (clause_tree.rolls-Drop x0 p)

  pub clause_folded-Rename : (x0 : List Rename) (p : Place) → clause (clause_tree.Rename x0 p) ≡ s.of_clause (Clause-F.Rename x0 p)
  clause_folded-Rename x0 p = clause_rolled (Clause-F.Rename x0 p) (clause_tree.rolls-Rename x0 p)

  pub clause_folded-Sub : (x0 : List SubItem) (p : Place) → clause (clause_tree.Sub x0 p) ≡ s.of_clause (Clause-F.Sub x0 p)
  clause_folded-Sub x0 p = clause_rolled (Clause-F.Sub x0 p) (clause_tree.rolls-Sub x0 p)

  pub clause_folded-Unpivot : (x0 : List ℕ) (x1 : List ℕ) (p : Place) → clause (clause_tree.Unpivot x0 x1 p) ≡ s.of_clause (Clause-F.Unpivot x0 x1 p)
  clause_folded-Unpivot x0 x1 p = clause_rolled (Clause-F.Unpivot x0 x1 p) (clause_tree.rolls-Unpivot x0 x1 p)

  pub clause_folded-Aggr : (x0 : List Item) (x1 : Option Groups) (p : Place) → clause (clause_tree.Aggr x0 x1 p) ≡ s.of_clause (Clause-F.Aggr (map item x0) (option_map groups x1) p)
  clause_folded-Aggr x0 x1 p = clause_rolled (Clause-F.Aggr x0 x1 p) (clause_tree.rolls-Aggr x0 x1 p) ∙ ap s.of_clause (clause_maps-Aggr Clause Expr Groups Item JoinOperand SubstrRange s.A s.B s.C s.D s.E s.F clause expr groups item operand range x0 x1 p)

  pub groups_folded : (x0 : Grouping) (x1 : Option Expr) (p : Place) → groups (record { grouping = x0; having = x1; place = p }) ≡ s.of_groups (record { grouping = x0; having = (option_map expr x1); place = p })
  groups_folded x0 x1 p = let r : Groups-F Clause Expr Groups Item JoinOperand SubstrRange = record { grouping = x0; having = x1; place = p } in ap groups (sym (Groups'.rolls-Groups' r)) ∙ fold-roll-Groups s.A s.B s.C s.D s.E s.F s.of_clause s.of_expr s.of_groups s.of_item s.of_operand s.of_range r ∙ ap s.of_groups (groups_maps Clause Expr Groups Item JoinOperand SubstrRange s.A s.B s.C s.D s.E s.F clause expr groups item operand range x0 x1 p)

  pub item_folded : (x0 : Option ItemRole) (x1 : List ℕ) (x2 : Expr) (p : Place) → item (record { role = x0; name = x1; expr = x2; place = p }) ≡ s.of_item (record { role = x0; name = x1; expr = (expr x2); place = p })
  item_folded x0 x1 x2 p = let r : Item-F Clause Expr Groups Item JoinOperand SubstrRange = record { role = x0; name = x1; expr = x2; place = p } in ap item (sym (Item'.rolls-Item' r)) ∙ fold-roll-Item s.A s.B s.C s.D s.E s.F s.of_clause s.of_expr s.of_groups s.of_item s.of_operand s.of_range r

  pub operand_folded : (x0 : Expr) (x1 : Option (List ℕ)) (p : Place) → operand (record { expr = x0; alias = x1; place = p }) ≡ s.of_operand (record { expr = (expr x0); alias = x1; place = p })
  operand_folded x0 x1 p = let r : JoinOperand-F Clause Expr Groups Item JoinOperand SubstrRange = record { expr = x0; alias = x1; place = p } in ap operand (sym (JoinOperand'.rolls-JoinOperand' r)) ∙ fold-roll-JoinOperand s.A s.B s.C s.D s.E s.F s.of_clause s.of_expr s.of_groups s.of_item s.of_operand s.of_range r

  pub range_folded : (x0 : Expr) (x1 : Option Expr) (p : Place) → range (record { start = x0; length = x1; place = p }) ≡ s.of_range (record { start = (expr x0); length = (option_map expr x1); place = p })
  range_folded x0 x1 p = let r : SubstrRange-F Clause Expr Groups Item JoinOperand SubstrRange = record { start = x0; length = x1; place = p } in ap range (sym (SubstrRange'.rolls-SubstrRange' r)) ∙ fold-roll-SubstrRange s.A s.B s.C s.D s.E s.F s.of_clause s.of_expr s.of_groups s.of_item s.of_operand s.of_range r ∙ ap s.of_range (range_maps Clause Expr Groups Item JoinOperand SubstrRange s.A s.B s.C s.D s.E s.F clause expr groups item operand range x0 x1 p)
