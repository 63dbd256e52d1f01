-- What spells a tree doesn't depend on its places: each level, where it is so of each part.
use Rattle.std.proofs.Common.{◌≡◌, List, [], ◌∷◌, Option, Some, None, refl, sym, ap, subst, ◌∙◌, map}
use Rattle.std.proofs.Math.Path.{ap₂}
use Rattle.std.specs.Prelude.{option_map}
use Rattle.vtl_tokens.specs.declared.keyword.Keyword.TheVariants as words
use Rattle.vtl_syntax.specs.declared.expr.Expr.{Expr, roll-Expr, map-Expr}
use Rattle.vtl_syntax.specs.declared.expr.Expr.TheVariants as tree
use Rattle.vtl_syntax.specs.declared.expr.Clause.{Clause, roll-Clause, map-Clause}
use Rattle.vtl_syntax.specs.declared.expr.Clause.TheVariants as clause_tree
use Rattle.vtl_syntax.specs.declared.expr.Groups.{Groups}
use Rattle.vtl_syntax.specs.declared.expr.Item.{Item}
use Rattle.vtl_syntax.specs.declared.expr.JoinOperand.{JoinOperand}
use Rattle.vtl_syntax.specs.declared.expr.SubstrRange.{SubstrRange}
use Rattle.vtl_syntax.specs.declared.expr.Over.{Over}
use Rattle.vtl_syntax.specs.declared.expr.OrderItem.{OrderItem}
use Rattle.vtl_syntax.specs.declared.expr.Points.{Points}
use Rattle.vtl_syntax.specs.declared.expr.Clause.TheOpen.{Expr-F, Clause-F}
use Rattle.vtl_spelling.specs.Kinds.{Kinds, ◌&◌, one, key, comma, commas, open_paren, close_paren, optional, integer}
use Rattle.vtl_spelling.specs.Words.{window_kind, offset_kind}
use Rattle.vtl_spelling.specs.Parts.{names_spelled, comp_spelled, rename_spelled, sub_item_spelled, order_item_spelled, points_spelled, over_spelled}
use Rattle.vtl_spelling.specs.Trees.{call, expr_step, clause_step, spelled, clause_spelled, groups_spelled, item_spelled, operand_spelled, range_spelled}
use Rattle.vtl_spelling.specs.Placeless.{nowhere, comp_placeless, rename_placeless, sub_item_placeless, order_item_placeless, points_placeless, over_placeless, placeless, clause_placeless, groups_placeless, item_placeless, operand_placeless, range_placeless}
use Rattle.vtl_syntax.proofs.Maps.{maps-Substr, maps-Replace, maps-Join, maps-Aggregate, maps-Check, clause_maps-Aggr}
use Rattle.vtl_spelling.proofs.Folds.{folded-If, folded-Or, folded-And, folded-Compare, folded-In, folded-Sum, folded-Product, folded-Signed, folded-Member, folded-Clause, folded-Literal, folded-Name, folded-Bracket, folded-Unary, folded-Round, folded-Binary, folded-Between, folded-MatchCharacters, folded-Substr, folded-Replace, folded-ExistsIn, folded-Sets, folded-Difference, folded-Join, folded-Aggregate, folded-Window, folded-CountAll, folded-Offset, folded-Rank, folded-CheckDatapoint, folded-Hierarchy, folded-CheckHierarchy, folded-Check, folded-Time, folded-Timeshift, folded-FillTimeSeries, folded-CallOf, folded-Typed, clause_folded-Filter, clause_folded-Calc, clause_folded-Keep, clause_folded-Drop, clause_folded-Rename, clause_folded-Sub, clause_folded-Unpivot, clause_folded-Aggr}
use Rattle.vtl_spelling.proofs.Told.{ap_three, ap_four}
use Rattle.vtl_spelling.proofs.ClausesTold.{spelling, baring, separated-map}

-- ---- trees that are spelled the same without places

abbrev pub Such : {A : Type 0} → (A → A) → (A → Kinds) → Type 0
Such {A} plain spell = (x : A) × (spell (plain x) ≡ spell x)

abbrev pub ClauseSuch : Type 0
ClauseSuch = Such clause_placeless clause_spelled

abbrev pub ExprSuch : Type 0
ExprSuch = Such placeless spelled

abbrev pub GroupsSuch : Type 0
GroupsSuch = Such groups_placeless groups_spelled

abbrev pub ItemSuch : Type 0
ItemSuch = Such item_placeless item_spelled

abbrev pub OperandSuch : Type 0
OperandSuch = Such operand_placeless operand_spelled

abbrev pub RangeSuch : Type 0
RangeSuch = Such range_placeless range_spelled

abbrev pub fst : {A : Type 0} {P : A → Type 0} → (x : A) × P x → A
fst x = x.0

module _ {A : Type 0} (plain : A → A) (spell : A → Kinds) where
  pub option-kept : (u : Option (Such plain spell)) → option_map spell (option_map plain (option_map fst u)) ≡ option_map spell (option_map fst u)
  option-kept None = refl
  option-kept (Some x) = ap (λ (k : Kinds). Some k) x.1

  pub list-kept : (u : List (Such plain spell)) → map spell (map plain (map fst u)) ≡ map spell (map fst u)
  list-kept [] = refl
  list-kept (x ∷ u) = ap₂ (λ (k : Kinds) (ks : List Kinds). k ∷ ks) x.1 (list-kept u)

order-kept : (x : Option (List OrderItem)) → optional (λ is. key words.Order & key words.By & commas order_item_spelled is) (option_map (λ is. map order_item_placeless is) x) ≡ optional (λ is. key words.Order & key words.By & commas order_item_spelled is) x
order-kept None = refl
order-kept (Some is) = ap (λ (k : Kinds). key words.Order & key words.By & k) (separated-map comma order_item_spelled order_item_placeless is)

points-kept : (x : Option Points) → optional points_spelled (option_map points_placeless x) ≡ optional points_spelled x
points-kept None = refl
points-kept (Some p) = refl

over-kept : (o : Over) → over_spelled (over_placeless o) ≡ over_spelled o
over-kept o = ap₂ (λ (x y : Kinds). key words.Over & open_paren & optional (λ ws. key words.Partition & key words.By & names_spelled ws) o.partition & x & y & close_paren) (order-kept o.order) (points-kept o.points)

-- ---- expressions

abbrev pub ExprKept : Expr → Type 0
ExprKept e = spelled (placeless e) ≡ spelled e

expr_kept_back : (e : Expr) {b : Expr} {k l : Kinds} → placeless e ≡ b → spelled b ≡ k → k ≡ l → spelled e ≡ l → ExprKept e
expr_kept_back e p q r s = ap spelled p ∙ q ∙ r ∙ sym s

expr_kept_rolled : {x z : Expr-F Clause Expr Groups Item JoinOperand SubstrRange} {e : Expr} → x ≡ z → roll-Expr z ≡ e → ExprKept e → ExprKept (roll-Expr x)
expr_kept_rolled is rolls kept = subst (λ (y : Expr-F Clause Expr Groups Item JoinOperand SubstrRange). ExprKept (roll-Expr y)) (sym is) (subst ExprKept (sym rolls) kept)

abbrev expr_first : Expr-F ClauseSuch ExprSuch GroupsSuch ItemSuch OperandSuch RangeSuch → Expr-F Clause Expr Groups Item JoinOperand SubstrRange
expr_first y = map-Expr ClauseSuch ExprSuch GroupsSuch ItemSuch OperandSuch RangeSuch Clause Expr Groups Item JoinOperand SubstrRange fst fst fst fst fst fst y

pub expr_kept : (y : Expr-F ClauseSuch ExprSuch GroupsSuch ItemSuch OperandSuch RangeSuch) → ExprKept (roll-Expr (expr_first y))
expr_kept (Expr-F.If x0 x1 x2 p) =
    expr_kept_rolled refl (tree.rolls-If x0.0 x1.0 x2.0 p)
    (expr_kept_back (tree.If x0.0 x1.0 x2.0 p) (folded-If baring x0.0 x1.0 x2.0 p) (folded-If spelling (placeless x0.0) (placeless x1.0) (placeless x2.0) nowhere) (ap_three (λ (y0 : Kinds) (y1 : Kinds) (y2 : Kinds). expr_step (Expr-F.If y0 y1 y2 p)) x0.1 x1.1 x2.1) (folded-If spelling x0.0 x1.0 x2.0 p))
expr_kept (Expr-F.Or x0 x1 x2 p) =
    expr_kept_rolled refl (tree.rolls-Or x0.0 x1 x2.0 p)
    (expr_kept_back (tree.Or x0.0 x1 x2.0 p) (folded-Or baring x0.0 x1 x2.0 p) (folded-Or spelling (placeless x0.0) x1 (placeless x2.0) nowhere) (ap₂ (λ (y0 : Kinds) (y2 : Kinds). expr_step (Expr-F.Or y0 x1 y2 p)) x0.1 x2.1) (folded-Or spelling x0.0 x1 x2.0 p))
expr_kept (Expr-F.And x0 x1 p) =
    expr_kept_rolled refl (tree.rolls-And x0.0 x1.0 p)
    (expr_kept_back (tree.And x0.0 x1.0 p) (folded-And baring x0.0 x1.0 p) (folded-And spelling (placeless x0.0) (placeless x1.0) nowhere) (ap₂ (λ (y0 : Kinds) (y1 : Kinds). expr_step (Expr-F.And y0 y1 p)) x0.1 x1.1) (folded-And spelling x0.0 x1.0 p))
expr_kept (Expr-F.Compare x0 x1 x2 p) =
    expr_kept_rolled refl (tree.rolls-Compare x0.0 x1 x2.0 p)
    (expr_kept_back (tree.Compare x0.0 x1 x2.0 p) (folded-Compare baring x0.0 x1 x2.0 p) (folded-Compare spelling (placeless x0.0) x1 (placeless x2.0) nowhere) (ap₂ (λ (y0 : Kinds) (y2 : Kinds). expr_step (Expr-F.Compare y0 x1 y2 p)) x0.1 x2.1) (folded-Compare spelling x0.0 x1 x2.0 p))
expr_kept (Expr-F.In x0 x1 x2 p) =
    expr_kept_rolled refl (tree.rolls-In x0.0 x1 x2 p)
    (expr_kept_back (tree.In x0.0 x1 x2 p) (folded-In baring x0.0 x1 x2 p) (folded-In spelling (placeless x0.0) x1 x2 nowhere) (ap (λ (y0 : Kinds). expr_step (Expr-F.In y0 x1 x2 p)) x0.1) (folded-In spelling x0.0 x1 x2 p))
expr_kept (Expr-F.Sum x0 x1 x2 p) =
    expr_kept_rolled refl (tree.rolls-Sum x0.0 x1 x2.0 p)
    (expr_kept_back (tree.Sum x0.0 x1 x2.0 p) (folded-Sum baring x0.0 x1 x2.0 p) (folded-Sum spelling (placeless x0.0) x1 (placeless x2.0) nowhere) (ap₂ (λ (y0 : Kinds) (y2 : Kinds). expr_step (Expr-F.Sum y0 x1 y2 p)) x0.1 x2.1) (folded-Sum spelling x0.0 x1 x2.0 p))
expr_kept (Expr-F.Product x0 x1 x2 p) =
    expr_kept_rolled refl (tree.rolls-Product x0.0 x1 x2.0 p)
    (expr_kept_back (tree.Product x0.0 x1 x2.0 p) (folded-Product baring x0.0 x1 x2.0 p) (folded-Product spelling (placeless x0.0) x1 (placeless x2.0) nowhere) (ap₂ (λ (y0 : Kinds) (y2 : Kinds). expr_step (Expr-F.Product y0 x1 y2 p)) x0.1 x2.1) (folded-Product spelling x0.0 x1 x2.0 p))
expr_kept (Expr-F.Signed x0 x1 p) =
    expr_kept_rolled refl (tree.rolls-Signed x0 x1.0 p)
    (expr_kept_back (tree.Signed x0 x1.0 p) (folded-Signed baring x0 x1.0 p) (folded-Signed spelling x0 (placeless x1.0) nowhere) (ap (λ (y1 : Kinds). expr_step (Expr-F.Signed x0 y1 p)) x1.1) (folded-Signed spelling x0 x1.0 p))
expr_kept (Expr-F.Member x0 x1 p) =
    expr_kept_rolled refl (tree.rolls-Member x0.0 x1 p)
    (expr_kept_back (tree.Member x0.0 x1 p) (folded-Member baring x0.0 x1 p) (folded-Member spelling (placeless x0.0) x1 nowhere) (ap (λ (y0 : Kinds). expr_step (Expr-F.Member y0 x1 p)) x0.1) (folded-Member spelling x0.0 x1 p))
expr_kept (Expr-F.Clause x0 x1 p) =
    expr_kept_rolled refl (tree.rolls-Clause x0.0 x1.0 p)
    (expr_kept_back (tree.Clause x0.0 x1.0 p) (folded-Clause baring x0.0 x1.0 p) (folded-Clause spelling (placeless x0.0) (clause_placeless x1.0) nowhere) (ap₂ (λ (y0 : Kinds) (y1 : Kinds). expr_step (Expr-F.Clause y0 y1 p)) x0.1 x1.1) (folded-Clause spelling x0.0 x1.0 p))
expr_kept (Expr-F.Literal x0 p) =
    expr_kept_rolled refl (tree.rolls-Literal x0 p)
    (expr_kept_back (tree.Literal x0 p) (folded-Literal baring x0 p) (folded-Literal spelling x0 nowhere) (refl) (folded-Literal spelling x0 p))
expr_kept (Expr-F.Name x0 p) =
    expr_kept_rolled refl (tree.rolls-Name x0 p)
    (expr_kept_back (tree.Name x0 p) (folded-Name baring x0 p) (folded-Name spelling x0 nowhere) (refl) (folded-Name spelling x0 p))
expr_kept (Expr-F.Bracket x0 p) =
    expr_kept_rolled refl (tree.rolls-Bracket x0.0 p)
    (expr_kept_back (tree.Bracket x0.0 p) (folded-Bracket baring x0.0 p) (folded-Bracket spelling (placeless x0.0) nowhere) (ap (λ (y0 : Kinds). expr_step (Expr-F.Bracket y0 p)) x0.1) (folded-Bracket spelling x0.0 p))
expr_kept (Expr-F.Unary x0 x1 p) =
    expr_kept_rolled refl (tree.rolls-Unary x0 x1.0 p)
    (expr_kept_back (tree.Unary x0 x1.0 p) (folded-Unary baring x0 x1.0 p) (folded-Unary spelling x0 (placeless x1.0) nowhere) (ap (λ (y1 : Kinds). expr_step (Expr-F.Unary x0 y1 p)) x1.1) (folded-Unary spelling x0 x1.0 p))
expr_kept (Expr-F.Round x0 x1 x2 p) =
    expr_kept_rolled refl (tree.rolls-Round x0 x1.0 x2 p)
    (expr_kept_back (tree.Round x0 x1.0 x2 p) (folded-Round baring x0 x1.0 x2 p) (folded-Round spelling x0 (placeless x1.0) x2 nowhere) (ap (λ (y1 : Kinds). expr_step (Expr-F.Round x0 y1 x2 p)) x1.1) (folded-Round spelling x0 x1.0 x2 p))
expr_kept (Expr-F.Binary x0 x1 x2 p) =
    expr_kept_rolled refl (tree.rolls-Binary x0 x1.0 x2.0 p)
    (expr_kept_back (tree.Binary x0 x1.0 x2.0 p) (folded-Binary baring x0 x1.0 x2.0 p) (folded-Binary spelling x0 (placeless x1.0) (placeless x2.0) nowhere) (ap₂ (λ (y1 : Kinds) (y2 : Kinds). expr_step (Expr-F.Binary x0 y1 y2 p)) x1.1 x2.1) (folded-Binary spelling x0 x1.0 x2.0 p))
expr_kept (Expr-F.Between x0 x1 x2 p) =
    expr_kept_rolled refl (tree.rolls-Between x0.0 x1 x2 p)
    (expr_kept_back (tree.Between x0.0 x1 x2 p) (folded-Between baring x0.0 x1 x2 p) (folded-Between spelling (placeless x0.0) x1 x2 nowhere) (ap (λ (y0 : Kinds). expr_step (Expr-F.Between y0 x1 x2 p)) x0.1) (folded-Between spelling x0.0 x1 x2 p))
expr_kept (Expr-F.MatchCharacters x0 x1 p) =
    expr_kept_rolled refl (tree.rolls-MatchCharacters x0.0 x1 p)
    (expr_kept_back (tree.MatchCharacters x0.0 x1 p) (folded-MatchCharacters baring x0.0 x1 p) (folded-MatchCharacters spelling (placeless x0.0) x1 nowhere) (ap (λ (y0 : Kinds). expr_step (Expr-F.MatchCharacters y0 x1 p)) x0.1) (folded-MatchCharacters spelling x0.0 x1 p))
expr_kept (Expr-F.Substr x0 x1 p) =
    expr_kept_rolled (maps-Substr ClauseSuch ExprSuch GroupsSuch ItemSuch OperandSuch RangeSuch Clause Expr Groups Item JoinOperand SubstrRange fst fst fst fst fst fst x0 x1 p) (tree.rolls-Substr x0.0 (option_map fst x1) p)
    (expr_kept_back (tree.Substr x0.0 (option_map fst x1) p) (folded-Substr baring x0.0 (option_map fst x1) p) (folded-Substr spelling (placeless x0.0) (option_map range_placeless (option_map fst x1)) nowhere) (ap₂ (λ (y0 : Kinds) (y1 : Option Kinds). expr_step (Expr-F.Substr y0 y1 p)) x0.1 (option-kept range_placeless range_spelled x1)) (folded-Substr spelling x0.0 (option_map fst x1) p))
expr_kept (Expr-F.Replace x0 x1 x2 p) =
    expr_kept_rolled (maps-Replace ClauseSuch ExprSuch GroupsSuch ItemSuch OperandSuch RangeSuch Clause Expr Groups Item JoinOperand SubstrRange fst fst fst fst fst fst x0 x1 x2 p) (tree.rolls-Replace x0.0 x1.0 (option_map fst x2) p)
    (expr_kept_back (tree.Replace x0.0 x1.0 (option_map fst x2) p) (folded-Replace baring x0.0 x1.0 (option_map fst x2) p) (folded-Replace spelling (placeless x0.0) (placeless x1.0) (option_map placeless (option_map fst x2)) nowhere) (ap_three (λ (y0 : Kinds) (y1 : Kinds) (y2 : Option Kinds). expr_step (Expr-F.Replace y0 y1 y2 p)) x0.1 x1.1 (option-kept placeless spelled x2)) (folded-Replace spelling x0.0 x1.0 (option_map fst x2) p))
expr_kept (Expr-F.ExistsIn x0 x1 x2 p) =
    expr_kept_rolled refl (tree.rolls-ExistsIn x0.0 x1.0 x2 p)
    (expr_kept_back (tree.ExistsIn x0.0 x1.0 x2 p) (folded-ExistsIn baring x0.0 x1.0 x2 p) (folded-ExistsIn spelling (placeless x0.0) (placeless x1.0) x2 nowhere) (ap₂ (λ (y0 : Kinds) (y1 : Kinds). expr_step (Expr-F.ExistsIn y0 y1 x2 p)) x0.1 x1.1) (folded-ExistsIn spelling x0.0 x1.0 x2 p))
expr_kept (Expr-F.Sets x0 x1 x2 x3 p) =
    expr_kept_rolled refl (tree.rolls-Sets x0 x1.0 x2.0 (map fst x3) p)
    (expr_kept_back (tree.Sets x0 x1.0 x2.0 (map fst x3) p) (folded-Sets baring x0 x1.0 x2.0 (map fst x3) p) (folded-Sets spelling x0 (placeless x1.0) (placeless x2.0) (map placeless (map fst x3)) nowhere) (ap_three (λ (y1 : Kinds) (y2 : Kinds) (y3 : List Kinds). expr_step (Expr-F.Sets x0 y1 y2 y3 p)) x1.1 x2.1 (list-kept placeless spelled x3)) (folded-Sets spelling x0 x1.0 x2.0 (map fst x3) p))
expr_kept (Expr-F.Difference x0 x1 x2 p) =
    expr_kept_rolled refl (tree.rolls-Difference x0 x1.0 x2.0 p)
    (expr_kept_back (tree.Difference x0 x1.0 x2.0 p) (folded-Difference baring x0 x1.0 x2.0 p) (folded-Difference spelling x0 (placeless x1.0) (placeless x2.0) nowhere) (ap₂ (λ (y1 : Kinds) (y2 : Kinds). expr_step (Expr-F.Difference x0 y1 y2 p)) x1.1 x2.1) (folded-Difference spelling x0 x1.0 x2.0 p))
expr_kept (Expr-F.Join x0 x1 x2 x3 x4 x5 x6 x7 p) =
    expr_kept_rolled (maps-Join ClauseSuch ExprSuch GroupsSuch ItemSuch OperandSuch RangeSuch Clause Expr Groups Item JoinOperand SubstrRange fst fst fst fst fst fst x0 x1 x2 x3 x4 x5 x6 x7 p) (tree.rolls-Join x0 x1.0 x2.0 (map fst x3) (option_map fst x4) (option_map fst x5) (option_map fst x6) (option_map fst x7) p)
    (expr_kept_back (tree.Join x0 x1.0 x2.0 (map fst x3) (option_map fst x4) (option_map fst x5) (option_map fst x6) (option_map fst x7) p) (folded-Join baring x0 x1.0 x2.0 (map fst x3) (option_map fst x4) (option_map fst x5) (option_map fst x6) (option_map fst x7) p) (folded-Join spelling x0 (operand_placeless x1.0) (operand_placeless x2.0) (map operand_placeless (map fst x3)) (option_map clause_placeless (option_map fst x4)) (option_map clause_placeless (option_map fst x5)) (option_map clause_placeless (option_map fst x6)) (option_map clause_placeless (option_map fst x7)) nowhere) (ap_three (λ (y1 : Kinds) (y2 : Kinds) (y3 : List Kinds). expr_step (Expr-F.Join x0 y1 y2 y3 (option_map clause_spelled (option_map clause_placeless (option_map fst x4))) (option_map clause_spelled (option_map clause_placeless (option_map fst x5))) (option_map clause_spelled (option_map clause_placeless (option_map fst x6))) (option_map clause_spelled (option_map clause_placeless (option_map fst x7))) p)) x1.1 x2.1 (list-kept operand_placeless operand_spelled x3) ∙ ap_four (λ (y4 : Option Kinds) (y5 : Option Kinds) (y6 : Option Kinds) (y7 : Option Kinds). expr_step (Expr-F.Join x0 (operand_spelled x1.0) (operand_spelled x2.0) (map operand_spelled (map fst x3)) y4 y5 y6 y7 p)) (option-kept clause_placeless clause_spelled x4) (option-kept clause_placeless clause_spelled x5) (option-kept clause_placeless clause_spelled x6) (option-kept clause_placeless clause_spelled x7)) (folded-Join spelling x0 x1.0 x2.0 (map fst x3) (option_map fst x4) (option_map fst x5) (option_map fst x6) (option_map fst x7) p))
expr_kept (Expr-F.Aggregate x0 x1 x2 p) =
    expr_kept_rolled (maps-Aggregate ClauseSuch ExprSuch GroupsSuch ItemSuch OperandSuch RangeSuch Clause Expr Groups Item JoinOperand SubstrRange fst fst fst fst fst fst x0 x1 x2 p) (tree.rolls-Aggregate x0 x1.0 (option_map fst x2) p)
    (expr_kept_back (tree.Aggregate x0 x1.0 (option_map fst x2) p) (folded-Aggregate baring x0 x1.0 (option_map fst x2) p) (folded-Aggregate spelling x0 (placeless x1.0) (option_map groups_placeless (option_map fst x2)) nowhere) (ap₂ (λ (y1 : Kinds) (y2 : Option Kinds). expr_step (Expr-F.Aggregate x0 y1 y2 p)) x1.1 (option-kept groups_placeless groups_spelled x2)) (folded-Aggregate spelling x0 x1.0 (option_map fst x2) p))
expr_kept (Expr-F.Window x0 x1 x2 p) =
    expr_kept_rolled refl (tree.rolls-Window x0 x1.0 x2 p)
    (expr_kept_back (tree.Window x0 x1.0 x2 p) (folded-Window baring x0 x1.0 x2 p) (folded-Window spelling x0 (placeless x1.0) (over_placeless x2) nowhere) (ap (λ (k : Kinds). call (one (window_kind x0)) (spelled (placeless x1.0) & k & close_paren)) (over-kept x2) ∙ ap (λ (y1 : Kinds). expr_step (Expr-F.Window x0 y1 x2 p)) x1.1) (folded-Window spelling x0 x1.0 x2 p))
expr_kept (Expr-F.CountAll p) =
    expr_kept_rolled refl (tree.rolls-CountAll p)
    (expr_kept_back (tree.CountAll p) (folded-CountAll baring p) (folded-CountAll spelling nowhere) (refl) (folded-CountAll spelling p))
expr_kept (Expr-F.Offset x0 x1 x2 x3 p) =
    expr_kept_rolled refl (tree.rolls-Offset x0 x1.0 x2 x3 p)
    (expr_kept_back (tree.Offset x0 x1.0 x2 x3 p) (folded-Offset baring x0 x1.0 x2 x3 p) (folded-Offset spelling x0 (placeless x1.0) x2 (over_placeless x3) nowhere) (ap (λ (k : Kinds). call (one (offset_kind x0)) (spelled (placeless x1.0) & comma & integer x2 & k & close_paren)) (over-kept x3) ∙ ap (λ (y1 : Kinds). expr_step (Expr-F.Offset x0 y1 x2 x3 p)) x1.1) (folded-Offset spelling x0 x1.0 x2 x3 p))
expr_kept (Expr-F.Rank x0 p) =
    expr_kept_rolled refl (tree.rolls-Rank x0 p)
    (expr_kept_back (tree.Rank x0 p) (folded-Rank baring x0 p) (folded-Rank spelling (over_placeless x0) nowhere) (ap (λ (k : Kinds). call (key words.Rank) (k & close_paren)) (over-kept x0)) (folded-Rank spelling x0 p))
expr_kept (Expr-F.CheckDatapoint x0 x1 x2 x3 p) =
    expr_kept_rolled refl (tree.rolls-CheckDatapoint x0.0 x1 x2 x3 p)
    (expr_kept_back (tree.CheckDatapoint x0.0 x1 x2 x3 p) (folded-CheckDatapoint baring x0.0 x1 x2 x3 p) (folded-CheckDatapoint spelling (placeless x0.0) x1 nowhere x3 nowhere) (ap (λ (y0 : Kinds). expr_step (Expr-F.CheckDatapoint y0 x1 x2 x3 p)) x0.1) (folded-CheckDatapoint spelling x0.0 x1 x2 x3 p))
expr_kept (Expr-F.Hierarchy x0 x1 x2 x3 x4 x5 x6 p) =
    expr_kept_rolled refl (tree.rolls-Hierarchy x0.0 x1 x2 x3 x4 x5 x6 p)
    (expr_kept_back (tree.Hierarchy x0.0 x1 x2 x3 x4 x5 x6 p) (folded-Hierarchy baring x0.0 x1 x2 x3 x4 x5 x6 p) (folded-Hierarchy spelling (placeless x0.0) x1 nowhere x3 x4 x5 x6 nowhere) (ap (λ (y0 : Kinds). expr_step (Expr-F.Hierarchy y0 x1 x2 x3 x4 x5 x6 p)) x0.1) (folded-Hierarchy spelling x0.0 x1 x2 x3 x4 x5 x6 p))
expr_kept (Expr-F.CheckHierarchy x0 x1 x2 x3 x4 x5 x6 p) =
    expr_kept_rolled refl (tree.rolls-CheckHierarchy x0.0 x1 x2 x3 x4 x5 x6 p)
    (expr_kept_back (tree.CheckHierarchy x0.0 x1 x2 x3 x4 x5 x6 p) (folded-CheckHierarchy baring x0.0 x1 x2 x3 x4 x5 x6 p) (folded-CheckHierarchy spelling (placeless x0.0) x1 nowhere x3 x4 x5 x6 nowhere) (ap (λ (y0 : Kinds). expr_step (Expr-F.CheckHierarchy y0 x1 x2 x3 x4 x5 x6 p)) x0.1) (folded-CheckHierarchy spelling x0.0 x1 x2 x3 x4 x5 x6 p))
expr_kept (Expr-F.Check x0 x1 x2 x3 x4 p) =
    expr_kept_rolled (maps-Check ClauseSuch ExprSuch GroupsSuch ItemSuch OperandSuch RangeSuch Clause Expr Groups Item JoinOperand SubstrRange fst fst fst fst fst fst x0 x1 x2 x3 x4 p) (tree.rolls-Check x0.0 x1 x2 (option_map fst x3) x4 p)
    (expr_kept_back (tree.Check x0.0 x1 x2 (option_map fst x3) x4 p) (folded-Check baring x0.0 x1 x2 (option_map fst x3) x4 p) (folded-Check spelling (placeless x0.0) x1 x2 (option_map placeless (option_map fst x3)) x4 nowhere) (ap₂ (λ (y0 : Kinds) (y3 : Option Kinds). expr_step (Expr-F.Check y0 x1 x2 y3 x4 p)) x0.1 (option-kept placeless spelled x3)) (folded-Check spelling x0.0 x1 x2 (option_map fst x3) x4 p))
expr_kept (Expr-F.Time x0 x1 p) =
    expr_kept_rolled refl (tree.rolls-Time x0 x1.0 p)
    (expr_kept_back (tree.Time x0 x1.0 p) (folded-Time baring x0 x1.0 p) (folded-Time spelling x0 (placeless x1.0) nowhere) (ap (λ (y1 : Kinds). expr_step (Expr-F.Time x0 y1 p)) x1.1) (folded-Time spelling x0 x1.0 p))
expr_kept (Expr-F.Timeshift x0 x1 p) =
    expr_kept_rolled refl (tree.rolls-Timeshift x0.0 x1 p)
    (expr_kept_back (tree.Timeshift x0.0 x1 p) (folded-Timeshift baring x0.0 x1 p) (folded-Timeshift spelling (placeless x0.0) x1 nowhere) (ap (λ (y0 : Kinds). expr_step (Expr-F.Timeshift y0 x1 p)) x0.1) (folded-Timeshift spelling x0.0 x1 p))
expr_kept (Expr-F.FillTimeSeries x0 x1 p) =
    expr_kept_rolled refl (tree.rolls-FillTimeSeries x0.0 x1 p)
    (expr_kept_back (tree.FillTimeSeries x0.0 x1 p) (folded-FillTimeSeries baring x0.0 x1 p) (folded-FillTimeSeries spelling (placeless x0.0) x1 nowhere) (ap (λ (y0 : Kinds). expr_step (Expr-F.FillTimeSeries y0 x1 p)) x0.1) (folded-FillTimeSeries spelling x0.0 x1 p))
expr_kept (Expr-F.CallOf x0 x1 p) =
    expr_kept_rolled refl (tree.rolls-CallOf x0 (map fst x1) p)
    (expr_kept_back (tree.CallOf x0 (map fst x1) p) (folded-CallOf baring x0 (map fst x1) p) (folded-CallOf spelling x0 (map placeless (map fst x1)) nowhere) (ap (λ (y1 : List Kinds). expr_step (Expr-F.CallOf x0 y1 p)) (list-kept placeless spelled x1)) (folded-CallOf spelling x0 (map fst x1) p))
expr_kept (Expr-F.Typed x0 x1 p) =
    expr_kept_rolled refl (tree.rolls-Typed x0 x1.0 p)
    (expr_kept_back (tree.Typed x0 x1.0 p) (folded-Typed baring x0 x1.0 p) (folded-Typed spelling x0 (placeless x1.0) nowhere) x1.1 (folded-Typed spelling x0 x1.0 p))

-- ---- clauses

abbrev pub ClauseKept : Clause → Type 0
ClauseKept c = clause_spelled (clause_placeless c) ≡ clause_spelled c

clause_kept_back : (e : Clause) {b : Clause} {k l : Kinds} → clause_placeless e ≡ b → clause_spelled b ≡ k → k ≡ l → clause_spelled e ≡ l → ClauseKept e
clause_kept_back e p q r s = ap clause_spelled p ∙ q ∙ r ∙ sym s

clause_kept_rolled : {x z : Clause-F Clause Expr Groups Item JoinOperand SubstrRange} {e : Clause} → x ≡ z → roll-Clause z ≡ e → ClauseKept e → ClauseKept (roll-Clause x)
clause_kept_rolled is rolls kept = subst (λ (y : Clause-F Clause Expr Groups Item JoinOperand SubstrRange). ClauseKept (roll-Clause y)) (sym is) (subst ClauseKept (sym rolls) kept)

abbrev clause_first : Clause-F ClauseSuch ExprSuch GroupsSuch ItemSuch OperandSuch RangeSuch → Clause-F Clause Expr Groups Item JoinOperand SubstrRange
clause_first y = map-Clause ClauseSuch ExprSuch GroupsSuch ItemSuch OperandSuch RangeSuch Clause Expr Groups Item JoinOperand SubstrRange fst fst fst fst fst fst y

pub clause_kept : (y : Clause-F ClauseSuch ExprSuch GroupsSuch ItemSuch OperandSuch RangeSuch) → ClauseKept (roll-Clause (clause_first y))
clause_kept (Clause-F.Filter x0 p) =
    clause_kept_rolled refl (clause_tree.rolls-Filter x0.0 p)
    (clause_kept_back (clause_tree.Filter x0.0 p) (clause_folded-Filter baring x0.0 p) (clause_folded-Filter spelling (placeless x0.0) nowhere) (ap (λ (y0 : Kinds). clause_step (Clause-F.Filter y0 p)) x0.1) (clause_folded-Filter spelling x0.0 p))
clause_kept (Clause-F.Calc x0 p) =
    clause_kept_rolled refl (clause_tree.rolls-Calc (map fst x0) p)
    (clause_kept_back (clause_tree.Calc (map fst x0) p) (clause_folded-Calc baring (map fst x0) p) (clause_folded-Calc spelling (map item_placeless (map fst x0)) nowhere) (ap (λ (y0 : List Kinds). clause_step (Clause-F.Calc y0 p)) (list-kept item_placeless item_spelled x0)) (clause_folded-Calc spelling (map fst x0) p))
clause_kept (Clause-F.Keep x0 p) =
    clause_kept_rolled refl (clause_tree.rolls-Keep x0 p)
    (clause_kept_back (clause_tree.Keep x0 p) (clause_folded-Keep baring x0 p) (clause_folded-Keep spelling (map comp_placeless x0) nowhere) (ap (λ (k : Kinds). key words.Keep & k) (separated-map comma comp_spelled comp_placeless x0)) (clause_folded-Keep spelling x0 p))
clause_kept (Clause-F.Drop x0 p) =
    clause_kept_rolled refl (clause_tree.rolls-Drop x0 p)
    (clause_kept_back (clause_tree.Drop x0 p) (clause_folded-Drop baring x0 p) (clause_folded-Drop spelling (map comp_placeless x0) nowhere) (ap (λ (k : Kinds). key words.Drop & k) (separated-map comma comp_spelled comp_placeless x0)) (clause_folded-Drop spelling x0 p))
clause_kept (Clause-F.Rename x0 p) =
    clause_kept_rolled refl (clause_tree.rolls-Rename x0 p)
    (clause_kept_back (clause_tree.Rename x0 p) (clause_folded-Rename baring x0 p) (clause_folded-Rename spelling (map rename_placeless x0) nowhere) (ap (λ (k : Kinds). key words.Rename & k) (separated-map comma rename_spelled rename_placeless x0)) (clause_folded-Rename spelling x0 p))
clause_kept (Clause-F.Sub x0 p) =
    clause_kept_rolled refl (clause_tree.rolls-Sub x0 p)
    (clause_kept_back (clause_tree.Sub x0 p) (clause_folded-Sub baring x0 p) (clause_folded-Sub spelling (map sub_item_placeless x0) nowhere) (ap (λ (k : Kinds). key words.Sub & k) (separated-map comma sub_item_spelled sub_item_placeless x0)) (clause_folded-Sub spelling x0 p))
clause_kept (Clause-F.Unpivot x0 x1 p) =
    clause_kept_rolled refl (clause_tree.rolls-Unpivot x0 x1 p)
    (clause_kept_back (clause_tree.Unpivot x0 x1 p) (clause_folded-Unpivot baring x0 x1 p) (clause_folded-Unpivot spelling x0 x1 nowhere) (refl) (clause_folded-Unpivot spelling x0 x1 p))
clause_kept (Clause-F.Aggr x0 x1 p) =
    clause_kept_rolled (clause_maps-Aggr ClauseSuch ExprSuch GroupsSuch ItemSuch OperandSuch RangeSuch Clause Expr Groups Item JoinOperand SubstrRange fst fst fst fst fst fst x0 x1 p) (clause_tree.rolls-Aggr (map fst x0) (option_map fst x1) p)
    (clause_kept_back (clause_tree.Aggr (map fst x0) (option_map fst x1) p) (clause_folded-Aggr baring (map fst x0) (option_map fst x1) p) (clause_folded-Aggr spelling (map item_placeless (map fst x0)) (option_map groups_placeless (option_map fst x1)) nowhere) (ap₂ (λ (y0 : List Kinds) (y1 : Option Kinds). clause_step (Clause-F.Aggr y0 y1 p)) (list-kept item_placeless item_spelled x0) (option-kept groups_placeless groups_spelled x1)) (clause_folded-Aggr spelling (map fst x0) (option_map fst x1) p))
