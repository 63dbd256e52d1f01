-- Trees are made alike where what their names and calls become is alike.
use Rattle.std.proofs.Common.{◌≡◌, ℕ, Bool, true, false, ◌&&◌, ◌||◌, List, [], ◌∷◌, ◌++◌, Option, Some, None, map, refl, sym, ap, ◌∙◌, subst}
use Rattle.std.specs.Prelude.{option_map}
use Rattle.std.specs.List.{list_any}
use Rattle.vtl_values.specs.declared.place.Place.{Place}
use Rattle.vtl_syntax.specs.declared.expr.Clause.TheOpen.{Expr-F, Clause-F, Groups-F, Item-F, JoinOperand-F, SubstrRange-F}
use Rattle.vtl_syntax.specs.declared.expr.Clause.{Clause, roll-Clause, fold-roll-Clause}
use Rattle.vtl_syntax.specs.declared.expr.Expr.{Expr, roll-Expr, fold-roll-Expr, ind-Expr}
use Rattle.vtl_syntax.specs.declared.expr.Groups.{Groups, roll-Groups, fold-roll-Groups}
use Rattle.vtl_syntax.specs.declared.expr.Grouping.{Grouping}
use Rattle.vtl_syntax.specs.declared.expr.Item.{Item, roll-Item, fold-roll-Item}
use Rattle.vtl_syntax.specs.declared.expr.JoinOperand.{JoinOperand, roll-JoinOperand, fold-roll-JoinOperand}
use Rattle.vtl_syntax.specs.declared.expr.SubstrRange.{SubstrRange, roll-SubstrRange, fold-roll-SubstrRange}
use Rattle.vtl_syntax.specs.declared.words.JoinFunction.{JoinFunction}
use Rattle.operator_faults.specs.declared.outline.What.{What}
use Rattle.operator_faults.specs.declared.outline.What.TheVariants as what
use Rattle.operator_faults.specs.declared.outline.Outline.{Outline, fold-Outline, fold-roll-Outline}
use Rattle.operator_faults.specs.declared.outline.Outline.TheOpen.{Outline-F}
use Rattle.operator_faults.specs.Outlines.{outline, is_name, has_name, it, joined_if, layer_parts, layer_what, clause_step, expr_step, groups_step, item_step, operand_step, range_step, outlined, clause_outlined, groups_outlined, item_outlined, operand_outlined, range_outlined}
use Rattle.shortest_cycles.proofs.CycleLemmas.{apart}
use Rattle.vtl_syntax.proofs.Maps.{maps-Join}
use Rattle.tree_copies.specs.Made.{Names, Calls, made_step, made, clause_made, groups_made, item_made, operand_made, range_made}
use Rattle.tree_copies.proofs.Layers.{Family, Maps, over-Clause, over-Expr, over-Groups, over-Item, over-JoinOperand, over-SubstrRange}

-- ---- outlines whose names and calls are all among some

abbrev pub what_fits : (List ℕ → Bool) → (List ℕ → Bool) → What → Bool
what_fits n c (what.Name s) = n s.name
what_fits n c (what.Call s) = c s.name
what_fits n c what.Plain = true
what_fits n c what.Level = true
what_fits n c what.Inside = true
what_fits n c what.InsideJoin = true

abbrev pub all_true : List Bool → Bool
all_true [] = true
all_true (b ∷ bs) = b && all_true bs

abbrev pub fits_step : (List ℕ → Bool) → (List ℕ → Bool) → Outline-F Bool → Bool
fits_step n c r = what_fits n c r.what && all_true r.parts

-- each name is among those, and each call is of those
abbrev pub fits : (List ℕ → Bool) → (List ℕ → Bool) → Outline → Bool
fits n c = fold-Outline Bool (fits_step n c)

abbrev AllFit : (List ℕ → Bool) → (List ℕ → Bool) → List Outline → Type 0
AllFit n c [] = Unit {0}
AllFit n c (o ∷ os) = (fits n c o ≡ true) × AllFit n c os

and-both : (a b : Bool) → (a && b) ≡ true → (a ≡ true) × (b ≡ true)
and-both true b h = (refl, h)
and-both false b h = apart false h refl

each_fits : (n c : List ℕ → Bool) (os : List Outline) → all_true (map (fits n c) os) ≡ true → AllFit n c os
each_fits n c [] h = tt
each_fits n c (o ∷ os) h = let r = and-both (fits n c o) (all_true (map (fits n c) os)) h in (r.0, each_fits n c os r.1)

parts_fit : (n c : List ℕ → Bool) (w : What) (os : List Outline) → fits n c (outline w os) ≡ true → (what_fits n c w ≡ true) × AllFit n c os
parts_fit n c w os h =
    let r = and-both (what_fits n c w) (all_true (map (fits n c) os)) (sym (fold-roll-Outline Bool (fits_step n c) (record { what = w; named = is_name w || list_any has_name os; parts = os })) ∙ h) in
    (r.0, each_fits n c os r.1)

both_fit : (n c : List ℕ → Bool) (os qs : List Outline) → AllFit n c (os ++ qs) → AllFit n c os × AllFit n c qs
both_fit n c [] qs h = (tt, h)
both_fit n c (o ∷ os) qs h = let r = both_fit n c os qs h.1 in ((h.0, r.0), r.1)

-- ---- families of trees, and of outlines

abbrev pub Trees : Family
Trees = record { of_Clause = Clause; of_Expr = Expr; of_Groups = Groups; of_Item = Item; of_JoinOperand = JoinOperand; of_SubstrRange = SubstrRange }

abbrev Outs : Family
Outs = record { of_Clause = List Outline; of_Expr = Outline; of_Groups = List Outline; of_Item = Outline; of_JoinOperand = Outline; of_SubstrRange = List Outline }

abbrev pub making : Names → Calls → Maps Trees Trees
making name call = record { on_Clause = clause_made name call; on_Expr = made name call; on_Groups = groups_made name call; on_Item = item_made name call; on_JoinOperand = operand_made name call; on_SubstrRange = range_made name call }

abbrev outlining : Maps Trees Outs
outlining = record { on_Clause = clause_outlined; on_Expr = outlined; on_Groups = groups_outlined; on_Item = item_outlined; on_JoinOperand = operand_outlined; on_SubstrRange = range_outlined }

module _ (n c : List ℕ → Bool) (name name' : Names) (call call' : Calls)
    (names : (w : List ℕ) (p : Place) → n w ≡ true → name w p ≡ name' w p)
    (calls : (w : List ℕ) (as' : List Expr) (p : Place) → c w ≡ true → call w as' p ≡ call' w as' p) where
  abbrev one : Maps Trees Trees
  one = making name call

  abbrev other : Maps Trees Trees
  other = making name' call'

  abbrev AlikeClause : Clause → Type 0
  AlikeClause x = AllFit n c (clause_outlined x) → one.on_Clause x ≡ other.on_Clause x

  abbrev AlikeExpr : Expr → Type 0
  AlikeExpr x = fits n c (outlined x) ≡ true → one.on_Expr x ≡ other.on_Expr x

  abbrev AlikeGroups : Groups → Type 0
  AlikeGroups x = AllFit n c (groups_outlined x) → one.on_Groups x ≡ other.on_Groups x

  abbrev AlikeItem : Item → Type 0
  AlikeItem x = fits n c (item_outlined x) ≡ true → one.on_Item x ≡ other.on_Item x

  abbrev AlikeOperand : JoinOperand → Type 0
  AlikeOperand x = fits n c (operand_outlined x) ≡ true → one.on_JoinOperand x ≡ other.on_JoinOperand x

  abbrev AlikeRange : SubstrRange → Type 0
  AlikeRange x = AllFit n c (range_outlined x) → one.on_SubstrRange x ≡ other.on_SubstrRange x

  abbrev Such : Family
  Such = record { of_Clause = (x : Clause) × AlikeClause x; of_Expr = (x : Expr) × AlikeExpr x; of_Groups = (x : Groups) × AlikeGroups x; of_Item = (x : Item) × AlikeItem x; of_JoinOperand = (x : JoinOperand) × AlikeOperand x; of_SubstrRange = (x : SubstrRange) × AlikeRange x }

  abbrev firsts : Maps Such Trees
  firsts = record { on_Clause = λ s. s.0; on_Expr = λ s. s.0; on_Groups = λ s. s.0; on_Item = λ s. s.0; on_JoinOperand = λ s. s.0; on_SubstrRange = λ s. s.0 }

  -- ---- lists and clauses that may be left out

  exprs : (ys : List Such.of_Expr) → AllFit n c (map outlined (map firsts.on_Expr ys)) → map one.on_Expr (map firsts.on_Expr ys) ≡ map other.on_Expr (map firsts.on_Expr ys)
  exprs [] h = refl
  exprs (y ∷ ys) h = λ i. y.1 h.0 i ∷ exprs ys h.1 i

  items : (ys : List Such.of_Item) → AllFit n c (map item_outlined (map firsts.on_Item ys)) → map one.on_Item (map firsts.on_Item ys) ≡ map other.on_Item (map firsts.on_Item ys)
  items [] h = refl
  items (y ∷ ys) h = λ i. y.1 h.0 i ∷ items ys h.1 i

  operands : (ys : List Such.of_JoinOperand) → AllFit n c (map operand_outlined (map firsts.on_JoinOperand ys)) → map one.on_JoinOperand (map firsts.on_JoinOperand ys) ≡ map other.on_JoinOperand (map firsts.on_JoinOperand ys)
  operands [] h = refl
  operands (y ∷ ys) h = λ i. y.1 h.0 i ∷ operands ys h.1 i

  clause_if : (y : Option Such.of_Clause) → AllFit n c (joined_if it (option_map clause_outlined (option_map firsts.on_Clause y))) → option_map one.on_Clause (option_map firsts.on_Clause y) ≡ option_map other.on_Clause (option_map firsts.on_Clause y)
  clause_if None h = refl
  clause_if (Some y) h = λ i. Some (y.1 (parts_fit n c what.InsideJoin (clause_outlined y.0) h.0).1 i)

  -- ---- one level

  abbrev AlikeLayer : Expr-F Trees.of_Clause Trees.of_Expr Trees.of_Groups Trees.of_Item Trees.of_JoinOperand Trees.of_SubstrRange → Type 0
  AlikeLayer z = what_fits n c (layer_what (over-Expr outlining z) (layer_parts (over-Expr outlining z))) ≡ true → AllFit n c (layer_parts (over-Expr outlining z)) → made_step name call (over-Expr one z) ≡ made_step name' call' (over-Expr other z)

  join : (f : JoinFunction) (a b : Such.of_JoinOperand) (cs : List Such.of_JoinOperand) (u v w x : Option Such.of_Clause) (p : Place) → AlikeLayer (over-Expr firsts (Expr-F.Join f a b cs u v w x p))
  join f a b cs u v w x p =
      let start = λ (o : Option Such.of_Clause). option_map firsts.on_Clause o in
      let z : Expr-F Trees.of_Clause Trees.of_Expr Trees.of_Groups Trees.of_Item Trees.of_JoinOperand Trees.of_SubstrRange = Expr-F.Join f a.0 b.0 (map firsts.on_JoinOperand cs) (start u) (start v) (start w) (start x) p in
      subst AlikeLayer (sym (maps-Join Such.of_Clause Such.of_Expr Such.of_Groups Such.of_Item Such.of_JoinOperand Such.of_SubstrRange Clause Expr Groups Item JoinOperand SubstrRange firsts.on_Clause firsts.on_Expr firsts.on_Groups firsts.on_Item firsts.on_JoinOperand firsts.on_SubstrRange f a b cs u v w x p))
      (λ (fit : what_fits n c (layer_what (over-Expr outlining z) (layer_parts (over-Expr outlining z))) ≡ true) (h : AllFit n c (layer_parts (over-Expr outlining z))).
      let told = λ (o : Option Such.of_Clause). joined_if it (option_map clause_outlined (option_map firsts.on_Clause o)) in
      let all : AllFit n c ((operand_outlined a.0 ∷ operand_outlined b.0 ∷ map operand_outlined (map firsts.on_JoinOperand cs)) ++ (told u ++ (told v ++ (told w ++ told x)))) =
      subst (λ (y : Expr-F Outs.of_Clause Outs.of_Expr Outs.of_Groups Outs.of_Item Outs.of_JoinOperand Outs.of_SubstrRange). AllFit n c (layer_parts y)) (maps-Join Clause Expr Groups Item JoinOperand SubstrRange (List Outline) Outline (List Outline) Outline Outline (List Outline) clause_outlined outlined groups_outlined item_outlined operand_outlined range_outlined f a.0 b.0 (map firsts.on_JoinOperand cs) (start u) (start v) (start w) (start x) p) h in
      let h0 = both_fit n c (operand_outlined a.0 ∷ operand_outlined b.0 ∷ map operand_outlined (map firsts.on_JoinOperand cs)) (told u ++ (told v ++ (told w ++ told x))) all in
      let h1 = both_fit n c (told u) (told v ++ (told w ++ told x)) h0.1 in
      let h2 = both_fit n c (told v) (told w ++ told x) h1.1 in
      let h3 = both_fit n c (told w) (told x) h2.1 in
      ap (made_step name call) (maps-Join Clause Expr Groups Item JoinOperand SubstrRange Clause Expr Groups Item JoinOperand SubstrRange one.on_Clause one.on_Expr one.on_Groups one.on_Item one.on_JoinOperand one.on_SubstrRange f a.0 b.0 (map firsts.on_JoinOperand cs) (start u) (start v) (start w) (start x) p)
      ∙ (λ i. roll-Expr (Expr-F.Join f (a.1 h0.0.0 i) (b.1 h0.0.1.0 i) (operands cs h0.0.1.1 i) (clause_if u h1.0 i) (clause_if v h2.0 i) (clause_if w h3.0 i) (clause_if x h3.1 i) p))
      ∙ sym (ap (made_step name' call') (maps-Join Clause Expr Groups Item JoinOperand SubstrRange Clause Expr Groups Item JoinOperand SubstrRange other.on_Clause other.on_Expr other.on_Groups other.on_Item other.on_JoinOperand other.on_SubstrRange f a.0 b.0 (map firsts.on_JoinOperand cs) (start u) (start v) (start w) (start x) p)))

  layer : (y : Expr-F Such.of_Clause Such.of_Expr Such.of_Groups Such.of_Item Such.of_JoinOperand Such.of_SubstrRange) → AlikeLayer (over-Expr firsts y)
  layer (Expr-F.If x0 x1 x2 p) f h = λ i. roll-Expr (Expr-F.If (x0.1 h.0 i) (x1.1 h.1.0 i) (x2.1 h.1.1.0 i) p)
  layer (Expr-F.Or x0 x1 x2 p) f h = λ i. roll-Expr (Expr-F.Or (x0.1 h.0 i) x1 (x2.1 h.1.0 i) p)
  layer (Expr-F.And x0 x1 p) f h = λ i. roll-Expr (Expr-F.And (x0.1 h.0 i) (x1.1 h.1.0 i) p)
  layer (Expr-F.Compare x0 x1 x2 p) f h = λ i. roll-Expr (Expr-F.Compare (x0.1 h.0 i) x1 (x2.1 h.1.0 i) p)
  layer (Expr-F.In x0 x1 x2 p) f h = λ i. roll-Expr (Expr-F.In (x0.1 h.0 i) x1 x2 p)
  layer (Expr-F.Sum x0 x1 x2 p) f h = λ i. roll-Expr (Expr-F.Sum (x0.1 h.0 i) x1 (x2.1 h.1.0 i) p)
  layer (Expr-F.Product x0 x1 x2 p) f h = λ i. roll-Expr (Expr-F.Product (x0.1 h.0 i) x1 (x2.1 h.1.0 i) p)
  layer (Expr-F.Signed x0 x1 p) f h = λ i. roll-Expr (Expr-F.Signed x0 (x1.1 h.0 i) p)
  layer (Expr-F.Member x0 x1 p) f h = λ i. roll-Expr (Expr-F.Member (x0.1 h.0 i) x1 p)
  layer (Expr-F.Clause x0 x1 p) f h = λ i. roll-Expr (Expr-F.Clause (x0.1 h.0 i) (x1.1 (parts_fit n c what.Inside (clause_outlined x1.0) h.1.0).1 i) p)
  layer (Expr-F.Literal x0 p) f h = refl
  layer (Expr-F.Name x0 p) f h = names x0 p f
  layer (Expr-F.Bracket x0 p) f h = λ i. roll-Expr (Expr-F.Bracket (x0.1 h.0 i) p)
  layer (Expr-F.Unary x0 x1 p) f h = λ i. roll-Expr (Expr-F.Unary x0 (x1.1 h.0 i) p)
  layer (Expr-F.Round x0 x1 x2 p) f h = λ i. roll-Expr (Expr-F.Round x0 (x1.1 h.0 i) x2 p)
  layer (Expr-F.Binary x0 x1 x2 p) f h = λ i. roll-Expr (Expr-F.Binary x0 (x1.1 h.0 i) (x2.1 h.1.0 i) p)
  layer (Expr-F.Between x0 x1 x2 p) f h = λ i. roll-Expr (Expr-F.Between (x0.1 h.0 i) x1 x2 p)
  layer (Expr-F.MatchCharacters x0 x1 p) f h = λ i. roll-Expr (Expr-F.MatchCharacters (x0.1 h.0 i) x1 p)
  layer (Expr-F.Substr x0 None p) f h = λ i. roll-Expr (Expr-F.Substr (x0.1 h.0 i) None p)
  layer (Expr-F.Substr x0 (Some x1) p) f h = λ i. roll-Expr (Expr-F.Substr (x0.1 h.0 i) (Some (x1.1 h.1 i)) p)
  layer (Expr-F.Replace x0 x1 None p) f h = λ i. roll-Expr (Expr-F.Replace (x0.1 h.0 i) (x1.1 h.1.0 i) None p)
  layer (Expr-F.Replace x0 x1 (Some x2) p) f h = λ i. roll-Expr (Expr-F.Replace (x0.1 h.0 i) (x1.1 h.1.0 i) (Some (x2.1 h.1.1.0 i)) p)
  layer (Expr-F.ExistsIn x0 x1 x2 p) f h = λ i. roll-Expr (Expr-F.ExistsIn (x0.1 h.0 i) (x1.1 h.1.0 i) x2 p)
  layer (Expr-F.Sets x0 x1 x2 x3 p) f h = λ i. roll-Expr (Expr-F.Sets x0 (x1.1 h.0 i) (x2.1 h.1.0 i) (exprs x3 h.1.1 i) p)
  layer (Expr-F.Difference x0 x1 x2 p) f h = λ i. roll-Expr (Expr-F.Difference x0 (x1.1 h.0 i) (x2.1 h.1.0 i) p)
  layer (Expr-F.Join x0 x1 x2 x3 x4 x5 x6 x7 p) f h = join x0 x1 x2 x3 x4 x5 x6 x7 p f h
  layer (Expr-F.Aggregate x0 x1 None p) f h = λ i. roll-Expr (Expr-F.Aggregate x0 (x1.1 h.0 i) None p)
  layer (Expr-F.Aggregate x0 x1 (Some x2) p) f h = λ i. roll-Expr (Expr-F.Aggregate x0 (x1.1 h.0 i) (Some (x2.1 h.1 i)) p)
  layer (Expr-F.Window x0 x1 x2 p) f h = λ i. roll-Expr (Expr-F.Window x0 (x1.1 h.0 i) x2 p)
  layer (Expr-F.CountAll p) f h = refl
  layer (Expr-F.Offset x0 x1 x2 x3 p) f h = λ i. roll-Expr (Expr-F.Offset x0 (x1.1 h.0 i) x2 x3 p)
  layer (Expr-F.Rank x0 p) f h = refl
  layer (Expr-F.CheckDatapoint x0 x1 x2 x3 p) f h = λ i. roll-Expr (Expr-F.CheckDatapoint (x0.1 h.0 i) x1 x2 x3 p)
  layer (Expr-F.Hierarchy x0 x1 x2 x3 x4 x5 x6 p) f h = λ i. roll-Expr (Expr-F.Hierarchy (x0.1 h.0 i) x1 x2 x3 x4 x5 x6 p)
  layer (Expr-F.CheckHierarchy x0 x1 x2 x3 x4 x5 x6 p) f h = λ i. roll-Expr (Expr-F.CheckHierarchy (x0.1 h.0 i) x1 x2 x3 x4 x5 x6 p)
  layer (Expr-F.Check x0 x1 x2 None x4 p) f h = λ i. roll-Expr (Expr-F.Check (x0.1 h.0 i) x1 x2 None x4 p)
  layer (Expr-F.Check x0 x1 x2 (Some x3) x4 p) f h = λ i. roll-Expr (Expr-F.Check (x0.1 h.0 i) x1 x2 (Some (x3.1 h.1.0 i)) x4 p)
  layer (Expr-F.Time x0 x1 p) f h = λ i. roll-Expr (Expr-F.Time x0 (x1.1 h.0 i) p)
  layer (Expr-F.Timeshift x0 x1 p) f h = λ i. roll-Expr (Expr-F.Timeshift (x0.1 h.0 i) x1 p)
  layer (Expr-F.FillTimeSeries x0 x1 p) f h = λ i. roll-Expr (Expr-F.FillTimeSeries (x0.1 h.0 i) x1 p)
  layer (Expr-F.CallOf x0 x1 p) f h = ap (λ (k : List Expr). call x0 k p) (exprs x1 h) ∙ calls x0 (map other.on_Expr (map firsts.on_Expr x1)) p f
  layer (Expr-F.Typed x0 x1 p) f h = λ i. roll-Expr (Expr-F.Typed x0 (x1.1 h.0 i) p)

  abbrev AlikeParts : Clause-F Trees.of_Clause Trees.of_Expr Trees.of_Groups Trees.of_Item Trees.of_JoinOperand Trees.of_SubstrRange → Type 0
  AlikeParts z = AllFit n c (clause_step (over-Clause outlining z)) → roll-Clause (over-Clause one z) ≡ roll-Clause (over-Clause other z)

  clause_layer : (y : Clause-F Such.of_Clause Such.of_Expr Such.of_Groups Such.of_Item Such.of_JoinOperand Such.of_SubstrRange) → AlikeParts (over-Clause firsts y)
  clause_layer (Clause-F.Filter x0 p) h = λ i. roll-Clause (Clause-F.Filter (x0.1 h.0 i) p)
  clause_layer (Clause-F.Calc x0 p) h = λ i. roll-Clause (Clause-F.Calc (items x0 h i) p)
  clause_layer (Clause-F.Keep x0 p) h = refl
  clause_layer (Clause-F.Drop x0 p) h = refl
  clause_layer (Clause-F.Rename x0 p) h = refl
  clause_layer (Clause-F.Sub x0 p) h = refl
  clause_layer (Clause-F.Unpivot x0 x1 p) h = refl
  clause_layer (Clause-F.Aggr x0 None p) h =
      let r = both_fit n c (map item_outlined (map firsts.on_Item x0)) [] h in
      λ i. roll-Clause (Clause-F.Aggr (items x0 r.0 i) None p)
  clause_layer (Clause-F.Aggr x0 (Some x1) p) h =
      let r = both_fit n c (map item_outlined (map firsts.on_Item x0)) (groups_outlined x1.0) h in
      λ i. roll-Clause (Clause-F.Aggr (items x0 r.0 i) (Some (x1.1 r.1 i)) p)

  abbrev AlikeHaving : Groups-F Such.of_Clause Such.of_Expr Such.of_Groups Such.of_Item Such.of_JoinOperand Such.of_SubstrRange → Type 0
  AlikeHaving y = AllFit n c (groups_step (over-Groups outlining (over-Groups firsts y))) → roll-Groups (over-Groups one (over-Groups firsts y)) ≡ roll-Groups (over-Groups other (over-Groups firsts y))

  groups_layer : (g : Grouping) (e : Option Such.of_Expr) (p : Place) → AlikeHaving (record { grouping = g; having = e; place = p })
  groups_layer g None p h = refl
  groups_layer g (Some e) p h = λ i. roll-Groups (record { grouping = g; having = Some (e.1 (parts_fit n c what.Inside (outlined e.0 ∷ []) h.0).1.0 i); place = p })

  abbrev AlikeLength : SubstrRange-F Such.of_Clause Such.of_Expr Such.of_Groups Such.of_Item Such.of_JoinOperand Such.of_SubstrRange → Type 0
  AlikeLength y = AllFit n c (range_step (over-SubstrRange outlining (over-SubstrRange firsts y))) → roll-SubstrRange (over-SubstrRange one (over-SubstrRange firsts y)) ≡ roll-SubstrRange (over-SubstrRange other (over-SubstrRange firsts y))

  range_layer : (s : Such.of_Expr) (l : Option Such.of_Expr) (p : Place) → AlikeLength (record { start = s; length = l; place = p })
  range_layer s None p h = λ i. roll-SubstrRange (record { start = s.1 h.0 i; length = None; place = p })
  range_layer s (Some l) p h = λ i. roll-SubstrRange (record { start = s.1 h.0 i; length = Some (l.1 h.1.0 i); place = p })

  -- ---- a tree

  clause_alike : (z : Clause-F Clause Expr Groups Item JoinOperand SubstrRange) → AlikeParts z → AlikeClause (roll-Clause z)
  clause_alike z same h =
      fold-roll-Clause Clause Expr Groups Item JoinOperand SubstrRange roll-Clause (made_step name call) roll-Groups roll-Item roll-JoinOperand roll-SubstrRange z
      ∙ same (subst (AllFit n c) (fold-roll-Clause (List Outline) Outline (List Outline) Outline Outline (List Outline) clause_step expr_step groups_step item_step operand_step range_step z) h)
      ∙ sym (fold-roll-Clause Clause Expr Groups Item JoinOperand SubstrRange roll-Clause (made_step name' call') roll-Groups roll-Item roll-JoinOperand roll-SubstrRange z)

  expr_alike : (z : Expr-F Clause Expr Groups Item JoinOperand SubstrRange) → AlikeLayer z → AlikeExpr (roll-Expr z)
  expr_alike z same h =
      let parts = layer_parts (over-Expr outlining z) in
      let r = parts_fit n c (layer_what (over-Expr outlining z) parts) parts (sym (ap (fits n c) (fold-roll-Expr (List Outline) Outline (List Outline) Outline Outline (List Outline) clause_step expr_step groups_step item_step operand_step range_step z)) ∙ h) in
      fold-roll-Expr Clause Expr Groups Item JoinOperand SubstrRange roll-Clause (made_step name call) roll-Groups roll-Item roll-JoinOperand roll-SubstrRange z
      ∙ same r.0 r.1
      ∙ sym (fold-roll-Expr Clause Expr Groups Item JoinOperand SubstrRange roll-Clause (made_step name' call') roll-Groups roll-Item roll-JoinOperand roll-SubstrRange z)

  groups_alike : (y : Groups-F Such.of_Clause Such.of_Expr Such.of_Groups Such.of_Item Such.of_JoinOperand Such.of_SubstrRange) → AlikeGroups (roll-Groups (over-Groups firsts y))
  groups_alike y h =
      let z = over-Groups firsts y in
      fold-roll-Groups Clause Expr Groups Item JoinOperand SubstrRange roll-Clause (made_step name call) roll-Groups roll-Item roll-JoinOperand roll-SubstrRange z
      ∙ groups_layer y.grouping y.having y.place (subst (AllFit n c) (fold-roll-Groups (List Outline) Outline (List Outline) Outline Outline (List Outline) clause_step expr_step groups_step item_step operand_step range_step z) h)
      ∙ sym (fold-roll-Groups Clause Expr Groups Item JoinOperand SubstrRange roll-Clause (made_step name' call') roll-Groups roll-Item roll-JoinOperand roll-SubstrRange z)

  item_alike : (y : Item-F Such.of_Clause Such.of_Expr Such.of_Groups Such.of_Item Such.of_JoinOperand Such.of_SubstrRange) → AlikeItem (roll-Item (over-Item firsts y))
  item_alike y h =
      let z = over-Item firsts y in
      let fit : fits n c (outlined y.expr.0) ≡ true = sym (ap (fits n c) (fold-roll-Item (List Outline) Outline (List Outline) Outline Outline (List Outline) clause_step expr_step groups_step item_step operand_step range_step z)) ∙ h in
      fold-roll-Item Clause Expr Groups Item JoinOperand SubstrRange roll-Clause (made_step name call) roll-Groups roll-Item roll-JoinOperand roll-SubstrRange z
      ∙ (λ i. roll-Item (record { role = y.role; name = y.name; expr = y.expr.1 fit i; place = y.place }))
      ∙ sym (fold-roll-Item Clause Expr Groups Item JoinOperand SubstrRange roll-Clause (made_step name' call') roll-Groups roll-Item roll-JoinOperand roll-SubstrRange z)

  operand_alike : (y : JoinOperand-F Such.of_Clause Such.of_Expr Such.of_Groups Such.of_Item Such.of_JoinOperand Such.of_SubstrRange) → AlikeOperand (roll-JoinOperand (over-JoinOperand firsts y))
  operand_alike y h =
      let z = over-JoinOperand firsts y in
      let fit : fits n c (outlined y.expr.0) ≡ true = sym (ap (fits n c) (fold-roll-JoinOperand (List Outline) Outline (List Outline) Outline Outline (List Outline) clause_step expr_step groups_step item_step operand_step range_step z)) ∙ h in
      fold-roll-JoinOperand Clause Expr Groups Item JoinOperand SubstrRange roll-Clause (made_step name call) roll-Groups roll-Item roll-JoinOperand roll-SubstrRange z
      ∙ (λ i. roll-JoinOperand (record { expr = y.expr.1 fit i; alias = y.alias; place = y.place }))
      ∙ sym (fold-roll-JoinOperand Clause Expr Groups Item JoinOperand SubstrRange roll-Clause (made_step name' call') roll-Groups roll-Item roll-JoinOperand roll-SubstrRange z)

  range_alike : (y : SubstrRange-F Such.of_Clause Such.of_Expr Such.of_Groups Such.of_Item Such.of_JoinOperand Such.of_SubstrRange) → AlikeRange (roll-SubstrRange (over-SubstrRange firsts y))
  range_alike y h =
      let z = over-SubstrRange firsts y in
      fold-roll-SubstrRange Clause Expr Groups Item JoinOperand SubstrRange roll-Clause (made_step name call) roll-Groups roll-Item roll-JoinOperand roll-SubstrRange z
      ∙ range_layer y.start y.length y.place (subst (AllFit n c) (fold-roll-SubstrRange (List Outline) Outline (List Outline) Outline Outline (List Outline) clause_step expr_step groups_step item_step operand_step range_step z) h)
      ∙ sym (fold-roll-SubstrRange Clause Expr Groups Item JoinOperand SubstrRange roll-Clause (made_step name' call') roll-Groups roll-Item roll-JoinOperand roll-SubstrRange z)

  alike_each : (e : Expr) → AlikeExpr e
  alike_each e = ind-Expr AlikeClause AlikeExpr AlikeGroups AlikeItem AlikeOperand AlikeRange
      (λ x y is. subst (λ (z : Clause-F Clause Expr Groups Item JoinOperand SubstrRange). AlikeClause (roll-Clause z)) is (clause_alike (over-Clause firsts y) (clause_layer y)))
      (λ x y is. subst (λ (z : Expr-F Clause Expr Groups Item JoinOperand SubstrRange). AlikeExpr (roll-Expr z)) is (expr_alike (over-Expr firsts y) (layer y)))
      (λ x y is. subst (λ (z : Groups-F Clause Expr Groups Item JoinOperand SubstrRange). AlikeGroups (roll-Groups z)) is (groups_alike y))
      (λ x y is. subst (λ (z : Item-F Clause Expr Groups Item JoinOperand SubstrRange). AlikeItem (roll-Item z)) is (item_alike y))
      (λ x y is. subst (λ (z : JoinOperand-F Clause Expr Groups Item JoinOperand SubstrRange). AlikeOperand (roll-JoinOperand z)) is (operand_alike y))
      (λ x y is. subst (λ (z : SubstrRange-F Clause Expr Groups Item JoinOperand SubstrRange). AlikeRange (roll-SubstrRange z)) is (range_alike y))
      e

pub made_alike : (n c : List ℕ → Bool) (name name' : Names) (call call' : Calls)
    → ((w : List ℕ) (p : Place) → n w ≡ true → name w p ≡ name' w p)
    → ((w : List ℕ) (as' : List Expr) (p : Place) → c w ≡ true → call w as' p ≡ call' w as' p)
    → (e : Expr) → fits n c (outlined e) ≡ true → made name call e ≡ made name' call' e
made_alike n c name name' call call' names calls e h = alike_each n c name name' call call' names calls e h
