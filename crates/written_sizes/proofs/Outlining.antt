-- The outline of a tree that is made anew is the outline that is made anew.
use Rattle.std.proofs.Common.{◌≡◌, ℕ, List, [], ◌∷◌, ◌++◌, Option, Some, None, map, refl, sym, ap, ◌∙◌, subst}
use Rattle.std.proofs.Math.Path.{ap₂}
use Rattle.std.proofs.lemmas.List.{map-append}
use Rattle.std.specs.Prelude.{option_map}
use Rattle.vtl_values.specs.declared.place.Place.{Place}
use Rattle.vtl_syntax.specs.declared.words.JoinFunction.{JoinFunction}
use Rattle.vtl_syntax.specs.declared.expr.Clause.TheOpen.{Expr-F, Clause-F, Groups-F, Item-F, JoinOperand-F, SubstrRange-F}
use Rattle.vtl_syntax.specs.declared.expr.Clause.{Clause, roll-Clause, fold-roll-Clause}
use Rattle.vtl_syntax.specs.declared.expr.Expr.{Expr, roll-Expr, fold-roll-Expr, ind-Expr}
use Rattle.vtl_syntax.specs.declared.expr.Groups.{Groups, roll-Groups, fold-roll-Groups}
use Rattle.vtl_syntax.specs.declared.expr.Grouping.{Grouping}
use Rattle.vtl_syntax.specs.declared.expr.Item.{Item, roll-Item, fold-roll-Item}
use Rattle.vtl_syntax.specs.declared.expr.JoinOperand.{JoinOperand, roll-JoinOperand, fold-roll-JoinOperand}
use Rattle.vtl_syntax.specs.declared.expr.SubstrRange.{SubstrRange, roll-SubstrRange, fold-roll-SubstrRange}
use Rattle.vtl_syntax.proofs.Maps.{maps-Join}
use Rattle.operator_faults.specs.declared.outline.What.TheVariants as what
use Rattle.operator_faults.specs.declared.outline.Outline.{Outline}
use Rattle.operator_faults.specs.Outlines.{outline, inside, joined, joined_if, it, layer_parts, layer_what, clause_step, expr_step, groups_step, item_step, operand_step, range_step, outlined, clause_outlined, groups_outlined, item_outlined, operand_outlined, range_outlined}
use Rattle.tree_copies.specs.Made as tree_made
use Rattle.tree_copies.specs.Made.{made_step, made, clause_made, groups_made, item_made, operand_made, range_made}
use Rattle.tree_copies.proofs.Layers.{Family, Maps, after, over-Clause, twice-Clause, over-Expr, twice-Expr, over-Groups, twice-Groups, over-Item, twice-Item, over-JoinOperand, twice-JoinOperand, over-SubstrRange, twice-SubstrRange}
use Rattle.written_sizes.specs.Replaced.{Names, Calls, remade, remade_by, remade_step}
use Rattle.written_sizes.proofs.Folds.{fold-outline}

abbrev Trees : Family
Trees = record { of_Clause = Clause; of_Expr = Expr; of_Groups = Groups; of_Item = Item; of_JoinOperand = JoinOperand; of_SubstrRange = SubstrRange }

abbrev Outs : Family
Outs = record { of_Clause = List Outline; of_Expr = Outline; of_Groups = List Outline; of_Item = Outline; of_JoinOperand = Outline; of_SubstrRange = List Outline }

abbrev outlining : Maps Trees Outs
outlining = record { on_Clause = clause_outlined; on_Expr = outlined; on_Groups = groups_outlined; on_Item = item_outlined; on_JoinOperand = operand_outlined; on_SubstrRange = range_outlined }

abbrev making : tree_made.Names → tree_made.Calls → Maps Trees Trees
making name call = record { on_Clause = clause_made name call; on_Expr = made name call; on_Groups = groups_made name call; on_Item = item_made name call; on_JoinOperand = operand_made name call; on_SubstrRange = range_made name call }

-- ---- parts on which two functions agree

module _ (f g : Maps Trees Outs) where
  abbrev Such : Family
  Such = record { of_Clause = (x : Clause) × (f.on_Clause x ≡ g.on_Clause x); of_Expr = (x : Expr) × (f.on_Expr x ≡ g.on_Expr x); of_Groups = (x : Groups) × (f.on_Groups x ≡ g.on_Groups x); of_Item = (x : Item) × (f.on_Item x ≡ g.on_Item x); of_JoinOperand = (x : JoinOperand) × (f.on_JoinOperand x ≡ g.on_JoinOperand x); of_SubstrRange = (x : SubstrRange) × (f.on_SubstrRange x ≡ g.on_SubstrRange x) }

  abbrev firsts : Maps Such Trees
  firsts = record { on_Clause = λ s. s.0; on_Expr = λ s. s.0; on_Groups = λ s. s.0; on_Item = λ s. s.0; on_JoinOperand = λ s. s.0; on_SubstrRange = λ s. s.0 }

  agree-Clause : (y : Clause-F Such.of_Clause Such.of_Expr Such.of_Groups Such.of_Item Such.of_JoinOperand Such.of_SubstrRange) → over-Clause f (over-Clause firsts y) ≡ over-Clause g (over-Clause firsts y)
  agree-Clause y = twice-Clause f firsts y ∙ (λ i. over-Clause {X = Such} {Y = Outs} (record { on_Clause = λ s. s.1 i; on_Expr = λ s. s.1 i; on_Groups = λ s. s.1 i; on_Item = λ s. s.1 i; on_JoinOperand = λ s. s.1 i; on_SubstrRange = λ s. s.1 i }) y) ∙ sym (twice-Clause g firsts y)

  agree-Expr : (y : Expr-F Such.of_Clause Such.of_Expr Such.of_Groups Such.of_Item Such.of_JoinOperand Such.of_SubstrRange) → over-Expr f (over-Expr firsts y) ≡ over-Expr g (over-Expr firsts y)
  agree-Expr y = twice-Expr f firsts y ∙ (λ i. over-Expr {X = Such} {Y = Outs} (record { on_Clause = λ s. s.1 i; on_Expr = λ s. s.1 i; on_Groups = λ s. s.1 i; on_Item = λ s. s.1 i; on_JoinOperand = λ s. s.1 i; on_SubstrRange = λ s. s.1 i }) y) ∙ sym (twice-Expr g firsts y)

  agree-Groups : (y : Groups-F Such.of_Clause Such.of_Expr Such.of_Groups Such.of_Item Such.of_JoinOperand Such.of_SubstrRange) → over-Groups f (over-Groups firsts y) ≡ over-Groups g (over-Groups firsts y)
  agree-Groups y = twice-Groups f firsts y ∙ (λ i. over-Groups {X = Such} {Y = Outs} (record { on_Clause = λ s. s.1 i; on_Expr = λ s. s.1 i; on_Groups = λ s. s.1 i; on_Item = λ s. s.1 i; on_JoinOperand = λ s. s.1 i; on_SubstrRange = λ s. s.1 i }) y) ∙ sym (twice-Groups g firsts y)

  agree-Item : (y : Item-F Such.of_Clause Such.of_Expr Such.of_Groups Such.of_Item Such.of_JoinOperand Such.of_SubstrRange) → over-Item f (over-Item firsts y) ≡ over-Item g (over-Item firsts y)
  agree-Item y = twice-Item f firsts y ∙ (λ i. over-Item {X = Such} {Y = Outs} (record { on_Clause = λ s. s.1 i; on_Expr = λ s. s.1 i; on_Groups = λ s. s.1 i; on_Item = λ s. s.1 i; on_JoinOperand = λ s. s.1 i; on_SubstrRange = λ s. s.1 i }) y) ∙ sym (twice-Item g firsts y)

  agree-JoinOperand : (y : JoinOperand-F Such.of_Clause Such.of_Expr Such.of_Groups Such.of_Item Such.of_JoinOperand Such.of_SubstrRange) → over-JoinOperand f (over-JoinOperand firsts y) ≡ over-JoinOperand g (over-JoinOperand firsts y)
  agree-JoinOperand y = twice-JoinOperand f firsts y ∙ (λ i. over-JoinOperand {X = Such} {Y = Outs} (record { on_Clause = λ s. s.1 i; on_Expr = λ s. s.1 i; on_Groups = λ s. s.1 i; on_Item = λ s. s.1 i; on_JoinOperand = λ s. s.1 i; on_SubstrRange = λ s. s.1 i }) y) ∙ sym (twice-JoinOperand g firsts y)

  agree-SubstrRange : (y : SubstrRange-F Such.of_Clause Such.of_Expr Such.of_Groups Such.of_Item Such.of_JoinOperand Such.of_SubstrRange) → over-SubstrRange f (over-SubstrRange firsts y) ≡ over-SubstrRange g (over-SubstrRange firsts y)
  agree-SubstrRange y = twice-SubstrRange f firsts y ∙ (λ i. over-SubstrRange {X = Such} {Y = Outs} (record { on_Clause = λ s. s.1 i; on_Expr = λ s. s.1 i; on_Groups = λ s. s.1 i; on_Item = λ s. s.1 i; on_JoinOperand = λ s. s.1 i; on_SubstrRange = λ s. s.1 i }) y) ∙ sym (twice-SubstrRange g firsts y)

-- ---- trees and outlines made anew alike

module _ (name : tree_made.Names) (call : tree_made.Calls) (out_name : Names) (out_call : Calls)
    (names : (w : List ℕ) (p : Place) → outlined (name w p) ≡ out_name w p)
    (calls : (w : List ℕ) (es : List Expr) (p : Place) → outlined (call w es p) ≡ out_call w (map outlined es) p) where
  abbrev again : Outline → Outline
  again = remade out_name out_call

  abbrev remaking : Maps Outs Outs
  remaking = record { on_Clause = λ (os : List Outline). map again os; on_Expr = again; on_Groups = λ (os : List Outline). map again os; on_Item = again; on_JoinOperand = again; on_SubstrRange = λ (os : List Outline). map again os }

  abbrev tree_first : Maps Trees Outs
  tree_first = after outlining (making name call)

  abbrev outline_first : Maps Trees Outs
  outline_first = after remaking outlining

  again-inside : (os : List Outline) → inside (map again os) ≡ again (inside os)
  again-inside os = sym (fold-outline Outline (remade_step out_name out_call) what.Inside os)

  again-joined : (os : List Outline) → joined (map again os) ≡ again (joined os)
  again-joined os = sym (fold-outline Outline (remade_step out_name out_call) what.InsideJoin os)

  again-if : (u : Option (List Outline)) → joined_if it (option_map (λ (os : List Outline). map again os) u) ≡ map again (joined_if it u)
  again-if None = refl
  again-if (Some os) = ap (λ (o : Outline). o ∷ []) (again-joined os)

  -- ---- one level of outlines

  natural-Clause : (x : Clause-F Outs.of_Clause Outs.of_Expr Outs.of_Groups Outs.of_Item Outs.of_JoinOperand Outs.of_SubstrRange) → clause_step (over-Clause remaking x) ≡ map again (clause_step x)
  natural-Clause (Clause-F.Filter a p) = refl
  natural-Clause (Clause-F.Calc is p) = refl
  natural-Clause (Clause-F.Keep cs p) = refl
  natural-Clause (Clause-F.Drop cs p) = refl
  natural-Clause (Clause-F.Rename rs p) = refl
  natural-Clause (Clause-F.Sub is p) = refl
  natural-Clause (Clause-F.Unpivot i m p) = refl
  natural-Clause (Clause-F.Aggr is None p) = sym (map-append again is [])
  natural-Clause (Clause-F.Aggr is (Some g) p) = sym (map-append again is g)

  groups : (g : Grouping) (h : Option Outline) (p : Place) → groups_step (over-Groups {X = Outs} {Y = Outs} remaking (record { grouping = g; having = h; place = p })) ≡ map again (groups_step (record { grouping = g; having = h; place = p }))
  groups g None p = refl
  groups g (Some h) p = ap (λ (o : Outline). o ∷ []) (again-inside (h ∷ []))

  natural-Groups : (x : Groups-F Outs.of_Clause Outs.of_Expr Outs.of_Groups Outs.of_Item Outs.of_JoinOperand Outs.of_SubstrRange) → groups_step (over-Groups remaking x) ≡ map again (groups_step x)
  natural-Groups x = groups x.grouping x.having x.place

  natural-Item : (x : Item-F Outs.of_Clause Outs.of_Expr Outs.of_Groups Outs.of_Item Outs.of_JoinOperand Outs.of_SubstrRange) → item_step (over-Item remaking x) ≡ again (item_step x)
  natural-Item x = refl

  natural-JoinOperand : (x : JoinOperand-F Outs.of_Clause Outs.of_Expr Outs.of_Groups Outs.of_Item Outs.of_JoinOperand Outs.of_SubstrRange) → operand_step (over-JoinOperand remaking x) ≡ again (operand_step x)
  natural-JoinOperand x = refl

  range : (a : Outline) (n : Option Outline) (p : Place) → range_step (over-SubstrRange {X = Outs} {Y = Outs} remaking (record { start = a; length = n; place = p })) ≡ map again (range_step (record { start = a; length = n; place = p }))
  range a None p = refl
  range a (Some n) p = refl

  natural-SubstrRange : (x : SubstrRange-F Outs.of_Clause Outs.of_Expr Outs.of_Groups Outs.of_Item Outs.of_JoinOperand Outs.of_SubstrRange) → range_step (over-SubstrRange remaking x) ≡ map again (range_step x)
  natural-SubstrRange x = range x.start x.length x.place

  -- what one level becomes
  abbrev outs_step : Expr-F Outs.of_Clause Outs.of_Expr Outs.of_Groups Outs.of_Item Outs.of_JoinOperand Outs.of_SubstrRange → Outline
  outs_step (Expr-F.Name w p) = out_name w p
  outs_step (Expr-F.CallOf w os p) = out_call w os p
  outs_step x = expr_step x

  abbrev becomes : Expr-F Outs.of_Clause Outs.of_Expr Outs.of_Groups Outs.of_Item Outs.of_JoinOperand Outs.of_SubstrRange → Outline
  becomes x = remade_by out_name out_call (layer_what x (layer_parts x)) (map again (layer_parts x))

  natural-join : (f : JoinFunction) (a b : Outline) (cs : List Outline) (u v w x : Option (List Outline)) (p : Place) → outs_step (over-Expr {X = Outs} {Y = Outs} remaking (Expr-F.Join f a b cs u v w x p)) ≡ becomes (Expr-F.Join f a b cs u v w x p)
  natural-join f a b cs u v w x p =
      let r = λ (os : List Outline). map again os in
      let t = λ (o : Option (List Outline)). joined_if it o in
      let t' = λ (o : Option (List Outline)). joined_if it (option_map r o) in
      ap outs_step (maps-Join (List Outline) Outline (List Outline) Outline Outline (List Outline) (List Outline) Outline (List Outline) Outline Outline (List Outline) r again r again again r f a b cs u v w x p)
      ∙ ap (λ (os : List Outline). outline what.Level (again a ∷ again b ∷ os))
      (ap (λ (os : List Outline). map again cs ++ os)
      (ap₂ (λ (k l : List Outline). k ++ l) (again-if u) (ap₂ (λ (k l : List Outline). k ++ l) (again-if v) (ap₂ (λ (k l : List Outline). k ++ l) (again-if w) (again-if x) ∙ sym (map-append again (t w) (t x))) ∙ sym (map-append again (t v) (t w ++ t x))) ∙ sym (map-append again (t u) (t v ++ (t w ++ t x))))
      ∙ sym (map-append again cs (t u ++ (t v ++ (t w ++ t x)))))

  natural-Expr : (x : Expr-F Outs.of_Clause Outs.of_Expr Outs.of_Groups Outs.of_Item Outs.of_JoinOperand Outs.of_SubstrRange) → outs_step (over-Expr remaking x) ≡ becomes x
  natural-Expr (Expr-F.If c a b p) = refl
  natural-Expr (Expr-F.Or a s b p) = refl
  natural-Expr (Expr-F.And a b p) = refl
  natural-Expr (Expr-F.Compare a s b p) = refl
  natural-Expr (Expr-F.In a s vs p) = refl
  natural-Expr (Expr-F.Sum a s b p) = refl
  natural-Expr (Expr-F.Product a s b p) = refl
  natural-Expr (Expr-F.Signed s a p) = refl
  natural-Expr (Expr-F.Member a w p) = refl
  natural-Expr (Expr-F.Clause a c p) = ap (λ (o : Outline). outline what.Level (again a ∷ o ∷ [])) (again-inside c)
  natural-Expr (Expr-F.Literal v p) = refl
  natural-Expr (Expr-F.Name w p) = refl
  natural-Expr (Expr-F.Bracket a p) = refl
  natural-Expr (Expr-F.Unary f a p) = refl
  natural-Expr (Expr-F.Round f a n p) = refl
  natural-Expr (Expr-F.Binary f a b p) = refl
  natural-Expr (Expr-F.Between a u v p) = refl
  natural-Expr (Expr-F.MatchCharacters a t p) = refl
  natural-Expr (Expr-F.Substr a None p) = refl
  natural-Expr (Expr-F.Substr a (Some r) p) = refl
  natural-Expr (Expr-F.Replace a b None p) = refl
  natural-Expr (Expr-F.Replace a b (Some c) p) = refl
  natural-Expr (Expr-F.ExistsIn a b r p) = refl
  natural-Expr (Expr-F.Sets f a b cs p) = refl
  natural-Expr (Expr-F.Difference f a b p) = refl
  natural-Expr (Expr-F.Join f a b cs u v w x p) = natural-join f a b cs u v w x p
  natural-Expr (Expr-F.Aggregate f a None p) = refl
  natural-Expr (Expr-F.Aggregate f a (Some g) p) = refl
  natural-Expr (Expr-F.Window f a o p) = refl
  natural-Expr (Expr-F.CountAll p) = refl
  natural-Expr (Expr-F.Offset f a n o p) = refl
  natural-Expr (Expr-F.Rank o p) = refl
  natural-Expr (Expr-F.CheckDatapoint a r q o p) = refl
  natural-Expr (Expr-F.Hierarchy a r q c m i o p) = refl
  natural-Expr (Expr-F.CheckHierarchy a r q c m i o p) = refl
  natural-Expr (Expr-F.Check a c l None o p) = refl
  natural-Expr (Expr-F.Check a c l (Some i) o p) = refl
  natural-Expr (Expr-F.Time f a p) = refl
  natural-Expr (Expr-F.Timeshift a n p) = refl
  natural-Expr (Expr-F.FillTimeSeries a s p) = refl
  natural-Expr (Expr-F.CallOf w arguments p) = refl
  natural-Expr (Expr-F.Typed s a p) = refl

  -- ---- one level of a tree

  rolls : (z : Expr-F Trees.of_Clause Trees.of_Expr Trees.of_Groups Trees.of_Item Trees.of_JoinOperand Trees.of_SubstrRange) → outlined (roll-Expr z) ≡ expr_step (over-Expr outlining z)
  rolls z = fold-roll-Expr (List Outline) Outline (List Outline) Outline Outline (List Outline) clause_step expr_step groups_step item_step operand_step range_step z

  made_level : (z : Expr-F Trees.of_Clause Trees.of_Expr Trees.of_Groups Trees.of_Item Trees.of_JoinOperand Trees.of_SubstrRange) → outlined (made_step name call z) ≡ outs_step (over-Expr outlining z)
  made_level (Expr-F.If c a b p) = rolls (Expr-F.If c a b p)
  made_level (Expr-F.Or a s b p) = rolls (Expr-F.Or a s b p)
  made_level (Expr-F.And a b p) = rolls (Expr-F.And a b p)
  made_level (Expr-F.Compare a s b p) = rolls (Expr-F.Compare a s b p)
  made_level (Expr-F.In a s vs p) = rolls (Expr-F.In a s vs p)
  made_level (Expr-F.Sum a s b p) = rolls (Expr-F.Sum a s b p)
  made_level (Expr-F.Product a s b p) = rolls (Expr-F.Product a s b p)
  made_level (Expr-F.Signed s a p) = rolls (Expr-F.Signed s a p)
  made_level (Expr-F.Member a w p) = rolls (Expr-F.Member a w p)
  made_level (Expr-F.Clause a c p) = rolls (Expr-F.Clause a c p)
  made_level (Expr-F.Literal v p) = rolls (Expr-F.Literal v p)
  made_level (Expr-F.Name w p) = names w p
  made_level (Expr-F.Bracket a p) = rolls (Expr-F.Bracket a p)
  made_level (Expr-F.Unary f a p) = rolls (Expr-F.Unary f a p)
  made_level (Expr-F.Round f a n p) = rolls (Expr-F.Round f a n p)
  made_level (Expr-F.Binary f a b p) = rolls (Expr-F.Binary f a b p)
  made_level (Expr-F.Between a u v p) = rolls (Expr-F.Between a u v p)
  made_level (Expr-F.MatchCharacters a t p) = rolls (Expr-F.MatchCharacters a t p)
  made_level (Expr-F.Substr a None p) = rolls (Expr-F.Substr a None p)
  made_level (Expr-F.Substr a (Some r) p) = rolls (Expr-F.Substr a (Some r) p)
  made_level (Expr-F.Replace a b None p) = rolls (Expr-F.Replace a b None p)
  made_level (Expr-F.Replace a b (Some c) p) = rolls (Expr-F.Replace a b (Some c) p)
  made_level (Expr-F.ExistsIn a b r p) = rolls (Expr-F.ExistsIn a b r p)
  made_level (Expr-F.Sets f a b cs p) = rolls (Expr-F.Sets f a b cs p)
  made_level (Expr-F.Difference f a b p) = rolls (Expr-F.Difference f a b p)
  made_level (Expr-F.Join f a b cs u v w x p) =
      let is = maps-Join Clause Expr Groups Item JoinOperand SubstrRange (List Outline) Outline (List Outline) Outline Outline (List Outline) clause_outlined outlined groups_outlined item_outlined operand_outlined range_outlined f a b cs u v w x p in
      rolls (Expr-F.Join f a b cs u v w x p) ∙ ap expr_step is ∙ sym (ap outs_step is)
  made_level (Expr-F.Aggregate f a None p) = rolls (Expr-F.Aggregate f a None p)
  made_level (Expr-F.Aggregate f a (Some g) p) = rolls (Expr-F.Aggregate f a (Some g) p)
  made_level (Expr-F.Window f a o p) = rolls (Expr-F.Window f a o p)
  made_level (Expr-F.CountAll p) = rolls (Expr-F.CountAll p)
  made_level (Expr-F.Offset f a n o p) = rolls (Expr-F.Offset f a n o p)
  made_level (Expr-F.Rank o p) = rolls (Expr-F.Rank o p)
  made_level (Expr-F.CheckDatapoint a r q o p) = rolls (Expr-F.CheckDatapoint a r q o p)
  made_level (Expr-F.Hierarchy a r q c m i o p) = rolls (Expr-F.Hierarchy a r q c m i o p)
  made_level (Expr-F.CheckHierarchy a r q c m i o p) = rolls (Expr-F.CheckHierarchy a r q c m i o p)
  made_level (Expr-F.Check a c l None o p) = rolls (Expr-F.Check a c l None o p)
  made_level (Expr-F.Check a c l (Some i) o p) = rolls (Expr-F.Check a c l (Some i) o p)
  made_level (Expr-F.Time f a p) = rolls (Expr-F.Time f a p)
  made_level (Expr-F.Timeshift a n p) = rolls (Expr-F.Timeshift a n p)
  made_level (Expr-F.FillTimeSeries a s p) = rolls (Expr-F.FillTimeSeries a s p)
  made_level (Expr-F.CallOf w es p) = calls w es p
  made_level (Expr-F.Typed s a p) = rolls (Expr-F.Typed s a p)

  abbrev These : Family
  These = Such tree_first outline_first

  abbrev starts : Maps These Trees
  starts = firsts tree_first outline_first

  same-Clause : (y : Clause-F These.of_Clause These.of_Expr These.of_Groups These.of_Item These.of_JoinOperand These.of_SubstrRange) → tree_first.on_Clause (roll-Clause (over-Clause starts y)) ≡ outline_first.on_Clause (roll-Clause (over-Clause starts y))
  same-Clause y =
      let x = over-Clause starts y in
      ap clause_outlined (fold-roll-Clause Clause Expr Groups Item JoinOperand SubstrRange roll-Clause (made_step name call) roll-Groups roll-Item roll-JoinOperand roll-SubstrRange x)
      ∙ fold-roll-Clause (List Outline) Outline (List Outline) Outline Outline (List Outline) clause_step expr_step groups_step item_step operand_step range_step (over-Clause (making name call) x)
      ∙ ap clause_step (twice-Clause outlining (making name call) x ∙ agree-Clause tree_first outline_first y ∙ sym (twice-Clause remaking outlining x))
      ∙ natural-Clause (over-Clause outlining x)
      ∙ sym (ap remaking.on_Clause (fold-roll-Clause (List Outline) Outline (List Outline) Outline Outline (List Outline) clause_step expr_step groups_step item_step operand_step range_step x))

  same-Expr : (y : Expr-F These.of_Clause These.of_Expr These.of_Groups These.of_Item These.of_JoinOperand These.of_SubstrRange) → tree_first.on_Expr (roll-Expr (over-Expr starts y)) ≡ outline_first.on_Expr (roll-Expr (over-Expr starts y))
  same-Expr y =
      let x = over-Expr starts y in
      ap outlined (fold-roll-Expr Clause Expr Groups Item JoinOperand SubstrRange roll-Clause (made_step name call) roll-Groups roll-Item roll-JoinOperand roll-SubstrRange x)
      ∙ made_level (over-Expr (making name call) x)
      ∙ ap outs_step (twice-Expr outlining (making name call) x ∙ agree-Expr tree_first outline_first y ∙ sym (twice-Expr remaking outlining x))
      ∙ natural-Expr (over-Expr outlining x)
      ∙ sym (fold-outline Outline (remade_step out_name out_call) (layer_what (over-Expr outlining x) (layer_parts (over-Expr outlining x))) (layer_parts (over-Expr outlining x)))
      ∙ sym (ap again (rolls x))

  same-Groups : (y : Groups-F These.of_Clause These.of_Expr These.of_Groups These.of_Item These.of_JoinOperand These.of_SubstrRange) → tree_first.on_Groups (roll-Groups (over-Groups starts y)) ≡ outline_first.on_Groups (roll-Groups (over-Groups starts y))
  same-Groups y =
      let x = over-Groups starts y in
      ap groups_outlined (fold-roll-Groups Clause Expr Groups Item JoinOperand SubstrRange roll-Clause (made_step name call) roll-Groups roll-Item roll-JoinOperand roll-SubstrRange x)
      ∙ fold-roll-Groups (List Outline) Outline (List Outline) Outline Outline (List Outline) clause_step expr_step groups_step item_step operand_step range_step (over-Groups (making name call) x)
      ∙ ap groups_step (twice-Groups outlining (making name call) x ∙ agree-Groups tree_first outline_first y ∙ sym (twice-Groups remaking outlining x))
      ∙ natural-Groups (over-Groups outlining x)
      ∙ sym (ap remaking.on_Groups (fold-roll-Groups (List Outline) Outline (List Outline) Outline Outline (List Outline) clause_step expr_step groups_step item_step operand_step range_step x))

  same-Item : (y : Item-F These.of_Clause These.of_Expr These.of_Groups These.of_Item These.of_JoinOperand These.of_SubstrRange) → tree_first.on_Item (roll-Item (over-Item starts y)) ≡ outline_first.on_Item (roll-Item (over-Item starts y))
  same-Item y =
      let x = over-Item starts y in
      ap item_outlined (fold-roll-Item Clause Expr Groups Item JoinOperand SubstrRange roll-Clause (made_step name call) roll-Groups roll-Item roll-JoinOperand roll-SubstrRange x)
      ∙ fold-roll-Item (List Outline) Outline (List Outline) Outline Outline (List Outline) clause_step expr_step groups_step item_step operand_step range_step (over-Item (making name call) x)
      ∙ ap item_step (twice-Item outlining (making name call) x ∙ agree-Item tree_first outline_first y ∙ sym (twice-Item remaking outlining x))
      ∙ natural-Item (over-Item outlining x)
      ∙ sym (ap remaking.on_Item (fold-roll-Item (List Outline) Outline (List Outline) Outline Outline (List Outline) clause_step expr_step groups_step item_step operand_step range_step x))

  same-JoinOperand : (y : JoinOperand-F These.of_Clause These.of_Expr These.of_Groups These.of_Item These.of_JoinOperand These.of_SubstrRange) → tree_first.on_JoinOperand (roll-JoinOperand (over-JoinOperand starts y)) ≡ outline_first.on_JoinOperand (roll-JoinOperand (over-JoinOperand starts y))
  same-JoinOperand y =
      let x = over-JoinOperand starts y in
      ap operand_outlined (fold-roll-JoinOperand Clause Expr Groups Item JoinOperand SubstrRange roll-Clause (made_step name call) roll-Groups roll-Item roll-JoinOperand roll-SubstrRange x)
      ∙ fold-roll-JoinOperand (List Outline) Outline (List Outline) Outline Outline (List Outline) clause_step expr_step groups_step item_step operand_step range_step (over-JoinOperand (making name call) x)
      ∙ ap operand_step (twice-JoinOperand outlining (making name call) x ∙ agree-JoinOperand tree_first outline_first y ∙ sym (twice-JoinOperand remaking outlining x))
      ∙ natural-JoinOperand (over-JoinOperand outlining x)
      ∙ sym (ap remaking.on_JoinOperand (fold-roll-JoinOperand (List Outline) Outline (List Outline) Outline Outline (List Outline) clause_step expr_step groups_step item_step operand_step range_step x))

  same-SubstrRange : (y : SubstrRange-F These.of_Clause These.of_Expr These.of_Groups These.of_Item These.of_JoinOperand These.of_SubstrRange) → tree_first.on_SubstrRange (roll-SubstrRange (over-SubstrRange starts y)) ≡ outline_first.on_SubstrRange (roll-SubstrRange (over-SubstrRange starts y))
  same-SubstrRange y =
      let x = over-SubstrRange starts y in
      ap range_outlined (fold-roll-SubstrRange Clause Expr Groups Item JoinOperand SubstrRange roll-Clause (made_step name call) roll-Groups roll-Item roll-JoinOperand roll-SubstrRange x)
      ∙ fold-roll-SubstrRange (List Outline) Outline (List Outline) Outline Outline (List Outline) clause_step expr_step groups_step item_step operand_step range_step (over-SubstrRange (making name call) x)
      ∙ ap range_step (twice-SubstrRange outlining (making name call) x ∙ agree-SubstrRange tree_first outline_first y ∙ sym (twice-SubstrRange remaking outlining x))
      ∙ natural-SubstrRange (over-SubstrRange outlining x)
      ∙ sym (ap remaking.on_SubstrRange (fold-roll-SubstrRange (List Outline) Outline (List Outline) Outline Outline (List Outline) clause_step expr_step groups_step item_step operand_step range_step x))

  outlines_each : (e : Expr) → tree_first.on_Expr e ≡ outline_first.on_Expr e
  outlines_each e = ind-Expr (λ x. tree_first.on_Clause x ≡ outline_first.on_Clause x) (λ x. tree_first.on_Expr x ≡ outline_first.on_Expr x) (λ x. tree_first.on_Groups x ≡ outline_first.on_Groups x) (λ x. tree_first.on_Item x ≡ outline_first.on_Item x) (λ x. tree_first.on_JoinOperand x ≡ outline_first.on_JoinOperand x) (λ x. tree_first.on_SubstrRange x ≡ outline_first.on_SubstrRange x)
      (λ x y is. subst (λ (z : Clause-F Clause Expr Groups Item JoinOperand SubstrRange). tree_first.on_Clause (roll-Clause z) ≡ outline_first.on_Clause (roll-Clause z)) is (same-Clause y))
      (λ x y is. subst (λ (z : Expr-F Clause Expr Groups Item JoinOperand SubstrRange). tree_first.on_Expr (roll-Expr z) ≡ outline_first.on_Expr (roll-Expr z)) is (same-Expr y))
      (λ x y is. subst (λ (z : Groups-F Clause Expr Groups Item JoinOperand SubstrRange). tree_first.on_Groups (roll-Groups z) ≡ outline_first.on_Groups (roll-Groups z)) is (same-Groups y))
      (λ x y is. subst (λ (z : Item-F Clause Expr Groups Item JoinOperand SubstrRange). tree_first.on_Item (roll-Item z) ≡ outline_first.on_Item (roll-Item z)) is (same-Item y))
      (λ x y is. subst (λ (z : JoinOperand-F Clause Expr Groups Item JoinOperand SubstrRange). tree_first.on_JoinOperand (roll-JoinOperand z) ≡ outline_first.on_JoinOperand (roll-JoinOperand z)) is (same-JoinOperand y))
      (λ x y is. subst (λ (z : SubstrRange-F Clause Expr Groups Item JoinOperand SubstrRange). tree_first.on_SubstrRange (roll-SubstrRange z) ≡ outline_first.on_SubstrRange (roll-SubstrRange z)) is (same-SubstrRange y))
      e

pub outlined-made : (name : tree_made.Names) (call : tree_made.Calls) (out_name : Names) (out_call : Calls)
    → ((w : List ℕ) (p : Place) → outlined (name w p) ≡ out_name w p)
    → ((w : List ℕ) (es : List Expr) (p : Place) → outlined (call w es p) ≡ out_call w (map outlined es) p)
    → (e : Expr) → outlined (made name call e) ≡ remade out_name out_call (outlined e)
outlined-made name call out_name out_call names calls e = outlines_each name call out_name out_call names calls e
