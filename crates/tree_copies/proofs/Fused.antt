-- Making a tree from one that was made.
use Rattle.std.proofs.Common.{◌≡◌, ℕ, List, [], ◌∷◌, map, refl, sym, ap, ◌∙◌, subst}
use Rattle.std.proofs.Math.Path.{ap₂}
use Rattle.vtl_values.specs.declared.place.Place.{Place}
use Rattle.vtl_syntax.specs.declared.expr.Expr.{ind-Expr}
use Rattle.vtl_syntax.specs.declared.expr.Expr.TheVariants as tree
use Rattle.vtl_syntax.specs.declared.expr.Clause.TheOpen.{Expr-F, Clause-F, Groups-F, Item-F, JoinOperand-F, SubstrRange-F}
use Rattle.vtl_syntax.specs.declared.expr.Clause.{Clause, roll-Clause, fold-roll-Clause}
use Rattle.vtl_syntax.specs.declared.expr.Expr.{Expr, roll-Expr, fold-roll-Expr}
use Rattle.vtl_syntax.specs.declared.expr.Groups.{Groups, roll-Groups, fold-roll-Groups}
use Rattle.vtl_syntax.specs.declared.expr.Item.{Item, roll-Item, fold-roll-Item}
use Rattle.vtl_syntax.specs.declared.expr.JoinOperand.{JoinOperand, roll-JoinOperand, fold-roll-JoinOperand}
use Rattle.vtl_syntax.specs.declared.expr.SubstrRange.{SubstrRange, roll-SubstrRange, fold-roll-SubstrRange}
use Rattle.tree_copies.specs.Made.{Names, Calls, same_name, same_call, made_step, made, clause_made, groups_made, item_made, operand_made, range_made}
use Rattle.tree_copies.specs.Laws.{Fuses, Stays}
use Rattle.tree_copies.proofs.Layers.{Family, Maps, after, same, over-Clause, twice-Clause, same-Clause, over-Expr, twice-Expr, same-Expr, over-Groups, twice-Groups, same-Groups, over-Item, twice-Item, same-Item, over-JoinOperand, twice-JoinOperand, same-JoinOperand, over-SubstrRange, twice-SubstrRange, same-SubstrRange}

abbrev Trees : Family
Trees = record { of_Clause = Clause; of_Expr = Expr; of_Groups = Groups; of_Item = Item; of_JoinOperand = JoinOperand; of_SubstrRange = SubstrRange }

abbrev making : Names → Calls → Maps Trees Trees
making name call = record { on_Clause = clause_made name call; on_Expr = made name call; on_Groups = groups_made name call; on_Item = item_made name call; on_JoinOperand = operand_made name call; on_SubstrRange = range_made name call }

-- ---- a tree that one level rolls up to

pub rolled-Clause : (name : Names) (call : Calls) (x : Clause-F Clause Expr Groups Item JoinOperand SubstrRange) → clause_made name call (roll-Clause x) ≡ roll-Clause (over-Clause (making name call) x)
rolled-Clause name call x = fold-roll-Clause Clause Expr Groups Item JoinOperand SubstrRange roll-Clause (made_step name call) roll-Groups roll-Item roll-JoinOperand roll-SubstrRange x

rolled-Expr : (name : Names) (call : Calls) (x : Expr-F Clause Expr Groups Item JoinOperand SubstrRange) → made name call (roll-Expr x) ≡ made_step name call (over-Expr (making name call) x)
rolled-Expr name call x = fold-roll-Expr Clause Expr Groups Item JoinOperand SubstrRange roll-Clause (made_step name call) roll-Groups roll-Item roll-JoinOperand roll-SubstrRange x

rolled-Groups : (name : Names) (call : Calls) (x : Groups-F Clause Expr Groups Item JoinOperand SubstrRange) → groups_made name call (roll-Groups x) ≡ roll-Groups (over-Groups (making name call) x)
rolled-Groups name call x = fold-roll-Groups Clause Expr Groups Item JoinOperand SubstrRange roll-Clause (made_step name call) roll-Groups roll-Item roll-JoinOperand roll-SubstrRange x

rolled-Item : (name : Names) (call : Calls) (x : Item-F Clause Expr Groups Item JoinOperand SubstrRange) → item_made name call (roll-Item x) ≡ roll-Item (over-Item (making name call) x)
rolled-Item name call x = fold-roll-Item Clause Expr Groups Item JoinOperand SubstrRange roll-Clause (made_step name call) roll-Groups roll-Item roll-JoinOperand roll-SubstrRange x

rolled-JoinOperand : (name : Names) (call : Calls) (x : JoinOperand-F Clause Expr Groups Item JoinOperand SubstrRange) → operand_made name call (roll-JoinOperand x) ≡ roll-JoinOperand (over-JoinOperand (making name call) x)
rolled-JoinOperand name call x = fold-roll-JoinOperand Clause Expr Groups Item JoinOperand SubstrRange roll-Clause (made_step name call) roll-Groups roll-Item roll-JoinOperand roll-SubstrRange x

rolled-SubstrRange : (name : Names) (call : Calls) (x : SubstrRange-F Clause Expr Groups Item JoinOperand SubstrRange) → range_made name call (roll-SubstrRange x) ≡ roll-SubstrRange (over-SubstrRange (making name call) x)
rolled-SubstrRange name call x = fold-roll-SubstrRange Clause Expr Groups Item JoinOperand SubstrRange roll-Clause (made_step name call) roll-Groups roll-Item roll-JoinOperand roll-SubstrRange x

-- ---- parts on which two functions agree

module _ (f g : Maps Trees Trees) where
  abbrev Such : Family
  Such = record { of_Clause = (x : Clause) × (f.on_Clause x ≡ g.on_Clause x); of_Expr = (x : Expr) × (f.on_Expr x ≡ g.on_Expr x); of_Groups = (x : Groups) × (f.on_Groups x ≡ g.on_Groups x); of_Item = (x : Item) × (f.on_Item x ≡ g.on_Item x); of_JoinOperand = (x : JoinOperand) × (f.on_JoinOperand x ≡ g.on_JoinOperand x); of_SubstrRange = (x : SubstrRange) × (f.on_SubstrRange x ≡ g.on_SubstrRange x) }

  abbrev firsts : Maps Such Trees
  firsts = record { on_Clause = λ s. s.0; on_Expr = λ s. s.0; on_Groups = λ s. s.0; on_Item = λ s. s.0; on_JoinOperand = λ s. s.0; on_SubstrRange = λ s. s.0 }

  agree-Clause : (y : Clause-F Such.of_Clause Such.of_Expr Such.of_Groups Such.of_Item Such.of_JoinOperand Such.of_SubstrRange) → over-Clause f (over-Clause firsts y) ≡ over-Clause g (over-Clause firsts y)
  agree-Clause y = twice-Clause f firsts y ∙ (λ i. over-Clause {X = Such} {Y = Trees} (record { on_Clause = λ s. s.1 i; on_Expr = λ s. s.1 i; on_Groups = λ s. s.1 i; on_Item = λ s. s.1 i; on_JoinOperand = λ s. s.1 i; on_SubstrRange = λ s. s.1 i }) y) ∙ sym (twice-Clause g firsts y)

  agree-Expr : (y : Expr-F Such.of_Clause Such.of_Expr Such.of_Groups Such.of_Item Such.of_JoinOperand Such.of_SubstrRange) → over-Expr f (over-Expr firsts y) ≡ over-Expr g (over-Expr firsts y)
  agree-Expr y = twice-Expr f firsts y ∙ (λ i. over-Expr {X = Such} {Y = Trees} (record { on_Clause = λ s. s.1 i; on_Expr = λ s. s.1 i; on_Groups = λ s. s.1 i; on_Item = λ s. s.1 i; on_JoinOperand = λ s. s.1 i; on_SubstrRange = λ s. s.1 i }) y) ∙ sym (twice-Expr g firsts y)

  agree-Groups : (y : Groups-F Such.of_Clause Such.of_Expr Such.of_Groups Such.of_Item Such.of_JoinOperand Such.of_SubstrRange) → over-Groups f (over-Groups firsts y) ≡ over-Groups g (over-Groups firsts y)
  agree-Groups y = twice-Groups f firsts y ∙ (λ i. over-Groups {X = Such} {Y = Trees} (record { on_Clause = λ s. s.1 i; on_Expr = λ s. s.1 i; on_Groups = λ s. s.1 i; on_Item = λ s. s.1 i; on_JoinOperand = λ s. s.1 i; on_SubstrRange = λ s. s.1 i }) y) ∙ sym (twice-Groups g firsts y)

  agree-Item : (y : Item-F Such.of_Clause Such.of_Expr Such.of_Groups Such.of_Item Such.of_JoinOperand Such.of_SubstrRange) → over-Item f (over-Item firsts y) ≡ over-Item g (over-Item firsts y)
  agree-Item y = twice-Item f firsts y ∙ (λ i. over-Item {X = Such} {Y = Trees} (record { on_Clause = λ s. s.1 i; on_Expr = λ s. s.1 i; on_Groups = λ s. s.1 i; on_Item = λ s. s.1 i; on_JoinOperand = λ s. s.1 i; on_SubstrRange = λ s. s.1 i }) y) ∙ sym (twice-Item g firsts y)

  agree-JoinOperand : (y : JoinOperand-F Such.of_Clause Such.of_Expr Such.of_Groups Such.of_Item Such.of_JoinOperand Such.of_SubstrRange) → over-JoinOperand f (over-JoinOperand firsts y) ≡ over-JoinOperand g (over-JoinOperand firsts y)
  agree-JoinOperand y = twice-JoinOperand f firsts y ∙ (λ i. over-JoinOperand {X = Such} {Y = Trees} (record { on_Clause = λ s. s.1 i; on_Expr = λ s. s.1 i; on_Groups = λ s. s.1 i; on_Item = λ s. s.1 i; on_JoinOperand = λ s. s.1 i; on_SubstrRange = λ s. s.1 i }) y) ∙ sym (twice-JoinOperand g firsts y)

  agree-SubstrRange : (y : SubstrRange-F Such.of_Clause Such.of_Expr Such.of_Groups Such.of_Item Such.of_JoinOperand Such.of_SubstrRange) → over-SubstrRange f (over-SubstrRange firsts y) ≡ over-SubstrRange g (over-SubstrRange firsts y)
  agree-SubstrRange y = twice-SubstrRange f firsts y ∙ (λ i. over-SubstrRange {X = Such} {Y = Trees} (record { on_Clause = λ s. s.1 i; on_Expr = λ s. s.1 i; on_Groups = λ s. s.1 i; on_Item = λ s. s.1 i; on_JoinOperand = λ s. s.1 i; on_SubstrRange = λ s. s.1 i }) y) ∙ sym (twice-SubstrRange g firsts y)

  agree-list : (ys : List Such.of_Expr) → map f.on_Expr (map firsts.on_Expr ys) ≡ map g.on_Expr (map firsts.on_Expr ys)
  agree-list [] = refl
  agree-list (y ∷ ys) = ap₂ (λ (a : Expr) (b : List Expr). a ∷ b) y.1 (agree-list ys)

map-after : (f g : Expr → Expr) (es : List Expr) → map f (map g es) ≡ map (λ e. f (g e)) es
map-after f g [] = refl
map-after f g (e ∷ es) = ap (λ (k : List Expr). f (g e) ∷ k) (map-after f g es)

-- ---- one after the other

module _ (name name' name'' : Names) (call call' call'' : Calls)
    (names : (w : List ℕ) (p : Place) → made name call (name' w p) ≡ name'' w p)
    (calls : (w : List ℕ) (as' : List Expr) (p : Place) → made name call (call' w as' p) ≡ call'' w (map (made name call) as') p) where
  abbrev outer : Maps Trees Trees
  outer = making name call

  abbrev inner : Maps Trees Trees
  inner = making name' call'

  abbrev both : Maps Trees Trees
  both = after outer inner

  abbrev once : Maps Trees Trees
  once = making name'' call''

  fused-Clause : (y : Clause-F (Such both once).of_Clause (Such both once).of_Expr (Such both once).of_Groups (Such both once).of_Item (Such both once).of_JoinOperand (Such both once).of_SubstrRange) → both.on_Clause (roll-Clause (over-Clause (firsts both once) y)) ≡ once.on_Clause (roll-Clause (over-Clause (firsts both once) y))
  fused-Clause y =
      let x = over-Clause (firsts both once) y in
      ap outer.on_Clause (rolled-Clause name' call' x) ∙ rolled-Clause name call (over-Clause inner x) ∙ ap roll-Clause (twice-Clause outer inner x ∙ agree-Clause both once y) ∙ sym (rolled-Clause name'' call'' x)

  fused-Groups : (y : Groups-F (Such both once).of_Clause (Such both once).of_Expr (Such both once).of_Groups (Such both once).of_Item (Such both once).of_JoinOperand (Such both once).of_SubstrRange) → both.on_Groups (roll-Groups (over-Groups (firsts both once) y)) ≡ once.on_Groups (roll-Groups (over-Groups (firsts both once) y))
  fused-Groups y =
      let x = over-Groups (firsts both once) y in
      ap outer.on_Groups (rolled-Groups name' call' x) ∙ rolled-Groups name call (over-Groups inner x) ∙ ap roll-Groups (twice-Groups outer inner x ∙ agree-Groups both once y) ∙ sym (rolled-Groups name'' call'' x)

  fused-Item : (y : Item-F (Such both once).of_Clause (Such both once).of_Expr (Such both once).of_Groups (Such both once).of_Item (Such both once).of_JoinOperand (Such both once).of_SubstrRange) → both.on_Item (roll-Item (over-Item (firsts both once) y)) ≡ once.on_Item (roll-Item (over-Item (firsts both once) y))
  fused-Item y =
      let x = over-Item (firsts both once) y in
      ap outer.on_Item (rolled-Item name' call' x) ∙ rolled-Item name call (over-Item inner x) ∙ ap roll-Item (twice-Item outer inner x ∙ agree-Item both once y) ∙ sym (rolled-Item name'' call'' x)

  fused-JoinOperand : (y : JoinOperand-F (Such both once).of_Clause (Such both once).of_Expr (Such both once).of_Groups (Such both once).of_Item (Such both once).of_JoinOperand (Such both once).of_SubstrRange) → both.on_JoinOperand (roll-JoinOperand (over-JoinOperand (firsts both once) y)) ≡ once.on_JoinOperand (roll-JoinOperand (over-JoinOperand (firsts both once) y))
  fused-JoinOperand y =
      let x = over-JoinOperand (firsts both once) y in
      ap outer.on_JoinOperand (rolled-JoinOperand name' call' x) ∙ rolled-JoinOperand name call (over-JoinOperand inner x) ∙ ap roll-JoinOperand (twice-JoinOperand outer inner x ∙ agree-JoinOperand both once y) ∙ sym (rolled-JoinOperand name'' call'' x)

  fused-SubstrRange : (y : SubstrRange-F (Such both once).of_Clause (Such both once).of_Expr (Such both once).of_Groups (Such both once).of_Item (Such both once).of_JoinOperand (Such both once).of_SubstrRange) → both.on_SubstrRange (roll-SubstrRange (over-SubstrRange (firsts both once) y)) ≡ once.on_SubstrRange (roll-SubstrRange (over-SubstrRange (firsts both once) y))
  fused-SubstrRange y =
      let x = over-SubstrRange (firsts both once) y in
      ap outer.on_SubstrRange (rolled-SubstrRange name' call' x) ∙ rolled-SubstrRange name call (over-SubstrRange inner x) ∙ ap roll-SubstrRange (twice-SubstrRange outer inner x ∙ agree-SubstrRange both once y) ∙ sym (rolled-SubstrRange name'' call'' x)

  other : (y : Expr-F (Such both once).of_Clause (Such both once).of_Expr (Such both once).of_Groups (Such both once).of_Item (Such both once).of_JoinOperand (Such both once).of_SubstrRange)
      → made_step name' call' (over-Expr inner (over-Expr (firsts both once) y)) ≡ roll-Expr (over-Expr inner (over-Expr (firsts both once) y))
      → made_step name call (over-Expr outer (over-Expr inner (over-Expr (firsts both once) y))) ≡ roll-Expr (over-Expr outer (over-Expr inner (over-Expr (firsts both once) y)))
      → made_step name'' call'' (over-Expr once (over-Expr (firsts both once) y)) ≡ roll-Expr (over-Expr once (over-Expr (firsts both once) y))
      → both.on_Expr (roll-Expr (over-Expr (firsts both once) y)) ≡ once.on_Expr (roll-Expr (over-Expr (firsts both once) y))
  other y a b c =
      let x = over-Expr (firsts both once) y in
      ap outer.on_Expr (rolled-Expr name' call' x ∙ a) ∙ rolled-Expr name call (over-Expr inner x) ∙ b ∙ ap roll-Expr (twice-Expr outer inner x ∙ agree-Expr both once y) ∙ sym c ∙ sym (rolled-Expr name'' call'' x)

  fused-Expr : (y : Expr-F (Such both once).of_Clause (Such both once).of_Expr (Such both once).of_Groups (Such both once).of_Item (Such both once).of_JoinOperand (Such both once).of_SubstrRange) → both.on_Expr (roll-Expr (over-Expr (firsts both once) y)) ≡ once.on_Expr (roll-Expr (over-Expr (firsts both once) y))
  fused-Expr (Expr-F.Name w p) = ap outer.on_Expr (rolled-Expr name' call' (Expr-F.Name w p)) ∙ names w p ∙ sym (rolled-Expr name'' call'' (Expr-F.Name w p))
  fused-Expr (Expr-F.CallOf w ys p) =
      let es = map (firsts both once).on_Expr ys in
      ap outer.on_Expr (rolled-Expr name' call' (Expr-F.CallOf w es p)) ∙ calls w (map inner.on_Expr es) p ∙ ap (λ (k : List Expr). call'' w k p) (map-after outer.on_Expr inner.on_Expr es ∙ agree-list both once ys) ∙ sym (rolled-Expr name'' call'' (Expr-F.CallOf w es p))
  fused-Expr y = other y refl refl refl

  fused_each : (e : Expr) → both.on_Expr e ≡ once.on_Expr e
  fused_each e = ind-Expr (λ x. both.on_Clause x ≡ once.on_Clause x) (λ x. both.on_Expr x ≡ once.on_Expr x) (λ x. both.on_Groups x ≡ once.on_Groups x) (λ x. both.on_Item x ≡ once.on_Item x) (λ x. both.on_JoinOperand x ≡ once.on_JoinOperand x) (λ x. both.on_SubstrRange x ≡ once.on_SubstrRange x)
      (λ x y is. subst (λ (z : Clause-F Clause Expr Groups Item JoinOperand SubstrRange). both.on_Clause (roll-Clause z) ≡ once.on_Clause (roll-Clause z)) is (fused-Clause y))
      (λ x y is. subst (λ (z : Expr-F Clause Expr Groups Item JoinOperand SubstrRange). both.on_Expr (roll-Expr z) ≡ once.on_Expr (roll-Expr z)) is (fused-Expr y))
      (λ x y is. subst (λ (z : Groups-F Clause Expr Groups Item JoinOperand SubstrRange). both.on_Groups (roll-Groups z) ≡ once.on_Groups (roll-Groups z)) is (fused-Groups y))
      (λ x y is. subst (λ (z : Item-F Clause Expr Groups Item JoinOperand SubstrRange). both.on_Item (roll-Item z) ≡ once.on_Item (roll-Item z)) is (fused-Item y))
      (λ x y is. subst (λ (z : JoinOperand-F Clause Expr Groups Item JoinOperand SubstrRange). both.on_JoinOperand (roll-JoinOperand z) ≡ once.on_JoinOperand (roll-JoinOperand z)) is (fused-JoinOperand y))
      (λ x y is. subst (λ (z : SubstrRange-F Clause Expr Groups Item JoinOperand SubstrRange). both.on_SubstrRange (roll-SubstrRange z) ≡ once.on_SubstrRange (roll-SubstrRange z)) is (fused-SubstrRange y))
      e

pub fused : Fuses
fused name name' name'' call call' call'' names calls e = fused_each name name' name'' call call' call'' names calls e

-- ---- nothing made

abbrev staying : Maps Trees Trees
staying = making same_name same_call

stays-Clause : (y : Clause-F (Such staying (same Trees)).of_Clause (Such staying (same Trees)).of_Expr (Such staying (same Trees)).of_Groups (Such staying (same Trees)).of_Item (Such staying (same Trees)).of_JoinOperand (Such staying (same Trees)).of_SubstrRange) → staying.on_Clause (roll-Clause (over-Clause (firsts staying (same Trees)) y)) ≡ roll-Clause (over-Clause (firsts staying (same Trees)) y)
stays-Clause y = rolled-Clause same_name same_call (over-Clause (firsts staying (same Trees)) y) ∙ ap roll-Clause (agree-Clause staying (same Trees) y ∙ same-Clause (over-Clause (firsts staying (same Trees)) y))

stays-Groups : (y : Groups-F (Such staying (same Trees)).of_Clause (Such staying (same Trees)).of_Expr (Such staying (same Trees)).of_Groups (Such staying (same Trees)).of_Item (Such staying (same Trees)).of_JoinOperand (Such staying (same Trees)).of_SubstrRange) → staying.on_Groups (roll-Groups (over-Groups (firsts staying (same Trees)) y)) ≡ roll-Groups (over-Groups (firsts staying (same Trees)) y)
stays-Groups y = rolled-Groups same_name same_call (over-Groups (firsts staying (same Trees)) y) ∙ ap roll-Groups (agree-Groups staying (same Trees) y ∙ same-Groups (over-Groups (firsts staying (same Trees)) y))

stays-Item : (y : Item-F (Such staying (same Trees)).of_Clause (Such staying (same Trees)).of_Expr (Such staying (same Trees)).of_Groups (Such staying (same Trees)).of_Item (Such staying (same Trees)).of_JoinOperand (Such staying (same Trees)).of_SubstrRange) → staying.on_Item (roll-Item (over-Item (firsts staying (same Trees)) y)) ≡ roll-Item (over-Item (firsts staying (same Trees)) y)
stays-Item y = rolled-Item same_name same_call (over-Item (firsts staying (same Trees)) y) ∙ ap roll-Item (agree-Item staying (same Trees) y ∙ same-Item (over-Item (firsts staying (same Trees)) y))

stays-JoinOperand : (y : JoinOperand-F (Such staying (same Trees)).of_Clause (Such staying (same Trees)).of_Expr (Such staying (same Trees)).of_Groups (Such staying (same Trees)).of_Item (Such staying (same Trees)).of_JoinOperand (Such staying (same Trees)).of_SubstrRange) → staying.on_JoinOperand (roll-JoinOperand (over-JoinOperand (firsts staying (same Trees)) y)) ≡ roll-JoinOperand (over-JoinOperand (firsts staying (same Trees)) y)
stays-JoinOperand y = rolled-JoinOperand same_name same_call (over-JoinOperand (firsts staying (same Trees)) y) ∙ ap roll-JoinOperand (agree-JoinOperand staying (same Trees) y ∙ same-JoinOperand (over-JoinOperand (firsts staying (same Trees)) y))

stays-SubstrRange : (y : SubstrRange-F (Such staying (same Trees)).of_Clause (Such staying (same Trees)).of_Expr (Such staying (same Trees)).of_Groups (Such staying (same Trees)).of_Item (Such staying (same Trees)).of_JoinOperand (Such staying (same Trees)).of_SubstrRange) → staying.on_SubstrRange (roll-SubstrRange (over-SubstrRange (firsts staying (same Trees)) y)) ≡ roll-SubstrRange (over-SubstrRange (firsts staying (same Trees)) y)
stays-SubstrRange y = rolled-SubstrRange same_name same_call (over-SubstrRange (firsts staying (same Trees)) y) ∙ ap roll-SubstrRange (agree-SubstrRange staying (same Trees) y ∙ same-SubstrRange (over-SubstrRange (firsts staying (same Trees)) y))

stays_other : (y : Expr-F (Such staying (same Trees)).of_Clause (Such staying (same Trees)).of_Expr (Such staying (same Trees)).of_Groups (Such staying (same Trees)).of_Item (Such staying (same Trees)).of_JoinOperand (Such staying (same Trees)).of_SubstrRange)
    → made_step same_name same_call (over-Expr staying (over-Expr (firsts staying (same Trees)) y)) ≡ roll-Expr (over-Expr staying (over-Expr (firsts staying (same Trees)) y))
    → staying.on_Expr (roll-Expr (over-Expr (firsts staying (same Trees)) y)) ≡ roll-Expr (over-Expr (firsts staying (same Trees)) y)
stays_other y a = rolled-Expr same_name same_call (over-Expr (firsts staying (same Trees)) y) ∙ a ∙ ap roll-Expr (agree-Expr staying (same Trees) y ∙ same-Expr (over-Expr (firsts staying (same Trees)) y))

stays-Expr : (y : Expr-F (Such staying (same Trees)).of_Clause (Such staying (same Trees)).of_Expr (Such staying (same Trees)).of_Groups (Such staying (same Trees)).of_Item (Such staying (same Trees)).of_JoinOperand (Such staying (same Trees)).of_SubstrRange) → staying.on_Expr (roll-Expr (over-Expr (firsts staying (same Trees)) y)) ≡ roll-Expr (over-Expr (firsts staying (same Trees)) y)
stays-Expr (Expr-F.Name w p) = stays_other (Expr-F.Name w p) (sym (tree.rolls-Name w p))
stays-Expr (Expr-F.CallOf w ys p) = stays_other (Expr-F.CallOf w ys p) (sym (tree.rolls-CallOf w (map staying.on_Expr (map (firsts staying (same Trees)).on_Expr ys)) p))
stays-Expr y = stays_other y refl

pub stays : Stays
stays e = ind-Expr (λ x. staying.on_Clause x ≡ x) (λ x. staying.on_Expr x ≡ x) (λ x. staying.on_Groups x ≡ x) (λ x. staying.on_Item x ≡ x) (λ x. staying.on_JoinOperand x ≡ x) (λ x. staying.on_SubstrRange x ≡ x)
    (λ x y is. subst (λ (z : Clause-F Clause Expr Groups Item JoinOperand SubstrRange). staying.on_Clause (roll-Clause z) ≡ roll-Clause z) is (stays-Clause y))
    (λ x y is. subst (λ (z : Expr-F Clause Expr Groups Item JoinOperand SubstrRange). staying.on_Expr (roll-Expr z) ≡ roll-Expr z) is (stays-Expr y))
    (λ x y is. subst (λ (z : Groups-F Clause Expr Groups Item JoinOperand SubstrRange). staying.on_Groups (roll-Groups z) ≡ roll-Groups z) is (stays-Groups y))
    (λ x y is. subst (λ (z : Item-F Clause Expr Groups Item JoinOperand SubstrRange). staying.on_Item (roll-Item z) ≡ roll-Item z) is (stays-Item y))
    (λ x y is. subst (λ (z : JoinOperand-F Clause Expr Groups Item JoinOperand SubstrRange). staying.on_JoinOperand (roll-JoinOperand z) ≡ roll-JoinOperand z) is (stays-JoinOperand y))
    (λ x y is. subst (λ (z : SubstrRange-F Clause Expr Groups Item JoinOperand SubstrRange). staying.on_SubstrRange (roll-SubstrRange z) ≡ roll-SubstrRange z) is (stays-SubstrRange y))
    e
