-- The outlines of the parts of a tree, and how they are put one after the other.
use Rattle.std.proofs.Common.{◌≡◌, ℕ, List, [], ◌∷◌, ◌++◌, Option, Some, None, Ok, Err, map, rules, refl, sym, ap, ◌∙◌, append_assoc}
use Rattle.std.specs.Prelude.{ℤ, option_map, Result, OnOk}
use Rattle.std.specs.declared.alloc.AllocError.{AllocError}
use Rattle.vtl_values.specs.declared.place.Place.{Place}
use Rattle.vtl_syntax.specs.declared.expr.Expr.{Expr, map-Expr, roll-Expr, out-Expr}
use Rattle.vtl_syntax.specs.declared.expr.Expr.TheVariants as tree
use Rattle.vtl_syntax.specs.declared.expr.Clause.{Clause}
use Rattle.vtl_syntax.specs.declared.expr.Groups.{Groups}
use Rattle.vtl_syntax.specs.declared.expr.Item.{Item}
use Rattle.vtl_syntax.specs.declared.expr.JoinOperand.{JoinOperand}
use Rattle.vtl_syntax.specs.declared.expr.SubstrRange.{SubstrRange}
use Rattle.vtl_syntax.specs.declared.expr.Clause.TheOpen.{Expr-F}
use Rattle.vtl_syntax.specs.declared.expr.Clause.TheViews.{the_lemmas}
use Rattle.vtl_syntax.specs.declared.words.AggregateFunction.{AggregateFunction}
use Rattle.vtl_syntax.specs.declared.words.CheckOutput.{CheckOutput}
use Rattle.vtl_syntax.specs.declared.words.JoinFunction.{JoinFunction}
use Rattle.vtl_syntax.specs.declared.words.SetFunction.{SetFunction}
use Rattle.operator_faults.specs.declared.outline.Outline.{Outline}
use Rattle.operator_faults.specs.Outlines.{inside, parts_if, one_if, joined_if, it, layer_parts, parts_of, outlined, clause_outlined, groups_outlined, item_outlined, operand_outlined, range_outlined}
use Rattle.vtl_syntax.proofs.Maps.{maps-Substr, maps-Replace, maps-Join, maps-Aggregate, maps-Check}

abbrev Outlines : Type 0
Outlines = List Outline

-- ---- what is put after what is there

-- some, and then others
pub then : (r : Result (Unit {0}) AllocError) (a b z x y : Outlines) → b ≡ a ++ x → OnOk r (z ≡ b ++ y) → OnOk r (z ≡ a ++ (x ++ y))
then (Ok u) a b z x y e p = p ∙ ap (λ (k : Outlines). k ++ y) e ∙ append_assoc a x y
then (Err f) a b z x y e p = tt

-- the last of it, where all together is what is put
pub last : (r : Result (Unit {0}) AllocError) (a z w y : Outlines) → w ≡ y → OnOk r (z ≡ a ++ y) → OnOk r (z ≡ a ++ w)
last (Ok u) a z w y e p = p ∙ ap (λ (k : Outlines). a ++ k) (sym e)
last (Err f) a z w y e p = tt

-- ---- what may be left out

parts_if-map : {A : Type 0} (f : A → Outlines) (x : Option A) → parts_if it (option_map f x) ≡ parts_if f x
parts_if-map f None = refl
parts_if-map f (Some x) = refl

one_if-map : {A : Type 0} (f : A → Outline) (x : Option A) → one_if it (option_map f x) ≡ one_if f x
one_if-map f None = refl
one_if-map f (Some x) = refl

joined_if-map : {A : Type 0} (f : A → Outlines) (x : Option A) → joined_if it (option_map f x) ≡ joined_if f x
joined_if-map f None = refl
joined_if-map f (Some x) = refl

-- ---- a tree that one level rolls up to

abbrev mapped : Expr-F Clause Expr Groups Item JoinOperand SubstrRange → Expr-F Outlines Outline Outlines Outline Outline Outlines
mapped x = map-Expr Clause Expr Groups Item JoinOperand SubstrRange (List Outline) Outline (List Outline) Outline Outline (List Outline) clause_outlined outlined groups_outlined item_outlined operand_outlined range_outlined x

opened : (x : Expr-F Clause Expr Groups Item JoinOperand SubstrRange) → out-Expr (roll-Expr x) ≡ x
opened x = search (rules, the_lemmas)

rolled : (x : Expr-F Clause Expr Groups Item JoinOperand SubstrRange) (e : Expr) → roll-Expr x ≡ e → parts_of e ≡ layer_parts (mapped x)
rolled x e is = ap parts_of (sym is) ∙ ap (λ (y : Expr-F Clause Expr Groups Item JoinOperand SubstrRange). layer_parts (mapped y)) (opened x)

pub parts-If : (c a b : Expr) (p : Place) → parts_of (tree.If c a b p) ≡ (outlined c ∷ []) ++ ((outlined a ∷ []) ++ (outlined b ∷ []))
parts-If c a b p = rolled (Expr-F.If c a b p) (tree.If c a b p) (tree.rolls-If c a b p)

pub parts-Clause : (a : Expr) (c : Clause) (p : Place) → parts_of (tree.Clause a c p) ≡ (outlined a ∷ []) ++ (inside (clause_outlined c) ∷ [])
parts-Clause a c p = rolled (Expr-F.Clause a c p) (tree.Clause a c p) (tree.rolls-Clause a c p)

pub parts-Sets : (f : SetFunction) (a b : Expr) (cs : List Expr) (p : Place) → parts_of (tree.Sets f a b cs p) ≡ (outlined a ∷ []) ++ ((outlined b ∷ []) ++ map outlined cs)
parts-Sets f a b cs p = rolled (Expr-F.Sets f a b cs p) (tree.Sets f a b cs p) (tree.rolls-Sets f a b cs p)

pub parts-Substr : (a : Expr) (r : Option SubstrRange) (p : Place) → parts_of (tree.Substr a r p) ≡ (outlined a ∷ []) ++ parts_if range_outlined r
parts-Substr a r p = rolled (Expr-F.Substr a r p) (tree.Substr a r p) (tree.rolls-Substr a r p) ∙ ap layer_parts (maps-Substr Clause Expr Groups Item JoinOperand SubstrRange (List Outline) Outline (List Outline) Outline Outline (List Outline) clause_outlined outlined groups_outlined item_outlined operand_outlined range_outlined a r p) ∙ ap (λ (k : Outlines). outlined a ∷ k) (parts_if-map range_outlined r)

pub parts-Replace : (a b : Expr) (c : Option Expr) (p : Place) → parts_of (tree.Replace a b c p) ≡ (outlined a ∷ []) ++ ((outlined b ∷ []) ++ one_if outlined c)
parts-Replace a b c p = rolled (Expr-F.Replace a b c p) (tree.Replace a b c p) (tree.rolls-Replace a b c p) ∙ ap layer_parts (maps-Replace Clause Expr Groups Item JoinOperand SubstrRange (List Outline) Outline (List Outline) Outline Outline (List Outline) clause_outlined outlined groups_outlined item_outlined operand_outlined range_outlined a b c p) ∙ ap (λ (k : Outlines). outlined a ∷ outlined b ∷ k) (one_if-map outlined c)

pub parts-Aggregate : (f : AggregateFunction) (a : Expr) (g : Option Groups) (p : Place) → parts_of (tree.Aggregate f a g p) ≡ (outlined a ∷ []) ++ parts_if groups_outlined g
parts-Aggregate f a g p = rolled (Expr-F.Aggregate f a g p) (tree.Aggregate f a g p) (tree.rolls-Aggregate f a g p) ∙ ap layer_parts (maps-Aggregate Clause Expr Groups Item JoinOperand SubstrRange (List Outline) Outline (List Outline) Outline Outline (List Outline) clause_outlined outlined groups_outlined item_outlined operand_outlined range_outlined f a g p) ∙ ap (λ (k : Outlines). outlined a ∷ k) (parts_if-map groups_outlined g)

pub parts-Check : (a : Expr) (c : Option (List ℕ)) (l : Option ℤ) (i : Option Expr) (o : Option CheckOutput) (p : Place) → parts_of (tree.Check a c l i o p) ≡ (outlined a ∷ []) ++ one_if outlined i
parts-Check a c l i o p = rolled (Expr-F.Check a c l i o p) (tree.Check a c l i o p) (tree.rolls-Check a c l i o p) ∙ ap layer_parts (maps-Check Clause Expr Groups Item JoinOperand SubstrRange (List Outline) Outline (List Outline) Outline Outline (List Outline) clause_outlined outlined groups_outlined item_outlined operand_outlined range_outlined a c l i o p) ∙ ap (λ (k : Outlines). outlined a ∷ k) (one_if-map outlined i)

-- the clauses of a join
four : (u v w x : Option Clause) → joined_if it (option_map clause_outlined u) ++ (joined_if it (option_map clause_outlined v) ++ (joined_if it (option_map clause_outlined w) ++ joined_if it (option_map clause_outlined x))) ≡ joined_if clause_outlined u ++ (joined_if clause_outlined v ++ (joined_if clause_outlined w ++ joined_if clause_outlined x))
four u v w x = rw (joined_if-map clause_outlined u, joined_if-map clause_outlined v, joined_if-map clause_outlined w, joined_if-map clause_outlined x) refl

pub parts-Join : (f : JoinFunction) (a b : JoinOperand) (cs : List JoinOperand) (u v w x : Option Clause) (p : Place) → parts_of (tree.Join f a b cs u v w x p) ≡ (operand_outlined a ∷ []) ++ ((operand_outlined b ∷ []) ++ (map operand_outlined cs ++ (joined_if clause_outlined u ++ (joined_if clause_outlined v ++ (joined_if clause_outlined w ++ joined_if clause_outlined x)))))
parts-Join f a b cs u v w x p = rolled (Expr-F.Join f a b cs u v w x p) (tree.Join f a b cs u v w x p) (tree.rolls-Join f a b cs u v w x p) ∙ ap layer_parts (maps-Join Clause Expr Groups Item JoinOperand SubstrRange (List Outline) Outline (List Outline) Outline Outline (List Outline) clause_outlined outlined groups_outlined item_outlined operand_outlined range_outlined f a b cs u v w x p) ∙ ap (λ (k : Outlines). operand_outlined a ∷ operand_outlined b ∷ (map operand_outlined cs ++ k)) (four u v w x)
