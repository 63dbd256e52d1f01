-- What stands at the top of an expression, whatever its parts.
use Rattle.std.proofs.Common.{◌≡◌, ℕ, List, Some, map, refl, sym, ap, ◌∙◌}
use Rattle.vtl_values.specs.declared.place.Place.{Place}
use Rattle.vtl_syntax.specs.declared.expr.Expr.{Expr, map-Expr, out-Expr, roll-Expr, roll-out-Expr, fold_out-Expr}
use Rattle.vtl_syntax.specs.declared.expr.Expr.TheVariants as tree
use Rattle.vtl_syntax.specs.declared.expr.Clause.{Clause}
use Rattle.vtl_syntax.specs.declared.expr.Groups.{Groups}
use Rattle.vtl_syntax.specs.declared.expr.Item.{Item}
use Rattle.vtl_syntax.specs.declared.expr.JoinOperand.{JoinOperand}
use Rattle.vtl_syntax.specs.declared.expr.SubstrRange.{SubstrRange}
use Rattle.vtl_syntax.specs.declared.expr.Clause.TheOpen.{Expr-F}
use Rattle.vtl_syntax.specs.declared.words.Sort.{Sort}
use Rattle.vtl_values.specs.declared.value.Value.{Value}
use Rattle.vtl_syntax.proofs.Maps.{maps-Substr, maps-Replace, maps-Join, maps-Aggregate, maps-Check}
use Rattle.operator_faults.specs.declared.outline.What.{What}
use Rattle.operator_faults.specs.declared.outline.Outline.{Outline}
use Rattle.operator_faults.specs.Outlines.{outline, layer_parts, layer_what, parts_of, what_of, outlined, clause_outlined, groups_outlined, item_outlined, operand_outlined, range_outlined, clause_step, expr_step, groups_step, item_step, operand_step, range_step}
use Rattle.written_sizes.specs.Sizes.{own_expressions, inner}
use Rattle.written_sizes.specs.Rooms.{levels_of}

abbrev Layer : Type 0
Layer = Expr-F Clause Expr Groups Item JoinOperand SubstrRange

abbrev mapped : Layer → Expr-F (List Outline) Outline (List Outline) Outline Outline (List Outline)
mapped x = map-Expr Clause Expr Groups Item JoinOperand SubstrRange (List Outline) Outline (List Outline) Outline Outline (List Outline) clause_outlined outlined groups_outlined item_outlined operand_outlined range_outlined x

module _ (qs : List Outline) where
  -- outlines of the parts make no difference
  what-map : (x : Layer) → layer_what (mapped x) qs ≡ layer_what x qs
  what-map (Expr-F.Substr a r p) = ap (λ y. layer_what y qs) (maps-Substr Clause Expr Groups Item JoinOperand SubstrRange (List Outline) Outline (List Outline) Outline Outline (List Outline) clause_outlined outlined groups_outlined item_outlined operand_outlined range_outlined a r p)
  what-map (Expr-F.Replace a b c p) = ap (λ y. layer_what y qs) (maps-Replace Clause Expr Groups Item JoinOperand SubstrRange (List Outline) Outline (List Outline) Outline Outline (List Outline) clause_outlined outlined groups_outlined item_outlined operand_outlined range_outlined a b c p)
  what-map (Expr-F.Join f a b cs u v w x p) = ap (λ y. layer_what y qs) (maps-Join Clause Expr Groups Item JoinOperand SubstrRange (List Outline) Outline (List Outline) Outline Outline (List Outline) clause_outlined outlined groups_outlined item_outlined operand_outlined range_outlined f a b cs u v w x p)
  what-map (Expr-F.Aggregate f a g p) = ap (λ y. layer_what y qs) (maps-Aggregate Clause Expr Groups Item JoinOperand SubstrRange (List Outline) Outline (List Outline) Outline Outline (List Outline) clause_outlined outlined groups_outlined item_outlined operand_outlined range_outlined f a g p)
  what-map (Expr-F.Check a c l i o p) = ap (λ y. layer_what y qs) (maps-Check Clause Expr Groups Item JoinOperand SubstrRange (List Outline) Outline (List Outline) Outline Outline (List Outline) clause_outlined outlined groups_outlined item_outlined operand_outlined range_outlined a c l i o p)
  what-map _ = refl

  one-form : (x : Layer) → own_expressions (layer_what x qs) ≡ 1
  one-form (Expr-F.Name w p) = refl
  one-form _ = refl

  -- an expression is one
  pub one-expression : (e : Expr) → own_expressions (what_of e qs) ≡ 1
  one-expression e = ap own_expressions (what-map (out-Expr e)) ∙ one-form (out-Expr e)

  inner-form : (f : Outline → ℕ) (x : Layer) → inner (layer_what x qs) (map f (layer_parts (mapped x))) ≡ map f (layer_parts (mapped x))
  inner-form f (Expr-F.Name w p) = refl
  inner-form f _ = refl

  -- its parts stand below it; a name has none
  pub inner-parts : (f : Outline → ℕ) (e : Expr) → inner (what_of e qs) (map f (parts_of e)) ≡ map f (parts_of e)
  inner-parts f e = ap (λ (w : What). inner w (map f (parts_of e))) (what-map (out-Expr e)) ∙ inner-form f (out-Expr e)

  level-form : (x : Layer) (e : Expr) → roll-Expr x ≡ e
      → ((w : List ℕ) (as' : List Expr) (p : Place) → e ≡ tree.CallOf w as' p → ⊥)
      → ((w : List ℕ) (p : Place) → e ≡ tree.Name w p → ⊥)
      → ((v : Value) (p : Place) → e ≡ tree.Literal v p → ⊥)
      → ((s : Sort) (a : Expr) (p : Place) → e ≡ tree.Typed s a p → ⊥)
      → levels_of (layer_what x qs) ≡ Some 1
  level-form (Expr-F.CallOf w as' p) e is no_call no_name no_literal no_sort = absurd (no_call w as' p (sym is ∙ tree.rolls-CallOf w as' p))
  level-form (Expr-F.Name w p) e is no_call no_name no_literal no_sort = absurd (no_name w p (sym is ∙ tree.rolls-Name w p))
  level-form (Expr-F.Literal v p) e is no_call no_name no_literal no_sort = absurd (no_literal v p (sym is ∙ tree.rolls-Literal v p))
  level-form (Expr-F.Typed s a p) e is no_call no_name no_literal no_sort = absurd (no_sort s a p (sym is ∙ tree.rolls-Typed s a p))
  level-form _ e is no_call no_name no_literal no_sort = refl

  -- any other is a level
  pub a_level : (e : Expr)
      → ((w : List ℕ) (as' : List Expr) (p : Place) → e ≡ tree.CallOf w as' p → ⊥)
      → ((w : List ℕ) (p : Place) → e ≡ tree.Name w p → ⊥)
      → ((v : Value) (p : Place) → e ≡ tree.Literal v p → ⊥)
      → ((s : Sort) (a : Expr) (p : Place) → e ≡ tree.Typed s a p → ⊥)
      → Some 1 ≡ levels_of (what_of e qs)
  a_level e no_call no_name no_literal no_sort = sym (ap levels_of (what-map (out-Expr e)) ∙ level-form (out-Expr e) e (roll-out-Expr e) no_call no_name no_literal no_sort)

pub outlined-is : (e : Expr) → outlined e ≡ outline (what_of e (parts_of e)) (parts_of e)
outlined-is e = fold_out-Expr (List Outline) Outline (List Outline) Outline Outline (List Outline) clause_step expr_step groups_step item_step operand_step range_step e
