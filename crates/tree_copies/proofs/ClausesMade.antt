-- What is made of a clause.
use Rattle.std.proofs.Common.{◌≡◌, List, map, sym, ap, ◌∙◌}
use Rattle.vtl_values.specs.declared.place.Place.{Place}
use Rattle.vtl_syntax.specs.declared.expr.Clause.TheVariants as clause
use Rattle.vtl_syntax.specs.declared.expr.Clause.TheOpen.{Clause-F}
use Rattle.vtl_syntax.specs.declared.expr.Clause.{Clause}
use Rattle.vtl_syntax.specs.declared.expr.Comp.{Comp}
use Rattle.vtl_syntax.specs.declared.expr.Expr.{Expr}
use Rattle.vtl_syntax.specs.declared.expr.Item.{Item}
use Rattle.tree_copies.specs.Made.{Names, Calls, made, clause_made, item_made}
use Rattle.tree_copies.proofs.Fused.{rolled-Clause}

module _ (name : Names) (call : Calls) (k : Clause) (p : Place) where
  pub filter_made : (e e' : Expr) → k ≡ clause.Filter e p → e' ≡ made name call e → clause.Filter e' p ≡ clause_made name call k
  filter_made e e' is parts =
      ap (λ (x : Expr). clause.Filter x p) parts ∙ sym (clause.rolls-Filter (made name call e) p) ∙ sym (rolled-Clause name call (Clause-F.Filter e p)) ∙ sym (ap (clause_made name call) (is ∙ sym (clause.rolls-Filter e p)))

  pub calc_made : (xs xs' : List Item) → k ≡ clause.Calc xs p → xs' ≡ map (item_made name call) xs → clause.Calc xs' p ≡ clause_made name call k
  calc_made xs xs' is parts =
      ap (λ (x : List Item). clause.Calc x p) parts ∙ sym (clause.rolls-Calc (map (item_made name call) xs) p) ∙ sym (rolled-Clause name call (Clause-F.Calc xs p)) ∙ sym (ap (clause_made name call) (is ∙ sym (clause.rolls-Calc xs p)))

  pub keep_made : (xs xs' : List Comp) → k ≡ clause.Keep xs p → xs' ≡ xs → clause.Keep xs' p ≡ clause_made name call k
  keep_made xs xs' is parts =
      ap (λ (x : List Comp). clause.Keep x p) parts ∙ sym (clause.rolls-Keep xs p) ∙ sym (rolled-Clause name call (Clause-F.Keep xs p)) ∙ sym (ap (clause_made name call) (is ∙ sym (clause.rolls-Keep xs p)))

  pub drop_made : (xs xs' : List Comp) → k ≡ clause.Drop xs p → xs' ≡ xs → clause.Drop xs' p ≡ clause_made name call k
  drop_made xs xs' is parts =
      ap (λ (x : List Comp). clause.Drop x p) parts ∙ sym (clause.rolls-Drop xs p) ∙ sym (rolled-Clause name call (Clause-F.Drop xs p)) ∙ sym (ap (clause_made name call) (is ∙ sym (clause.rolls-Drop xs p)))
