-- A tree whose calls are given their sorts has no other calls.
use Rattle.std.proofs.Common.{◌≡◌, ℕ, ◌+◌, Bool, true, false, if◌then◌else◌, List, [], ◌∷◌, Option, Some, None, map, refl, sym, ap, ◌∙◌}
use Rattle.std.specs.Prelude.{slice_get, unwrap_or}
use Rattle.std.specs.Option.{option_map}
use Rattle.vtl_values.specs.declared.place.Place.{Place}
use Rattle.vtl_syntax.specs.declared.words.Sort.{Sort}
use Rattle.vtl_syntax.specs.declared.expr.Expr.TheVariants as tree
use Rattle.vtl_syntax.specs.declared.expr.Clause.TheOpen.{Expr-F}
use Rattle.vtl_syntax.specs.declared.expr.Clause.{Clause, roll-Clause}
use Rattle.vtl_syntax.specs.declared.expr.Expr.{Expr, roll-Expr, out-Expr, out-roll-Expr, fold_out-Expr}
use Rattle.vtl_syntax.specs.declared.expr.Groups.{Groups, roll-Groups}
use Rattle.vtl_syntax.specs.declared.expr.Item.{Item, roll-Item}
use Rattle.vtl_syntax.specs.declared.expr.JoinOperand.{JoinOperand, roll-JoinOperand}
use Rattle.vtl_syntax.specs.declared.expr.SubstrRange.{SubstrRange, roll-SubstrRange}
use Rattle.vtl_syntax.specs.declared.operator.DefinedOperator.{DefinedOperator}
use Rattle.vtl_syntax.specs.declared.operator.Param.{Param}
use Rattle.operator_faults.specs.Calls.{operator_of, is_dataset}
use Rattle.vtl_syntax.proofs.Maps.{maps-Join}
use Rattle.tree_copies.specs.Made.{Calls, made_step, made, same_name}
use Rattle.tree_copies.proofs.Layers.{over-Expr}
use Rattle.tree_copies.proofs.Fused.{fused}
use Rattle.replaced_calls.specs.Replacing.{layer_place, place_of, typed, returned, sorted_argument, sorted_from, sorted_arguments, sorted_by, sorted_call, sorted}
use Rattle.replaced_calls.proofs.Alike.{making}
use Rattle.replaced_calls.proofs.Only.{HasOnly, only, only_made, only-made, left_out, leaves_out}
use Rattle.replaced_calls.proofs.Written.{makes-name, makes-call, makes-typed}

-- ---- what is made of a tree stands where the tree does, if calls keep their places

module _ (call : Calls) (stands : (w : List ℕ) (as' : List Expr) (p : Place) → place_of (call w as' p) ≡ p) where
  abbrev StandsThere : Expr-F Clause Expr Groups Item JoinOperand SubstrRange → Type 0
  StandsThere z = place_of (made_step same_name call (over-Expr (making same_name call) z)) ≡ layer_place z

  rolled : (x : Expr-F Clause Expr Groups Item JoinOperand SubstrRange) → place_of (roll-Expr x) ≡ layer_place x
  rolled x = ap layer_place (out-roll-Expr x)

  layer_stands : (z : Expr-F Clause Expr Groups Item JoinOperand SubstrRange) → StandsThere z
  layer_stands (Expr-F.Name w p) = ap place_of (sym (tree.rolls-Name w p)) ∙ rolled (Expr-F.Name w p)
  layer_stands (Expr-F.CallOf w es p) = stands w (map (made same_name call) es) p
  layer_stands (Expr-F.Substr a None p) = rolled (over-Expr (making same_name call) (Expr-F.Substr a None p))
  layer_stands (Expr-F.Substr a (Some r) p) = rolled (over-Expr (making same_name call) (Expr-F.Substr a (Some r) p))
  layer_stands (Expr-F.Replace a b None p) = rolled (over-Expr (making same_name call) (Expr-F.Replace a b None p))
  layer_stands (Expr-F.Replace a b (Some d) p) = rolled (over-Expr (making same_name call) (Expr-F.Replace a b (Some d) p))
  layer_stands (Expr-F.Aggregate f a None p) = rolled (over-Expr (making same_name call) (Expr-F.Aggregate f a None p))
  layer_stands (Expr-F.Aggregate f a (Some g) p) = rolled (over-Expr (making same_name call) (Expr-F.Aggregate f a (Some g) p))
  layer_stands (Expr-F.Check a c l None o p) = rolled (over-Expr (making same_name call) (Expr-F.Check a c l None o p))
  layer_stands (Expr-F.Check a c l (Some e) o p) = rolled (over-Expr (making same_name call) (Expr-F.Check a c l (Some e) o p))
  layer_stands (Expr-F.Join f a b cs u v w x p) =
      let one = making same_name call in
      ap (λ (y : Expr-F Clause Expr Groups Item JoinOperand SubstrRange). place_of (made_step same_name call y)) (maps-Join Clause Expr Groups Item JoinOperand SubstrRange Clause Expr Groups Item JoinOperand SubstrRange one.on_Clause one.on_Expr one.on_Groups one.on_Item one.on_JoinOperand one.on_SubstrRange f a b cs u v w x p)
      ∙ rolled (Expr-F.Join f (one.on_JoinOperand a) (one.on_JoinOperand b) (map one.on_JoinOperand cs) (option_map one.on_Clause u) (option_map one.on_Clause v) (option_map one.on_Clause w) (option_map one.on_Clause x) p)
  layer_stands z = rolled (over-Expr (making same_name call) z)

  pub stands_there : (e : Expr) → place_of (made same_name call e) ≡ place_of e
  stands_there e = ap place_of (fold_out-Expr Clause Expr Groups Item JoinOperand SubstrRange roll-Clause (made_step same_name call) roll-Groups roll-Item roll-JoinOperand roll-SubstrRange e) ∙ layer_stands (out-Expr e)

-- ---- sorts are put to the same calls

module _ (c : List ℕ → Bool) where
  abbrev keeps : Expr → Expr
  keeps = made same_name (only c)

  place_if : (b : Bool) (w : List ℕ) (as' : List Expr) (p : Place) → place_of (if b then tree.CallOf w as' p else left_out p) ≡ p
  place_if true w as' p = ap place_of (sym (tree.rolls-CallOf w as' p)) ∙ ap layer_place (out-roll-Expr (Expr-F.CallOf w as' p))
  place_if false w as' p = ap place_of (sym (tree.rolls-CountAll p)) ∙ ap layer_place (out-roll-Expr (Expr-F.CountAll p))

  kept_place : (e : Expr) → place_of (keeps e) ≡ place_of e
  kept_place e = stands_there (only c) (λ w as' p. place_if (c w) w as' p) e

  keeps-if : (b : Bool) (s : Sort) (p : Place) (e : Expr) → keeps (if b then e else tree.Typed s e p) ≡ (if b then keeps e else tree.Typed s (keeps e) p)
  keeps-if true s p e = refl
  keeps-if false s p e = makes-typed same_name (only c) s e p

  keeps-typed : (s : Sort) (p : Place) (e : Expr) → keeps (typed s p e) ≡ typed s p (keeps e)
  keeps-typed s p e = keeps-if (is_dataset s) s p e

  keeps-returned : (s : Option Sort) (p : Place) (e : Expr) → keeps (returned s p e) ≡ returned s p (keeps e)
  keeps-returned None p e = refl
  keeps-returned (Some s) p e = keeps-typed s p e

  keeps-argument : (q : Option Param) (a : Expr) → keeps (sorted_argument q a) ≡ sorted_argument q (keeps a)
  keeps-argument None a = refl
  keeps-argument (Some q) a = keeps-typed q.sort (place_of a) a ∙ ap (λ (p : Place). typed q.sort p (keeps a)) (sym (kept_place a))

  keeps-from : (qs : List Param) (i : ℕ) (as' : List Expr) → map keeps (sorted_from qs i as') ≡ sorted_from qs i (map keeps as')
  keeps-from qs i [] = refl
  keeps-from qs i (a ∷ as') = λ j. keeps-argument (slice_get qs i) a j ∷ keeps-from qs (i + 1) as' j

  keeps-call : (w : List ℕ) (as' : List Expr) (p : Place) → c w ≡ true → keeps (tree.CallOf w as' p) ≡ tree.CallOf w (map keeps as') p
  keeps-call w as' p h = makes-call same_name (only c) w as' p ∙ ap (λ (b : Bool). if b then tree.CallOf w (map keeps as') p else left_out p) h

  keeps-found : (w : List ℕ) (as' : List Expr) (p : Place) → c w ≡ true → (o : Option DefinedOperator) → keeps (unwrap_or (option_map (λ (x : DefinedOperator). sorted_by x w as' p) o) (tree.CallOf w as' p)) ≡ unwrap_or (option_map (λ (x : DefinedOperator). sorted_by x w (map keeps as') p) o) (tree.CallOf w (map keeps as') p)
  keeps-found w as' p h None = keeps-call w as' p h
  keeps-found w as' p h (Some o) =
      keeps-returned o.returns p (tree.CallOf w (sorted_arguments o.params as') p)
      ∙ ap (returned o.returns p) (keeps-call w (sorted_arguments o.params as') p h ∙ ap (λ (bs : List Expr). tree.CallOf w bs p) (keeps-from o.params 0 as'))

  keeps-sorted : (os : List DefinedOperator) (w : List ℕ) (as' : List Expr) (p : Place) (b : Bool) → c w ≡ b
      → keeps (if b then sorted_call os w as' p else made same_name (sorted_call os) (left_out p)) ≡ (if b then sorted_call os w (map keeps as') p else made same_name (sorted_call os) (left_out p))
  keeps-sorted os w as' p true h = keeps-found w as' p h (operator_of os w)
  keeps-sorted os w as' p false h = let out = leaves_out same_name (sorted_call os) p in ap keeps out ∙ leaves_out same_name (only c) p ∙ sym out

  pub sorted_has_only : (os : List DefinedOperator) (e : Expr) → HasOnly c e → HasOnly c (sorted os e)
  sorted_has_only os e h =
      let put = only_made c same_name (sorted_call os) in
      let same : sorted os e ≡ made same_name put e = only-made c same_name (sorted_call os) e h in
      ap keeps same
      ∙ fused same_name same_name same_name (only c) put put (makes-name same_name (only c)) (λ w as' p. keeps-sorted os w as' p (c w) refl) e
      ∙ sym same
