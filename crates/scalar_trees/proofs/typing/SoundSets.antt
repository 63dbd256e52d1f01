-- What typing answers is well typed: literals, components, sets, bounds and aggregates.
use Rattle.std.proofs.Common.{◌≡◌, ◌*◌, ◌≤◌, ℤ, pos, ◌*ℤ◌, nat_abs, Bool, true, false, cond, List, [], ◌∷◌, map, Some, Result, Ok, Err, find, refl, sym, ap, ◌∙◌}
use Rattle.std.proofs.Math.Nat.{mul-le-mul_right}
use Rattle.std.proofs.lemmas.Bool.{leb-true, le-leb}
use Rattle.std.proofs.lemmas.Int.{unsigned_abs-mul}
use Rattle.std.specs.Prelude.{IfOk, ◌&&◌, ◌||◌, nat_le}
use Rattle.std.specs.List.{list_all, list_any}
use Rattle.vtl_values.specs.Ranges.{MOST_INTEGER, MOST_MILLIONTHS}
use Rattle.vtl_values.specs.declared.kind.Kind.{Kind}
use Rattle.vtl_values.specs.declared.kind.Kind.TheVariants.{Integer, Number, Text, Truth}
use Rattle.vtl_values.specs.declared.place.Place.{Place}
use Rattle.vtl_values.specs.declared.value.Value.{Value}
use Rattle.vtl_values.specs.declared.value.Value.TheVariants as value
use Rattle.vtl_syntax.specs.declared.words.AggregateFunction.{AggregateFunction}
use Rattle.vtl_syntax.specs.declared.words.AggregateFunction.TheVariants.{Sum, Avg, Count, Min, Max, Median}
use Rattle.vtl_syntax.specs.declared.words.InSign.{InSign}
use Rattle.scalar_trees.specs.declared.tree.CheckedExpr.TheVariants as tree
use Rattle.scalar_trees.specs.declared.tree.CheckedExpr.TheOpen.{CheckedExpr-F}
use Rattle.scalar_trees.specs.Kinds.{ANY, may_stand, agreed, aggregate_takes, number_value, widened_value, literal_kind}
use Rattle.scalar_trees.specs.WellTyped.{Kinds, is_kind, is_exactly, truth, fits, is_present, is_of_set, is_of_kind, in_range}
use Rattle.scalar_trees.specs.declared.typing.stop.TypeStop.{TypeStop}
use Rattle.scalar_trees.specs.declared.typing.stop.Fault.TheVariants.{BadConstant}
use Rattle.scalar_trees.specs.declared.typing.typed.Typed.{Typed}
use Rattle.scalar_trees.specs.typing.Steps.{◌>>=◌, demanded}
use Rattle.scalar_trees.specs.typing.Scalars.{typed_as, widened, joint, literal_typed, in_typed, between_typed}
use Rattle.scalar_trees.specs.typing.Sound.{IsTyped}
use Rattle.scalar_trees.proofs.typing.Sound.{is_kind-same, both, left, right, found-passes, exact-own, rolled, widened-exact, Sound, after, answered, joint-agreed, demand-met, given-is}

-- ---- values where a kind is wanted

number-in_range : (n : ℤ) → in_range (value.Integer n) ≡ true → in_range (value.Number (n *ℤ pos 1000000)) ≡ true
number-in_range n h =
    let small : nat_abs n ≤ MOST_INTEGER = leb-true (nat_abs n) MOST_INTEGER h in
    let most : nat_abs n * 1000000 ≤ MOST_INTEGER * 1000000 = mul-le-mul_right 1000000 small in
    ap (λ m. nat_le m MOST_MILLIONTHS) (unsigned_abs-mul n (pos 1000000)) ∙ le-leb (nat_abs n * 1000000) MOST_MILLIONTHS most

-- a value where a kind is wanted at which it may stand
value-fits : (q : Kind) (v : Value) → may_stand q (literal_kind v) ≡ true → in_range v ≡ true → fits q (widened_value q v) ≡ true
value-fits Integer value.Null m h = refl
value-fits Number value.Null m h = refl
value-fits Text value.Null m h = refl
value-fits Truth value.Null m h = refl
value-fits Integer (value.Integer n) m h = both (in_range (value.Integer n)) true h refl
value-fits Number (value.Integer n) m h = both (in_range (value.Number (n *ℤ pos 1000000))) true (number-in_range n h) refl
value-fits Text (value.Integer n) m h = cc
value-fits Truth (value.Integer n) m h = cc
value-fits Integer (value.Number n) m h = cc
value-fits Number (value.Number n) m h = both (in_range (value.Number n)) true h refl
value-fits Text (value.Number n) m h = cc
value-fits Truth (value.Number n) m h = cc
value-fits Integer (value.Text cs) m h = cc
value-fits Number (value.Text cs) m h = cc
value-fits Text (value.Text cs) m h = refl
value-fits Truth (value.Text cs) m h = cc
value-fits Integer (value.Truth b) m h = cc
value-fits Number (value.Truth b) m h = cc
value-fits Text (value.Truth b) m h = cc
value-fits Truth (value.Truth b) m h = refl

pub number-present : (v : Value) → is_present (number_value v) ≡ is_present v
number-present value.Null = refl
number-present (value.Integer n) = refl
number-present (value.Number n) = refl
number-present (value.Text cs) = refl
number-present (value.Truth b) = refl

widened-present : (q : Kind) (v : Value) → is_present (widened_value q v) ≡ is_present v
widened-present Integer v = refl
widened-present Number v = number-present v
widened-present Text v = refl
widened-present Truth v = refl

set-fits : (q : Kind) (set : List Value) → list_all (may_stand q) (map literal_kind set) ≡ true → list_all is_present set ≡ true → list_all in_range set ≡ true → list_all (is_of_set q) (map (widened_value q) set) ≡ true
set-fits q [] m p h = refl
set-fits q (v ∷ vs) m p h =
    both (is_of_set q (widened_value q v)) (list_all (is_of_set q) (map (widened_value q) vs))
    (both (is_present (widened_value q v)) (fits q (widened_value q v))
    (widened-present q v ∙ left (is_present v) (list_all is_present vs) p)
    (value-fits q v (left (may_stand q (literal_kind v)) (list_all (may_stand q) (map literal_kind vs)) m) (left (in_range v) (list_all in_range vs) h)))
    (set-fits q vs (right (may_stand q (literal_kind v)) (list_all (may_stand q) (map literal_kind vs)) m) (right (is_present v) (list_all is_present vs) p) (right (in_range v) (list_all in_range vs) h))

-- ---- what is found somewhere

pub found-some : (p : Kind → Bool) (takes : List Kind) (q : Kind) → list_any (is_kind q) takes ≡ true → p q ≡ true → (x : Kind) × (find p takes ≡ Some x)
found-some p [] q w h = cc
found-some p (y ∷ ys) q w h = at (p y) refl (is_kind q y) refl w (found-some p ys q)
  where
    at : (a : Bool) → p y ≡ a → (b : Bool) → is_kind q y ≡ b → (b || list_any (is_kind q) ys) ≡ true → (list_any (is_kind q) ys ≡ true → p q ≡ true → (x : Kind) × (find p ys ≡ Some x)) → (x : Kind) × (cond a (Some y) (find p ys) ≡ Some x)
    at true i b j k others = (y, refl)
    at false i true j k others = let same : q ≡ y = is_kind-same q y j in let no : true ≡ false = sym h ∙ ap p same ∙ i in cc
    at false i false j k others = others k h

pub within-any : (q : Kind) → list_any (is_kind q) ANY ≡ true
within-any Integer = refl
within-any Number = refl
within-any Text = refl
within-any Truth = refl

-- ---- aggregates

-- a component of a kind that an aggregate takes stands there at its own kind
pub own-kind : (f : AggregateFunction) (k q : Kind) → agreed (aggregate_takes f) (Some k ∷ []) ≡ Some q → find (is_kind k) (aggregate_takes f) ≡ Some q
own-kind Sum Integer q e = e
own-kind Sum Number q e = e
own-kind Sum Text q e = cc
own-kind Sum Truth q e = cc
own-kind Avg Integer q e = e
own-kind Avg Number q e = e
own-kind Avg Text q e = cc
own-kind Avg Truth q e = cc
own-kind Median Integer q e = e
own-kind Median Number q e = e
own-kind Median Text q e = cc
own-kind Median Truth q e = cc
own-kind Count Integer q e = e
own-kind Count Number q e = e
own-kind Count Text q e = e
own-kind Count Truth q e = e
own-kind Min Integer q e = e
own-kind Min Number q e = e
own-kind Min Text q e = e
own-kind Min Truth q e = e
own-kind Max Integer q e = e
own-kind Max Number q e = e
own-kind Max Text q e = e
own-kind Max Truth q e = e

module _ (kinds : Kinds) where
  abbrev Tests : Type 0
  Tests = Kind → Bool

  pub literal-typed : (v : Value) → in_range v ≡ true → IsTyped kinds (literal_typed v)
  literal-typed v h = rolled kinds (CheckedExpr-F.Literal v) (tree.rolls-Literal v) ∙ (λ i k. h i && is_exactly (literal_kind v) k)

  in-sound : (sign : InSign) (set : List Value) (place : Place) (a : Typed) → list_all in_range set ≡ true → IsTyped kinds a → Sound kinds (in_typed sign set place a)
  unfolding Sound
  in-sound sign set place a r h = after kinds (joint place ANY (a.kind ∷ map literal_kind set)) (λ q. demanded (list_all is_present set) BadConstant place >>= (λ met. Ok (typed_as Truth (tree.In (widened q a) sign (map (widened_value q) set))))) (λ q e.
      after kinds (demanded (list_all is_present set) BadConstant place) (λ met. Ok (typed_as Truth (tree.In (widened q a) sign (map (widened_value q) set)))) (λ u d.
      let values : List Value = map (widened_value q) set in
      let passes : (may_stand q a.kind && list_all (may_stand q) (map literal_kind set)) ≡ true = found-passes (λ kind. list_all (may_stand kind) (a.kind ∷ map literal_kind set)) ANY q (joint-agreed kinds place ANY (a.kind ∷ map literal_kind set) q e) in
      let operand : is_of_kind kinds (widened q a) q ≡ true = ap (λ (f : Tests). f q) (widened-exact kinds q a.kind a.tree h (left (may_stand q a.kind) (list_all (may_stand q) (map literal_kind set)) passes)) ∙ exact-own q a.kind in
      let fit : list_all (is_of_set q) values ≡ true = set-fits q set (right (may_stand q a.kind) (list_all (may_stand q) (map literal_kind set)) passes) (demand-met kinds (list_all is_present set) BadConstant place u d) r in
      let found = found-some (λ r. is_of_kind kinds (widened q a) r && list_all (is_of_set r) values) ANY q (within-any q) (both (is_of_kind kinds (widened q a) q) (list_all (is_of_set q) values) operand fit) in
      rolled kinds (CheckedExpr-F.In (widened q a) sign values) (tree.rolls-In (widened q a) sign values)
      ∙ given-is kinds truth (λ r. is_of_kind kinds (widened q a) r && list_all (is_of_set r) values) ANY found.0 found.1))

  between-sound : (low high : Value) (place : Place) (a : Typed) → in_range low ≡ true → in_range high ≡ true → IsTyped kinds a → Sound kinds (between_typed low high place a)
  unfolding Sound
  between-sound low high place a r s h = after kinds (joint place ANY (a.kind ∷ literal_kind low ∷ literal_kind high ∷ [])) (λ q. Ok (typed_as Truth (tree.Between (widened q a) (widened_value q low) (widened_value q high)))) (λ q e.
      let lowest : Value = widened_value q low in
      let highest : Value = widened_value q high in
      let passes : (may_stand q a.kind && (may_stand q (literal_kind low) && (may_stand q (literal_kind high) && true))) ≡ true = found-passes (λ kind. list_all (may_stand kind) (a.kind ∷ literal_kind low ∷ literal_kind high ∷ [])) ANY q (joint-agreed kinds place ANY (a.kind ∷ literal_kind low ∷ literal_kind high ∷ []) q e) in
      let rest : (may_stand q (literal_kind low) && (may_stand q (literal_kind high) && true)) ≡ true = right (may_stand q a.kind) (may_stand q (literal_kind low) && (may_stand q (literal_kind high) && true)) passes in
      let operand : is_of_kind kinds (widened q a) q ≡ true = ap (λ (f : Tests). f q) (widened-exact kinds q a.kind a.tree h (left (may_stand q a.kind) (may_stand q (literal_kind low) && (may_stand q (literal_kind high) && true)) passes)) ∙ exact-own q a.kind in
      let first : fits q lowest ≡ true = value-fits q low (left (may_stand q (literal_kind low)) (may_stand q (literal_kind high) && true) rest) r in
      let second : fits q highest ≡ true = value-fits q high (left (may_stand q (literal_kind high)) true (right (may_stand q (literal_kind low)) (may_stand q (literal_kind high) && true) rest)) s in
      let found = found-some (λ r. is_of_kind kinds (widened q a) r && (fits r lowest && fits r highest)) ANY q (within-any q) (both (is_of_kind kinds (widened q a) q) (fits q lowest && fits q highest) operand (both (fits q lowest) (fits q highest) first second)) in
      rolled kinds (CheckedExpr-F.Between (widened q a) lowest highest) (tree.rolls-Between (widened q a) lowest highest)
      ∙ given-is kinds truth (λ r. is_of_kind kinds (widened q a) r && (fits r lowest && fits r highest)) ANY found.0 found.1)

  pub in-typed : (sign : InSign) (set : List Value) (place : Place) (a : Typed) (r : Result Typed TypeStop) → IfOk r (λ t. in_typed sign set place a ≡ Ok t) → IfOk r (λ t. list_all in_range set ≡ true) → IsTyped kinds a → IfOk r (IsTyped kinds)
  in-typed sign set place a (Ok t) e m h = answered kinds (in_typed sign set place a) (Ok t) (in-sound sign set place a m h) e
  in-typed sign set place a (Err stop) e m h = tt

  pub between-typed : (low high : Value) (place : Place) (a : Typed) (r : Result Typed TypeStop) → IfOk r (λ t. between_typed low high place a ≡ Ok t) → IfOk r (λ t. in_range low ≡ true) → IfOk r (λ t. in_range high ≡ true) → IsTyped kinds a → IfOk r (IsTyped kinds)
  between-typed low high place a (Ok t) e m n h = answered kinds (between_typed low high place a) (Ok t) (between-sound low high place a m n h) e
  between-typed low high place a (Err stop) e m n h = tt
