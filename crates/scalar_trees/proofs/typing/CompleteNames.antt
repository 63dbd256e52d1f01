-- A fault is answered only where no well typed tree is the expression: texts in parts, names, aggregates, and all levels.
use Rattle.std.proofs.Common.{◌≡◌, ℕ, Bool, true, false, List, [], ◌∷◌, Option, Some, None, Result, Ok, Err, refl, sym, ap, subst, ◌∙◌}
use Rattle.std.specs.Prelude.{◌&&◌, ⊤, is_some, option_and_then}
use Rattle.std.specs.Option.{option_map, option_map_or}
use Rattle.vtl_values.specs.declared.kind.Kind.{Kind}
use Rattle.vtl_values.specs.declared.kind.Kind.TheVariants.{Integer, Text, Truth}
use Rattle.vtl_values.specs.declared.place.Place.{Place}
use Rattle.vtl_syntax.specs.declared.words.AggregateFunction.{AggregateFunction}
use Rattle.vtl_syntax.specs.declared.words.AggregateFunction.TheVariants.{Sum, Avg, Count, Min, Max, Median}
use Rattle.vtl_syntax.specs.declared.expr.Expr.{Expr}
use Rattle.vtl_syntax.specs.declared.expr.Clause.TheOpen.{Expr-F}
use Rattle.scalar_trees.specs.declared.tree.CheckedExpr.{CheckedExpr, map-CheckedExpr, out-roll-CheckedExpr}
use Rattle.scalar_trees.specs.declared.tree.CheckedExpr.TheVariants as tree
use Rattle.scalar_trees.specs.declared.tree.CheckedExpr.TheOpen.{CheckedExpr-F}
use Rattle.scalar_trees.specs.declared.operators.BinaryOperator.TheVariants as binary
use Rattle.scalar_trees.specs.Kinds.{stands_for, may_stand, aggregate_takes, aggregate_gives}
use Rattle.scalar_trees.specs.WellTyped.{Kinds, is_kind, is_some_kind, given, is_of_kind}
use Rattle.scalar_trees.specs.Erased.{erased, plain_layer}
use Rattle.scalar_trees.specs.declared.typing.scope.Basis.{Basis}
use Rattle.scalar_trees.specs.declared.typing.scope.Basis.TheVariants.{Point, Group}
use Rattle.scalar_trees.specs.declared.typing.scope.Column.{Column}
use Rattle.scalar_trees.specs.declared.typing.scope.Scope.{Scope}
use Rattle.scalar_trees.specs.declared.typing.scope.Slot.{Slot}
use Rattle.scalar_trees.specs.declared.typing.stop.Fault.TheVariants.{WrongType, WrongStructure}
use Rattle.scalar_trees.specs.declared.typing.stop.Refusal.{Refusal}
use Rattle.scalar_trees.specs.declared.typing.typed.Typed.{Typed}
use Rattle.scalar_trees.specs.typing.Steps.{◌>>=◌, or_refused}
use Rattle.scalar_trees.specs.typing.Scopes.{kind_at, slot_at, kinds_of, named, member}
use Rattle.scalar_trees.specs.typing.Operators.{prefix_operator, unary_operator, or_operator, sum_operator, product_operator, comparison_operator}
use Rattle.scalar_trees.specs.typing.Scalars.{Answer, Meaning, typed_as, widened, wanted, wanted_if, slot_typed, component_typed, substr_typed, replace_typed, aggregate_typed, count_at, number_step, component_number, misplaced, typed_if, member_typed, aggregate_at, step, typed}
use Rattle.scalar_trees.specs.typing.Resolved.{Resolved, if_given, component_of, Part, aggregate_of, count_of, part_step, resolved, two}
use Rattle.scalar_trees.proofs.typing.Sound.{is_kind-same, both, left, right, found-passes}
use Rattle.scalar_trees.proofs.typing.SoundNames.{named-own, member-own, component-kinds}
use Rattle.scalar_trees.proofs.typing.SeenTrees.{stands-refl, Ordered, numeric-ordered, any-ordered, agree, kinds_at, seen}
use Rattle.scalar_trees.proofs.typing.Complete.{Met, Complete, own-kind, operand, met-at, wanted-goes, level-of, given-at, unary-complete, sort-complete, round-complete, matches-complete, binary-complete, function-complete, if-complete, in-complete, between-complete, literal-complete, none-complete}
use Rattle.scalar_trees.proofs.typing.Folds.{Both, BothRanges, given_length, Boths, Meanings, Parts, lefts, rights, related}
use Rattle.scalar_trees.proofs.typing.Levels.{over-Expr}

module _ (kinds : Kinds) where
  -- ---- texts in parts

  record IsText (x : CheckedExpr) : Type 0 where
    pub part : CheckedExpr
    pub erases : x ≡ erased part
    pub typed : is_of_kind kinds part Text ≡ true

  record IsCount (x : CheckedExpr) : Type 0 where
    pub part : CheckedExpr
    pub erases : x ≡ erased part
    pub typed : is_of_kind kinds part Integer ≡ true

  is-substr-0 : (x : CheckedExpr) (layer : CheckedExpr-F CheckedExpr) (k : Kind) → CheckedExpr-F.Substr x None None ≡ plain_layer (map-CheckedExpr CheckedExpr CheckedExpr erased layer) → kinds_at kinds layer k ≡ true → IsText x × (Text ≡ k)
  is-substr-0 x (CheckedExpr-F.Substr a None None) k e h = (record { part = a; erases = cc; typed = left (is_of_kind kinds a Text) true (left (is_of_kind kinds a Text && true) (is_kind Text k) h) }, is_kind-same Text k (right (is_of_kind kinds a Text && true) (is_kind Text k) h))
  is-substr-0 x (CheckedExpr-F.Substr a None (Some c)) k e h = cc
  is-substr-0 x (CheckedExpr-F.Substr a (Some b) None) k e h = cc
  is-substr-0 x (CheckedExpr-F.Substr a (Some b) (Some c)) k e h = cc
  is-substr-0 x _ k e h = cc

  is-substr-1 : (x y : CheckedExpr) (layer : CheckedExpr-F CheckedExpr) (k : Kind) → CheckedExpr-F.Substr x (Some y) None ≡ plain_layer (map-CheckedExpr CheckedExpr CheckedExpr erased layer) → kinds_at kinds layer k ≡ true → IsText x × IsCount y × (Text ≡ k)
  is-substr-1 x y (CheckedExpr-F.Substr a (Some b) None) k e h =
      let parts : (is_of_kind kinds a Text && (is_of_kind kinds b Integer && true)) ≡ true = left (is_of_kind kinds a Text && (is_of_kind kinds b Integer && true)) (is_kind Text k) h in
      (record { part = a; erases = cc; typed = left (is_of_kind kinds a Text) (is_of_kind kinds b Integer && true) parts }, record { part = b; erases = cc; typed = left (is_of_kind kinds b Integer) true (right (is_of_kind kinds a Text) (is_of_kind kinds b Integer && true) parts) }, is_kind-same Text k (right (is_of_kind kinds a Text && (is_of_kind kinds b Integer && true)) (is_kind Text k) h))
  is-substr-1 x y (CheckedExpr-F.Substr a None None) k e h = cc
  is-substr-1 x y (CheckedExpr-F.Substr a None (Some c)) k e h = cc
  is-substr-1 x y (CheckedExpr-F.Substr a (Some b) (Some c)) k e h = cc
  is-substr-1 x y _ k e h = cc

  is-substr-2 : (x y z : CheckedExpr) (layer : CheckedExpr-F CheckedExpr) (k : Kind) → CheckedExpr-F.Substr x (Some y) (Some z) ≡ plain_layer (map-CheckedExpr CheckedExpr CheckedExpr erased layer) → kinds_at kinds layer k ≡ true → IsText x × IsCount y × IsCount z × (Text ≡ k)
  is-substr-2 x y z (CheckedExpr-F.Substr a (Some b) (Some c)) k e h =
      let parts : (is_of_kind kinds a Text && (is_of_kind kinds b Integer && is_of_kind kinds c Integer)) ≡ true = left (is_of_kind kinds a Text && (is_of_kind kinds b Integer && is_of_kind kinds c Integer)) (is_kind Text k) h in
      let counts : (is_of_kind kinds b Integer && is_of_kind kinds c Integer) ≡ true = right (is_of_kind kinds a Text) (is_of_kind kinds b Integer && is_of_kind kinds c Integer) parts in
      (record { part = a; erases = cc; typed = left (is_of_kind kinds a Text) (is_of_kind kinds b Integer && is_of_kind kinds c Integer) parts }, record { part = b; erases = cc; typed = left (is_of_kind kinds b Integer) (is_of_kind kinds c Integer) counts }, record { part = c; erases = cc; typed = right (is_of_kind kinds b Integer) (is_of_kind kinds c Integer) counts }, is_kind-same Text k (right (is_of_kind kinds a Text && (is_of_kind kinds b Integer && is_of_kind kinds c Integer)) (is_kind Text k) h))
  is-substr-2 x y z (CheckedExpr-F.Substr a None None) k e h = cc
  is-substr-2 x y z (CheckedExpr-F.Substr a None (Some c)) k e h = cc
  is-substr-2 x y z (CheckedExpr-F.Substr a (Some b) None) k e h = cc
  is-substr-2 x y z _ k e h = cc

  is-replace-1 : (x y : CheckedExpr) (layer : CheckedExpr-F CheckedExpr) (k : Kind) → CheckedExpr-F.Replace x y None ≡ plain_layer (map-CheckedExpr CheckedExpr CheckedExpr erased layer) → kinds_at kinds layer k ≡ true → IsText x × IsText y × (Text ≡ k)
  is-replace-1 x y (CheckedExpr-F.Replace a b None) k e h =
      let parts : (is_of_kind kinds a Text && (is_of_kind kinds b Text && true)) ≡ true = left (is_of_kind kinds a Text && (is_of_kind kinds b Text && true)) (is_kind Text k) h in
      (record { part = a; erases = cc; typed = left (is_of_kind kinds a Text) (is_of_kind kinds b Text && true) parts }, record { part = b; erases = cc; typed = left (is_of_kind kinds b Text) true (right (is_of_kind kinds a Text) (is_of_kind kinds b Text && true) parts) }, is_kind-same Text k (right (is_of_kind kinds a Text && (is_of_kind kinds b Text && true)) (is_kind Text k) h))
  is-replace-1 x y (CheckedExpr-F.Replace a b (Some c)) k e h = cc
  is-replace-1 x y _ k e h = cc

  is-replace-2 : (x y z : CheckedExpr) (layer : CheckedExpr-F CheckedExpr) (k : Kind) → CheckedExpr-F.Replace x y (Some z) ≡ plain_layer (map-CheckedExpr CheckedExpr CheckedExpr erased layer) → kinds_at kinds layer k ≡ true → IsText x × IsText y × IsText z × (Text ≡ k)
  is-replace-2 x y z (CheckedExpr-F.Replace a b (Some c)) k e h =
      let parts : (is_of_kind kinds a Text && (is_of_kind kinds b Text && is_of_kind kinds c Text)) ≡ true = left (is_of_kind kinds a Text && (is_of_kind kinds b Text && is_of_kind kinds c Text)) (is_kind Text k) h in
      let others : (is_of_kind kinds b Text && is_of_kind kinds c Text) ≡ true = right (is_of_kind kinds a Text) (is_of_kind kinds b Text && is_of_kind kinds c Text) parts in
      (record { part = a; erases = cc; typed = left (is_of_kind kinds a Text) (is_of_kind kinds b Text && is_of_kind kinds c Text) parts }, record { part = b; erases = cc; typed = left (is_of_kind kinds b Text) (is_of_kind kinds c Text) others }, record { part = c; erases = cc; typed = right (is_of_kind kinds b Text) (is_of_kind kinds c Text) others }, is_kind-same Text k (right (is_of_kind kinds a Text && (is_of_kind kinds b Text && is_of_kind kinds c Text)) (is_kind Text k) h))
  is-replace-2 x y z (CheckedExpr-F.Replace a b None) k e h = cc
  is-replace-2 x y z _ k e h = cc

  -- the operands of `substr` and `replace` at their kinds
  substr-goes : (place : Place) (a : Typed) (start length : Option Typed) (from count : Option CheckedExpr) → may_stand Text a.kind ≡ true → wanted_if place Integer start ≡ Ok from → wanted_if place Integer length ≡ Ok count → substr_typed place a start length ≡ Ok (typed_as Text (tree.Substr (widened Text a) from count))
  substr-goes place a start length from count h i j =
      ap {B = Answer} (λ (z : Result CheckedExpr Refusal). z >>= (λ operand. wanted_if place Integer start >>= (λ f. wanted_if place Integer length >>= (λ c. Ok (typed_as Text (tree.Substr operand f c)))))) (wanted-goes kinds place Text a h)
      ∙ ap {B = Answer} (λ (z : Result (Option CheckedExpr) Refusal). z >>= (λ f. wanted_if place Integer length >>= (λ c. Ok (typed_as Text (tree.Substr (widened Text a) f c))))) i
      ∙ ap {B = Answer} (λ (z : Result (Option CheckedExpr) Refusal). z >>= (λ c. Ok (typed_as Text (tree.Substr (widened Text a) from c)))) j

  replace-goes : (place : Place) (a old : Typed) (by : Option Typed) (new : Option CheckedExpr) → may_stand Text a.kind ≡ true → may_stand Text old.kind ≡ true → wanted_if place Text by ≡ Ok new → replace_typed place a old by ≡ Ok (typed_as Text (tree.Replace (widened Text a) (widened Text old) new))
  replace-goes place a old by new h i j =
      ap {B = Answer} (λ (z : Result CheckedExpr Refusal). z >>= (λ operand. wanted place Text old >>= (λ pattern. wanted_if place Text by >>= (λ n. Ok (typed_as Text (tree.Replace operand pattern n)))))) (wanted-goes kinds place Text a h)
      ∙ ap {B = Answer} (λ (z : Result CheckedExpr Refusal). z >>= (λ pattern. wanted_if place Text by >>= (λ n. Ok (typed_as Text (tree.Replace (widened Text a) pattern n))))) (wanted-goes kinds place Text old i)
      ∙ ap {B = Answer} (λ (z : Result (Option CheckedExpr) Refusal). z >>= (λ n. Ok (typed_as Text (tree.Replace (widened Text a) (widened Text old) n)))) j

  some-goes : (place : Place) (q : Kind) (a : Typed) → may_stand q a.kind ≡ true → wanted_if place q (Some a) ≡ Ok (Some (widened q a))
  some-goes place q a h = ap {B = Result (Option CheckedExpr) Refusal} (λ (z : Result CheckedExpr Refusal). z >>= (λ t. Ok (Some t))) (wanted-goes kinds place q a h)

  text-stands : {q : Kind} → Text ≡ q → stands_for q Text ≡ true
  text-stands e = subst (λ (z : Kind). stands_for z Text ≡ true) e refl

  substr-complete-0 : (place : Place) (answer : Answer) (r : Resolved) → Complete kinds answer r → Complete kinds (answer >>= (λ x. substr_typed place x None None)) (option_map (λ x. tree.Substr x None None) r)
  substr-complete-0 place answer None c = λ t k h e. cc
  substr-complete-0 place answer (Some x) c = λ t k h e.
      let s = seen kinds t k h in
      let u = is-substr-0 x s.layer s.kind (level-of kinds (CheckedExpr-F.Substr x None None) (tree.Substr x None None) t k s (tree.rolls-Substr x None None) e) s.typed in
      operand kinds answer (Some x) u.0.part Text c u.0.typed (ap Some u.0.erases) t k (λ a. substr_typed place a None None) (λ a i.
      met-at kinds t k s.kind Text (tree.Substr (widened Text a) None None) (substr_typed place a None None) (substr-goes place a None None None None i.stands refl refl) s.stands (text-stands u.1))

  substr-complete-1 : (place : Place) (answer first : Answer) (r p : Resolved) → Complete kinds answer r → Complete kinds first p → Complete kinds (answer >>= (λ x. first >>= (λ y. substr_typed place x (Some y) None))) (two (λ x y. tree.Substr x (Some y) None) r p)
  substr-complete-1 place answer first None p c d = λ t k h e. cc
  substr-complete-1 place answer first (Some x) None c d = λ t k h e. cc
  substr-complete-1 place answer first (Some x) (Some y) c d = λ t k h e.
      let s = seen kinds t k h in
      let u = is-substr-1 x y s.layer s.kind (level-of kinds (CheckedExpr-F.Substr x (Some y) None) (tree.Substr x (Some y) None) t k s (tree.rolls-Substr x (Some y) None) e) s.typed in
      operand kinds answer (Some x) u.0.part Text c u.0.typed (ap Some u.0.erases) t k (λ a. first >>= (λ b. substr_typed place a (Some b) None)) (λ a i.
      operand kinds first (Some y) u.1.part Integer d u.1.typed (ap Some u.1.erases) t k (λ b. substr_typed place a (Some b) None) (λ b j.
      met-at kinds t k s.kind Text (tree.Substr (widened Text a) (Some (widened Integer b)) None) (substr_typed place a (Some b) None) (substr-goes place a (Some b) None (Some (widened Integer b)) None i.stands (some-goes place Integer b j.stands) refl) s.stands (text-stands u.2)))

  substr-complete-2 : (place : Place) (answer first second : Answer) (r p q : Resolved) → Complete kinds answer r → Complete kinds first p → Complete kinds second q → Complete kinds (answer >>= (λ x. first >>= (λ y. second >>= (λ z. substr_typed place x (Some y) (Some z))))) (option_and_then (λ x. two (λ y z. tree.Substr x (Some y) (Some z)) p q) r)
  substr-complete-2 place answer first second None p q c d f = λ t k h e. cc
  substr-complete-2 place answer first second (Some x) None q c d f = λ t k h e. cc
  substr-complete-2 place answer first second (Some x) (Some y) None c d f = λ t k h e. cc
  substr-complete-2 place answer first second (Some x) (Some y) (Some z) c d f = λ t k h e.
      let s = seen kinds t k h in
      let u = is-substr-2 x y z s.layer s.kind (level-of kinds (CheckedExpr-F.Substr x (Some y) (Some z)) (tree.Substr x (Some y) (Some z)) t k s (tree.rolls-Substr x (Some y) (Some z)) e) s.typed in
      operand kinds answer (Some x) u.0.part Text c u.0.typed (ap Some u.0.erases) t k (λ a. first >>= (λ b. second >>= (λ g. substr_typed place a (Some b) (Some g)))) (λ a i.
      operand kinds first (Some y) u.1.part Integer d u.1.typed (ap Some u.1.erases) t k (λ b. second >>= (λ g. substr_typed place a (Some b) (Some g))) (λ b j.
      operand kinds second (Some z) u.2.part Integer f u.2.typed (ap Some u.2.erases) t k (λ g. substr_typed place a (Some b) (Some g)) (λ g l.
      met-at kinds t k s.kind Text (tree.Substr (widened Text a) (Some (widened Integer b)) (Some (widened Integer g))) (substr_typed place a (Some b) (Some g)) (substr-goes place a (Some b) (Some g) (Some (widened Integer b)) (Some (widened Integer g)) i.stands (some-goes place Integer b j.stands) (some-goes place Integer g l.stands)) s.stands (text-stands u.3))))

  replace-complete-1 : (place : Place) (answer first : Answer) (r p : Resolved) → Complete kinds answer r → Complete kinds first p → Complete kinds (answer >>= (λ x. first >>= (λ y. replace_typed place x y None))) (two (λ x y. tree.Replace x y None) r p)
  replace-complete-1 place answer first None p c d = λ t k h e. cc
  replace-complete-1 place answer first (Some x) None c d = λ t k h e. cc
  replace-complete-1 place answer first (Some x) (Some y) c d = λ t k h e.
      let s = seen kinds t k h in
      let u = is-replace-1 x y s.layer s.kind (level-of kinds (CheckedExpr-F.Replace x y None) (tree.Replace x y None) t k s (tree.rolls-Replace x y None) e) s.typed in
      operand kinds answer (Some x) u.0.part Text c u.0.typed (ap Some u.0.erases) t k (λ a. first >>= (λ b. replace_typed place a b None)) (λ a i.
      operand kinds first (Some y) u.1.part Text d u.1.typed (ap Some u.1.erases) t k (λ b. replace_typed place a b None) (λ b j.
      met-at kinds t k s.kind Text (tree.Replace (widened Text a) (widened Text b) None) (replace_typed place a b None) (replace-goes place a b None None i.stands j.stands refl) s.stands (text-stands u.2)))

  replace-complete-2 : (place : Place) (answer first second : Answer) (r p q : Resolved) → Complete kinds answer r → Complete kinds first p → Complete kinds second q → Complete kinds (answer >>= (λ x. first >>= (λ y. second >>= (λ z. replace_typed place x y (Some z))))) (option_and_then (λ x. two (λ y z. tree.Replace x y (Some z)) p q) r)
  replace-complete-2 place answer first second None p q c d f = λ t k h e. cc
  replace-complete-2 place answer first second (Some x) None q c d f = λ t k h e. cc
  replace-complete-2 place answer first second (Some x) (Some y) None c d f = λ t k h e. cc
  replace-complete-2 place answer first second (Some x) (Some y) (Some z) c d f = λ t k h e.
      let s = seen kinds t k h in
      let u = is-replace-2 x y z s.layer s.kind (level-of kinds (CheckedExpr-F.Replace x y (Some z)) (tree.Replace x y (Some z)) t k s (tree.rolls-Replace x y (Some z)) e) s.typed in
      operand kinds answer (Some x) u.0.part Text c u.0.typed (ap Some u.0.erases) t k (λ a. first >>= (λ b. second >>= (λ g. replace_typed place a b (Some g)))) (λ a i.
      operand kinds first (Some y) u.1.part Text d u.1.typed (ap Some u.1.erases) t k (λ b. second >>= (λ g. replace_typed place a b (Some g))) (λ b j.
      operand kinds second (Some z) u.2.part Text f u.2.typed (ap Some u.2.erases) t k (λ g. replace_typed place a b (Some g)) (λ g l.
      met-at kinds t k s.kind Text (tree.Replace (widened Text a) (widened Text b) (Some (widened Text g))) (replace_typed place a b (Some g)) (replace-goes place a b (Some g) (Some (widened Text g)) i.stands j.stands (some-goes place Text g l.stands)) s.stands (text-stands u.3))))

  -- ---- names

  is-component : (n : ℕ) (layer : CheckedExpr-F CheckedExpr) (k : Kind) → CheckedExpr-F.Component n ≡ plain_layer (map-CheckedExpr CheckedExpr CheckedExpr erased layer) → kinds_at kinds layer k ≡ true → is_some_kind k (kinds.component n) ≡ true
  is-component n (CheckedExpr-F.Component m) k e h = let same : m ≡ n = cc in subst (λ (z : ℕ). is_some_kind k (kinds.component z) ≡ true) same h
  is-component n _ k e h = cc

  is-count : (layer : CheckedExpr-F CheckedExpr) (k : Kind) → CheckedExpr-F.CountAll ≡ plain_layer (map-CheckedExpr CheckedExpr CheckedExpr erased layer) → kinds_at kinds layer k ≡ true → (kinds.counted && is_kind Integer k) ≡ true
  is-count CheckedExpr-F.CountAll k e h = h
  is-count _ k e h = cc

  is-aggregate : (f : AggregateFunction) (n : ℕ) (layer : CheckedExpr-F CheckedExpr) (k : Kind) → CheckedExpr-F.Aggregate f n ≡ plain_layer (map-CheckedExpr CheckedExpr CheckedExpr erased layer) → kinds_at kinds layer k ≡ true → option_map_or (λ kind. given (aggregate_gives f) (is_kind kind) (aggregate_takes f) k) (kinds.aggregated n) false ≡ true
  is-aggregate f n (CheckedExpr-F.Aggregate g m) k e h =
      let same : g ≡ f = cc in
      let number : m ≡ n = cc in
      subst (λ (z : ℕ). option_map_or (λ kind. given (aggregate_gives f) (is_kind kind) (aggregate_takes f) k) (kinds.aggregated z) false ≡ true) number (subst (λ (u : AggregateFunction). option_map_or (λ kind. given (aggregate_gives u) (is_kind kind) (aggregate_takes u) k) (kinds.aggregated m) false ≡ true) same h)
  is-aggregate f n _ k e h = cc

component-complete : (columns : List Column) (basis : Basis) (o : Option Slot) (place : Place) → ((slot : Slot) → o ≡ Some slot → slot_at columns basis slot.number ≡ Some slot) → Complete (kinds_of columns basis) (component_typed o place) (component_of o)
component-complete columns basis None place own = λ t k h e. cc
component-complete columns basis (Some slot) place own = λ t k h e.
    let kinds : Kinds = kinds_of columns basis in
    let s = seen kinds t k h in
    let u : is_some_kind s.kind (kinds.component slot.number) ≡ true = is-component kinds slot.number s.layer s.kind (level-of kinds (CheckedExpr-F.Component slot.number) (tree.Component slot.number) t k s (tree.rolls-Component slot.number) e) s.typed in
    let kind : kinds.component slot.number ≡ Some slot.kind = ap (λ (f : ℕ → Option Kind). f slot.number) (component-kinds columns basis) ∙ ap (option_map (λ (z : Slot). z.kind)) (own slot refl) in
    let same : slot.kind ≡ s.kind = is_kind-same slot.kind s.kind (ap (is_some_kind s.kind) (sym kind) ∙ u) in
    own-kind kinds t k s.kind slot.kind (tree.Component slot.number) s.stands (subst (λ (z : Kind). stands_for z slot.kind ≡ true) same (stands-refl slot.kind))

count-complete : (columns : List Column) (basis : Basis) (place : Place) → Complete (kinds_of columns basis) (count_at place basis) (count_of basis)
count-complete columns Point place = λ t k h e. cc
count-complete columns Group place = λ t k h e.
    let kinds : Kinds = kinds_of columns Group in
    let s = seen kinds t k h in
    let same : Integer ≡ s.kind = is_kind-same Integer s.kind (is-count kinds s.layer s.kind (level-of kinds CheckedExpr-F.CountAll tree.CountAll t k s tree.rolls-CountAll e) s.typed) in
    own-kind kinds t k s.kind Integer tree.CountAll s.stands (subst (λ (z : Kind). stands_for z Integer ≡ true) same refl)

-- ---- aggregates

aggregate-ordered : (f : AggregateFunction) → Ordered (aggregate_takes f)
aggregate-ordered Sum = numeric-ordered
aggregate-ordered Avg = numeric-ordered
aggregate-ordered Count = any-ordered
aggregate-ordered Min = any-ordered
aggregate-ordered Max = any-ordered
aggregate-ordered Median = numeric-ordered

aggregate-monotone : (f : AggregateFunction) (q r : Kind) → stands_for q r ≡ true → stands_for (aggregate_gives f q) (aggregate_gives f r) ≡ true
aggregate-monotone Sum q r h = h
aggregate-monotone Avg q r h = refl
aggregate-monotone Count q r h = refl
aggregate-monotone Min q r h = h
aggregate-monotone Max q r h = h
aggregate-monotone Median q r h = refl

aggregate-complete : (columns : List Column) (f : AggregateFunction) (place : Place) (slot : Slot) → slot_at columns Point slot.number ≡ Some slot → Complete (kinds_of columns Group) (aggregate_typed f true place (slot_typed slot)) (Some (tree.Aggregate f slot.number))
aggregate-complete columns f place slot own = λ t k h e.
    let kinds : Kinds = kinds_of columns Group in
    let s = seen kinds t k h in
    let n : ℕ = slot.number in
    let test = is-aggregate kinds f n s.layer s.kind (level-of kinds (CheckedExpr-F.Aggregate f n) (tree.Aggregate f n) t k s (tree.rolls-Aggregate f n) e) s.typed in
    let kind : kind_at columns Point n ≡ Some slot.kind = ap (option_map (λ (z : Slot). z.kind)) own in
    let typed : given (aggregate_gives f) (is_kind slot.kind) (aggregate_takes f) s.kind ≡ true = ap (λ (o : Option Kind). option_map_or (λ q. given (aggregate_gives f) (is_kind q) (aggregate_takes f) s.kind) o false) (sym kind) ∙ test in
    let g = given-at (aggregate_gives f) (is_kind slot.kind) (aggregate_takes f) s.kind typed in
    let same : slot.kind ≡ g.at = is_kind-same slot.kind g.at (found-passes (is_kind slot.kind) (aggregate_takes f) g.at g.found) in
    let j = agree (aggregate_takes f) (Some slot.kind ∷ []) (is_kind slot.kind) g.at (aggregate-ordered f) g.found (both (stands_for g.at slot.kind) true (subst (λ (z : Kind). stands_for z slot.kind ≡ true) same (stands-refl slot.kind)) refl) (λ none q. cc) in
    let number : component_number (tree.Component n) ≡ Some n = ap component_number (sym (tree.rolls-Component n)) ∙ ap number_step (out-roll-CheckedExpr (CheckedExpr-F.Component n)) in
    met-at kinds t k s.kind (aggregate_gives f j.kind) (tree.Aggregate f n) (aggregate_typed f true place (slot_typed slot))
    (ap {B = Answer} (λ (z : Option Kind). or_refused z WrongType place >>= (λ q. or_refused (component_number (tree.Component n)) WrongStructure place >>= (λ m. Ok (typed_as (aggregate_gives f q) (tree.Aggregate f m))))) j.found
    ∙ ap {B = Answer} (λ (z : Option ℕ). or_refused z WrongStructure place >>= (λ m. Ok (typed_as (aggregate_gives f j.kind) (tree.Aggregate f m)))) number)
    s.stands (subst (λ (z : Kind). stands_for z (aggregate_gives f j.kind) ≡ true) g.gives_it (aggregate-monotone f g.at j.kind j.stands))

-- ---- levels

-- what is resolved to a well typed tree is checked
record Completes (m : Meaning) (p : Part) : Type 0 where
  pub names : m.own_name ≡ p.own_name
  pub complete : (scope : Scope) (basis : Basis) → Complete (kinds_of scope.columns basis) (m.typed scope basis) (p.resolved scope basis)
  -- what is just a name is checked as a name
  pub is_name : (scope : Scope) (basis : Basis) (name : List ℕ) → m.own_name ≡ Some name → (place : Place) × (m.typed scope basis ≡ component_typed (named scope basis name) place)

-- a step and the next one, at once
at-once : {A B : Type 0} (first : Result A Refusal) (f : A → B) (next : B → Answer) → ((first >>= (λ a. Ok (f a))) >>= next) ≡ (first >>= (λ a. next (f a)))
at-once (Ok a) f next = refl
at-once (Err refusal) f next = refl

member-complete : (o : Option (List ℕ)) (m : Meaning) (name : List ℕ) (place : Place) (scope : Scope) (basis : Basis) → Complete (kinds_of scope.columns basis) (member_typed o m name place scope basis) (option_and_then (λ alias. component_of (member scope basis alias name)) o)
member-complete None m name place scope basis = none-complete (kinds_of scope.columns basis) (misplaced (m ∷ []) place scope basis)
member-complete (Some alias) m name place scope basis = component-complete scope.columns basis (member scope basis alias name) place (member-own scope basis alias name)

aggregate-level : (f : AggregateFunction) (m : Meaning) (p : Part) (is_grouped : Bool) (place : Place) (scope : Scope) (basis : Basis) → Completes m p → Complete (kinds_of scope.columns basis) (aggregate_at f m is_grouped place scope basis) (aggregate_of f is_grouped p.own_name scope basis)
aggregate-level f m p is_grouped place scope Point h = none-complete (kinds_of scope.columns Point) (misplaced (m ∷ []) place scope Point)
aggregate-level f m p true place scope Group h = none-complete (kinds_of scope.columns Group) (aggregate_at f m true place scope Group)
aggregate-level f m p false place scope Group h =
    subst (λ (o : Option (List ℕ)). Complete (kinds_of scope.columns Group) (m.typed scope Point >>= aggregate_typed f (is_some m.own_name && true) place) (option_map (λ s. tree.Aggregate f s.number) (option_and_then (named scope Point) o))) h.names (at m.own_name refl)
  where
    slot_at_name : (o : Option Slot) (place' : Place) → ((slot : Slot) → o ≡ Some slot → slot_at scope.columns Point slot.number ≡ Some slot) → Complete (kinds_of scope.columns Group) (component_typed o place' >>= aggregate_typed f true place) (option_map (λ s. tree.Aggregate f s.number) o)
    slot_at_name None place' own = none-complete (kinds_of scope.columns Group) (component_typed None place' >>= aggregate_typed f true place)
    slot_at_name (Some slot) place' own = aggregate-complete scope.columns f place slot (own slot refl)

    at : (o : Option (List ℕ)) → m.own_name ≡ o → Complete (kinds_of scope.columns Group) (m.typed scope Point >>= aggregate_typed f (is_some o && true) place) (option_map (λ s. tree.Aggregate f s.number) (option_and_then (named scope Point) o))
    at None e = none-complete (kinds_of scope.columns Group) (m.typed scope Point >>= aggregate_typed f false place)
    at (Some w) e =
        let known = h.is_name scope Point w e in
        subst (λ (a : Answer). Complete (kinds_of scope.columns Group) (a >>= aggregate_typed f true place) (option_map (λ s. tree.Aggregate f s.number) (named scope Point w))) (sym known.1) (slot_at_name (named scope Point w) known.0 (named-own scope Point w))

no_name : {m : Meaning} {p : Part} → m.own_name ≡ None → p.own_name ≡ None → ((scope : Scope) (basis : Basis) → Complete (kinds_of scope.columns basis) (m.typed scope basis) (p.resolved scope basis)) → Completes m p
no_name e f h = record { names = e ∙ sym f; complete = h; is_name = λ scope basis name g. cc }

-- what stands for a data set
nothing : {m : Meaning} {p : Part} → m.own_name ≡ None → p.own_name ≡ None → ((scope : Scope) (basis : Basis) → p.resolved scope basis ≡ None) → Completes m p
nothing {m} {p} e f h = no_name e f (λ scope basis. subst (λ (r : Resolved). Complete (kinds_of scope.columns basis) (m.typed scope basis) r) (sym (h scope basis)) (none-complete (kinds_of scope.columns basis) (m.typed scope basis)))

abbrev Level : Type 0
Level = Expr-F Place (Both Completes) ⊤ ⊤ (Both Completes) (BothRanges Completes)

abbrev Going : Level → Type 0
Going z = Completes (step (over-Expr {X = Boths Completes} {Y = Meanings} (lefts Completes) z)) (part_step (over-Expr {X = Boths Completes} {Y = Parts} (rights Completes) z))

start-1 : (ra rp : Resolved) → two (λ x y. tree.Substr x (Some y) None) ra rp ≡ option_and_then (λ x. option_and_then (λ start. option_map (tree.Substr x start) (Some None)) (option_map Some rp)) ra
start-1 None rp = refl
start-1 (Some x) None = refl
start-1 (Some x) (Some y) = refl

start-2 : (ra rp rq : Resolved) → option_and_then (λ x. two (λ y z. tree.Substr x (Some y) (Some z)) rp rq) ra ≡ option_and_then (λ x. option_and_then (λ start. option_map (tree.Substr x start) (option_map Some rq)) (option_map Some rp)) ra
start-2 None rp rq = refl
start-2 (Some x) None rq = refl
start-2 (Some x) (Some y) None = refl
start-2 (Some x) (Some y) (Some z) = refl

by-1 : (ra rp rq : Resolved) → option_and_then (λ x. two (λ y z. tree.Replace x y (Some z)) rp rq) ra ≡ option_and_then (λ x. option_and_then (λ y. option_map (tree.Replace x y) (option_map Some rq)) rp) ra
by-1 None rp rq = refl
by-1 (Some x) None rq = refl
by-1 (Some x) (Some y) None = refl
by-1 (Some x) (Some y) (Some z) = refl

-- the same answer and the same tree
as-is : (kinds : Kinds) (a b : Answer) (r s : Resolved) → a ≡ b → r ≡ s → Complete kinds a r → Complete kinds b s
as-is kinds a b r s e f h = subst (λ (z : Answer). Complete kinds z s) e (subst (λ (z : Resolved). Complete kinds a z) f h)

goes : (z : Level) → Going z
goes (Expr-F.Literal v place) = no_name refl refl (λ scope basis. literal-complete (kinds_of scope.columns basis) v)
goes (Expr-F.Name name place) = record { names = refl; complete = λ scope basis. component-complete scope.columns basis (named scope basis name) place (named-own scope basis name); is_name = λ scope basis w e. let same : name ≡ w = cc in (place, ap (λ (n : List ℕ). component_typed (named scope basis n) place) same) }
goes (Expr-F.Bracket a place) = no_name refl refl (λ scope basis. a.agree.complete scope basis)
goes (Expr-F.Signed sign a place) = no_name refl refl (λ scope basis. unary-complete (kinds_of scope.columns basis) (prefix_operator sign) place (a.meaning.typed scope basis) (a.part.resolved scope basis) (a.agree.complete scope basis))
goes (Expr-F.Unary f a place) = no_name refl refl (λ scope basis. unary-complete (kinds_of scope.columns basis) (unary_operator f) place (a.meaning.typed scope basis) (a.part.resolved scope basis) (a.agree.complete scope basis))
goes (Expr-F.Or a sign b place) = no_name refl refl (λ scope basis. binary-complete (kinds_of scope.columns basis) (or_operator sign) place (a.meaning.typed scope basis) (b.meaning.typed scope basis) (a.part.resolved scope basis) (b.part.resolved scope basis) (a.agree.complete scope basis) (b.agree.complete scope basis))
goes (Expr-F.And a b place) = no_name refl refl (λ scope basis. binary-complete (kinds_of scope.columns basis) binary.And place (a.meaning.typed scope basis) (b.meaning.typed scope basis) (a.part.resolved scope basis) (b.part.resolved scope basis) (a.agree.complete scope basis) (b.agree.complete scope basis))
goes (Expr-F.Compare a sign b place) = no_name refl refl (λ scope basis. binary-complete (kinds_of scope.columns basis) (comparison_operator sign) place (a.meaning.typed scope basis) (b.meaning.typed scope basis) (a.part.resolved scope basis) (b.part.resolved scope basis) (a.agree.complete scope basis) (b.agree.complete scope basis))
goes (Expr-F.Sum a sign b place) = no_name refl refl (λ scope basis. binary-complete (kinds_of scope.columns basis) (sum_operator sign) place (a.meaning.typed scope basis) (b.meaning.typed scope basis) (a.part.resolved scope basis) (b.part.resolved scope basis) (a.agree.complete scope basis) (b.agree.complete scope basis))
goes (Expr-F.Product a sign b place) = no_name refl refl (λ scope basis. binary-complete (kinds_of scope.columns basis) (product_operator sign) place (a.meaning.typed scope basis) (b.meaning.typed scope basis) (a.part.resolved scope basis) (b.part.resolved scope basis) (a.agree.complete scope basis) (b.agree.complete scope basis))
goes (Expr-F.Binary f a b place) = no_name refl refl (λ scope basis. function-complete (kinds_of scope.columns basis) f place (a.meaning.typed scope basis) (b.meaning.typed scope basis) (a.part.resolved scope basis) (b.part.resolved scope basis) (a.agree.complete scope basis) (b.agree.complete scope basis))
goes (Expr-F.If c a b place) = no_name refl refl (λ scope basis. if-complete (kinds_of scope.columns basis) place (c.meaning.typed scope basis) (a.meaning.typed scope basis) (b.meaning.typed scope basis) (c.part.resolved scope basis) (a.part.resolved scope basis) (b.part.resolved scope basis) (c.agree.complete scope basis) (a.agree.complete scope basis) (b.agree.complete scope basis))
goes (Expr-F.In a sign set place) = no_name refl refl (λ scope basis. in-complete (kinds_of scope.columns basis) sign set place (a.meaning.typed scope basis) (a.part.resolved scope basis) (a.agree.complete scope basis))
goes (Expr-F.Between a low high place) = no_name refl refl (λ scope basis. between-complete (kinds_of scope.columns basis) low high place (a.meaning.typed scope basis) (a.part.resolved scope basis) (a.agree.complete scope basis))
goes (Expr-F.Round f a digits place) = no_name refl refl (λ scope basis. round-complete (kinds_of scope.columns basis) f digits place (a.meaning.typed scope basis) (a.part.resolved scope basis) (a.agree.complete scope basis))
goes (Expr-F.MatchCharacters a pattern place) = no_name refl refl (λ scope basis. matches-complete (kinds_of scope.columns basis) pattern place (a.meaning.typed scope basis) (a.part.resolved scope basis) (a.agree.complete scope basis))
goes (Expr-F.Typed sort a place) = no_name refl refl (λ scope basis. sort-complete (kinds_of scope.columns basis) sort place (a.meaning.typed scope basis) (a.part.resolved scope basis) (a.agree.complete scope basis))
goes (Expr-F.Substr a None place) = no_name refl refl (λ scope basis. substr-complete-0 (kinds_of scope.columns basis) place (a.meaning.typed scope basis) (a.part.resolved scope basis) (a.agree.complete scope basis))
goes (Expr-F.Substr a (Some range) place) = no_name refl refl (λ scope basis. at range.meaning.length range.part.length range.agree.length scope basis)
  where
    at : (lm : Option Meaning) (lp : Option Part) → given_length Completes lm lp → (scope : Scope) (basis : Basis) → Complete (kinds_of scope.columns basis)
        (a.meaning.typed scope basis >>= (λ x. (range.meaning.start.typed scope basis >>= (λ y. Ok (Some y))) >>= (λ start. typed_if lm scope basis >>= substr_typed place x start)))
        (option_and_then (λ x. option_and_then (λ start. option_map (tree.Substr x start) (if_given (option_map (λ (p : Part). p.resolved scope basis) lp))) (option_map Some (range.part.start.resolved scope basis))) (a.part.resolved scope basis))
    at None None h scope basis =
        let first : Answer = range.meaning.start.typed scope basis in
        as-is (kinds_of scope.columns basis)
        (a.meaning.typed scope basis >>= (λ x. first >>= (λ y. substr_typed place x (Some y) None)))
        (a.meaning.typed scope basis >>= (λ x. (first >>= (λ y. Ok (Some y))) >>= (λ start. substr_typed place x start None)))
        (two (λ x y. tree.Substr x (Some y) None) (a.part.resolved scope basis) (range.part.start.resolved scope basis))
        (option_and_then (λ x. option_and_then (λ start. option_map (tree.Substr x start) (Some None)) (option_map Some (range.part.start.resolved scope basis))) (a.part.resolved scope basis))
        (λ i. a.meaning.typed scope basis >>= (λ x. sym (at-once first Some (λ start. substr_typed place x start None)) i))
        (start-1 (a.part.resolved scope basis) (range.part.start.resolved scope basis))
        (substr-complete-1 (kinds_of scope.columns basis) place (a.meaning.typed scope basis) first (a.part.resolved scope basis) (range.part.start.resolved scope basis) (a.agree.complete scope basis) (range.agree.start.complete scope basis))
    at (Some m) (Some p) h scope basis =
        let first : Answer = range.meaning.start.typed scope basis in
        let second : Answer = m.typed scope basis in
        as-is (kinds_of scope.columns basis)
        (a.meaning.typed scope basis >>= (λ x. first >>= (λ y. second >>= (λ z. substr_typed place x (Some y) (Some z)))))
        (a.meaning.typed scope basis >>= (λ x. (first >>= (λ y. Ok (Some y))) >>= (λ start. (second >>= (λ z. Ok (Some z))) >>= substr_typed place x start)))
        (option_and_then (λ x. two (λ y z. tree.Substr x (Some y) (Some z)) (range.part.start.resolved scope basis) (p.resolved scope basis)) (a.part.resolved scope basis))
        (option_and_then (λ x. option_and_then (λ start. option_map (tree.Substr x start) (option_map Some (p.resolved scope basis))) (option_map Some (range.part.start.resolved scope basis))) (a.part.resolved scope basis))
        (λ i. a.meaning.typed scope basis >>= (λ x. ((λ j. first >>= (λ y. sym (at-once second Some (substr_typed place x (Some y))) j)) ∙ sym (at-once first Some (λ start. (second >>= (λ z. Ok (Some z))) >>= substr_typed place x start))) i))
        (start-2 (a.part.resolved scope basis) (range.part.start.resolved scope basis) (p.resolved scope basis))
        (substr-complete-2 (kinds_of scope.columns basis) place (a.meaning.typed scope basis) first second (a.part.resolved scope basis) (range.part.start.resolved scope basis) (p.resolved scope basis) (a.agree.complete scope basis) (range.agree.start.complete scope basis) (h.complete scope basis))
    at None (Some p) h scope basis = absurd h
    at (Some m) None h scope basis = absurd h
goes (Expr-F.Replace a old None place) = no_name refl refl (λ scope basis. replace-complete-1 (kinds_of scope.columns basis) place (a.meaning.typed scope basis) (old.meaning.typed scope basis) (a.part.resolved scope basis) (old.part.resolved scope basis) (a.agree.complete scope basis) (old.agree.complete scope basis))
goes (Expr-F.Replace a old (Some by) place) = no_name refl refl (λ scope basis.
    let first : Answer = old.meaning.typed scope basis in
    let second : Answer = by.meaning.typed scope basis in
    as-is (kinds_of scope.columns basis)
    (a.meaning.typed scope basis >>= (λ x. first >>= (λ y. second >>= (λ z. replace_typed place x y (Some z)))))
    (a.meaning.typed scope basis >>= (λ x. first >>= (λ y. (second >>= (λ z. Ok (Some z))) >>= replace_typed place x y)))
    (option_and_then (λ x. two (λ y z. tree.Replace x y (Some z)) (old.part.resolved scope basis) (by.part.resolved scope basis)) (a.part.resolved scope basis))
    (option_and_then (λ x. option_and_then (λ y. option_map (tree.Replace x y) (option_map Some (by.part.resolved scope basis))) (old.part.resolved scope basis)) (a.part.resolved scope basis))
    (λ i. a.meaning.typed scope basis >>= (λ x. first >>= (λ y. sym (at-once second Some (replace_typed place x y)) i)))
    (by-1 (a.part.resolved scope basis) (old.part.resolved scope basis) (by.part.resolved scope basis))
    (replace-complete-2 (kinds_of scope.columns basis) place (a.meaning.typed scope basis) first second (a.part.resolved scope basis) (old.part.resolved scope basis) (by.part.resolved scope basis) (a.agree.complete scope basis) (old.agree.complete scope basis) (by.agree.complete scope basis)))
goes (Expr-F.Member a name place) = no_name refl refl (λ scope basis.
    subst (λ (o : Option (List ℕ)). Complete (kinds_of scope.columns basis) (member_typed a.meaning.own_name a.meaning name place scope basis) (option_and_then (λ alias. component_of (member scope basis alias name)) o)) a.agree.names (member-complete a.meaning.own_name a.meaning name place scope basis))
goes (Expr-F.Aggregate f a None place) = no_name refl refl (λ scope basis. aggregate-level f a.meaning a.part false place scope basis a.agree)
goes (Expr-F.Aggregate f a (Some g) place) = no_name refl refl (λ scope basis. aggregate-level f a.meaning a.part true place scope basis a.agree)
goes (Expr-F.CountAll place) = no_name refl refl (λ scope basis. count-complete scope.columns basis place)
goes _ = nothing refl refl (λ scope basis. refl)

-- whatever well typed tree is the expression as it is written, the expression is checked
pub completes : (scope : Scope) (basis : Basis) (e : Expr) (t : CheckedExpr) (k : Kind) → is_of_kind (kinds_of scope.columns basis) t k ≡ true → resolved scope basis e ≡ Some (erased t) → (refusal : Refusal) → typed scope basis e ≡ Err refusal → ⊥
completes scope basis e t k h i refusal f = subst (Met (kinds_of scope.columns basis) t k) f ((related Completes goes e).complete scope basis t k h i)
