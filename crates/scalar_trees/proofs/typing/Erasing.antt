-- What is checked is the expression as it is written.
use Rattle.std.proofs.Common.{◌≡◌, ℕ, ℤ, Bool, true, false, List, [], ◌∷◌, map, Option, Some, None, Result, Ok, Err, refl, sym, ap, subst, ◌∙◌}
use Rattle.std.proofs.Math.Path.{ap₂}
use Rattle.std.specs.Prelude.{◌&&◌, ⊤, is_some, option_and_then}
use Rattle.std.specs.List.{list_all}
use Rattle.std.specs.Option.{option_map}
use Rattle.vtl_values.specs.declared.kind.Kind.{Kind}
use Rattle.vtl_values.specs.declared.kind.Kind.TheVariants.{Integer, Number, Text, Truth}
use Rattle.vtl_values.specs.declared.place.Place.{Place}
use Rattle.vtl_values.specs.declared.value.Value.{Value}
use Rattle.vtl_values.specs.declared.value.Value.TheVariants as value
use Rattle.vtl_syntax.specs.declared.words.AggregateFunction.{AggregateFunction}
use Rattle.vtl_syntax.specs.declared.words.BinaryFunction.{BinaryFunction}
use Rattle.vtl_syntax.specs.declared.words.BinaryFunction.TheVariants as function
use Rattle.vtl_syntax.specs.declared.words.InSign.{InSign}
use Rattle.vtl_syntax.specs.declared.words.RoundFunction.{RoundFunction}
use Rattle.vtl_syntax.specs.declared.words.Sort.{Sort}
use Rattle.vtl_syntax.specs.declared.expr.Expr.{Expr}
use Rattle.vtl_syntax.specs.declared.expr.Clause.TheOpen.{Expr-F}
use Rattle.scalar_texts.specs.Patterns.{is_pattern}
use Rattle.scalar_trees.specs.declared.tree.CheckedExpr.{CheckedExpr, fold-roll-CheckedExpr, roll-CheckedExpr, map-CheckedExpr, out-roll-CheckedExpr}
use Rattle.scalar_trees.specs.declared.tree.CheckedExpr.TheVariants as tree
use Rattle.scalar_trees.specs.declared.tree.CheckedExpr.TheOpen.{CheckedExpr-F}
use Rattle.scalar_trees.specs.declared.operators.UnaryOperator.{UnaryOperator}
use Rattle.scalar_trees.specs.declared.operators.BinaryOperator.{BinaryOperator}
use Rattle.scalar_trees.specs.declared.operators.BinaryOperator.TheVariants as binary
use Rattle.scalar_trees.specs.Kinds.{ANY, unary_takes, unary_gives, binary_takes, binary_gives, aggregate_takes, aggregate_gives, round_gives, sort_takes, literal_kind, number_value, widened_value}
use Rattle.scalar_trees.specs.WellTyped.{digits_fit, is_present}
use Rattle.scalar_trees.specs.Erased.{erased, erased_step}
use Rattle.scalar_trees.specs.declared.typing.scope.Basis.{Basis}
use Rattle.scalar_trees.specs.declared.typing.scope.Basis.TheVariants.{Point, Group}
use Rattle.scalar_trees.specs.declared.typing.scope.Scope.{Scope}
use Rattle.scalar_trees.specs.declared.typing.scope.Slot.{Slot}
use Rattle.scalar_trees.specs.declared.typing.stop.Fault.TheVariants.{WrongStructure, BadConstant, BadPattern}
use Rattle.scalar_trees.specs.declared.typing.stop.Refusal.{Refusal}
use Rattle.scalar_trees.specs.declared.typing.typed.Typed.{Typed}
use Rattle.scalar_trees.specs.typing.Steps.{◌>>=◌, or_refused, refused, demanded}
use Rattle.scalar_trees.specs.typing.Scopes.{named, member}
use Rattle.scalar_trees.specs.typing.Operators.{prefix_operator, unary_operator, or_operator, sum_operator, product_operator, comparison_operator}
use Rattle.scalar_trees.specs.typing.Scalars.{Answer, Agreed, Meaning, typed_as, widened_tree, widened, joint, wanted, wanted_if, agreeing, literal_typed, slot_typed, component_typed, unary_typed, binary_typed, nvl_typed, function_typed, if_typed, in_typed, between_typed, round_typed, matches_typed, substr_typed, replace_typed, sort_typed, aggregate_typed, count_at, number_step, component_number, visited, misplaced, typed_if, member_typed, aggregate_at, step, typed}
use Rattle.scalar_trees.specs.typing.Resolved.{Resolved, one, two, three, binary_of, function_of, if_given, component_of, Part, aggregate_of, count_of, part_step, resolved}
use Rattle.scalar_trees.proofs.typing.Folds.{Both, BothRanges, given_length, Boths, Meanings, Parts, lefts, rights, related}
use Rattle.scalar_trees.proofs.typing.Levels.{over-Expr}

-- ---- trees without their widenings

pub erased-rolled : (x : CheckedExpr-F CheckedExpr) {d : CheckedExpr} → roll-CheckedExpr x ≡ d → erased d ≡ erased_step (map-CheckedExpr CheckedExpr CheckedExpr erased x)
erased-rolled x is = ap erased (sym is) ∙ fold-roll-CheckedExpr CheckedExpr erased_step x

pub erased-widened : (q : Kind) (g : Option Kind) (a : CheckedExpr) → erased (widened_tree q g a) ≡ erased a
erased-widened Integer g a = refl
erased-widened Text g a = refl
erased-widened Truth g a = refl
erased-widened Number None a = refl
erased-widened Number (Some Integer) a = erased-rolled (CheckedExpr-F.Widened a) (tree.rolls-Widened a)
erased-widened Number (Some Number) a = refl
erased-widened Number (Some Text) a = refl
erased-widened Number (Some Truth) a = refl

number-twice : (v : Value) → number_value (number_value v) ≡ number_value v
number-twice value.Null = refl
number-twice (value.Integer n) = refl
number-twice (value.Number n) = refl
number-twice (value.Text cs) = refl
number-twice (value.Truth b) = refl

number-widened : (q : Kind) (v : Value) → number_value (widened_value q v) ≡ number_value v
number-widened Integer v = refl
number-widened Number v = number-twice v
number-widened Text v = refl
number-widened Truth v = refl

numbers-widened : (q : Kind) (vs : List Value) → map number_value (map (widened_value q) vs) ≡ map number_value vs
numbers-widened q [] = refl
numbers-widened q (v ∷ vs) = ap₂ (λ (w : Value) (ws : List Value). w ∷ ws) (number-widened q v) (numbers-widened q vs)

-- ---- answers

-- an answer with a tree has just what is resolved
Erased : Answer → Resolved → Type 0
Erased (Ok t) r = r ≡ Some (erased t.tree)
Erased (Err refusal) r = ⊤

told : (answer : Answer) (r : Resolved) (t : Typed) → Erased answer r → answer ≡ Ok t → r ≡ Some (erased t.tree)
unfolding Erased
told (Ok s) r t h e = let same : s ≡ t = cc in subst (λ (u : Typed). r ≡ Some (erased u.tree)) same h
told (Err refusal) r t h e = cc

after : {A : Type 0} (first : Result A Refusal) (next : A → Answer) (r : Resolved) → ((x : A) → first ≡ Ok x → Erased (next x) r) → Erased (first >>= next) r
unfolding Erased
after (Ok x) next r h = h x refl
after (Err refusal) next r h = tt

-- after an operand
operand : (answer : Answer) (r : Resolved) (next : Typed → Answer) (of : Resolved → Resolved) → Erased answer r → ((t : Typed) → Erased (next t) (of (Some (erased t.tree)))) → Erased (answer >>= next) (of r)
unfolding Erased
operand (Ok t) r next of h step = subst (λ (s : Resolved). Erased (next t) (of s)) (sym h) (step t)
operand (Err refusal) r next of h step = tt

-- an operand of just a kind
wanted-erased : (place : Place) (q : Kind) (a : Typed) (w : CheckedExpr) → wanted place q a ≡ Ok w → erased w ≡ erased a.tree
wanted-erased place q a w e = at (joint place (q ∷ []) (a.kind ∷ [])) e
  where
    at : (r : Result Kind Refusal) → (r >>= (λ k. Ok (widened k a))) ≡ Ok w → erased w ≡ erased a.tree
    at (Ok k) h = let same : widened k a ≡ w = cc in ap erased (sym same) ∙ erased-widened k a.kind a.tree
    at (Err refusal) h = cc

wanted_if-erased : (place : Place) (q : Kind) (a : Option Typed) (w : Option CheckedExpr) → wanted_if place q a ≡ Ok w → option_map erased w ≡ option_map (λ (t : Typed). erased t.tree) a
wanted_if-erased place q None w e = let same : None ≡ w = cc in ap (option_map erased) (sym same)
wanted_if-erased place q (Some a) w e = at (wanted place q a) refl e
  where
    at : (r : Result CheckedExpr Refusal) → wanted place q a ≡ r → (r >>= (λ t. Ok (Some t))) ≡ Ok w → option_map erased w ≡ Some (erased a.tree)
    at (Ok t) i h = let same : Some t ≡ w = cc in ap (option_map erased) (sym same) ∙ ap Some (wanted-erased place q a t i)
    at (Err refusal) i h = cc

record Halves (a b : Typed) (j : Agreed) : Type 0 where
  pub left : erased j.left ≡ erased a.tree
  pub right : erased j.right ≡ erased b.tree

agreeing-erased : (place : Place) (takes : List Kind) (a b : Typed) (j : Agreed) → agreeing place takes a b ≡ Ok j → Halves a b j
agreeing-erased place takes a b j e = at (joint place takes (a.kind ∷ b.kind ∷ [])) e
  where
    at : (r : Result Kind Refusal) → (r >>= (λ k. Ok (record { kind = k; left = widened k a; right = widened k b }))) ≡ Ok j → Halves a b j
    at (Ok k) h =
        let made : Agreed = record { kind = k; left = widened k a; right = widened k b } in
        let same : made ≡ j = cc in
        subst (λ (i : Agreed). Halves a b i) same (record { left = erased-widened k a.kind a.tree; right = erased-widened k b.kind b.tree })
    at (Err refusal) h = cc

-- ---- operators

unary-erased : (o : UnaryOperator) (place : Place) (a : Typed) → Erased (unary_typed o place a) (one (tree.Unary o) (Some (erased a.tree)))
unfolding Erased
unary-erased o place a = after (joint place (unary_takes o) (a.kind ∷ [])) (λ q. Ok (typed_as (unary_gives o q) (tree.Unary o (widened q a)))) (Some (tree.Unary o (erased a.tree))) (λ q e.
    ap Some (sym (erased-rolled (CheckedExpr-F.Unary o (widened q a)) (tree.rolls-Unary o (widened q a)) ∙ tree.rolls-Unary o (erased (widened q a)) ∙ ap (tree.Unary o) (erased-widened q a.kind a.tree))))

sort-erased : (sort : Sort) (place : Place) (a : Typed) → Erased (sort_typed sort place a) (one (tree.OfSort sort) (Some (erased a.tree)))
unfolding Erased
sort-erased sort place a = after (joint place (sort_takes sort) (a.kind ∷ [])) (λ q. Ok (typed_as q (tree.OfSort sort (widened q a)))) (Some (tree.OfSort sort (erased a.tree))) (λ q e.
    ap Some (sym (erased-rolled (CheckedExpr-F.OfSort sort (widened q a)) (tree.rolls-OfSort sort (widened q a)) ∙ tree.rolls-OfSort sort (erased (widened q a)) ∙ ap (tree.OfSort sort) (erased-widened q a.kind a.tree))))

binary-erased : (o : BinaryOperator) (place : Place) (a b : Typed) → Erased (binary_typed o place a b) (Some (tree.Binary o (erased a.tree) (erased b.tree)))
unfolding Erased
binary-erased o place a b = after (agreeing place (binary_takes o) a b) (λ j. Ok (typed_as (binary_gives o j.kind) (tree.Binary o j.left j.right))) (Some (tree.Binary o (erased a.tree) (erased b.tree))) (λ j e.
    let h = agreeing-erased place (binary_takes o) a b j e in
    ap Some (sym (erased-rolled (CheckedExpr-F.Binary o j.left j.right) (tree.rolls-Binary o j.left j.right) ∙ tree.rolls-Binary o (erased j.left) (erased j.right) ∙ ap₂ (tree.Binary o) h.left h.right)))

nvl-erased : (place : Place) (a b : Typed) → Erased (nvl_typed place a b) (Some (tree.Nvl (erased a.tree) (erased b.tree)))
unfolding Erased
nvl-erased place a b = after (agreeing place ANY a b) (λ j. Ok (typed_as j.kind (tree.Nvl j.left j.right))) (Some (tree.Nvl (erased a.tree) (erased b.tree))) (λ j e.
    let h = agreeing-erased place ANY a b j e in
    ap Some (sym (erased-rolled (CheckedExpr-F.Nvl j.left j.right) (tree.rolls-Nvl j.left j.right) ∙ tree.rolls-Nvl (erased j.left) (erased j.right) ∙ ap₂ tree.Nvl h.left h.right)))

function-erased : (f : BinaryFunction) (place : Place) (a b : Typed) → Erased (function_typed f place a b) (function_of f (Some (erased a.tree)) (Some (erased b.tree)))
function-erased function.Mod place a b = binary-erased binary.Mod place a b
function-erased function.Nvl place a b = nvl-erased place a b
function-erased function.Instr place a b = binary-erased binary.Instr place a b

if-erased : (place : Place) (c a b : Typed) → Erased (if_typed place c a b) (Some (tree.If (erased c.tree) (erased a.tree) (erased b.tree)))
unfolding Erased
if-erased place c a b = after (wanted place Truth c) (λ condition. agreeing place ANY a b >>= (λ j. Ok (typed_as j.kind (tree.If condition j.left j.right)))) (Some (tree.If (erased c.tree) (erased a.tree) (erased b.tree))) (λ w f.
    after (agreeing place ANY a b) (λ j. Ok (typed_as j.kind (tree.If w j.left j.right))) (Some (tree.If (erased c.tree) (erased a.tree) (erased b.tree))) (λ j e.
    let h = agreeing-erased place ANY a b j e in
    ap Some (sym (erased-rolled (CheckedExpr-F.If w j.left j.right) (tree.rolls-If w j.left j.right) ∙ tree.rolls-If (erased w) (erased j.left) (erased j.right) ∙ (λ i. tree.If (wanted-erased place Truth c w f i) (h.left i) (h.right i))))))

in-erased : (sign : InSign) (set : List Value) (place : Place) (a : Typed) → Erased (in_typed sign set place a) (Some (tree.In (erased a.tree) sign (map number_value set)))
unfolding Erased
in-erased sign set place a = after (joint place ANY (a.kind ∷ map literal_kind set)) (λ q. demanded (list_all is_present set) BadConstant place >>= (λ met. Ok (typed_as Truth (tree.In (widened q a) sign (map (widened_value q) set))))) (Some (tree.In (erased a.tree) sign (map number_value set))) (λ q e.
    after (demanded (list_all is_present set) BadConstant place) (λ met. Ok (typed_as Truth (tree.In (widened q a) sign (map (widened_value q) set)))) (Some (tree.In (erased a.tree) sign (map number_value set))) (λ u d.
    ap Some (sym (erased-rolled (CheckedExpr-F.In (widened q a) sign (map (widened_value q) set)) (tree.rolls-In (widened q a) sign (map (widened_value q) set)) ∙ tree.rolls-In (erased (widened q a)) sign (map number_value (map (widened_value q) set)) ∙ (λ i. tree.In (erased-widened q a.kind a.tree i) sign (numbers-widened q set i))))))

between-erased : (low high : Value) (place : Place) (a : Typed) → Erased (between_typed low high place a) (Some (tree.Between (erased a.tree) (number_value low) (number_value high)))
unfolding Erased
between-erased low high place a = after (joint place ANY (a.kind ∷ literal_kind low ∷ literal_kind high ∷ [])) (λ q. Ok (typed_as Truth (tree.Between (widened q a) (widened_value q low) (widened_value q high)))) (Some (tree.Between (erased a.tree) (number_value low) (number_value high))) (λ q e.
    ap Some (sym (erased-rolled (CheckedExpr-F.Between (widened q a) (widened_value q low) (widened_value q high)) (tree.rolls-Between (widened q a) (widened_value q low) (widened_value q high)) ∙ tree.rolls-Between (erased (widened q a)) (number_value (widened_value q low)) (number_value (widened_value q high)) ∙ (λ i. tree.Between (erased-widened q a.kind a.tree i) (number-widened q low i) (number-widened q high i)))))

round-erased : (f : RoundFunction) (digits : Option ℤ) (place : Place) (a : Typed) → Erased (round_typed f digits place a) (Some (tree.Round f (erased a.tree) digits))
unfolding Erased
round-erased f digits place a = after (wanted place Number a) (λ operand. demanded (digits_fit digits) BadConstant place >>= (λ met. Ok (typed_as (round_gives digits) (tree.Round f operand digits)))) (Some (tree.Round f (erased a.tree) digits)) (λ w e.
    after (demanded (digits_fit digits) BadConstant place) (λ met. Ok (typed_as (round_gives digits) (tree.Round f w digits))) (Some (tree.Round f (erased a.tree) digits)) (λ u d.
    ap Some (sym (erased-rolled (CheckedExpr-F.Round f w digits) (tree.rolls-Round f w digits) ∙ tree.rolls-Round f (erased w) digits ∙ ap (λ (x : CheckedExpr). tree.Round f x digits) (wanted-erased place Number a w e)))))

matches-erased : (pattern : List ℕ) (place : Place) (a : Typed) → Erased (matches_typed pattern place a) (Some (tree.Matches (erased a.tree) pattern))
unfolding Erased
matches-erased pattern place a = after (wanted place Text a) (λ operand. demanded (is_pattern pattern) BadPattern place >>= (λ met. Ok (typed_as Truth (tree.Matches operand pattern)))) (Some (tree.Matches (erased a.tree) pattern)) (λ w e.
    after (demanded (is_pattern pattern) BadPattern place) (λ met. Ok (typed_as Truth (tree.Matches w pattern))) (Some (tree.Matches (erased a.tree) pattern)) (λ u d.
    ap Some (sym (erased-rolled (CheckedExpr-F.Matches w pattern) (tree.rolls-Matches w pattern) ∙ tree.rolls-Matches (erased w) pattern ∙ ap (λ (x : CheckedExpr). tree.Matches x pattern) (wanted-erased place Text a w e)))))

abbrev tree_of : Typed → CheckedExpr
tree_of t = erased t.tree

erased-substr : (w : CheckedExpr) (from count : Option CheckedExpr) → erased (tree.Substr w from count) ≡ tree.Substr (erased w) (option_map erased from) (option_map erased count)
erased-substr w None None = erased-rolled (CheckedExpr-F.Substr w None None) (tree.rolls-Substr w None None) ∙ tree.rolls-Substr (erased w) None None
erased-substr w (Some x) None = erased-rolled (CheckedExpr-F.Substr w (Some x) None) (tree.rolls-Substr w (Some x) None) ∙ tree.rolls-Substr (erased w) (Some (erased x)) None
erased-substr w None (Some y) = erased-rolled (CheckedExpr-F.Substr w None (Some y)) (tree.rolls-Substr w None (Some y)) ∙ tree.rolls-Substr (erased w) None (Some (erased y))
erased-substr w (Some x) (Some y) = erased-rolled (CheckedExpr-F.Substr w (Some x) (Some y)) (tree.rolls-Substr w (Some x) (Some y)) ∙ tree.rolls-Substr (erased w) (Some (erased x)) (Some (erased y))

erased-replace : (w v : CheckedExpr) (new : Option CheckedExpr) → erased (tree.Replace w v new) ≡ tree.Replace (erased w) (erased v) (option_map erased new)
erased-replace w v None = erased-rolled (CheckedExpr-F.Replace w v None) (tree.rolls-Replace w v None) ∙ tree.rolls-Replace (erased w) (erased v) None
erased-replace w v (Some x) = erased-rolled (CheckedExpr-F.Replace w v (Some x)) (tree.rolls-Replace w v (Some x)) ∙ tree.rolls-Replace (erased w) (erased v) (Some (erased x))

substr-erased : (place : Place) (a : Typed) (start length : Option Typed) → Erased (substr_typed place a start length) (Some (tree.Substr (erased a.tree) (option_map tree_of start) (option_map tree_of length)))
unfolding Erased
substr-erased place a start length = after (wanted place Text a) (λ operand. wanted_if place Integer start >>= (λ from. wanted_if place Integer length >>= (λ count. Ok (typed_as Text (tree.Substr operand from count))))) (Some (tree.Substr (erased a.tree) (option_map tree_of start) (option_map tree_of length))) (λ w e.
    after (wanted_if place Integer start) (λ from. wanted_if place Integer length >>= (λ count. Ok (typed_as Text (tree.Substr w from count)))) (Some (tree.Substr (erased a.tree) (option_map tree_of start) (option_map tree_of length))) (λ from f.
    after (wanted_if place Integer length) (λ count. Ok (typed_as Text (tree.Substr w from count))) (Some (tree.Substr (erased a.tree) (option_map tree_of start) (option_map tree_of length))) (λ count g.
    ap Some (sym (erased-substr w from count ∙ (λ i. tree.Substr (wanted-erased place Text a w e i) (wanted_if-erased place Integer start from f i) (wanted_if-erased place Integer length count g i)))))))

replace-erased : (place : Place) (a old : Typed) (by : Option Typed) → Erased (replace_typed place a old by) (Some (tree.Replace (erased a.tree) (erased old.tree) (option_map tree_of by)))
unfolding Erased
replace-erased place a old by = after (wanted place Text a) (λ operand. wanted place Text old >>= (λ pattern. wanted_if place Text by >>= (λ new. Ok (typed_as Text (tree.Replace operand pattern new))))) (Some (tree.Replace (erased a.tree) (erased old.tree) (option_map tree_of by))) (λ w e.
    after (wanted place Text old) (λ pattern. wanted_if place Text by >>= (λ new. Ok (typed_as Text (tree.Replace w pattern new)))) (Some (tree.Replace (erased a.tree) (erased old.tree) (option_map tree_of by))) (λ v f.
    after (wanted_if place Text by) (λ new. Ok (typed_as Text (tree.Replace w v new))) (Some (tree.Replace (erased a.tree) (erased old.tree) (option_map tree_of by))) (λ new g.
    ap Some (sym (erased-replace w v new ∙ (λ i. tree.Replace (wanted-erased place Text a w e i) (wanted-erased place Text old v f i) (wanted_if-erased place Text by new g i)))))))

literal-erased : (v : Value) → Erased (Ok (literal_typed v)) (Some (tree.Literal v))
unfolding Erased
literal-erased v = ap Some (sym (erased-rolled (CheckedExpr-F.Literal v) (tree.rolls-Literal v) ∙ tree.rolls-Literal v))

component-erased : (o : Option Slot) (place : Place) → Erased (component_typed o place) (component_of o)
unfolding Erased
component-erased None place = tt
component-erased (Some s) place = ap Some (sym (erased-rolled (CheckedExpr-F.Component s.number) (tree.rolls-Component s.number) ∙ tree.rolls-Component s.number))

count-erased : (place : Place) (basis : Basis) → Erased (count_at place basis) (count_of basis)
unfolding Erased
count-erased place Point = tt
count-erased place Group = ap Some (sym (erased-rolled CheckedExpr-F.CountAll tree.rolls-CountAll ∙ tree.rolls-CountAll))

-- what stands for a data set has no tree
misplaced-erased : (ms : List Meaning) (place : Place) (scope : Scope) (basis : Basis) (r : Resolved) → Erased (misplaced ms place scope basis) r
unfolding Erased
misplaced-erased ms place scope basis r = after (visited ms scope basis) (λ met. refused WrongStructure place) r (λ u e. tt)

-- ---- levels

-- what is checked goes together with what is resolved
record Agrees (m : Meaning) (p : Part) : Type 0 where
  pub names : m.own_name ≡ p.own_name
  pub erases : (scope : Scope) (basis : Basis) → Erased (m.typed scope basis) (p.resolved scope basis)
  -- what is just a name is checked as a name
  pub is_name : (scope : Scope) (basis : Basis) (name : List ℕ) → m.own_name ≡ Some name → (place : Place) × (m.typed scope basis ≡ component_typed (named scope basis name) place)

one-level : (m : Meaning) (p : Part) (next : Typed → Answer) (make : CheckedExpr → CheckedExpr) (scope : Scope) (basis : Basis) → Agrees m p → ((t : Typed) → Erased (next t) (Some (make (erased t.tree)))) → Erased (m.typed scope basis >>= next) (one make (p.resolved scope basis))
one-level m p next make scope basis h step = operand (m.typed scope basis) (p.resolved scope basis) next (one make) (h.erases scope basis) step

two-level : (m n : Meaning) (p q : Part) (next : Typed → Typed → Answer) (of : Resolved → Resolved → Resolved) (scope : Scope) (basis : Basis) → Agrees m p → Agrees n q → ((t u : Typed) → Erased (next t u) (of (Some (erased t.tree)) (Some (erased u.tree)))) → Erased (m.typed scope basis >>= (λ t. n.typed scope basis >>= next t)) (of (p.resolved scope basis) (q.resolved scope basis))
two-level m n p q next of scope basis h i step =
    operand (m.typed scope basis) (p.resolved scope basis) (λ t. n.typed scope basis >>= next t) (λ r. of r (q.resolved scope basis)) (h.erases scope basis)
    (λ t. operand (n.typed scope basis) (q.resolved scope basis) (next t) (of (Some (erased t.tree))) (i.erases scope basis) (step t))

-- a part that may be left out
abbrev given_resolved : Option Part → Scope → Basis → Option (Option CheckedExpr)
given_resolved o scope basis = if_given (option_map (λ p. p.resolved scope basis) o)

given-level : (mo : Option Meaning) (po : Option Part) (scope : Scope) (basis : Basis) → given_length Agrees mo po → (next : Option Typed → Answer) (of : Option CheckedExpr → CheckedExpr) → ((t : Option Typed) → Erased (next t) (Some (of (option_map tree_of t)))) → Erased (typed_if mo scope basis >>= next) (option_map of (given_resolved po scope basis))
unfolding Erased
given-level None None scope basis h next of step = step None
given-level None (Some p) scope basis h next of step = absurd h
given-level (Some m) None scope basis h next of step = absurd h
given-level (Some m) (Some p) scope basis h next of step = at (m.typed scope basis) (p.resolved scope basis) (h.erases scope basis)
  where
    at : (answer : Answer) (r : Resolved) → Erased answer r → Erased ((answer >>= (λ a. Ok (Some a))) >>= next) (option_map of (if_given (Some r)))
    at (Ok t) r e = subst (λ (s : Resolved). Erased (next (Some t)) (option_map of (if_given (Some s)))) (sym e) (step (Some t))
    at (Err refusal) r e = tt

member-level : (o : Option (List ℕ)) (m : Meaning) (name : List ℕ) (place : Place) (scope : Scope) (basis : Basis) → Erased (member_typed o m name place scope basis) (option_and_then (λ alias. component_of (member scope basis alias name)) o)
member-level None m name place scope basis = misplaced-erased (m ∷ []) place scope basis None
member-level (Some alias) m name place scope basis = component-erased (member scope basis alias name) place

-- an aggregate that isn't of a bare name has no tree
not_bare-erased : (f : AggregateFunction) (place : Place) (t : Typed) (r : Resolved) → Erased (aggregate_typed f false place t) r
unfolding Erased
not_bare-erased f place t r = after (joint place (aggregate_takes f) (t.kind ∷ [])) (λ kind. refused WrongStructure place) r (λ q e. tt)

any-next : (answer : Answer) (next : Typed → Answer) (r : Resolved) → ((t : Typed) → Erased (next t) r) → Erased (answer >>= next) r
unfolding Erased
any-next (Ok t) next r h = h t
any-next (Err refusal) next r h = tt

bare-erased : (f : AggregateFunction) (place : Place) (s : Slot) → Erased (aggregate_typed f true place (slot_typed s)) (Some (tree.Aggregate f s.number))
unfolding Erased
bare-erased f place s = after (joint place (aggregate_takes f) (Some s.kind ∷ [])) (λ kind. or_refused (component_number (tree.Component s.number)) WrongStructure place >>= (λ number. Ok (typed_as (aggregate_gives f kind) (tree.Aggregate f number)))) (Some (tree.Aggregate f s.number)) (λ q e.
    let number : component_number (tree.Component s.number) ≡ Some s.number = ap component_number (sym (tree.rolls-Component s.number)) ∙ ap number_step (out-roll-CheckedExpr (CheckedExpr-F.Component s.number)) in
    subst (λ (n : Option ℕ). Erased (or_refused n WrongStructure place >>= (λ number. Ok (typed_as (aggregate_gives f q) (tree.Aggregate f number)))) (Some (tree.Aggregate f s.number))) (sym number)
    (ap Some (sym (erased-rolled (CheckedExpr-F.Aggregate f s.number) (tree.rolls-Aggregate f s.number) ∙ tree.rolls-Aggregate f s.number))))

bare_name-erased : (f : AggregateFunction) (place place' : Place) (o : Option Slot) → Erased (component_typed o place' >>= aggregate_typed f true place) (option_map (λ s. tree.Aggregate f s.number) o)
unfolding Erased
bare_name-erased f place place' None = tt
bare_name-erased f place place' (Some s) = bare-erased f place s

aggregate-level : (f : AggregateFunction) (m : Meaning) (p : Part) (is_grouped : Bool) (place : Place) (scope : Scope) (basis : Basis) → Agrees m p → Erased (aggregate_at f m is_grouped place scope basis) (aggregate_of f is_grouped p.own_name scope basis)
aggregate-level f m p is_grouped place scope Point h = misplaced-erased (m ∷ []) place scope Point None
aggregate-level f m p true place scope Group h = at m.own_name
  where
    at : (o : Option (List ℕ)) → Erased (m.typed scope Point >>= aggregate_typed f (is_some o && false) place) None
    at None = any-next (m.typed scope Point) (aggregate_typed f false place) None (λ t. not_bare-erased f place t None)
    at (Some w) = any-next (m.typed scope Point) (aggregate_typed f false place) None (λ t. not_bare-erased f place t None)
aggregate-level f m p false place scope Group h =
    subst (λ (o : Option (List ℕ)). Erased (m.typed scope Point >>= aggregate_typed f (is_some m.own_name && true) place) (option_map (λ s. tree.Aggregate f s.number) (option_and_then (named scope Point) o))) h.names (at m.own_name refl)
  where
    at : (o : Option (List ℕ)) → m.own_name ≡ o → Erased (m.typed scope Point >>= aggregate_typed f (is_some o && true) place) (option_map (λ s. tree.Aggregate f s.number) (option_and_then (named scope Point) o))
    at None e = any-next (m.typed scope Point) (aggregate_typed f false place) None (λ t. not_bare-erased f place t None)
    at (Some w) e =
        let known = h.is_name scope Point w e in
        subst (λ (a : Answer). Erased (a >>= aggregate_typed f true place) (option_map (λ s. tree.Aggregate f s.number) (named scope Point w))) (sym known.1) (bare_name-erased f place known.0 (named scope Point w))

no_name : {m : Meaning} {p : Part} → m.own_name ≡ None → p.own_name ≡ None → ((scope : Scope) (basis : Basis) → Erased (m.typed scope basis) (p.resolved scope basis)) → Agrees m p
no_name e f h = record { names = e ∙ sym f; erases = h; is_name = λ scope basis name g. cc }

abbrev Level : Type 0
Level = Expr-F Place (Both Agrees) ⊤ ⊤ (Both Agrees) (BothRanges Agrees)

abbrev Going : Level → Type 0
Going z = Agrees (step (over-Expr {X = Boths Agrees} {Y = Meanings} (lefts Agrees) z)) (part_step (over-Expr {X = Boths Agrees} {Y = Parts} (rights Agrees) z))

goes : (z : Level) → Going z
unfolding Erased
goes (Expr-F.Literal v place) = no_name refl refl (λ scope basis. literal-erased v)
goes (Expr-F.Name name place) = record { names = refl; erases = λ scope basis. component-erased (named scope basis name) place; is_name = λ scope basis w e. let same : name ≡ w = cc in (place, ap (λ (n : List ℕ). component_typed (named scope basis n) place) same) }
goes (Expr-F.Bracket a place) = no_name refl refl (λ scope basis. a.agree.erases scope basis)
goes (Expr-F.Signed sign a place) = no_name refl refl (λ scope basis. one-level a.meaning a.part (unary_typed (prefix_operator sign) place) (tree.Unary (prefix_operator sign)) scope basis a.agree (unary-erased (prefix_operator sign) place))
goes (Expr-F.Unary f a place) = no_name refl refl (λ scope basis. one-level a.meaning a.part (unary_typed (unary_operator f) place) (tree.Unary (unary_operator f)) scope basis a.agree (unary-erased (unary_operator f) place))
goes (Expr-F.Or a sign b place) = no_name refl refl (λ scope basis. two-level a.meaning b.meaning a.part b.part (binary_typed (or_operator sign) place) (binary_of (or_operator sign)) scope basis a.agree b.agree (binary-erased (or_operator sign) place))
goes (Expr-F.And a b place) = no_name refl refl (λ scope basis. two-level a.meaning b.meaning a.part b.part (binary_typed binary.And place) (binary_of binary.And) scope basis a.agree b.agree (binary-erased binary.And place))
goes (Expr-F.Compare a sign b place) = no_name refl refl (λ scope basis. two-level a.meaning b.meaning a.part b.part (binary_typed (comparison_operator sign) place) (binary_of (comparison_operator sign)) scope basis a.agree b.agree (binary-erased (comparison_operator sign) place))
goes (Expr-F.Sum a sign b place) = no_name refl refl (λ scope basis. two-level a.meaning b.meaning a.part b.part (binary_typed (sum_operator sign) place) (binary_of (sum_operator sign)) scope basis a.agree b.agree (binary-erased (sum_operator sign) place))
goes (Expr-F.Product a sign b place) = no_name refl refl (λ scope basis. two-level a.meaning b.meaning a.part b.part (binary_typed (product_operator sign) place) (binary_of (product_operator sign)) scope basis a.agree b.agree (binary-erased (product_operator sign) place))
goes (Expr-F.Binary f a b place) = no_name refl refl (λ scope basis. two-level a.meaning b.meaning a.part b.part (function_typed f place) (function_of f) scope basis a.agree b.agree (function-erased f place))
goes (Expr-F.If c a b place) = no_name refl refl (λ scope basis.
    operand (c.meaning.typed scope basis) (c.part.resolved scope basis) (λ x. a.meaning.typed scope basis >>= (λ y. b.meaning.typed scope basis >>= if_typed place x y)) (λ r. three tree.If r (a.part.resolved scope basis) (b.part.resolved scope basis)) (c.agree.erases scope basis)
    (λ t. two-level a.meaning b.meaning a.part b.part (if_typed place t) (two (tree.If (erased t.tree))) scope basis a.agree b.agree (if-erased place t)))
goes (Expr-F.In a sign set place) = no_name refl refl (λ scope basis. one-level a.meaning a.part (in_typed sign set place) (λ x. tree.In x sign (map number_value set)) scope basis a.agree (in-erased sign set place))
goes (Expr-F.Between a low high place) = no_name refl refl (λ scope basis. one-level a.meaning a.part (between_typed low high place) (λ x. tree.Between x (number_value low) (number_value high)) scope basis a.agree (between-erased low high place))
goes (Expr-F.Round f a digits place) = no_name refl refl (λ scope basis. one-level a.meaning a.part (round_typed f digits place) (λ x. tree.Round f x digits) scope basis a.agree (round-erased f digits place))
goes (Expr-F.MatchCharacters a pattern place) = no_name refl refl (λ scope basis. one-level a.meaning a.part (matches_typed pattern place) (λ x. tree.Matches x pattern) scope basis a.agree (matches-erased pattern place))
goes (Expr-F.Typed sort a place) = no_name refl refl (λ scope basis. one-level a.meaning a.part (sort_typed sort place) (tree.OfSort sort) scope basis a.agree (sort-erased sort place))
goes (Expr-F.Substr a None place) = no_name refl refl (λ scope basis. one-level a.meaning a.part (λ x. substr_typed place x None None) (λ x. tree.Substr x None None) scope basis a.agree (λ t. substr-erased place t None None))
goes (Expr-F.Substr a (Some range) place) = no_name refl refl (λ scope basis.
    operand (a.meaning.typed scope basis) (a.part.resolved scope basis) (λ x. (range.meaning.start.typed scope basis >>= (λ y. Ok (Some y))) >>= (λ start. typed_if range.meaning.length scope basis >>= substr_typed place x start))
    (λ r. option_and_then (λ x. option_and_then (λ start. option_map (tree.Substr x start) (given_resolved range.part.length scope basis)) (option_map Some (range.part.start.resolved scope basis))) r) (a.agree.erases scope basis)
    (λ t. start (range.meaning.start.typed scope basis) (range.part.start.resolved scope basis) t (range.agree.start.erases scope basis) scope basis))
  where
    start : (answer : Answer) (r : Resolved) (t : Typed) → Erased answer r → (scope : Scope) (basis : Basis) → Erased ((answer >>= (λ y. Ok (Some y))) >>= (λ start. typed_if range.meaning.length scope basis >>= substr_typed place t start)) (option_and_then (λ start. option_map (tree.Substr (erased t.tree) start) (given_resolved range.part.length scope basis)) (option_map Some r))
    start (Ok s) r t e scope basis = subst (λ (q : Resolved). Erased (typed_if range.meaning.length scope basis >>= substr_typed place t (Some s)) (option_and_then (λ start. option_map (tree.Substr (erased t.tree) start) (given_resolved range.part.length scope basis)) (option_map Some q))) (sym e)
        (given-level range.meaning.length range.part.length scope basis range.agree.length (substr_typed place t (Some s)) (tree.Substr (erased t.tree) (Some (erased s.tree))) (substr-erased place t (Some s)))
    start (Err refusal) r t e scope basis = tt
goes (Expr-F.Replace a old None place) = no_name refl refl (λ scope basis. two-level a.meaning old.meaning a.part old.part (λ x y. replace_typed place x y None) (λ r s. option_and_then (λ x. option_and_then (λ y. Some (tree.Replace x y None)) s) r) scope basis a.agree old.agree (λ t u. replace-erased place t u None))
goes (Expr-F.Replace a old (Some by) place) = no_name refl refl (λ scope basis. two-level a.meaning old.meaning a.part old.part (λ x y. typed_if (Some by.meaning) scope basis >>= replace_typed place x y) (λ r s. option_and_then (λ x. option_and_then (λ y. option_map (tree.Replace x y) (given_resolved (Some by.part) scope basis)) s) r) scope basis a.agree old.agree
    (λ t u. given-level (Some by.meaning) (Some by.part) scope basis by.agree (replace_typed place t u) (tree.Replace (erased t.tree) (erased u.tree)) (replace-erased place t u)))
goes (Expr-F.Member a name place) = no_name refl refl (λ scope basis.
    subst (λ (o : Option (List ℕ)). Erased (member_typed a.meaning.own_name a.meaning name place scope basis) (option_and_then (λ alias. component_of (member scope basis alias name)) o)) a.agree.names (member-level a.meaning.own_name a.meaning name place scope basis))
goes (Expr-F.Aggregate f a None place) = no_name refl refl (λ scope basis. aggregate-level f a.meaning a.part false place scope basis a.agree)
goes (Expr-F.Aggregate f a (Some g) place) = no_name refl refl (λ scope basis. aggregate-level f a.meaning a.part true place scope basis a.agree)
goes (Expr-F.CountAll place) = no_name refl refl (λ scope basis. count-erased place basis)
goes (Expr-F.Clause a clause place) = no_name refl refl (λ scope basis. misplaced-erased (a.meaning ∷ []) clause scope basis None)
goes (Expr-F.ExistsIn a b rows place) = no_name refl refl (λ scope basis. misplaced-erased (a.meaning ∷ b.meaning ∷ []) place scope basis None)
goes (Expr-F.Sets f a b others place) = no_name refl refl (λ scope basis. misplaced-erased (a.meaning ∷ b.meaning ∷ map (λ (o : Both Agrees). o.meaning) others) place scope basis None)
goes (Expr-F.Difference f a b place) = no_name refl refl (λ scope basis. misplaced-erased (a.meaning ∷ b.meaning ∷ []) place scope basis None)
goes (Expr-F.Join f a b others filter calc keep rename place) = no_name refl refl (λ scope basis. misplaced-erased (a.meaning ∷ b.meaning ∷ map (λ (o : Both Agrees). o.meaning) others) place scope basis None)
goes (Expr-F.Window f a over place) = no_name refl refl (λ scope basis. misplaced-erased (a.meaning ∷ []) place scope basis None)
goes (Expr-F.Offset f a offset over place) = no_name refl refl (λ scope basis. misplaced-erased (a.meaning ∷ []) place scope basis None)
goes (Expr-F.Rank over place) = no_name refl refl (λ scope basis. misplaced-erased [] place scope basis None)
goes (Expr-F.CheckDatapoint a rules rules_place output place) = no_name refl refl (λ scope basis. misplaced-erased (a.meaning ∷ []) place scope basis None)
goes (Expr-F.Hierarchy a rules rules_place component mode input output place) = no_name refl refl (λ scope basis. misplaced-erased (a.meaning ∷ []) place scope basis None)
goes (Expr-F.CheckHierarchy a rules rules_place component mode input output place) = no_name refl refl (λ scope basis. misplaced-erased (a.meaning ∷ []) place scope basis None)
goes (Expr-F.Check a code level None output place) = no_name refl refl (λ scope basis. misplaced-erased (a.meaning ∷ []) place scope basis None)
goes (Expr-F.Check a code level (Some i) output place) = no_name refl refl (λ scope basis. misplaced-erased (a.meaning ∷ i.meaning ∷ []) place scope basis None)
goes (Expr-F.Time f a place) = no_name refl refl (λ scope basis. misplaced-erased (a.meaning ∷ []) place scope basis None)
goes (Expr-F.Timeshift a shift place) = no_name refl refl (λ scope basis. misplaced-erased (a.meaning ∷ []) place scope basis None)
goes (Expr-F.FillTimeSeries a span place) = no_name refl refl (λ scope basis. misplaced-erased (a.meaning ∷ []) place scope basis None)
goes (Expr-F.CallOf name arguments place) = no_name refl refl (λ scope basis. misplaced-erased (map (λ (o : Both Agrees). o.meaning) arguments) place scope basis None)

pub erasing : (scope : Scope) (basis : Basis) (e : Expr) (t : Typed) → typed scope basis e ≡ Ok t → resolved scope basis e ≡ Some (erased t.tree)
erasing scope basis e t h = told (typed scope basis e) (resolved scope basis e) t ((related Agrees goes e).erases scope basis) h
