-- Well typed expressions keep their kinds.
use Rattle.std.proofs.Common.{◌≡◌, ℕ, Bool, true, false, not, ◌&&◌, if◌then◌else◌, List, Option, Some, None, IfSome, option_map, option_and_then, find, refl, sym, ap, subst, ◌∙◌, zero, suc, [], ◌∷◌, ◌++◌, slice_get}
use Rattle.std.specs.List.{list_all, AllZip}
use Rattle.std.specs.Option.{option_map_or, unwrap_or}
use Rattle.vtl_values.specs.declared.kind.Kind.{Kind}
use Rattle.vtl_values.specs.declared.kind.Kind.TheVariants.{Integer, Number, Text, Truth}
use Rattle.vtl_values.specs.Texts.{Fits}
use Rattle.vtl_values.specs.declared.value.Value.{Value}
use Rattle.vtl_values.specs.declared.value.Value.TheVariants.{Null}
use Rattle.scalar_texts.specs.Patterns.{is_pattern}
use Rattle.scalar_trees.specs.declared.tree.CheckedExpr.{map-CheckedExpr}
use Rattle.scalar_trees.specs.declared.tree.CheckedExpr.TheOpen.{CheckedExpr-F}
use Rattle.scalar_trees.specs.Kinds.{ANY, unary_takes, unary_gives, binary_takes, binary_gives, aggregate_takes, aggregate_gives, round_gives, sort_takes, number_value}
use Rattle.scalar_trees.specs.WellTyped.{Kinds, is_kind, is_some_kind, is_of_set, fits, digits_fit, given, same, truth, typed_step}
use Rattle.vtl_syntax.specs.declared.words.AggregateFunction.{AggregateFunction}
use Rattle.scalar_trees.specs.declared.typing.scope.Basis.TheVariants.{Point}
use Rattle.scalar_trees.specs.declared.typing.scope.Column.{Column}
use Rattle.scalar_trees.specs.typing.Scopes.{kind_at, seen_slot}
use Rattle.scalar_trees.proofs.typing.Sound.{is_kind-refl, is_kind-same, left, right, found-passes}
use Rattle.scalar_meaning.specs.Comparisons.{is_null, between, membership}
use Rattle.scalar_meaning.specs.Logic.{holds}
use Rattle.scalar_meaning.specs.Numbers.{rounded}
use Rattle.scalar_meaning.specs.Texts.{part_of, replacing, matching}
use Rattle.scalar_meaning.specs.Operators.{unary_value, binary_value}
use Rattle.scalar_meaning.specs.Scalars.{if_given, meaning_step, meaning}
use Rattle.scalar_meaning.specs.Rows.{Row}
use Rattle.scalar_meaning.specs.Kept.{IsRowOf, KeepsKinds, PointsAreRows}
use Rattle.scalar_meaning.proofs.Fitting.{Passes, passes, fitting}
use Rattle.scalar_meaning.proofs.Related.{Both, related}
use Rattle.scalar_meaning.proofs.Operators.{truth-fits, widened-fits, rounded-fits, membership-fits, part-fits, replacing-fits, matching-fits, unary-fits, binary-fits}

-- where a part is of a kind its value fits that kind
abbrev Kept : (Kind → Bool) → Option Value → Type 0
Kept is value = (k : Kind) → is k ≡ true → IfSome value (Passes k)

abbrev Part : Type 0
Part = Both (Kind → Bool) (Option Value) Kept

-- what follows a value, or is made of it
then-has : {A B : Type 0} (P : A → Type 0) (Q : B → Type 0) (f : A → Option B) (o : Option A) → IfSome o P → ((x : A) → P x → IfSome (f x) Q) → IfSome (option_and_then f o) Q
then-has P Q f None h step = tt
then-has P Q f (Some x) h step = step x h

then-any : {A B : Type 0} (Q : B → Type 0) (f : A → Option B) (o : Option A) → ((x : A) → IfSome (f x) Q) → IfSome (option_and_then f o) Q
then-any Q f None step = tt
then-any Q f (Some x) step = step x

map-has : {A B : Type 0} (P : A → Type 0) (Q : B → Type 0) (f : A → B) (o : Option A) → IfSome o P → ((x : A) → P x → Q (f x)) → IfSome (option_map f o) Q
map-has P Q f None h step = tt
map-has P Q f (Some x) h step = step x h

map-any : {A B : Type 0} (Q : B → Type 0) (f : A → B) (o : Option A) → ((x : A) → Q (f x)) → IfSome (option_map f o) Q
map-any Q f None step = tt
map-any Q f (Some x) step = step x

if-passes : (o : Option Value) (k : Kind) → IfSome o (Fits k) → IfSome o (Passes k)
if-passes None k h = tt
if-passes (Some v) k h = passes k v h

if-fits : (o : Option Value) (k : Kind) → IfSome o (Passes k) → IfSome o (Fits k)
if-fits None k h = tt
if-fits (Some v) k h = fitting k v h

-- a kind that an operator takes and at which its operands stand, and what it gives of it
given-at : (gives : Kind → Kind) (stand : Kind → Bool) (takes : List Kind) (k : Kind) → given gives stand takes k ≡ true → (q : Kind) × (stand q ≡ true) × (gives q ≡ k)
given-at gives stand takes k h = at (find stand takes) refl h
  where
    at : (o : Option Kind) → find stand takes ≡ o → is_some_kind k (option_map gives o) ≡ true → (q : Kind) × (stand q ≡ true) × (gives q ≡ k)
    at None e i = cc
    at (Some q) e i = (q, found-passes stand takes q e, is_kind-same (gives q) k i)

-- as the kind that is given
as-given : {q k : Kind} (o : Option Value) → q ≡ k → IfSome o (Passes q) → IfSome o (Passes k)
as-given {q} {k} o e h = subst (λ (z : Kind). IfSome o (Passes z)) e h

chosen : (b : Bool) (k : Kind) (o p : Option Value) → IfSome o (Passes k) → IfSome p (Passes k) → IfSome (if b then o else p) (Passes k)
chosen true k o p h i = h
chosen false k o p h i = i

-- the two forms whose operands may be left out
cut_at : (is : Kind → Bool) (others : Bool) (k : Kind) (a : Option Value) (start count : Option (Option Value)) → ((is Text && others) && is_kind Text k) ≡ true → IfSome (option_and_then (λ x. option_and_then (λ s. option_map (part_of x s) count) start) a) (Passes k)
cut_at is others k a start count h =
    as-given (option_and_then (λ x. option_and_then (λ s. option_map (part_of x s) count) start) a) (is_kind-same Text k (right (is Text && others) (is_kind Text k) h))
    (then-any (Passes Text) (λ x. option_and_then (λ s. option_map (part_of x s) count) start) a (λ x. then-any (Passes Text) (λ s. option_map (part_of x s) count) start (λ s. map-any (Passes Text) (part_of x s) count (part-fits x s))))

replaced_at : (is : Kind → Bool) (others : Bool) (k : Kind) (a old : Option Value) (new : Option (Option Value)) → ((is Text && others) && is_kind Text k) ≡ true → IfSome (option_and_then (λ x. option_and_then (λ o. option_map (replacing x o) new) old) a) (Passes k)
replaced_at is others k a old new h =
    as-given (option_and_then (λ x. option_and_then (λ o. option_map (replacing x o) new) old) a) (is_kind-same Text k (right (is Text && others) (is_kind Text k) h))
    (then-any (Passes Text) (λ x. option_and_then (λ o. option_map (replacing x o) new) old) a (λ x. then-any (Passes Text) (λ o. option_map (replacing x o) new) old (λ o. map-any (Passes Text) (replacing x o) new (replacing-fits x o))))

module _ (kinds : Kinds) (row : Row) (fit : IsRowOf kinds row) where
  aggregate-fits : (f : AggregateFunction) (n : ℕ) (k : Kind) → option_map_or (λ own. given (aggregate_gives f) (is_kind own) (aggregate_takes f) k) (kinds.aggregated n) false ≡ true → IfSome (row.aggregated f n) (Passes k)
  aggregate-fits f n k h = at (kinds.aggregated n) refl h
    where
      at : (o : Option Kind) → kinds.aggregated n ≡ o → option_map_or (λ own. given (aggregate_gives f) (is_kind own) (aggregate_takes f) k) o false ≡ true → IfSome (row.aggregated f n) (Passes k)
      at None e i = cc
      at (Some own) e i = if-passes (row.aggregated f n) k (fit.aggregated f n own k (subst (λ o. is_some_kind own o ≡ true) (sym e) (is_kind-refl own)) i)

  -- at each level
  step-keeps : (y : CheckedExpr-F Part) → Kept (typed_step kinds (map-CheckedExpr Part (Kind → Bool) (λ e. e.first) y)) (meaning_step row (map-CheckedExpr Part (Option Value) (λ e. e.second) y))
  step-keeps (CheckedExpr-F.Literal v) k h = h
  step-keeps (CheckedExpr-F.Component n) k h = passes k (row.component n) (fit.component n k h)
  step-keeps (CheckedExpr-F.Widened a) k h =
      let test = a.first Integer && not (a.first Number) in
      as-given (option_map number_value a.second) (is_kind-same Number k (right test (is_kind Number k) h))
      (map-has (Passes Integer) (Passes Number) number_value a.second (a.agree Integer (left (a.first Integer) (not (a.first Number)) (left test (is_kind Number k) h))) widened-fits)
  step-keeps (CheckedExpr-F.Unary o a) k h =
      let q = given-at (unary_gives o) a.first (unary_takes o) k h in
      as-given (option_and_then (unary_value o) a.second) q.2
      (then-has (Passes q.0) (Passes (unary_gives o q.0)) (unary_value o) a.second (a.agree q.0 q.1) (unary-fits o q.0))
  step-keeps (CheckedExpr-F.Binary o a b) k h =
      let q = given-at (binary_gives o) (λ r. a.first r && b.first r) (binary_takes o) k h in
      as-given (option_and_then (λ x. option_and_then (binary_value o x) b.second) a.second) q.2
      (then-has (Passes q.0) (Passes (binary_gives o q.0)) (λ x. option_and_then (binary_value o x) b.second) a.second (a.agree q.0 (left (a.first q.0) (b.first q.0) q.1))
      (λ x i. then-has (Passes q.0) (Passes (binary_gives o q.0)) (binary_value o x) b.second (b.agree q.0 (right (a.first q.0) (b.first q.0) q.1)) (λ y j. binary-fits o q.0 x y i j)))
  step-keeps (CheckedExpr-F.Nvl a b) k h =
      let q = given-at same (λ r. a.first r && b.first r) ANY k h in
      as-given (option_and_then (λ x. if is_null x then b.second else Some x) a.second) q.2
      (then-has (Passes q.0) (Passes q.0) (λ x. if is_null x then b.second else Some x) a.second (a.agree q.0 (left (a.first q.0) (b.first q.0) q.1))
      (λ x i. chosen (is_null x) q.0 b.second (Some x) (b.agree q.0 (right (a.first q.0) (b.first q.0) q.1)) i))
  step-keeps (CheckedExpr-F.If c a b) k h =
      let q = given-at same (λ r. a.first r && b.first r) ANY k (right (c.first Truth) (given same (λ r. a.first r && b.first r) ANY k) h) in
      as-given (option_and_then (λ x. if holds x then a.second else b.second) c.second) q.2
      (then-any (Passes q.0) (λ x. if holds x then a.second else b.second) c.second
      (λ x. chosen (holds x) q.0 a.second b.second (a.agree q.0 (left (a.first q.0) (b.first q.0) q.1)) (b.agree q.0 (right (a.first q.0) (b.first q.0) q.1))))
  step-keeps (CheckedExpr-F.In a sign set) k h =
      let q = given-at truth (λ r. a.first r && list_all (is_of_set r) set) ANY k h in
      as-given (option_map (membership sign set) a.second) q.2 (map-any (Passes Truth) (membership sign set) a.second (membership-fits sign set))
  step-keeps (CheckedExpr-F.Between a low high) k h =
      let q = given-at truth (λ r. a.first r && (fits r low && fits r high)) ANY k h in
      as-given (option_map (λ x. between x low high) a.second) q.2 (map-any (Passes Truth) (λ x. between x low high) a.second (λ x. truth-fits _))
  step-keeps (CheckedExpr-F.Round f a digits) k h =
      let test = a.first Number && digits_fit digits in
      let fit = left test (is_kind (round_gives digits) k) h in
      as-given (option_map (rounded f digits) a.second) (is_kind-same (round_gives digits) k (right test (is_kind (round_gives digits) k) h))
      (map-has (Passes Number) (Passes (round_gives digits)) (rounded f digits) a.second (a.agree Number (left (a.first Number) (digits_fit digits) fit)) (λ x i. rounded-fits f digits x (right (a.first Number) (digits_fit digits) fit) i))
  step-keeps (CheckedExpr-F.Substr a None None) k h = cut_at a.first true k a.second (Some None) (Some None) h
  step-keeps (CheckedExpr-F.Substr a (Some b) None) k h = cut_at a.first (b.first Integer && true) k a.second (if_given (Some b.second)) (Some None) h
  step-keeps (CheckedExpr-F.Substr a None (Some c)) k h = cut_at a.first (c.first Integer) k a.second (Some None) (if_given (Some c.second)) h
  step-keeps (CheckedExpr-F.Substr a (Some b) (Some c)) k h = cut_at a.first (b.first Integer && c.first Integer) k a.second (if_given (Some b.second)) (if_given (Some c.second)) h
  step-keeps (CheckedExpr-F.Replace a b None) k h = replaced_at a.first (b.first Text && true) k a.second b.second (Some None) h
  step-keeps (CheckedExpr-F.Replace a b (Some c)) k h = replaced_at a.first (b.first Text && c.first Text) k a.second b.second (if_given (Some c.second)) h
  step-keeps (CheckedExpr-F.Matches a pattern) k h =
      as-given (option_map (matching pattern) a.second) (is_kind-same Truth k (right (a.first Text && is_pattern pattern) (is_kind Truth k) h)) (map-any (Passes Truth) (matching pattern) a.second (matching-fits pattern))
  step-keeps (CheckedExpr-F.OfSort sort a) k h =
      let q = given-at same a.first (sort_takes sort) k h in
      as-given a.second q.2 (a.agree q.0 q.1)
  step-keeps (CheckedExpr-F.Aggregate f n) k h = aggregate-fits f n k h
  step-keeps CheckedExpr-F.CountAll k h =
      as-given (Some row.counted) (is_kind-same Integer k (right kinds.counted (is_kind Integer k) h)) (passes Integer row.counted (fit.counted (left kinds.counted (is_kind Integer k) h)))

pub kinds-kept : KeepsKinds
kinds-kept expr kinds row k h fit = if-fits (meaning row expr) k (related (Kind → Bool) (Option Value) Kept (typed_step kinds) (meaning_step row) (step-keeps kinds row fit) expr k h)

-- ---- points

-- the number of a column doesn't count for its kind
kind-same : (o : Option Column) (m n : ℕ) → option_map (λ s. s.kind) (option_and_then (seen_slot Point m) o) ≡ option_map (λ s. s.kind) (option_and_then (seen_slot Point n) o)
kind-same None m n = refl
kind-same (Some c) m n = refl

point-fits : (columns : List Column) (values : List Value) → AllZip (λ c v. Fits c.kind v) columns values → (n : ℕ) (k : Kind) → is_some_kind k (kind_at columns Point n) ≡ true → Fits k (unwrap_or (slice_get values n) Null)
point-fits [] [] h n k i = cc
point-fits [] (v ∷ vs) h n k i = absurd h
point-fits (c ∷ cs) [] h n k i = absurd h
point-fits (c ∷ cs) (v ∷ vs) h zero k i = subst (λ (q : Kind). Fits q v) (is_kind-same c.kind k i) h.0
point-fits (c ∷ cs) (v ∷ vs) h (suc n) k i = point-fits cs vs h.1 n k (ap (is_some_kind k) (kind-same (slice_get cs n) n (suc n)) ∙ i)

pub points-are-rows : PointsAreRows
points-are-rows columns key rest h = record {
  component = λ n k i. point-fits columns (key ++ rest) h n k i;
  aggregated = λ f n own k i j. cc;
  counted = λ i. cc;
}
