-- What a scalar expression is checked to be, on a point or on a group, is well typed, where its literals are in range.
use Rattle.std.proofs.Common.{◌≡◌, ℕ, Bool, true, false, List, [], ◌∷◌, Option, Some, None, map, Result, Ok, Err, refl, sym, subst, ◌∙◌}
use Rattle.std.specs.Prelude.{◌&&◌, not, is_some, ⊤}
use Rattle.std.specs.List.{list_all}
use Rattle.vtl_values.specs.declared.place.Place.{Place}
use Rattle.vtl_values.specs.declared.value.Value.{Value}
use Rattle.vtl_syntax.specs.declared.expr.Clause.{Clause, fold-Clause}
use Rattle.vtl_syntax.specs.declared.expr.Clause.TheOpen.{Expr-F, SubstrRange-F}
use Rattle.vtl_syntax.specs.declared.expr.Expr.{Expr, roll-Expr, fold-roll-Expr, ind-Expr}
use Rattle.vtl_syntax.specs.declared.expr.Groups.{Groups, fold-Groups}
use Rattle.vtl_syntax.specs.declared.expr.Item.{Item, fold-Item}
use Rattle.vtl_syntax.specs.declared.expr.JoinOperand.{JoinOperand, fold-JoinOperand}
use Rattle.vtl_syntax.specs.declared.expr.SubstrRange.{SubstrRange, roll-SubstrRange, fold-SubstrRange, fold-roll-SubstrRange}
use Rattle.vtl_syntax.specs.declared.words.AggregateFunction.{AggregateFunction}
use Rattle.scalar_trees.specs.declared.operators.BinaryOperator.{BinaryOperator}
use Rattle.scalar_trees.specs.declared.operators.BinaryOperator.TheVariants as binary
use Rattle.scalar_trees.specs.WellTyped.{Kinds, in_range}
use Rattle.scalar_trees.specs.declared.typing.scope.Basis.{Basis}
use Rattle.scalar_trees.specs.declared.typing.scope.Basis.TheVariants.{Point, Group}
use Rattle.scalar_trees.specs.declared.typing.scope.Scope.{Scope}
use Rattle.scalar_trees.specs.declared.typing.stop.Fault.TheVariants.{WrongStructure}
use Rattle.scalar_trees.specs.declared.typing.stop.Refusal.{Refusal}
use Rattle.scalar_trees.specs.declared.typing.typed.Typed.{Typed}
use Rattle.scalar_trees.specs.typing.Operators.{prefix_operator, unary_operator, or_operator, sum_operator, product_operator, comparison_operator}
use Rattle.scalar_trees.specs.typing.Scopes.{kinds_of}
use Rattle.scalar_trees.specs.typing.Scalars.{Answer, Meaning, RangeMeaning, literal_typed, unary_typed, binary_typed, function_typed, if_typed, in_typed, between_typed, round_typed, substr_typed, replace_typed, matches_typed, sort_typed, aggregate_typed, aggregate_at, visited, misplaced, typed_if, member_typed, clause_place, step, typed_step, operand_step, range_step, meaning, operand_meaning, typed}
use Rattle.scalar_trees.specs.typing.Sound.{IsTyped, IsTypedIf}
use Rattle.scalar_trees.specs.typing.Steps.{◌>>=◌, refused}
use Rattle.scalar_trees.proofs.typing.Folds.{Trees, Meanings}
use Rattle.scalar_trees.proofs.typing.Levels.{Family, Maps, over-Expr, over-SubstrRange}
use Rattle.scalar_trees.proofs.typing.Sound.{left, right, unary-typed, binary-typed, function-typed, if-typed, round-typed, matches-typed, substr-typed, replace-typed, sort-typed}
use Rattle.scalar_trees.proofs.typing.SoundSets.{literal-typed, in-typed, between-typed}
use Rattle.scalar_trees.proofs.typing.SoundNames.{named-typed, member-typed, count-typed, aggregate-typed}
use Rattle.literal_ranges.specs.Ranges.{range_step as ranged, clause_range_step, item_range_step, operand_range_step, part_range_step, groups_range_step, literals_in_range, clause_in_range, groups_in_range, item_in_range, part_in_range}

-- what steps gave that gave something
pub gave : {A B : Type 0} (m : Result A Refusal) (next : A → Result B Refusal) (y : B) → (m >>= next) ≡ Ok y → (x : A) × (m ≡ Ok x) × (next x ≡ Ok y)
gave (Ok x) next y is = (x, refl, is)
gave (Err refusal) next y is = cc

-- what is answered is this
pub answered : {A : Type 0} (x y : A) → ◌≡◌ {A = Result A Refusal} (Ok x) (Ok y) → x ≡ y
answered x y e = cc

-- what is answered is well typed
abbrev pub Gives : Kinds → Answer → Type 0
Gives kinds answer = (t : Typed) → answer ≡ Ok t → IsTyped kinds t

-- the kinds that names have in a scope, on this basis
abbrev pub on_basis : Scope → Basis → Kinds
on_basis scope basis = kinds_of scope.columns basis

abbrev pub GivesIf : Scope → Basis → Option Meaning → Type 0
GivesIf scope basis None = ⊤
GivesIf scope basis (Some m) = Gives (on_basis scope basis) (m.typed scope basis)

-- what is refused is no answer
pub refused-never : {A B : Type 0} (m : Result A Refusal) (place : Place) (b : B) → (m >>= (λ met. refused {A = B} WrongStructure place)) ≡ Ok b → ⊥
refused-never (Ok x) place b e = cc
refused-never (Err refusal) place b e = cc

-- ---- operands

module _ (kinds : Kinds) where
  pub one : (m : Answer) (next : Typed → Answer) → Gives kinds m → ((a : Typed) → IsTyped kinds a → Gives kinds (next a)) → Gives kinds (m >>= next)
  one m next h then t e = let x = gave m next t e in then x.0 (h x.0 x.1) t x.2

  pub two : (m n : Answer) (next : Typed → Typed → Answer) → Gives kinds m → Gives kinds n → ((a b : Typed) → IsTyped kinds a → IsTyped kinds b → Gives kinds (next a b)) → Gives kinds (m >>= (λ a. n >>= next a))
  two m n next h i then = one m (λ a. n >>= next a) h (λ a f. one n (next a) i (λ b g. then a b f g))

  literal : (v : Value) → in_range v ≡ true → Gives kinds (Ok (literal_typed v))
  literal v h t e = subst (IsTyped kinds) (answered (literal_typed v) t e) (literal-typed kinds v h)

misplaced-gives : (ms : List Meaning) (place : Place) (scope : Scope) (basis : Basis) → Gives (on_basis scope basis) (misplaced ms place scope basis)
misplaced-gives ms place scope basis t e = absurd (refused-never (visited ms scope basis) place t e)

given-typed : (scope : Scope) (basis : Basis) (o : Option Meaning) (u : Option Typed) → GivesIf scope basis o → typed_if o scope basis ≡ Ok u → IsTypedIf (on_basis scope basis) u
given-typed scope basis None u h e = subst (IsTypedIf (on_basis scope basis)) (answered None u e) tt
given-typed scope basis (Some m) u h e =
    let x = gave (m.typed scope basis) (λ a. Ok (Some a)) u e in
    subst (IsTypedIf (on_basis scope basis)) (answered (Some x.0) u x.2) (h x.0 x.1)

-- after an operand that may be left out
given : (scope : Scope) (basis : Basis) (o : Option Meaning) (next : Option Typed → Answer) → GivesIf scope basis o → ((u : Option Typed) → IsTypedIf (on_basis scope basis) u → Gives (on_basis scope basis) (next u)) → Gives (on_basis scope basis) (typed_if o scope basis >>= next)
given scope basis o next h then t e = let x = gave (typed_if o scope basis) next t e in then x.0 (given-typed scope basis o x.0 h x.1) t x.2

member-gives : (o : Option (List ℕ)) (m : Meaning) (name : List ℕ) (place : Place) (scope : Scope) (basis : Basis) → Gives (on_basis scope basis) (member_typed o m name place scope basis)
member-gives None m name place scope basis = misplaced-gives (m ∷ []) place scope basis
member-gives (Some alias) m name place scope basis = λ t e. member-typed scope basis alias name place (Ok t) e

-- ---- one level

abbrev Good : Expr → Type 0
Good e = literals_in_range e ≡ true → (scope : Scope) (basis : Basis) → Gives (on_basis scope basis) ((meaning e).typed scope basis)

abbrev range_meaning : SubstrRange → RangeMeaning
range_meaning = fold-SubstrRange Place Meaning ⊤ ⊤ Meaning RangeMeaning clause_place step (λ groups. tt) (λ item. tt) operand_step range_step

abbrev GoodRange : RangeMeaning → Type 0
GoodRange m = (scope : Scope) (basis : Basis) → Gives (on_basis scope basis) (m.start.typed scope basis) × GivesIf scope basis m.length

abbrev Such : Family
Such = record { of_Clause = (c : Clause) × ⊤; of_Expr = (e : Expr) × Good e; of_Groups = (g : Groups) × ⊤; of_Item = (i : Item) × ⊤; of_JoinOperand = (o : JoinOperand) × ⊤; of_SubstrRange = (r : SubstrRange) × (part_in_range r ≡ true → GoodRange (range_meaning r)) }

abbrev SuchRange : Type 0
SuchRange = SubstrRange-F Such.of_Clause Such.of_Expr Such.of_Groups Such.of_Item Such.of_JoinOperand Such.of_SubstrRange

abbrev firsts : Maps Such Trees
firsts = record { on_Clause = λ s. s.0; on_Expr = λ s. s.0; on_Groups = λ s. s.0; on_Item = λ s. s.0; on_JoinOperand = λ s. s.0; on_SubstrRange = λ s. s.0 }

abbrev meanings : Maps Trees Meanings
meanings = record {
  on_Clause = fold-Clause Place Meaning ⊤ ⊤ Meaning RangeMeaning clause_place step (λ groups. tt) (λ item. tt) operand_step range_step;
  on_Expr = meaning;
  on_Groups = fold-Groups Place Meaning ⊤ ⊤ Meaning RangeMeaning clause_place step (λ groups. tt) (λ item. tt) operand_step range_step;
  on_Item = fold-Item Place Meaning ⊤ ⊤ Meaning RangeMeaning clause_place step (λ groups. tt) (λ item. tt) operand_step range_step;
  on_JoinOperand = operand_meaning;
  on_SubstrRange = range_meaning;
}

abbrev pub Truths : Family
Truths = record { of_Clause = Bool; of_Expr = Bool; of_Groups = Bool; of_Item = Bool; of_JoinOperand = Bool; of_SubstrRange = Bool }

-- whether the literals in each part are in range
abbrev pub ranges : Maps Trees Truths
ranges = record {
  on_Clause = clause_in_range;
  on_Expr = literals_in_range;
  on_Groups = groups_in_range;
  on_Item = item_in_range;
  on_JoinOperand = fold-JoinOperand Bool Bool Bool Bool Bool Bool clause_range_step ranged groups_range_step item_range_step operand_range_step part_range_step;
  on_SubstrRange = part_in_range;
}

pub level-in_range : (x : Expr-F Clause Expr Groups Item JoinOperand SubstrRange) → literals_in_range (roll-Expr x) ≡ ranged (over-Expr {X = Trees} {Y = Truths} ranges x)
level-in_range x = fold-roll-Expr Bool Bool Bool Bool Bool Bool clause_range_step ranged groups_range_step item_range_step operand_range_step part_range_step x

pub part-in_range : (x : SubstrRange-F Clause Expr Groups Item JoinOperand SubstrRange) → part_in_range (roll-SubstrRange x) ≡ part_range_step (over-SubstrRange {X = Trees} {Y = Truths} ranges x)
part-in_range x = fold-roll-SubstrRange Bool Bool Bool Bool Bool Bool clause_range_step ranged groups_range_step item_range_step operand_range_step part_range_step x

abbrev at_point : Such.of_Expr → Scope → Basis → Answer
at_point a scope basis = (meaning a.0).typed scope basis

abbrev good : Such.of_Expr → Bool
good a = literals_in_range a.0

two-operands : (a b : Such.of_Expr) (next : Typed → Typed → Answer) (scope : Scope) (basis : Basis) → (good a && good b) ≡ true → ((x y : Typed) → IsTyped (on_basis scope basis) x → IsTyped (on_basis scope basis) y → Gives (on_basis scope basis) (next x y)) → Gives (on_basis scope basis) (at_point a scope basis >>= (λ x. at_point b scope basis >>= next x))
two-operands a b next scope basis r then = two (on_basis scope basis) (at_point a scope basis) (at_point b scope basis) next (a.1 (left (good a) (good b) r) scope basis) (b.1 (right (good a) (good b) r) scope basis) then

binary-level : (o : BinaryOperator) (place : Place) (a b : Such.of_Expr) (scope : Scope) (basis : Basis) → (good a && good b) ≡ true → Gives (on_basis scope basis) (at_point a scope basis >>= (λ x. at_point b scope basis >>= binary_typed o place x))
binary-level o place a b scope basis r = two-operands a b (binary_typed o place) scope basis r (λ x y f g t e. binary-typed (on_basis scope basis) o place x y (Ok t) e f g)

-- an aggregate on a group, of an operand on its points
aggregated : (f : AggregateFunction) (a : Such.of_Expr) (is_grouped : Bool) (place : Place) (scope : Scope) → good a ≡ true → Gives (on_basis scope Group) (aggregate_at f (meaning a.0) is_grouped place scope Group)
aggregated f a is_grouped place scope r t e =
    let is_bare = is_some (meaning a.0).own_name && not is_grouped in
    let x = gave (at_point a scope Point) (aggregate_typed f is_bare place) t e in
    aggregate-typed scope.columns f is_bare place x.0 (Ok t) x.2 (a.1 r scope Point x.0 x.1)

level : (y : Expr-F Such.of_Clause Such.of_Expr Such.of_Groups Such.of_Item Such.of_JoinOperand Such.of_SubstrRange) → ranged (over-Expr {X = Trees} {Y = Truths} ranges (over-Expr {X = Such} {Y = Trees} firsts y)) ≡ true → (scope : Scope) (basis : Basis) → Gives (on_basis scope basis) (typed_step (over-Expr {X = Trees} {Y = Meanings} meanings (over-Expr {X = Such} {Y = Trees} firsts y)) scope basis)
level (Expr-F.Literal v place) r scope basis = literal (on_basis scope basis) v r
level (Expr-F.Name name place) r scope basis = λ t e. named-typed scope basis name place (Ok t) e
level (Expr-F.Bracket a place) r scope basis = a.1 r scope basis
level (Expr-F.Signed sign a place) r scope basis = one (on_basis scope basis) (at_point a scope basis) (unary_typed (prefix_operator sign) place) (a.1 r scope basis) (λ x h t e. unary-typed (on_basis scope basis) (prefix_operator sign) place x (Ok t) e h)
level (Expr-F.Unary f a place) r scope basis = one (on_basis scope basis) (at_point a scope basis) (unary_typed (unary_operator f) place) (a.1 r scope basis) (λ x h t e. unary-typed (on_basis scope basis) (unary_operator f) place x (Ok t) e h)
level (Expr-F.Or a sign b place) r scope basis = binary-level (or_operator sign) place a b scope basis r
level (Expr-F.And a b place) r scope basis = binary-level binary.And place a b scope basis r
level (Expr-F.Compare a sign b place) r scope basis = binary-level (comparison_operator sign) place a b scope basis r
level (Expr-F.Sum a sign b place) r scope basis = binary-level (sum_operator sign) place a b scope basis r
level (Expr-F.Product a sign b place) r scope basis = binary-level (product_operator sign) place a b scope basis r
level (Expr-F.Binary f a b place) r scope basis = two-operands a b (function_typed f place) scope basis r (λ x y g h t e. function-typed (on_basis scope basis) f place x y (Ok t) e g h)
level (Expr-F.If c a b place) r scope basis =
    one (on_basis scope basis) (at_point c scope basis) (λ z. at_point a scope basis >>= (λ x. at_point b scope basis >>= if_typed place z x)) (c.1 (left (good c) (good a && good b) r) scope basis)
    (λ z f. two-operands a b (if_typed place z) scope basis (right (good c) (good a && good b) r) (λ x y g h t e. if-typed (on_basis scope basis) place z x y (Ok t) e f g h))
level (Expr-F.In a sign set place) r scope basis = one (on_basis scope basis) (at_point a scope basis) (in_typed sign set place) (a.1 (left (good a) (list_all in_range set) r) scope basis) (λ x h t e. in-typed (on_basis scope basis) sign set place x (Ok t) e (right (good a) (list_all in_range set) r) h)
level (Expr-F.Between a low high place) r scope basis =
    let bounds = right (good a) (in_range low && in_range high) r in
    one (on_basis scope basis) (at_point a scope basis) (between_typed low high place) (a.1 (left (good a) (in_range low && in_range high) r) scope basis)
    (λ x h t e. between-typed (on_basis scope basis) low high place x (Ok t) e (left (in_range low) (in_range high) bounds) (right (in_range low) (in_range high) bounds) h)
level (Expr-F.Round f a digits place) r scope basis = one (on_basis scope basis) (at_point a scope basis) (round_typed f digits place) (a.1 r scope basis) (λ x h t e. round-typed (on_basis scope basis) f digits place x (Ok t) e h)
level (Expr-F.MatchCharacters a pattern place) r scope basis = one (on_basis scope basis) (at_point a scope basis) (matches_typed pattern place) (a.1 r scope basis) (λ x h t e. matches-typed (on_basis scope basis) pattern place x (Ok t) e h)
level (Expr-F.Typed sort a place) r scope basis = one (on_basis scope basis) (at_point a scope basis) (sort_typed sort place) (a.1 r scope basis) (λ x h t e. sort-typed (on_basis scope basis) sort place x (Ok t) e h)
level (Expr-F.Substr a None place) r scope basis = one (on_basis scope basis) (at_point a scope basis) (λ x. substr_typed place x None None) (a.1 (left (good a) true r) scope basis) (λ x h t e. substr-typed (on_basis scope basis) place x None None (Ok t) e h tt tt)
level (Expr-F.Substr a (Some range) place) r scope basis =
    let m = range_meaning range.0 in
    let parts = range.1 (right (good a) (part_in_range range.0) r) scope basis in
    one (on_basis scope basis) (at_point a scope basis) (λ x. typed_if (Some m.start) scope basis >>= (λ start. typed_if m.length scope basis >>= substr_typed place x start)) (a.1 (left (good a) (part_in_range range.0) r) scope basis)
    (λ x h. given scope basis (Some m.start) (λ start. typed_if m.length scope basis >>= substr_typed place x start) parts.0
    (λ start i. given scope basis m.length (substr_typed place x start) parts.1
    (λ length j t e. substr-typed (on_basis scope basis) place x start length (Ok t) e h i j)))
level (Expr-F.Replace a old None place) r scope basis =
    let others = right (good a) (good old && true) r in
    two (on_basis scope basis) (at_point a scope basis) (at_point old scope basis) (λ x y. replace_typed place x y None) (a.1 (left (good a) (good old && true) r) scope basis) (old.1 (left (good old) true others) scope basis)
    (λ x y h i t e. replace-typed (on_basis scope basis) place x y None (Ok t) e h i tt)
level (Expr-F.Replace a old (Some by) place) r scope basis =
    let others = right (good a) (good old && good by) r in
    two (on_basis scope basis) (at_point a scope basis) (at_point old scope basis) (λ x y. typed_if (Some (meaning by.0)) scope basis >>= replace_typed place x y) (a.1 (left (good a) (good old && good by) r) scope basis) (old.1 (left (good old) (good by) others) scope basis)
    (λ x y h i. given scope basis (Some (meaning by.0)) (replace_typed place x y) (by.1 (right (good old) (good by) others) scope basis) (λ new j t e. replace-typed (on_basis scope basis) place x y new (Ok t) e h i j))
level (Expr-F.Member a name place) r scope basis = member-gives (meaning a.0).own_name (meaning a.0) name place scope basis
level (Expr-F.Aggregate f a groups place) r scope Point = misplaced-gives (meaning a.0 ∷ []) place scope Point
level (Expr-F.Aggregate f a None place) r scope Group = aggregated f a false place scope (left (good a) true r)
level (Expr-F.Aggregate f a (Some groups) place) r scope Group = aggregated f a true place scope (left (good a) (ranges.on_Groups groups.0) r)
level (Expr-F.CountAll place) r scope Point = λ t e. cc
level (Expr-F.CountAll place) r scope Group = λ t e. count-typed scope.columns Group place (Ok t) e
level (Expr-F.Clause a clause place) r scope basis = misplaced-gives (meaning a.0 ∷ []) (meanings.on_Clause clause.0) scope basis
level (Expr-F.ExistsIn a b rows place) r scope basis = misplaced-gives (meaning a.0 ∷ meaning b.0 ∷ []) place scope basis
level (Expr-F.Sets f a b others place) r scope basis = misplaced-gives (meaning a.0 ∷ meaning b.0 ∷ map meaning (map (λ (o : Such.of_Expr). o.0) others)) place scope basis
level (Expr-F.Difference f a b place) r scope basis = misplaced-gives (meaning a.0 ∷ meaning b.0 ∷ []) place scope basis
level (Expr-F.Join f a b others filter calc keep rename place) r scope basis = misplaced-gives (operand_meaning a.0 ∷ operand_meaning b.0 ∷ map operand_meaning (map (λ (o : Such.of_JoinOperand). o.0) others)) place scope basis
level (Expr-F.Window f a over place) r scope basis = misplaced-gives (meaning a.0 ∷ []) place scope basis
level (Expr-F.Offset f a offset over place) r scope basis = misplaced-gives (meaning a.0 ∷ []) place scope basis
level (Expr-F.Rank over place) r scope basis = misplaced-gives [] place scope basis
level (Expr-F.CheckDatapoint a rules rules_place output place) r scope basis = misplaced-gives (meaning a.0 ∷ []) place scope basis
level (Expr-F.Hierarchy a rules rules_place component mode input output place) r scope basis = misplaced-gives (meaning a.0 ∷ []) place scope basis
level (Expr-F.CheckHierarchy a rules rules_place component mode input output place) r scope basis = misplaced-gives (meaning a.0 ∷ []) place scope basis
level (Expr-F.Check a code at None output place) r scope basis = misplaced-gives (meaning a.0 ∷ []) place scope basis
level (Expr-F.Check a code at (Some i) output place) r scope basis = misplaced-gives (meaning a.0 ∷ meaning i.0 ∷ []) place scope basis
level (Expr-F.Time f a place) r scope basis = misplaced-gives (meaning a.0 ∷ []) place scope basis
level (Expr-F.Timeshift a shift place) r scope basis = misplaced-gives (meaning a.0 ∷ []) place scope basis
level (Expr-F.FillTimeSeries a span place) r scope basis = misplaced-gives (meaning a.0 ∷ []) place scope basis
level (Expr-F.CallOf name arguments place) r scope basis = misplaced-gives (map meaning (map (λ (o : Such.of_Expr). o.0) arguments)) place scope basis

-- ---- whole expressions

pub scalar-typed : (e : Expr) → literals_in_range e ≡ true → (scope : Scope) (basis : Basis) (t : Typed) → typed scope basis e ≡ Ok t → IsTyped (on_basis scope basis) t
scalar-typed e =
    ind-Expr (λ c. ⊤) Good (λ g. ⊤) (λ i. ⊤) (λ o. ⊤) (λ r. part_in_range r ≡ true → GoodRange (range_meaning r))
    (λ x y is. tt)
    (λ x y is. subst (λ (w : Expr-F Clause Expr Groups Item JoinOperand SubstrRange). Good (roll-Expr w)) is (at y))
    (λ x y is. tt)
    (λ x y is. tt)
    (λ x y is. tt)
    (λ x y is. subst (λ (w : SubstrRange-F Clause Expr Groups Item JoinOperand SubstrRange). part_in_range (roll-SubstrRange w) ≡ true → GoodRange (range_meaning (roll-SubstrRange w))) is (range y.start y.length y.place))
    e
  where
    at : (y : Expr-F Such.of_Clause Such.of_Expr Such.of_Groups Such.of_Item Such.of_JoinOperand Such.of_SubstrRange) → Good (roll-Expr (over-Expr {X = Such} {Y = Trees} firsts y))
    at y r scope basis =
        let x = over-Expr {X = Such} {Y = Trees} firsts y in
        subst (λ (m : Meaning). Gives (on_basis scope basis) (m.typed scope basis))
        (sym (fold-roll-Expr Place Meaning ⊤ ⊤ Meaning RangeMeaning clause_place step (λ groups. tt) (λ item. tt) operand_step range_step x))
        (level y (sym (level-in_range x) ∙ r) scope basis)

    range_at : (y : SubstrRange-F Such.of_Clause Such.of_Expr Such.of_Groups Such.of_Item Such.of_JoinOperand Such.of_SubstrRange) → GoodRange (range_step (over-SubstrRange {X = Trees} {Y = Meanings} meanings (over-SubstrRange {X = Such} {Y = Trees} firsts y))) → GoodRange (range_meaning (roll-SubstrRange (over-SubstrRange {X = Such} {Y = Trees} firsts y)))
    range_at y h =
        let x = over-SubstrRange {X = Such} {Y = Trees} firsts y in
        subst GoodRange (sym (fold-roll-SubstrRange Place Meaning ⊤ ⊤ Meaning RangeMeaning clause_place step (λ groups. tt) (λ item. tt) operand_step range_step x)) h

    range : (start : Such.of_Expr) (length : Option Such.of_Expr) (place : Place) → part_in_range (roll-SubstrRange (over-SubstrRange {X = Such} {Y = Trees} firsts (record { start = start; length = length; place = place }))) ≡ true → GoodRange (range_meaning (roll-SubstrRange (over-SubstrRange {X = Such} {Y = Trees} firsts (record { start = start; length = length; place = place }))))
    range start None place r =
        let y : SuchRange = record { start = start; length = None; place = place } in
        let own = sym (part-in_range (over-SubstrRange {X = Such} {Y = Trees} firsts y)) ∙ r in
        range_at y (λ scope basis. (start.1 (left (good start) true own) scope basis, tt))
    range start (Some s) place r =
        let y : SuchRange = record { start = start; length = Some s; place = place } in
        let own = sym (part-in_range (over-SubstrRange {X = Such} {Y = Trees} firsts y)) ∙ r in
        range_at y (λ scope basis. (start.1 (left (good start) (good s) own) scope basis, s.1 (right (good start) (good s) own) scope basis))
