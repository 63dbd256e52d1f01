-- Well typed trees level by level, and what typing makes of kinds at which operands stand.
use Rattle.std.proofs.Common.{◌≡◌, Bool, true, false, cond, List, [], ◌∷◌, Option, Some, None, find, refl, sym, ap, subst, ◌∙◌}
use Rattle.std.specs.Prelude.{◌&&◌, ◌||◌, ◌⊎◌, not, is_none}
use Rattle.std.specs.List.{list_all, list_any}
use Rattle.std.proofs.Common.{inl, inr}
use Rattle.vtl_values.specs.declared.kind.Kind.{Kind}
use Rattle.vtl_values.specs.declared.kind.Kind.TheVariants.{Integer, Number, Text, Truth}
use Rattle.scalar_trees.specs.declared.tree.CheckedExpr.{CheckedExpr, fold-roll-CheckedExpr, roll-CheckedExpr, map-CheckedExpr, ind-CheckedExpr}
use Rattle.scalar_trees.specs.declared.tree.CheckedExpr.TheOpen.{CheckedExpr-F}
use Rattle.scalar_trees.specs.declared.operators.UnaryOperator.{UnaryOperator}
use Rattle.scalar_trees.specs.declared.operators.UnaryOperator.TheVariants as unary
use Rattle.scalar_trees.specs.declared.operators.BinaryOperator.{BinaryOperator}
use Rattle.scalar_trees.specs.declared.operators.BinaryOperator.TheVariants as binary
use Rattle.vtl_syntax.specs.declared.words.Sort.{Sort}
use Rattle.vtl_syntax.specs.declared.words.Sort.TheVariants as sort
use Rattle.scalar_trees.specs.Kinds.{ANY, NUMERIC, NUMBERS, TEXTS, TRUTHS, stands_for, may_stand, agreed, unary_takes, unary_gives, binary_takes, binary_gives, sort_takes}
use Rattle.scalar_trees.specs.WellTyped.{Kinds, is_kind, typed_step, is_of_kind}
use Rattle.scalar_trees.specs.Erased.{erased, erased_step, plain_layer}
use Rattle.scalar_trees.proofs.typing.SoundSets.{found-some}
use Rattle.scalar_trees.proofs.typing.Sound.{is_kind-refl, is_kind-same, left, right, found-passes, rolled}

-- ---- kinds that stand for others

pub stands-refl : (k : Kind) → stands_for k k ≡ true
stands-refl Integer = refl
stands-refl Number = refl
stands-refl Text = refl
stands-refl Truth = refl

number-stands : (c : Kind) → stands_for Integer c ≡ true → stands_for Number c ≡ true
number-stands Integer h = refl
number-stands Number h = cc
number-stands Text h = cc
number-stands Truth h = cc

pub stands-trans : (a b c : Kind) → stands_for a b ≡ true → stands_for b c ≡ true → stands_for a c ≡ true
stands-trans Integer Integer c h i = i
stands-trans Integer Number c h i = cc
stands-trans Integer Text c h i = cc
stands-trans Integer Truth c h i = cc
stands-trans Number Integer c h i = number-stands c i
stands-trans Number Number c h i = i
stands-trans Number Text c h i = cc
stands-trans Number Truth c h i = cc
stands-trans Text Integer c h i = cc
stands-trans Text Number c h i = cc
stands-trans Text Text c h i = i
stands-trans Text Truth c h i = cc
stands-trans Truth Integer c h i = cc
stands-trans Truth Number c h i = cc
stands-trans Truth Text c h i = cc
stands-trans Truth Truth c h i = i

pub may-trans : (a b : Kind) (g : Option Kind) → stands_for a b ≡ true → may_stand b g ≡ true → may_stand a g ≡ true
may-trans a b None h i = refl
may-trans a b (Some c) h i = stands-trans a b c h i

-- ---- lists of kinds in which integers come before numbers

-- where a number is found first, no integer passes
abbrev pub Ordered : List Kind → Type 0
Ordered takes = (p : Kind → Bool) → find p takes ≡ Some Number → p Integer ≡ true → list_any (is_kind Integer) takes ≡ true → ⊥

pub numeric-ordered : Ordered NUMERIC
numeric-ordered p e h w = at (p Integer) e h
  where
    at : (b : Bool) → cond b (Some Integer) (find p (Number ∷ [])) ≡ Some Number → b ≡ true → ⊥
    at true e h = cc
    at false e h = cc

numbers-ordered : Ordered NUMBERS
numbers-ordered p e h w = cc

texts-ordered : Ordered TEXTS
texts-ordered p e h w = cc

truths-ordered : Ordered TRUTHS
truths-ordered p e h w = cc

integers-ordered : Ordered (Integer ∷ [])
integers-ordered p e h w = at (p Integer) e
  where
    at : (b : Bool) → cond b (Some Integer) None ≡ Some Number → ⊥
    at true e = cc
    at false e = cc

nothing-ordered : Ordered []
nothing-ordered p e h w = cc

pub any-ordered : Ordered ANY
any-ordered p e h w = at (p Truth) e
  where
    second : (b : Bool) → b ≡ true → cond b (Some Integer) (find p (Number ∷ Text ∷ [])) ≡ Some Number → ⊥
    second true h e = cc
    second false h e = cc

    at : (b : Bool) → cond b (Some Truth) (find p (Integer ∷ Number ∷ Text ∷ [])) ≡ Some Number → ⊥
    at true e = cc
    at false e = second (p Integer) h e

pub unary-ordered : (o : UnaryOperator) → Ordered (unary_takes o)
unary-ordered unary.Plus = numeric-ordered
unary-ordered unary.Minus = numeric-ordered
unary-ordered unary.Not = truths-ordered
unary-ordered unary.Abs = numeric-ordered
unary-ordered unary.Ceil = numbers-ordered
unary-ordered unary.Floor = numbers-ordered
unary-ordered unary.Trim = texts-ordered
unary-ordered unary.Ltrim = texts-ordered
unary-ordered unary.Rtrim = texts-ordered
unary-ordered unary.Upper = texts-ordered
unary-ordered unary.Lower = texts-ordered
unary-ordered unary.Length = texts-ordered
unary-ordered unary.Isnull = any-ordered

pub binary-ordered : (o : BinaryOperator) → Ordered (binary_takes o)
binary-ordered binary.Plus = numeric-ordered
binary-ordered binary.Minus = numeric-ordered
binary-ordered binary.Times = numeric-ordered
binary-ordered binary.Over = numbers-ordered
binary-ordered binary.Mod = numeric-ordered
binary-ordered binary.Join = texts-ordered
binary-ordered binary.Instr = texts-ordered
binary-ordered binary.And = truths-ordered
binary-ordered binary.Or = truths-ordered
binary-ordered binary.Xor = truths-ordered
binary-ordered binary.Equal = any-ordered
binary-ordered binary.NotEqual = any-ordered
binary-ordered binary.Less = any-ordered
binary-ordered binary.Greater = any-ordered
binary-ordered binary.AtMost = any-ordered
binary-ordered binary.AtLeast = any-ordered

pub sort-ordered : (s : Sort) → Ordered (sort_takes s)
sort-ordered sort.Dataset = nothing-ordered
sort-ordered sort.Integer = integers-ordered
sort-ordered sort.Number = numeric-ordered
sort-ordered sort.Text = texts-ordered
sort-ordered sort.Truth = truths-ordered

-- what an operator gives of a kind stands for what it gives of one that the kind stands for
pub unary-monotone : (o : UnaryOperator) (q r : Kind) → stands_for q r ≡ true → stands_for (unary_gives o q) (unary_gives o r) ≡ true
unary-monotone unary.Plus q r h = h
unary-monotone unary.Minus q r h = h
unary-monotone unary.Not q r h = refl
unary-monotone unary.Abs q r h = h
unary-monotone unary.Ceil q r h = refl
unary-monotone unary.Floor q r h = refl
unary-monotone unary.Trim q r h = refl
unary-monotone unary.Ltrim q r h = refl
unary-monotone unary.Rtrim q r h = refl
unary-monotone unary.Upper q r h = refl
unary-monotone unary.Lower q r h = refl
unary-monotone unary.Length q r h = refl
unary-monotone unary.Isnull q r h = refl

pub binary-monotone : (o : BinaryOperator) (q r : Kind) → stands_for q r ≡ true → stands_for (binary_gives o q) (binary_gives o r) ≡ true
binary-monotone binary.Plus q r h = h
binary-monotone binary.Minus q r h = h
binary-monotone binary.Times q r h = h
binary-monotone binary.Over q r h = refl
binary-monotone binary.Mod q r h = h
binary-monotone binary.Join q r h = refl
binary-monotone binary.Instr q r h = refl
binary-monotone binary.And q r h = refl
binary-monotone binary.Or q r h = refl
binary-monotone binary.Xor q r h = refl
binary-monotone binary.Equal q r h = refl
binary-monotone binary.NotEqual q r h = refl
binary-monotone binary.Less q r h = refl
binary-monotone binary.Greater q r h = refl
binary-monotone binary.AtMost q r h = refl
binary-monotone binary.AtLeast q r h = refl

-- ---- the kind at which operands agree

-- one that stands for another, or the pair that an order of kinds excludes
related : (q r k : Kind) → stands_for q k ≡ true → stands_for r k ≡ true → (stands_for q r ≡ true) ⊎ ((q ≡ Integer) × (r ≡ Number))
related Integer Integer k h i = inl refl
related Integer Number k h i = inr (refl, refl)
related Integer Text Integer h i = cc
related Integer Text Number h i = cc
related Integer Text Text h i = cc
related Integer Text Truth h i = cc
related Integer Truth Integer h i = cc
related Integer Truth Number h i = cc
related Integer Truth Text h i = cc
related Integer Truth Truth h i = cc
related Number Integer k h i = inl refl
related Number Number k h i = inl refl
related Number Text Integer h i = cc
related Number Text Number h i = cc
related Number Text Text h i = cc
related Number Text Truth h i = cc
related Number Truth Integer h i = cc
related Number Truth Number h i = cc
related Number Truth Text h i = cc
related Number Truth Truth h i = cc
related Text Integer Integer h i = cc
related Text Integer Number h i = cc
related Text Integer Text h i = cc
related Text Integer Truth h i = cc
related Text Number Integer h i = cc
related Text Number Number h i = cc
related Text Number Text h i = cc
related Text Number Truth h i = cc
related Text Text k h i = inl refl
related Text Truth Integer h i = cc
related Text Truth Number h i = cc
related Text Truth Text h i = cc
related Text Truth Truth h i = cc
related Truth Integer Integer h i = cc
related Truth Integer Number h i = cc
related Truth Integer Text h i = cc
related Truth Integer Truth h i = cc
related Truth Number Integer h i = cc
related Truth Number Number h i = cc
related Truth Number Text h i = cc
related Truth Number Truth h i = cc
related Truth Text Integer h i = cc
related Truth Text Number h i = cc
related Truth Text Text h i = cc
related Truth Text Truth h i = cc
related Truth Truth k h i = inl refl

pub found-within : (p : Kind → Bool) (takes : List Kind) (q : Kind) → find p takes ≡ Some q → list_any (is_kind q) takes ≡ true
found-within p [] q e = cc
found-within p (y ∷ ys) q e = at (p y) refl e (found-within p ys q)
  where
    at : (b : Bool) → p y ≡ b → cond b (Some y) (find p ys) ≡ Some q → (find p ys ≡ Some q → list_any (is_kind q) ys ≡ true) → (is_kind q y || list_any (is_kind q) ys) ≡ true
    at true i h others = let same : y ≡ q = cc in subst (λ (z : Kind). (is_kind q z || list_any (is_kind q) ys) ≡ true) (sym same) (ap (λ (b : Bool). b || list_any (is_kind q) ys) (is_kind-refl q))
    at false i h others = at_tail (is_kind q y) (others h)
      where
        at_tail : (b : Bool) → list_any (is_kind q) ys ≡ true → (b || list_any (is_kind q) ys) ≡ true
        at_tail true j = refl
        at_tail false j = j

-- the first operand with a kind of its own, if one has
some-kind : (gs : List (Option Kind)) (q r : Kind) → list_all (may_stand q) gs ≡ true → list_all (may_stand r) gs ≡ true → (list_all is_none gs ≡ true) ⊎ ((stands_for q r ≡ true) ⊎ ((q ≡ Integer) × (r ≡ Number)))
some-kind [] q r h i = inl refl
some-kind (None ∷ gs) q r h i = some-kind gs q r h i
some-kind (Some k ∷ gs) q r h i = inr (related q r k (left (stands_for q k) (list_all (may_stand q) gs) h) (left (stands_for r k) (list_all (may_stand r) gs) i))

all-stand : (gs : List (Option Kind)) (r : Kind) → list_all is_none gs ≡ true → list_all (may_stand r) gs ≡ true
all-stand [] r h = refl
all-stand (None ∷ gs) r h = all-stand gs r h
all-stand (Some k ∷ gs) r h = cc

same-head : (p s : Kind → Bool) (takes : List Kind) (q r : Kind) → ((k : Kind) → p k ≡ true) → ((k : Kind) → s k ≡ true) → find p takes ≡ Some q → find s takes ≡ Some r → q ≡ r
same-head p s [] q r h i e f = cc
same-head p s (y ∷ ys) q r h i e f =
    let a : Some y ≡ Some q = ap (λ (b : Bool). cond b (Some y) (find p ys)) (sym (h y)) ∙ e in
    let b : Some y ≡ Some r = ap (λ (b : Bool). cond b (Some y) (find s ys)) (sym (i y)) ∙ f in
    cc

-- a kind at which operands agree, and for which another one stands
pub record Agreed (takes : List Kind) (gs : List (Option Kind)) (q : Kind) : Type 0 where
  pub kind : Kind
  pub found : agreed takes gs ≡ Some kind
  pub stands : stands_for q kind ≡ true

-- Where a tree's parts are found at a kind at which the operands may stand, the operands agree on one for which it stands.
pub agree : (takes : List Kind) (gs : List (Option Kind)) (p : Kind → Bool) (q : Kind) → Ordered takes → find p takes ≡ Some q → list_all (may_stand q) gs ≡ true → (list_all is_none gs ≡ true → (k : Kind) → p k ≡ true) → Agreed takes gs q
agree takes gs p q ordered e h nulls =
    let within : list_any (is_kind q) takes ≡ true = found-within p takes q e in
    let other = found-some (λ k. list_all (may_stand k) gs) takes q within h in
    record { kind = other.0; found = other.1; stands = at other.0 other.1 within (some-kind gs q other.0 h (found-passes (λ k. list_all (may_stand k) gs) takes other.0 other.1)) }
  where
    at : (r : Kind) → agreed takes gs ≡ Some r → list_any (is_kind q) takes ≡ true → (list_all is_none gs ≡ true) ⊎ ((stands_for q r ≡ true) ⊎ ((q ≡ Integer) × (r ≡ Number))) → stands_for q r ≡ true
    at r f w (inl none) = subst (λ (k : Kind). stands_for q k ≡ true) (same-head p (λ k. list_all (may_stand k) gs) takes q r (nulls none) (λ k. all-stand gs k none) e f) (stands-refl q)
    at r f w (inr (inl s)) = s
    at r f w (inr (inr (a, b))) = absurd (ordered (λ k. list_all (may_stand k) gs) (f ∙ ap Some b) (subst (λ (k : Kind). list_all (may_stand k) gs ≡ true) a h) (subst (λ (k : Kind). list_any (is_kind k) takes ≡ true) a w))

-- ---- a tree's level

abbrev pub is_plain : {X : Type 0} → CheckedExpr-F X → Bool
is_plain (CheckedExpr-F.Widened a) = false
is_plain _ = true

plain-erased : (x : CheckedExpr-F CheckedExpr) → is_plain x ≡ true → erased_step (map-CheckedExpr CheckedExpr CheckedExpr erased x) ≡ roll-CheckedExpr (plain_layer (map-CheckedExpr CheckedExpr CheckedExpr erased x))
plain-erased (CheckedExpr-F.Widened a) h = cc
plain-erased _ h = refl

pub view : (t : CheckedExpr) → (x : CheckedExpr-F CheckedExpr) × (roll-CheckedExpr x ≡ t)
view t = ind-CheckedExpr (λ (d : CheckedExpr). (x : CheckedExpr-F CheckedExpr) × (roll-CheckedExpr x ≡ d)) (λ x y is. (x, refl)) t

module _ (kinds : Kinds) where
  abbrev Tests : Type 0
  Tests = Kind → Bool

  abbrev pub kinds_at : CheckedExpr-F CheckedExpr → Kind → Bool
  kinds_at x = typed_step kinds (map-CheckedExpr CheckedExpr Tests (is_of_kind kinds) x)

  -- what a tree of a kind is apart from a widening
  pub record Seen (t : CheckedExpr) (k : Kind) : Type 0 where
    pub layer : CheckedExpr-F CheckedExpr
    pub plain : is_plain layer ≡ true
    pub kind : Kind
    pub stands : stands_for k kind ≡ true
    pub typed : kinds_at layer kind ≡ true
    pub erases : erased t ≡ roll-CheckedExpr (plain_layer (map-CheckedExpr CheckedExpr CheckedExpr erased layer))
    -- a widening is of no null
    pub own : ((q : Kind) → kinds_at layer q ≡ true) → (q : Kind) → is_of_kind kinds t q ≡ true

  erased-at : (x : CheckedExpr-F CheckedExpr) (t : CheckedExpr) → roll-CheckedExpr x ≡ t → is_plain x ≡ true → erased t ≡ roll-CheckedExpr (plain_layer (map-CheckedExpr CheckedExpr CheckedExpr erased x))
  erased-at x t is h = ap erased (sym is) ∙ fold-roll-CheckedExpr CheckedExpr erased_step x ∙ plain-erased x h

  itself : (x : CheckedExpr-F CheckedExpr) (t : CheckedExpr) (k : Kind) → roll-CheckedExpr x ≡ t → is_plain x ≡ true → is_of_kind kinds t k ≡ true → Seen t k
  itself x t k is h e =
      let same : is_of_kind kinds t ≡ kinds_at x = rolled kinds x is in
      record { layer = x; plain = h; kind = k; stands = stands-refl k; typed = ap (λ (f : Tests). f k) (sym same) ∙ e; erases = erased-at x t is h; own = λ all q. ap (λ (f : Tests). f q) same ∙ all q }

  no_widened : (a : CheckedExpr) (x : CheckedExpr-F CheckedExpr) → roll-CheckedExpr x ≡ a → is_of_kind kinds a Integer ≡ true → is_plain x ≡ true
  no_widened a (CheckedExpr-F.Widened b) is h =
      let no : false ≡ true = right (is_of_kind kinds b Integer && not (is_of_kind kinds b Number)) false (ap (λ (f : Tests). f Integer) (sym (rolled kinds (CheckedExpr-F.Widened b) is)) ∙ h) in cc
  no_widened a _ is h = refl

  widening : (a t : CheckedExpr) (k : Kind) → roll-CheckedExpr (CheckedExpr-F.Widened a) ≡ t → is_of_kind kinds t k ≡ true → Seen t k
  widening a t k is e =
      let test : ((is_of_kind kinds a Integer && not (is_of_kind kinds a Number)) && is_kind Number k) ≡ true = ap (λ (f : Tests). f k) (sym (rolled kinds (CheckedExpr-F.Widened a) is)) ∙ e in
      let parts : (is_of_kind kinds a Integer && not (is_of_kind kinds a Number)) ≡ true = left (is_of_kind kinds a Integer && not (is_of_kind kinds a Number)) (is_kind Number k) test in
      let whole : is_of_kind kinds a Integer ≡ true = left (is_of_kind kinds a Integer) (not (is_of_kind kinds a Number)) parts in
      let other : not (is_of_kind kinds a Number) ≡ true = right (is_of_kind kinds a Integer) (not (is_of_kind kinds a Number)) parts in
      let number : Number ≡ k = is_kind-same Number k (right (is_of_kind kinds a Integer && not (is_of_kind kinds a Number)) (is_kind Number k) test) in
      let inner = view a in
      let same : is_of_kind kinds a ≡ kinds_at inner.0 = rolled kinds inner.0 inner.1 in
      let plain : is_plain inner.0 ≡ true = no_widened a inner.0 inner.1 whole in
      record {
        layer = inner.0;
        plain = plain;
        kind = Integer;
        stands = subst (λ (z : Kind). stands_for z Integer ≡ true) number refl;
        typed = ap (λ (f : Tests). f Integer) (sym same) ∙ whole;
        erases = ap erased (sym is) ∙ fold-roll-CheckedExpr CheckedExpr erased_step (CheckedExpr-F.Widened a) ∙ erased-at inner.0 a inner.1 plain;
        own = λ all q. let yes : is_of_kind kinds a Number ≡ true = ap (λ (f : Tests). f Number) same ∙ all Number in let no : false ≡ true = sym (ap not yes) ∙ other in cc;
      }

  pub seen : (t : CheckedExpr) (k : Kind) → is_of_kind kinds t k ≡ true → Seen t k
  seen t k e = let v = view t in at v.0 v.1
    where
      at : (x : CheckedExpr-F CheckedExpr) → roll-CheckedExpr x ≡ t → Seen t k
      at (CheckedExpr-F.Widened a) is = widening a t k is e
      at x is = plain_at x is (is_plain x) refl
        where
          plain_at : (x : CheckedExpr-F CheckedExpr) → roll-CheckedExpr x ≡ t → (b : Bool) → is_plain x ≡ b → Seen t k
          plain_at x is true h = itself x t k is h e
          plain_at (CheckedExpr-F.Widened a) is false h = widening a t k is e
          plain_at _ is false h = cc
