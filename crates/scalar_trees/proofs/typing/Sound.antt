-- What typing answers is well typed: each operator's answer, where its operands are.
use Rattle.std.proofs.Common.{◌≡◌, ℕ, ℤ, Bool, true, false, cond, List, [], ◌∷◌, Option, Some, None, Result, Ok, Err, find, refl, sym, ap, subst, ◌∙◌}
use Rattle.std.specs.Prelude.{IfOk, ◌&&◌, ⊤}
use Rattle.std.specs.List.{list_all}
use Rattle.std.specs.Option.{option_map}
use Rattle.vtl_values.specs.declared.kind.Kind.{Kind}
use Rattle.vtl_values.specs.declared.kind.Kind.TheVariants.{Integer, Number, Text, Truth}
use Rattle.vtl_values.specs.declared.place.Place.{Place}
use Rattle.scalar_trees.specs.declared.tree.CheckedExpr.{CheckedExpr, fold-roll-CheckedExpr, roll-CheckedExpr, map-CheckedExpr}
use Rattle.scalar_trees.specs.declared.tree.CheckedExpr.TheVariants as tree
use Rattle.scalar_trees.specs.declared.tree.CheckedExpr.TheOpen.{CheckedExpr-F}
use Rattle.scalar_trees.specs.declared.operators.UnaryOperator.{UnaryOperator}
use Rattle.scalar_trees.specs.declared.operators.BinaryOperator.{BinaryOperator}
use Rattle.scalar_trees.specs.Kinds.{ANY, may_stand, agreed, unary_takes, unary_gives, binary_takes, binary_gives, sort_takes, round_gives}
use Rattle.scalar_trees.specs.WellTyped.{Kinds, is_kind, is_some_kind, is_exactly, given, same, where_given, digits_fit, typed_step, is_of_kind}
use Rattle.scalar_texts.specs.Patterns.{is_pattern}
use Rattle.vtl_syntax.specs.declared.words.BinaryFunction.{BinaryFunction}
use Rattle.vtl_syntax.specs.declared.words.BinaryFunction.TheVariants as function
use Rattle.vtl_syntax.specs.declared.words.RoundFunction.{RoundFunction}
use Rattle.vtl_syntax.specs.declared.words.Sort.{Sort}
use Rattle.scalar_trees.specs.declared.operators.BinaryOperator.TheVariants as binary
use Rattle.scalar_trees.specs.declared.typing.stop.Refusal.{Refusal}
use Rattle.scalar_trees.specs.declared.typing.stop.TypeStop.{TypeStop}
use Rattle.scalar_trees.specs.declared.typing.stop.Fault.TheVariants.{WrongType, BadConstant, BadPattern}
use Rattle.scalar_trees.specs.declared.typing.stop.Fault.{Fault}
use Rattle.scalar_trees.specs.declared.typing.typed.Typed.{Typed}
use Rattle.scalar_trees.specs.typing.Steps.{◌>>=◌, or_refused, demanded}
use Rattle.scalar_trees.specs.typing.Scalars.{Answer, Agreed, typed_as, widened_tree, widened, joint, wanted, wanted_if, agreeing, unary_typed, binary_typed, nvl_typed, function_typed, if_typed, round_typed, matches_typed, substr_typed, replace_typed, sort_typed}
use Rattle.scalar_trees.specs.typing.Sound.{IsTyped, IsTypedIf}

-- ---- tests of kinds

pub is_kind-refl : (k : Kind) → is_kind k k ≡ true
is_kind-refl Integer = refl
is_kind-refl Number = refl
is_kind-refl Text = refl
is_kind-refl Truth = refl

pub is_kind-same : (a b : Kind) → is_kind a b ≡ true → a ≡ b
is_kind-same Integer Integer h = refl
is_kind-same Integer Number h = cc
is_kind-same Integer Text h = cc
is_kind-same Integer Truth h = cc
is_kind-same Number Integer h = cc
is_kind-same Number Number h = refl
is_kind-same Number Text h = cc
is_kind-same Number Truth h = cc
is_kind-same Text Integer h = cc
is_kind-same Text Number h = cc
is_kind-same Text Text h = refl
is_kind-same Text Truth h = cc
is_kind-same Truth Integer h = cc
is_kind-same Truth Number h = cc
is_kind-same Truth Text h = cc
is_kind-same Truth Truth h = refl

pub both : (a b : Bool) → a ≡ true → b ≡ true → (a && b) ≡ true
both true b h i = i
both false b h i = h

pub left : (a b : Bool) → (a && b) ≡ true → a ≡ true
left true b h = refl
left false b h = h

pub right : (a b : Bool) → (a && b) ≡ true → b ≡ true
right true b h = h
right false b h = cc

-- ---- what is found

pub found-passes : (p : Kind → Bool) (takes : List Kind) (k : Kind) → find p takes ≡ Some k → p k ≡ true
found-passes p [] k e = cc
found-passes p (y ∷ ys) k e = at (p y) refl e (found-passes p ys k)
  where
    at : (b : Bool) → p y ≡ b → cond b (Some y) (find p ys) ≡ Some k → (find p ys ≡ Some k → p k ≡ true) → p k ≡ true
    at true i h others = let e : y ≡ k = cc in subst (λ z. p z ≡ true) e i
    at false i h others = others h

-- a test that is stronger, and that what is found passes, finds the same
pub found-same : (p q : Kind → Bool) (takes : List Kind) (k : Kind) → find p takes ≡ Some k → q k ≡ true → ((r : Kind) → q r ≡ true → p r ≡ true) → find q takes ≡ Some k
found-same p q [] k e h stronger = cc
found-same p q (y ∷ ys) k e h stronger = at (p y) refl (q y) refl e (λ i. found-same p q ys k i h stronger)
  where
    at : (a : Bool) → p y ≡ a → (b : Bool) → q y ≡ b → cond a (Some y) (find p ys) ≡ Some k → (find p ys ≡ Some k → find q ys ≡ Some k) → cond b (Some y) (find q ys) ≡ Some k
    at true i true j m others = m
    at true i false j m others = let e : y ≡ k = cc in cc
    at false i true j m others = let t : p y ≡ true = stronger y j in cc
    at false i false j m others = others m

-- ---- operands at a kind

-- what an operand is after it was put where this kind is wanted
abbrev pub at_kind : Kind → Option Kind → Option Kind
at_kind q None = None
at_kind q (Some k) = Some q

pub exact-own : (q : Kind) (g : Option Kind) → is_exactly (at_kind q g) q ≡ true
exact-own q None = refl
exact-own q (Some k) = is_kind-refl q

exact-stands : (q r : Kind) (g : Option Kind) → may_stand q g ≡ true → is_exactly (at_kind q g) r ≡ true → may_stand r g ≡ true
exact-stands q r None m e = refl
exact-stands q r (Some k) m e = subst (λ z. may_stand z (Some k) ≡ true) (is_kind-same q r e) m

pub agreed-one : (takes : List Kind) (a : Option Kind) (q : Kind) → agreed takes (a ∷ []) ≡ Some q → find (is_exactly (at_kind q a)) takes ≡ Some q
agreed-one takes a q e =
    let stands : may_stand q a ≡ true = left (may_stand q a) true (found-passes (λ kind. list_all (may_stand kind) (a ∷ [])) takes q e) in
    found-same (λ kind. list_all (may_stand kind) (a ∷ [])) (is_exactly (at_kind q a)) takes q e (exact-own q a) (λ r i. both (may_stand r a) true (exact-stands q r a stands i) refl)

pub agreed-two : (takes : List Kind) (a b : Option Kind) (q : Kind) → agreed takes (a ∷ b ∷ []) ≡ Some q → find (λ r. is_exactly (at_kind q a) r && is_exactly (at_kind q b) r) takes ≡ Some q
agreed-two takes a b q e =
    let passes : (may_stand q a && (may_stand q b && true)) ≡ true = found-passes (λ kind. list_all (may_stand kind) (a ∷ b ∷ [])) takes q e in
    let first : may_stand q a ≡ true = left (may_stand q a) (may_stand q b && true) passes in
    let second : may_stand q b ≡ true = left (may_stand q b) true (right (may_stand q a) (may_stand q b && true) passes) in
    found-same (λ kind. list_all (may_stand kind) (a ∷ b ∷ [])) (λ r. is_exactly (at_kind q a) r && is_exactly (at_kind q b) r) takes q e (both (is_exactly (at_kind q a) q) (is_exactly (at_kind q b) q) (exact-own q a) (exact-own q b))
    (λ r i. both (may_stand r a) (may_stand r b && true) (exact-stands q r a first (left (is_exactly (at_kind q a) r) (is_exactly (at_kind q b) r) i)) (both (may_stand r b) true (exact-stands q r b second (right (is_exactly (at_kind q a) r) (is_exactly (at_kind q b) r) i)) refl))

module _ (kinds : Kinds) where
  abbrev pub Tests : Type 0
  Tests = Kind → Bool

  -- the kinds of a tree, level by level
  pub rolled : (x : CheckedExpr-F CheckedExpr) {d : CheckedExpr} → roll-CheckedExpr x ≡ d → is_of_kind kinds d ≡ typed_step kinds (map-CheckedExpr CheckedExpr Tests (is_of_kind kinds) x)
  rolled x is = ap (is_of_kind kinds) (sym is) ∙ fold-roll-CheckedExpr Tests (typed_step kinds) x

  pub widened-exact : (q : Kind) (g : Option Kind) (a : CheckedExpr) → is_of_kind kinds a ≡ is_exactly g → may_stand q g ≡ true → is_of_kind kinds (widened_tree q g a) ≡ is_exactly (at_kind q g)
  widened-exact Integer None a h m = h
  widened-exact Number None a h m = h
  widened-exact Text None a h m = h
  widened-exact Truth None a h m = h
  widened-exact Integer (Some Integer) a h m = h
  widened-exact Number (Some Integer) a h m = rolled (CheckedExpr-F.Widened a) (tree.rolls-Widened a) ∙ ap (λ (f : Tests). typed_step kinds (CheckedExpr-F.Widened f)) h
  widened-exact Text (Some Integer) a h m = cc
  widened-exact Truth (Some Integer) a h m = cc
  widened-exact Integer (Some Number) a h m = cc
  widened-exact Number (Some Number) a h m = h
  widened-exact Text (Some Number) a h m = cc
  widened-exact Truth (Some Number) a h m = cc
  widened-exact Integer (Some Text) a h m = cc
  widened-exact Number (Some Text) a h m = cc
  widened-exact Text (Some Text) a h m = h
  widened-exact Truth (Some Text) a h m = cc
  widened-exact Integer (Some Truth) a h m = cc
  widened-exact Number (Some Truth) a h m = cc
  widened-exact Text (Some Truth) a h m = cc
  widened-exact Truth (Some Truth) a h m = h

  -- an answer with a tree has a well typed one
  unfoldable pub Sound : Answer → Type 0
  Sound (Ok t) = IsTyped kinds t
  Sound (Err refusal) = ⊤

  pub after : {A : Type 0} (answer : Result A Refusal) (next : A → Answer) → ((x : A) → answer ≡ Ok x → Sound (next x)) → Sound (answer >>= next)
  unfolding Sound
  after (Ok x) next h = h x refl
  after (Err refusal) next h = tt

  -- what is answered as a sound meaning says
  pub answered : (meaning : Answer) (r : Result Typed TypeStop) → Sound meaning → IfOk r (λ t. meaning ≡ Ok t) → IfOk r (IsTyped kinds)
  unfolding Sound
  answered meaning (Ok t) h e = subst Sound e h
  answered meaning (Err stop) h e = tt

  pub joint-agreed : (place : Place) (takes : List Kind) (gs : List (Option Kind)) (q : Kind) → joint place takes gs ≡ Ok q → agreed takes gs ≡ Some q
  joint-agreed place takes gs q e = at (agreed takes gs) e
    where
      at : (o : Option Kind) → or_refused o WrongType place ≡ Ok q → o ≡ Some q
      at None h = cc
      at (Some r) h = cc

  pub demand-met : (b : Bool) (fault : Fault) (place : Place) (u : Unit {0}) → demanded b fault place ≡ Ok u → b ≡ true
  demand-met true fault place u e = refl
  demand-met false fault place u e = cc

  -- an operator that finds its operands at a kind gives what it gives of that
  pub given-is : (gives : Kind → Kind) (stand : Tests) (takes : List Kind) (q : Kind) → find stand takes ≡ Some q → given gives stand takes ≡ is_exactly (Some (gives q))
  given-is gives stand takes q e = λ i k. is_some_kind k (option_map gives (e i))

  wanted-is : (place : Place) (q : Kind) (a : Typed) (w : CheckedExpr) → IsTyped kinds a → wanted place q a ≡ Ok w → is_of_kind kinds w q ≡ true
  wanted-is place q a w h e = at (may_stand q a.kind) refl e
    where
      at : (b : Bool) → may_stand q a.kind ≡ b → (or_refused (cond (b && true) (Some q) None) WrongType place >>= (λ r. Ok (widened r a))) ≡ Ok w → is_of_kind kinds w q ≡ true
      at true m i = let same : widened q a ≡ w = cc in subst (λ (t : CheckedExpr). is_of_kind kinds t q ≡ true) same (ap (λ (f : Tests). f q) (widened-exact q a.kind a.tree h m) ∙ exact-own q a.kind)
      at false m i = cc

  wanted_if-is : (place : Place) (q : Kind) (a : Option Typed) (w : Option CheckedExpr) → IsTypedIf kinds a → wanted_if place q a ≡ Ok w → where_given q (option_map (is_of_kind kinds) w) ≡ true
  wanted_if-is place q None w h e = let same : None ≡ w = cc in subst (λ (t : Option CheckedExpr). where_given q (option_map (is_of_kind kinds) t) ≡ true) same refl
  wanted_if-is place q (Some a) w h e = at (wanted place q a) refl e
    where
      at : (r : Result CheckedExpr Refusal) → wanted place q a ≡ r → (r >>= (λ t. Ok (Some t))) ≡ Ok w → where_given q (option_map (is_of_kind kinds) w) ≡ true
      at (Ok t) i j = let same : Some t ≡ w = cc in subst (λ (t : Option CheckedExpr). where_given q (option_map (is_of_kind kinds) t) ≡ true) same (wanted-is place q a t h i)
      at (Err refusal) i j = cc

  agreeing-found : (place : Place) (takes : List Kind) (a b : Typed) (j : Agreed) → IsTyped kinds a → IsTyped kinds b → agreeing place takes a b ≡ Ok j → find (λ r. is_of_kind kinds j.left r && is_of_kind kinds j.right r) takes ≡ Some j.kind
  agreeing-found place takes a b j h i e = at (agreed takes (a.kind ∷ b.kind ∷ [])) refl e
    where
      at : (o : Option Kind) → agreed takes (a.kind ∷ b.kind ∷ []) ≡ o → (or_refused o WrongType place >>= (λ kind. Ok (record { kind = kind; left = widened kind a; right = widened kind b }))) ≡ Ok j → find (λ r. is_of_kind kinds j.left r && is_of_kind kinds j.right r) takes ≡ Some j.kind
      at None f g = cc
      at (Some q) f g =
          let made : Agreed = record { kind = q; left = widened q a; right = widened q b } in
          let same : made ≡ j = cc in
          let passes : (may_stand q a.kind && (may_stand q b.kind && true)) ≡ true = found-passes (λ kind. list_all (may_stand kind) (a.kind ∷ b.kind ∷ [])) takes q f in
          let first : is_of_kind kinds (widened q a) ≡ is_exactly (at_kind q a.kind) = widened-exact q a.kind a.tree h (left (may_stand q a.kind) (may_stand q b.kind && true) passes) in
          let second : is_of_kind kinds (widened q b) ≡ is_exactly (at_kind q b.kind) = widened-exact q b.kind b.tree i (left (may_stand q b.kind) true (right (may_stand q a.kind) (may_stand q b.kind && true) passes)) in
          let found : find (λ r. is_of_kind kinds (widened q a) r && is_of_kind kinds (widened q b) r) takes ≡ Some q = (λ k. find (λ r. first k r && second k r) takes) ∙ agreed-two takes a.kind b.kind q f in
          subst (λ (t : Agreed). find (λ r. is_of_kind kinds t.left r && is_of_kind kinds t.right r) takes ≡ Some t.kind) same found

  one-found : (takes : List Kind) (a : Typed) (q : Kind) → IsTyped kinds a → agreed takes (a.kind ∷ []) ≡ Some q → find (is_of_kind kinds (widened q a)) takes ≡ Some q
  one-found takes a q h f =
      let passes : (may_stand q a.kind && true) ≡ true = found-passes (λ kind. list_all (may_stand kind) (a.kind ∷ [])) takes q f in
      ap (λ (g : Tests). find g takes) (widened-exact q a.kind a.tree h (left (may_stand q a.kind) true passes)) ∙ agreed-one takes a.kind q f

  -- ---- operators

  unary-sound : (o : UnaryOperator) (place : Place) (a : Typed) → IsTyped kinds a → Sound (unary_typed o place a)
  unfolding Sound
  unary-sound o place a h = after (joint place (unary_takes o) (a.kind ∷ [])) (λ q. Ok (typed_as (unary_gives o q) (tree.Unary o (widened q a)))) (λ q e.
      rolled (CheckedExpr-F.Unary o (widened q a)) (tree.rolls-Unary o (widened q a))
      ∙ given-is (unary_gives o) (is_of_kind kinds (widened q a)) (unary_takes o) q (one-found (unary_takes o) a q h (joint-agreed place (unary_takes o) (a.kind ∷ []) q e)))

  sort-sound : (sort : Sort) (place : Place) (a : Typed) → IsTyped kinds a → Sound (sort_typed sort place a)
  unfolding Sound
  sort-sound sort place a h = after (joint place (sort_takes sort) (a.kind ∷ [])) (λ q. Ok (typed_as q (tree.OfSort sort (widened q a)))) (λ q e.
      rolled (CheckedExpr-F.OfSort sort (widened q a)) (tree.rolls-OfSort sort (widened q a))
      ∙ given-is same (is_of_kind kinds (widened q a)) (sort_takes sort) q (one-found (sort_takes sort) a q h (joint-agreed place (sort_takes sort) (a.kind ∷ []) q e)))

  binary-sound : (o : BinaryOperator) (place : Place) (a b : Typed) → IsTyped kinds a → IsTyped kinds b → Sound (binary_typed o place a b)
  unfolding Sound
  binary-sound o place a b h i = after (agreeing place (binary_takes o) a b) (λ j. Ok (typed_as (binary_gives o j.kind) (tree.Binary o j.left j.right))) (λ j e.
      rolled (CheckedExpr-F.Binary o j.left j.right) (tree.rolls-Binary o j.left j.right)
      ∙ given-is (binary_gives o) (λ r. is_of_kind kinds j.left r && is_of_kind kinds j.right r) (binary_takes o) j.kind (agreeing-found place (binary_takes o) a b j h i e))

  nvl-sound : (place : Place) (a b : Typed) → IsTyped kinds a → IsTyped kinds b → Sound (nvl_typed place a b)
  unfolding Sound
  nvl-sound place a b h i = after (agreeing place ANY a b) (λ j. Ok (typed_as j.kind (tree.Nvl j.left j.right))) (λ j e.
      rolled (CheckedExpr-F.Nvl j.left j.right) (tree.rolls-Nvl j.left j.right)
      ∙ given-is same (λ r. is_of_kind kinds j.left r && is_of_kind kinds j.right r) ANY j.kind (agreeing-found place ANY a b j h i e))

  function-sound : (f : BinaryFunction) (place : Place) (a b : Typed) → IsTyped kinds a → IsTyped kinds b → Sound (function_typed f place a b)
  function-sound function.Mod place a b h i = binary-sound binary.Mod place a b h i
  function-sound function.Nvl place a b h i = nvl-sound place a b h i
  function-sound function.Instr place a b h i = binary-sound binary.Instr place a b h i

  if-sound : (place : Place) (c a b : Typed) → IsTyped kinds c → IsTyped kinds a → IsTyped kinds b → Sound (if_typed place c a b)
  unfolding Sound
  if-sound place c a b g h i = after (wanted place Truth c) (λ condition. agreeing place ANY a b >>= (λ j. Ok (typed_as j.kind (tree.If condition j.left j.right)))) (λ w e.
      after (agreeing place ANY a b) (λ j. Ok (typed_as j.kind (tree.If w j.left j.right))) (λ j f.
      rolled (CheckedExpr-F.If w j.left j.right) (tree.rolls-If w j.left j.right)
      ∙ ap {B = Tests} (λ (v : Bool) (k : Kind). v && given same (λ r. is_of_kind kinds j.left r && is_of_kind kinds j.right r) ANY k) (wanted-is place Truth c w g e)
      ∙ given-is same (λ r. is_of_kind kinds j.left r && is_of_kind kinds j.right r) ANY j.kind (agreeing-found place ANY a b j h i f)))

  round-sound : (f : RoundFunction) (digits : Option ℤ) (place : Place) (a : Typed) → IsTyped kinds a → Sound (round_typed f digits place a)
  unfolding Sound
  round-sound f digits place a h = after (wanted place Number a) (λ operand. demanded (digits_fit digits) BadConstant place >>= (λ met. Ok (typed_as (round_gives digits) (tree.Round f operand digits)))) (λ w e.
      after (demanded (digits_fit digits) BadConstant place) (λ met. Ok (typed_as (round_gives digits) (tree.Round f w digits))) (λ u d.
      rolled (CheckedExpr-F.Round f w digits) (tree.rolls-Round f w digits)
      ∙ ap {B = Tests} (λ (v : Bool) (k : Kind). v && is_kind (round_gives digits) k) (both (is_of_kind kinds w Number) (digits_fit digits) (wanted-is place Number a w h e) (demand-met (digits_fit digits) BadConstant place u d))))

  matches-sound : (pattern : List ℕ) (place : Place) (a : Typed) → IsTyped kinds a → Sound (matches_typed pattern place a)
  unfolding Sound
  matches-sound pattern place a h = after (wanted place Text a) (λ operand. demanded (is_pattern pattern) BadPattern place >>= (λ met. Ok (typed_as Truth (tree.Matches operand pattern)))) (λ w e.
      after (demanded (is_pattern pattern) BadPattern place) (λ met. Ok (typed_as Truth (tree.Matches w pattern))) (λ u d.
      rolled (CheckedExpr-F.Matches w pattern) (tree.rolls-Matches w pattern)
      ∙ ap {B = Tests} (λ (v : Bool) (k : Kind). v && is_kind Truth k) (both (is_of_kind kinds w Text) (is_pattern pattern) (wanted-is place Text a w h e) (demand-met (is_pattern pattern) BadPattern place u d))))

  tree-substr : (w : CheckedExpr) (from count : Option CheckedExpr) → is_of_kind kinds w Text ≡ true → where_given Integer (option_map (is_of_kind kinds) from) ≡ true → where_given Integer (option_map (is_of_kind kinds) count) ≡ true → is_of_kind kinds (tree.Substr w from count) ≡ is_exactly (Some Text)
  tree-substr w None None a b c = rolled (CheckedExpr-F.Substr w None None) (tree.rolls-Substr w None None) ∙ (λ i k. (a i && true) && is_kind Text k)
  tree-substr w (Some x) None a b c = rolled (CheckedExpr-F.Substr w (Some x) None) (tree.rolls-Substr w (Some x) None) ∙ (λ i k. (a i && (b i && true)) && is_kind Text k)
  tree-substr w None (Some y) a b c = rolled (CheckedExpr-F.Substr w None (Some y)) (tree.rolls-Substr w None (Some y)) ∙ (λ i k. (a i && c i) && is_kind Text k)
  tree-substr w (Some x) (Some y) a b c = rolled (CheckedExpr-F.Substr w (Some x) (Some y)) (tree.rolls-Substr w (Some x) (Some y)) ∙ (λ i k. (a i && (b i && c i)) && is_kind Text k)

  substr-sound : (place : Place) (a : Typed) (start length : Option Typed) → IsTyped kinds a → IsTypedIf kinds start → IsTypedIf kinds length → Sound (substr_typed place a start length)
  unfolding Sound
  substr-sound place a start length h i j = after (wanted place Text a) (λ operand. wanted_if place Integer start >>= (λ from. wanted_if place Integer length >>= (λ count. Ok (typed_as Text (tree.Substr operand from count))))) (λ w e.
      after (wanted_if place Integer start) (λ from. wanted_if place Integer length >>= (λ count. Ok (typed_as Text (tree.Substr w from count)))) (λ from f.
      after (wanted_if place Integer length) (λ count. Ok (typed_as Text (tree.Substr w from count))) (λ count g.
      tree-substr w from count (wanted-is place Text a w h e) (wanted_if-is place Integer start from i f) (wanted_if-is place Integer length count j g))))

  tree-replace : (w v : CheckedExpr) (new : Option CheckedExpr) → is_of_kind kinds w Text ≡ true → is_of_kind kinds v Text ≡ true → where_given Text (option_map (is_of_kind kinds) new) ≡ true → is_of_kind kinds (tree.Replace w v new) ≡ is_exactly (Some Text)
  tree-replace w v None a b c = rolled (CheckedExpr-F.Replace w v None) (tree.rolls-Replace w v None) ∙ (λ i k. (a i && (b i && true)) && is_kind Text k)
  tree-replace w v (Some x) a b c = rolled (CheckedExpr-F.Replace w v (Some x)) (tree.rolls-Replace w v (Some x)) ∙ (λ i k. (a i && (b i && c i)) && is_kind Text k)

  replace-sound : (place : Place) (a old : Typed) (by : Option Typed) → IsTyped kinds a → IsTyped kinds old → IsTypedIf kinds by → Sound (replace_typed place a old by)
  unfolding Sound
  replace-sound place a old by h i j = after (wanted place Text a) (λ operand. wanted place Text old >>= (λ pattern. wanted_if place Text by >>= (λ new. Ok (typed_as Text (tree.Replace operand pattern new))))) (λ w e.
      after (wanted place Text old) (λ pattern. wanted_if place Text by >>= (λ new. Ok (typed_as Text (tree.Replace w pattern new)))) (λ v f.
      after (wanted_if place Text by) (λ new. Ok (typed_as Text (tree.Replace w v new))) (λ new g.
      tree-replace w v new (wanted-is place Text a w h e) (wanted-is place Text old v i f) (wanted_if-is place Text by new j g))))

  -- ---- what a call answers, where its operands are well typed

  pub unary-typed : (o : UnaryOperator) (place : Place) (a : Typed) (r : Result Typed TypeStop) → IfOk r (λ t. unary_typed o place a ≡ Ok t) → IsTyped kinds a → IfOk r (IsTyped kinds)
  unary-typed o place a r e h = answered (unary_typed o place a) r (unary-sound o place a h) e

  pub sort-typed : (sort : Sort) (place : Place) (a : Typed) (r : Result Typed TypeStop) → IfOk r (λ t. sort_typed sort place a ≡ Ok t) → IsTyped kinds a → IfOk r (IsTyped kinds)
  sort-typed sort place a r e h = answered (sort_typed sort place a) r (sort-sound sort place a h) e

  pub binary-typed : (o : BinaryOperator) (place : Place) (a b : Typed) (r : Result Typed TypeStop) → IfOk r (λ t. binary_typed o place a b ≡ Ok t) → IsTyped kinds a → IsTyped kinds b → IfOk r (IsTyped kinds)
  binary-typed o place a b r e h i = answered (binary_typed o place a b) r (binary-sound o place a b h i) e

  pub function-typed : (f : BinaryFunction) (place : Place) (a b : Typed) (r : Result Typed TypeStop) → IfOk r (λ t. function_typed f place a b ≡ Ok t) → IsTyped kinds a → IsTyped kinds b → IfOk r (IsTyped kinds)
  function-typed f place a b r e h i = answered (function_typed f place a b) r (function-sound f place a b h i) e

  pub if-typed : (place : Place) (c a b : Typed) (r : Result Typed TypeStop) → IfOk r (λ t. if_typed place c a b ≡ Ok t) → IsTyped kinds c → IsTyped kinds a → IsTyped kinds b → IfOk r (IsTyped kinds)
  if-typed place c a b r e g h i = answered (if_typed place c a b) r (if-sound place c a b g h i) e

  pub round-typed : (f : RoundFunction) (digits : Option ℤ) (place : Place) (a : Typed) (r : Result Typed TypeStop) → IfOk r (λ t. round_typed f digits place a ≡ Ok t) → IsTyped kinds a → IfOk r (IsTyped kinds)
  round-typed f digits place a r e h = answered (round_typed f digits place a) r (round-sound f digits place a h) e

  pub matches-typed : (pattern : List ℕ) (place : Place) (a : Typed) (r : Result Typed TypeStop) → IfOk r (λ t. matches_typed pattern place a ≡ Ok t) → IsTyped kinds a → IfOk r (IsTyped kinds)
  matches-typed pattern place a r e h = answered (matches_typed pattern place a) r (matches-sound pattern place a h) e

  pub substr-typed : (place : Place) (a : Typed) (start length : Option Typed) (r : Result Typed TypeStop) → IfOk r (λ t. substr_typed place a start length ≡ Ok t) → IsTyped kinds a → IsTypedIf kinds start → IsTypedIf kinds length → IfOk r (IsTyped kinds)
  substr-typed place a start length r e h i j = answered (substr_typed place a start length) r (substr-sound place a start length h i j) e

  pub replace-typed : (place : Place) (a old : Typed) (by : Option Typed) (r : Result Typed TypeStop) → IfOk r (λ t. replace_typed place a old by ≡ Ok t) → IsTyped kinds a → IsTyped kinds old → IsTypedIf kinds by → IfOk r (IsTyped kinds)
  replace-typed place a old by r e h i j = answered (replace_typed place a old by) r (replace-sound place a old by h i j) e
