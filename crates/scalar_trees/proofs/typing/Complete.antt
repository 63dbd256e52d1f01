-- A fault is answered only where no well typed tree is the expression.
use Rattle.std.proofs.Common.{◌≡◌, ℕ, ℤ, Bool, true, cond, List, [], ◌∷◌, map, Option, Some, None, Result, Ok, Err, find, refl, sym, ap, subst, ◌∙◌}
use Rattle.std.specs.Prelude.{◌&&◌, is_none}
use Rattle.std.specs.List.{list_all}
use Rattle.std.specs.Option.{option_map}
use Rattle.vtl_values.specs.declared.kind.Kind.{Kind}
use Rattle.vtl_values.specs.declared.kind.Kind.TheVariants.{Integer, Number, Text, Truth}
use Rattle.vtl_values.specs.declared.place.Place.{Place}
use Rattle.vtl_values.specs.declared.value.Value.{Value}
use Rattle.vtl_values.specs.declared.value.Value.TheVariants as value
use Rattle.vtl_syntax.specs.declared.words.BinaryFunction.{BinaryFunction}
use Rattle.vtl_syntax.specs.declared.words.BinaryFunction.TheVariants as function
use Rattle.vtl_syntax.specs.declared.words.InSign.{InSign}
use Rattle.vtl_syntax.specs.declared.words.RoundFunction.{RoundFunction}
use Rattle.vtl_syntax.specs.declared.words.Sort.{Sort}
use Rattle.scalar_texts.specs.Patterns.{is_pattern}
use Rattle.scalar_trees.specs.declared.tree.CheckedExpr.{CheckedExpr, roll-CheckedExpr, out-CheckedExpr, out-roll-CheckedExpr, map-CheckedExpr}
use Rattle.scalar_trees.specs.declared.tree.CheckedExpr.TheVariants as tree
use Rattle.scalar_trees.specs.declared.tree.CheckedExpr.TheOpen.{CheckedExpr-F}
use Rattle.scalar_trees.specs.declared.operators.UnaryOperator.{UnaryOperator}
use Rattle.scalar_trees.specs.declared.operators.BinaryOperator.{BinaryOperator}
use Rattle.scalar_trees.specs.declared.operators.BinaryOperator.TheVariants as binary
use Rattle.scalar_trees.specs.Kinds.{ANY, stands_for, may_stand, unary_takes, unary_gives, binary_takes, binary_gives, round_gives, sort_takes, literal_kind, number_value, widened_value}
use Rattle.scalar_trees.specs.WellTyped.{Kinds, is_kind, is_some_kind, is_exactly, given, same, truth, digits_fit, fits, is_present, is_of_set, in_range, is_of_kind}
use Rattle.scalar_trees.specs.Erased.{erased, plain_layer}
use Rattle.scalar_trees.specs.declared.typing.stop.Fault.TheVariants.{WrongType, BadConstant, BadPattern}
use Rattle.scalar_trees.specs.declared.typing.stop.Fault.{Fault}
use Rattle.scalar_trees.specs.declared.typing.stop.Refusal.{Refusal}
use Rattle.scalar_trees.specs.declared.typing.typed.Typed.{Typed}
use Rattle.scalar_trees.specs.typing.Steps.{◌>>=◌, or_refused, demanded}
use Rattle.scalar_trees.specs.typing.Scalars.{Answer, Agreed as Pair, typed_as, widened, wanted, agreeing, literal_typed, unary_typed, binary_typed, nvl_typed, function_typed, if_typed, in_typed, between_typed, round_typed, matches_typed, sort_typed}
use Rattle.scalar_trees.specs.typing.Resolved.{Resolved, one, two, three, binary_of, function_of}
use Rattle.scalar_trees.proofs.typing.Sound.{is_kind-same, both, left, right, found-passes}
use Rattle.scalar_trees.proofs.typing.SoundSets.{number-present, within-any, found-some}
use Rattle.scalar_trees.proofs.typing.SeenTrees.{stands-refl, stands-trans, Ordered, any-ordered, unary-ordered, binary-ordered, sort-ordered, unary-monotone, binary-monotone, Agreed, agree, kinds_at, Seen, seen}

-- what two trees are rolled up from, if they are one tree
opened : (x y : CheckedExpr-F CheckedExpr) → roll-CheckedExpr x ≡ roll-CheckedExpr y → x ≡ y
opened x y e = sym (out-roll-CheckedExpr x) ∙ ap out-CheckedExpr e ∙ out-roll-CheckedExpr y

-- what an operator gives is given at a kind that is found
pub record Given (gives : Kind → Kind) (p : Kind → Bool) (takes : List Kind) (k : Kind) : Type 0 where
  pub at : Kind
  pub found : find p takes ≡ Some at
  pub gives_it : gives at ≡ k

pub given-at : (gives : Kind → Kind) (p : Kind → Bool) (takes : List Kind) (k : Kind) → given gives p takes k ≡ true → Given gives p takes k
given-at gives p takes k e = at (find p takes) refl e
  where
    at : (o : Option Kind) → find p takes ≡ o → is_some_kind k (option_map gives o) ≡ true → Given gives p takes k
    at None f h = cc
    at (Some q) f h = record { at = q; found = f; gives_it = is_kind-same (gives q) k h }

-- where integers stand as numbers in sets and bounds, the kind at which they certainly agree
abbrev wide : Kind → Kind
wide Integer = Number
wide Number = Number
wide Text = Text
wide Truth = Truth

wide-stands : (q : Kind) (g : Option Kind) → may_stand q g ≡ true → may_stand (wide q) g ≡ true
wide-stands Integer None h = refl
wide-stands Integer (Some k) h = stands-trans Number Integer k refl h
wide-stands Number g h = h
wide-stands Text g h = h
wide-stands Truth g h = h

-- a literal that stands as the same number as one that fits a kind
bound-kind : (q : Kind) (v w : Value) → number_value v ≡ number_value w → fits q w ≡ true → may_stand (wide q) (literal_kind v) ≡ true
bound-kind q value.Null value.Null e h = refl
bound-kind q value.Null (value.Integer m) e h = cc
bound-kind q value.Null (value.Number m) e h = cc
bound-kind q value.Null (value.Text m) e h = cc
bound-kind q value.Null (value.Truth m) e h = cc
bound-kind q (value.Integer n) value.Null e h = cc
bound-kind q (value.Integer n) (value.Integer m) e h = let same : Integer ≡ q = is_kind-same Integer q (right (in_range (value.Integer m)) (is_kind Integer q) h) in subst (λ (z : Kind). may_stand (wide z) (Some Integer) ≡ true) same refl
bound-kind q (value.Integer n) (value.Number m) e h = let same : Number ≡ q = is_kind-same Number q (right (in_range (value.Number m)) (is_kind Number q) h) in subst (λ (z : Kind). may_stand (wide z) (Some Integer) ≡ true) same refl
bound-kind q (value.Integer n) (value.Text m) e h = cc
bound-kind q (value.Integer n) (value.Truth m) e h = cc
bound-kind q (value.Number n) value.Null e h = cc
bound-kind q (value.Number n) (value.Integer m) e h = let same : Integer ≡ q = is_kind-same Integer q (right (in_range (value.Integer m)) (is_kind Integer q) h) in subst (λ (z : Kind). may_stand (wide z) (Some Number) ≡ true) same refl
bound-kind q (value.Number n) (value.Number m) e h = let same : Number ≡ q = is_kind-same Number q (right (in_range (value.Number m)) (is_kind Number q) h) in subst (λ (z : Kind). may_stand (wide z) (Some Number) ≡ true) same refl
bound-kind q (value.Number n) (value.Text m) e h = cc
bound-kind q (value.Number n) (value.Truth m) e h = cc
bound-kind q (value.Text n) value.Null e h = cc
bound-kind q (value.Text n) (value.Integer m) e h = cc
bound-kind q (value.Text n) (value.Number m) e h = cc
bound-kind q (value.Text n) (value.Text m) e h = let same : Text ≡ q = is_kind-same Text q (right (in_range (value.Text m)) (is_kind Text q) h) in subst (λ (z : Kind). may_stand (wide z) (Some Text) ≡ true) same refl
bound-kind q (value.Text n) (value.Truth m) e h = cc
bound-kind q (value.Truth n) value.Null e h = cc
bound-kind q (value.Truth n) (value.Integer m) e h = cc
bound-kind q (value.Truth n) (value.Number m) e h = cc
bound-kind q (value.Truth n) (value.Text m) e h = cc
bound-kind q (value.Truth n) (value.Truth m) e h = let same : Truth ≡ q = is_kind-same Truth q (right (in_range (value.Truth m)) (is_kind Truth q) h) in subst (λ (z : Kind). may_stand (wide z) (Some Truth) ≡ true) same refl

set-kinds : (q : Kind) (vs ws : List Value) → map number_value vs ≡ map number_value ws → list_all (is_of_set q) ws ≡ true → list_all (may_stand (wide q)) (map literal_kind vs) ≡ true
set-kinds q [] ws e h = refl
set-kinds q (v ∷ vs) [] e h = cc
set-kinds q (v ∷ vs) (w ∷ ws) e h =
    both (may_stand (wide q) (literal_kind v)) (list_all (may_stand (wide q)) (map literal_kind vs))
    (bound-kind q v w (let same : number_value v ≡ number_value w = cc in same) (right (is_present w) (fits q w) (left (is_of_set q w) (list_all (is_of_set q) ws) h)))
    (set-kinds q vs ws (let same : map number_value vs ≡ map number_value ws = cc in same) (right (is_of_set q w) (list_all (is_of_set q) ws) h))

set-present : (q : Kind) (vs ws : List Value) → map number_value vs ≡ map number_value ws → list_all (is_of_set q) ws ≡ true → list_all is_present vs ≡ true
set-present q [] ws e h = refl
set-present q (v ∷ vs) [] e h = cc
set-present q (v ∷ vs) (w ∷ ws) e h =
    let same : number_value v ≡ number_value w = cc in
    both (is_present v) (list_all is_present vs)
    (sym (number-present v) ∙ ap is_present same ∙ number-present w ∙ left (is_present w) (fits q w) (left (is_of_set q w) (list_all (is_of_set q) ws) h))
    (set-present q vs ws (let others : map number_value vs ≡ map number_value ws = cc in others) (right (is_of_set q w) (list_all (is_of_set q) ws) h))

module _ (kinds : Kinds) where
  -- an answer whose kind the tree's kind stands for; where it has none of its own, the tree is of all
  pub record Meets (t : CheckedExpr) (k : Kind) (r : Typed) : Type 0 where
    pub stands : may_stand k r.kind ≡ true
    pub null : r.kind ≡ None → (q : Kind) → is_of_kind kinds t q ≡ true

  abbrev pub Met : CheckedExpr → Kind → Answer → Type 0
  Met t k (Ok r) = Meets t k r
  Met t k (Err refusal) = ⊥

  -- whatever well typed tree is as resolved, the answer is one
  abbrev pub Complete : Answer → Resolved → Type 0
  Complete answer r = (t : CheckedExpr) (k : Kind) → is_of_kind kinds t k ≡ true → r ≡ Some (erased t) → Met t k answer

  -- an operator's answer, of a kind of its own
  pub own-kind : (t : CheckedExpr) (k q r : Kind) (made : CheckedExpr) → stands_for k q ≡ true → stands_for q r ≡ true → Meets t k (typed_as r made)
  own-kind t k q r made h i = record { stands = stands-trans k q r h i; null = λ no. cc }

  -- ---- operands

  -- an operand of a tree that is of this kind
  pub record Operand (p : Kind → Bool) (a : Typed) (q : Kind) : Type 0 where
    pub stands : may_stand q a.kind ≡ true
    pub null : a.kind ≡ None → (k : Kind) → p k ≡ true

  -- after an operand that is complete
  pub operand : (answer : Answer) (ra : Resolved) (a' : CheckedExpr) (q : Kind) → Complete answer ra → is_of_kind kinds a' q ≡ true → ra ≡ Some (erased a') → (t : CheckedExpr) (k : Kind) (next : Typed → Answer) → ((a : Typed) → Operand (is_of_kind kinds a') a q → Met t k (next a)) → Met t k (answer >>= next)
  operand answer ra a' q c h e t k next step = at answer (c a' q h e)
    where
      at : (s : Answer) → Met a' q s → Met t k (s >>= next)
      at (Ok a) m = step a (record { stands = m.stands; null = m.null })
      at (Err refusal) m = absurd m

  none-of : (g : Option Kind) → is_none g ≡ true → g ≡ None
  none-of None h = refl
  none-of (Some k) h = cc

  -- one operand at the kind at which an operator's tree has it
  one-agrees : (takes : List Kind) (p : Kind → Bool) (a : Typed) (q : Kind) → Ordered takes → find p takes ≡ Some q → Operand p a q → Agreed takes (a.kind ∷ []) q
  one-agrees takes p a q ordered f h = agree takes (a.kind ∷ []) p q ordered f (both (may_stand q a.kind) true h.stands refl) (λ none. h.null (none-of a.kind (left (is_none a.kind) true none)))

  two-agree : (takes : List Kind) (p s : Kind → Bool) (a b : Typed) (q : Kind) → Ordered takes → find (λ k. p k && s k) takes ≡ Some q → Operand p a q → Operand s b q → Agreed takes (a.kind ∷ b.kind ∷ []) q
  two-agree takes p s a b q ordered f h i =
      agree takes (a.kind ∷ b.kind ∷ []) (λ k. p k && s k) q ordered f (both (may_stand q a.kind) (may_stand q b.kind && true) h.stands (both (may_stand q b.kind) true i.stands refl))
      (λ none k. both (p k) (s k) (h.null (none-of a.kind (left (is_none a.kind) (is_none b.kind && true) none)) k) (i.null (none-of b.kind (left (is_none b.kind) true (right (is_none a.kind) (is_none b.kind && true) none))) k))

  -- a step that answers so is met
  pub met-at : (t : CheckedExpr) (k q r : Kind) (made : CheckedExpr) (answer : Answer) → answer ≡ Ok (typed_as r made) → stands_for k q ≡ true → stands_for q r ≡ true → Met t k answer
  met-at t k q r made answer e h i = subst (Met t k) (sym e) (own-kind t k q r made h i)

  -- an operand of a fixed kind
  pub wanted-goes : (place : Place) (q : Kind) (a : Typed) → may_stand q a.kind ≡ true → wanted place q a ≡ Ok (widened q a)
  wanted-goes place q a m = ap {B = Result CheckedExpr Refusal} (λ (b : Bool). or_refused (cond (b && true) (Some q) None) WrongType place >>= (λ r. Ok (widened r a))) m

  demand-goes : (b : Bool) (fault : Fault) (place : Place) → b ≡ true → demanded b fault place ≡ Ok tt
  demand-goes b fault place h = ap {B = Result (Unit {0}) Refusal} (λ (c : Bool). demanded c fault place) h

  -- what a resolved expression is, on the level of a tree of which it is
  pub level-of : (x : CheckedExpr-F CheckedExpr) (d t : CheckedExpr) (k : Kind) (s : Seen kinds t k) → roll-CheckedExpr x ≡ d → Some d ≡ Some (erased t) → x ≡ plain_layer (map-CheckedExpr CheckedExpr CheckedExpr erased s.layer)
  level-of x d t k s is e = let same : d ≡ erased t = cc in opened x (plain_layer (map-CheckedExpr CheckedExpr CheckedExpr erased s.layer)) (is ∙ same ∙ s.erases)

  -- ---- one operand

  record IsUnary (o : UnaryOperator) (x : CheckedExpr) (k : Kind) : Type 0 where
    pub part : CheckedExpr
    pub erases : x ≡ erased part
    pub typed : given (unary_gives o) (is_of_kind kinds part) (unary_takes o) k ≡ true

  is-unary : (o : UnaryOperator) (x : CheckedExpr) (layer : CheckedExpr-F CheckedExpr) (k : Kind) → CheckedExpr-F.Unary o x ≡ plain_layer (map-CheckedExpr CheckedExpr CheckedExpr erased layer) → kinds_at kinds layer k ≡ true → IsUnary o x k
  is-unary o x (CheckedExpr-F.Unary o' a) k e h = let same : o' ≡ o = cc in record { part = a; erases = cc; typed = subst (λ (u : UnaryOperator). given (unary_gives u) (is_of_kind kinds a) (unary_takes u) k ≡ true) same h }
  is-unary o x _ k e h = cc

  pub unary-complete : (o : UnaryOperator) (place : Place) (answer : Answer) (r : Resolved) → Complete answer r → Complete (answer >>= unary_typed o place) (one (tree.Unary o) r)
  unary-complete o place answer None c = λ t k h e. cc
  unary-complete o place answer (Some x) c = λ t k h e.
      let s = seen kinds t k h in
      let u = is-unary o x s.layer s.kind (level-of (CheckedExpr-F.Unary o x) (tree.Unary o x) t k s (tree.rolls-Unary o x) e) s.typed in
      let g = given-at (unary_gives o) (is_of_kind kinds u.part) (unary_takes o) s.kind u.typed in
      operand answer (Some x) u.part g.at c (found-passes (is_of_kind kinds u.part) (unary_takes o) g.at g.found) (ap Some u.erases) t k (unary_typed o place) (λ a i.
      let j = one-agrees (unary_takes o) (is_of_kind kinds u.part) a g.at (unary-ordered o) g.found i in
      met-at t k s.kind (unary_gives o j.kind) (tree.Unary o (widened j.kind a)) (unary_typed o place a)
      (ap {B = Answer} (λ (z : Option Kind). or_refused z WrongType place >>= (λ q. Ok (typed_as (unary_gives o q) (tree.Unary o (widened q a))))) j.found)
      s.stands (subst (λ (z : Kind). stands_for z (unary_gives o j.kind) ≡ true) g.gives_it (unary-monotone o g.at j.kind j.stands)))

  record IsOfSort (o : Sort) (x : CheckedExpr) (k : Kind) : Type 0 where
    pub part : CheckedExpr
    pub erases : x ≡ erased part
    pub typed : given same (is_of_kind kinds part) (sort_takes o) k ≡ true

  is-sort : (o : Sort) (x : CheckedExpr) (layer : CheckedExpr-F CheckedExpr) (k : Kind) → CheckedExpr-F.OfSort o x ≡ plain_layer (map-CheckedExpr CheckedExpr CheckedExpr erased layer) → kinds_at kinds layer k ≡ true → IsOfSort o x k
  is-sort o x (CheckedExpr-F.OfSort o' a) k e h = let eq : o' ≡ o = cc in record { part = a; erases = cc; typed = subst (λ (u : Sort). given same (is_of_kind kinds a) (sort_takes u) k ≡ true) eq h }
  is-sort o x _ k e h = cc

  pub sort-complete : (o : Sort) (place : Place) (answer : Answer) (r : Resolved) → Complete answer r → Complete (answer >>= sort_typed o place) (one (tree.OfSort o) r)
  sort-complete o place answer None c = λ t k h e. cc
  sort-complete o place answer (Some x) c = λ t k h e.
      let s = seen kinds t k h in
      let u = is-sort o x s.layer s.kind (level-of (CheckedExpr-F.OfSort o x) (tree.OfSort o x) t k s (tree.rolls-OfSort o x) e) s.typed in
      let g = given-at same (is_of_kind kinds u.part) (sort_takes o) s.kind u.typed in
      operand answer (Some x) u.part g.at c (found-passes (is_of_kind kinds u.part) (sort_takes o) g.at g.found) (ap Some u.erases) t k (sort_typed o place) (λ a i.
      let j = one-agrees (sort_takes o) (is_of_kind kinds u.part) a g.at (sort-ordered o) g.found i in
      met-at t k s.kind j.kind (tree.OfSort o (widened j.kind a)) (sort_typed o place a)
      (ap {B = Answer} (λ (z : Option Kind). or_refused z WrongType place >>= (λ q. Ok (typed_as q (tree.OfSort o (widened q a))))) j.found)
      s.stands (subst (λ (z : Kind). stands_for z j.kind ≡ true) g.gives_it j.stands))

  record IsRound (f : RoundFunction) (x : CheckedExpr) (digits : Option ℤ) (k : Kind) : Type 0 where
    pub part : CheckedExpr
    pub erases : x ≡ erased part
    pub typed : ((is_of_kind kinds part Number && digits_fit digits) && is_kind (round_gives digits) k) ≡ true

  is-round : (f : RoundFunction) (x : CheckedExpr) (digits : Option ℤ) (layer : CheckedExpr-F CheckedExpr) (k : Kind) → CheckedExpr-F.Round f x digits ≡ plain_layer (map-CheckedExpr CheckedExpr CheckedExpr erased layer) → kinds_at kinds layer k ≡ true → IsRound f x digits k
  is-round f x digits (CheckedExpr-F.Round f' a d) k e h = let eq : d ≡ digits = cc in record { part = a; erases = cc; typed = subst (λ (u : Option ℤ). ((is_of_kind kinds a Number && digits_fit u) && is_kind (round_gives u) k) ≡ true) eq h }
  is-round f x digits _ k e h = cc

  pub round-complete : (f : RoundFunction) (digits : Option ℤ) (place : Place) (answer : Answer) (r : Resolved) → Complete answer r → Complete (answer >>= round_typed f digits place) (one (λ x. tree.Round f x digits) r)
  round-complete f digits place answer None c = λ t k h e. cc
  round-complete f digits place answer (Some x) c = λ t k h e.
      let s = seen kinds t k h in
      let u = is-round f x digits s.layer s.kind (level-of (CheckedExpr-F.Round f x digits) (tree.Round f x digits) t k s (tree.rolls-Round f x digits) e) s.typed in
      let parts : (is_of_kind kinds u.part Number && digits_fit digits) ≡ true = left (is_of_kind kinds u.part Number && digits_fit digits) (is_kind (round_gives digits) s.kind) u.typed in
      let gives : round_gives digits ≡ s.kind = is_kind-same (round_gives digits) s.kind (right (is_of_kind kinds u.part Number && digits_fit digits) (is_kind (round_gives digits) s.kind) u.typed) in
      operand answer (Some x) u.part Number c (left (is_of_kind kinds u.part Number) (digits_fit digits) parts) (ap Some u.erases) t k (round_typed f digits place) (λ a i.
      met-at t k s.kind (round_gives digits) (tree.Round f (widened Number a) digits) (round_typed f digits place a)
      (ap {B = Answer} (λ (z : Result CheckedExpr Refusal). z >>= (λ operand. demanded (digits_fit digits) BadConstant place >>= (λ met. Ok (typed_as (round_gives digits) (tree.Round f operand digits))))) (wanted-goes place Number a i.stands)
      ∙ ap {B = Answer} (λ (z : Result (Unit {0}) Refusal). z >>= (λ met. Ok (typed_as (round_gives digits) (tree.Round f (widened Number a) digits)))) (demand-goes (digits_fit digits) BadConstant place (right (is_of_kind kinds u.part Number) (digits_fit digits) parts)))
      s.stands (subst (λ (z : Kind). stands_for z (round_gives digits) ≡ true) gives (stands-refl (round_gives digits))))

  record IsMatch (x : CheckedExpr) (pattern : List ℕ) (k : Kind) : Type 0 where
    pub part : CheckedExpr
    pub erases : x ≡ erased part
    pub typed : ((is_of_kind kinds part Text && is_pattern pattern) && is_kind Truth k) ≡ true

  is-match : (x : CheckedExpr) (pattern : List ℕ) (layer : CheckedExpr-F CheckedExpr) (k : Kind) → CheckedExpr-F.Matches x pattern ≡ plain_layer (map-CheckedExpr CheckedExpr CheckedExpr erased layer) → kinds_at kinds layer k ≡ true → IsMatch x pattern k
  is-match x pattern (CheckedExpr-F.Matches a p) k e h = let eq : p ≡ pattern = cc in record { part = a; erases = cc; typed = subst (λ (u : List ℕ). ((is_of_kind kinds a Text && is_pattern u) && is_kind Truth k) ≡ true) eq h }
  is-match x pattern _ k e h = cc

  pub matches-complete : (pattern : List ℕ) (place : Place) (answer : Answer) (r : Resolved) → Complete answer r → Complete (answer >>= matches_typed pattern place) (one (λ x. tree.Matches x pattern) r)
  matches-complete pattern place answer None c = λ t k h e. cc
  matches-complete pattern place answer (Some x) c = λ t k h e.
      let s = seen kinds t k h in
      let u = is-match x pattern s.layer s.kind (level-of (CheckedExpr-F.Matches x pattern) (tree.Matches x pattern) t k s (tree.rolls-Matches x pattern) e) s.typed in
      let parts : (is_of_kind kinds u.part Text && is_pattern pattern) ≡ true = left (is_of_kind kinds u.part Text && is_pattern pattern) (is_kind Truth s.kind) u.typed in
      let gives : Truth ≡ s.kind = is_kind-same Truth s.kind (right (is_of_kind kinds u.part Text && is_pattern pattern) (is_kind Truth s.kind) u.typed) in
      operand answer (Some x) u.part Text c (left (is_of_kind kinds u.part Text) (is_pattern pattern) parts) (ap Some u.erases) t k (matches_typed pattern place) (λ a i.
      met-at t k s.kind Truth (tree.Matches (widened Text a) pattern) (matches_typed pattern place a)
      (ap {B = Answer} (λ (z : Result CheckedExpr Refusal). z >>= (λ operand. demanded (is_pattern pattern) BadPattern place >>= (λ met. Ok (typed_as Truth (tree.Matches operand pattern))))) (wanted-goes place Text a i.stands)
      ∙ ap {B = Answer} (λ (z : Result (Unit {0}) Refusal). z >>= (λ met. Ok (typed_as Truth (tree.Matches (widened Text a) pattern)))) (demand-goes (is_pattern pattern) BadPattern place (right (is_of_kind kinds u.part Text) (is_pattern pattern) parts)))
      s.stands (subst (λ (z : Kind). stands_for z Truth ≡ true) gives refl))

  -- ---- two operands

  record IsBinary (o : BinaryOperator) (x y : CheckedExpr) (k : Kind) : Type 0 where
    pub first : CheckedExpr
    pub second : CheckedExpr
    pub erases_first : x ≡ erased first
    pub erases_second : y ≡ erased second
    pub typed : given (binary_gives o) (λ q. is_of_kind kinds first q && is_of_kind kinds second q) (binary_takes o) k ≡ true

  is-binary : (o : BinaryOperator) (x y : CheckedExpr) (layer : CheckedExpr-F CheckedExpr) (k : Kind) → CheckedExpr-F.Binary o x y ≡ plain_layer (map-CheckedExpr CheckedExpr CheckedExpr erased layer) → kinds_at kinds layer k ≡ true → IsBinary o x y k
  is-binary o x y (CheckedExpr-F.Binary o' a b) k e h = let eq : o' ≡ o = cc in record { first = a; second = b; erases_first = cc; erases_second = cc; typed = subst (λ (u : BinaryOperator). given (binary_gives u) (λ q. is_of_kind kinds a q && is_of_kind kinds b q) (binary_takes u) k ≡ true) eq h }
  is-binary o x y _ k e h = cc

  pub binary-complete : (o : BinaryOperator) (place : Place) (first second : Answer) (r s : Resolved) → Complete first r → Complete second s → Complete (first >>= (λ x. second >>= binary_typed o place x)) (binary_of o r s)
  binary-complete o place first second None s c d = λ t k h e. cc
  binary-complete o place first second (Some x) None c d = λ t k h e. cc
  binary-complete o place first second (Some x) (Some y) c d = λ t k h e.
      let s = seen kinds t k h in
      let u = is-binary o x y s.layer s.kind (level-of (CheckedExpr-F.Binary o x y) (tree.Binary o x y) t k s (tree.rolls-Binary o x y) e) s.typed in
      let p : Kind → Bool = is_of_kind kinds u.first in
      let n : Kind → Bool = is_of_kind kinds u.second in
      let g = given-at (binary_gives o) (λ q. p q && n q) (binary_takes o) s.kind u.typed in
      let passes : (p g.at && n g.at) ≡ true = found-passes (λ q. p q && n q) (binary_takes o) g.at g.found in
      operand first (Some x) u.first g.at c (left (p g.at) (n g.at) passes) (ap Some u.erases_first) t k (λ a. second >>= binary_typed o place a) (λ a i.
      operand second (Some y) u.second g.at d (right (p g.at) (n g.at) passes) (ap Some u.erases_second) t k (binary_typed o place a) (λ b j.
      let w = two-agree (binary_takes o) p n a b g.at (binary-ordered o) g.found i j in
      met-at t k s.kind (binary_gives o w.kind) (tree.Binary o (widened w.kind a) (widened w.kind b)) (binary_typed o place a b)
      (ap {B = Answer} (λ (z : Option Kind). ◌>>=◌ {A = Pair} (or_refused z WrongType place >>= (λ kind. Ok (record { kind = kind; left = widened kind a; right = widened kind b }))) (λ m. Ok (typed_as (binary_gives o m.kind) (tree.Binary o m.left m.right)))) w.found)
      s.stands (subst (λ (z : Kind). stands_for z (binary_gives o w.kind) ≡ true) g.gives_it (binary-monotone o g.at w.kind w.stands))))

  record IsNvl (x y : CheckedExpr) (k : Kind) : Type 0 where
    pub first : CheckedExpr
    pub second : CheckedExpr
    pub erases_first : x ≡ erased first
    pub erases_second : y ≡ erased second
    pub typed : given same (λ q. is_of_kind kinds first q && is_of_kind kinds second q) ANY k ≡ true

  is-nvl : (x y : CheckedExpr) (layer : CheckedExpr-F CheckedExpr) (k : Kind) → CheckedExpr-F.Nvl x y ≡ plain_layer (map-CheckedExpr CheckedExpr CheckedExpr erased layer) → kinds_at kinds layer k ≡ true → IsNvl x y k
  is-nvl x y (CheckedExpr-F.Nvl a b) k e h = record { first = a; second = b; erases_first = cc; erases_second = cc; typed = h }
  is-nvl x y _ k e h = cc

  nvl-complete : (place : Place) (first second : Answer) (r s : Resolved) → Complete first r → Complete second s → Complete (first >>= (λ x. second >>= nvl_typed place x)) (two tree.Nvl r s)
  nvl-complete place first second None s c d = λ t k h e. cc
  nvl-complete place first second (Some x) None c d = λ t k h e. cc
  nvl-complete place first second (Some x) (Some y) c d = λ t k h e.
      let s = seen kinds t k h in
      let u = is-nvl x y s.layer s.kind (level-of (CheckedExpr-F.Nvl x y) (tree.Nvl x y) t k s (tree.rolls-Nvl x y) e) s.typed in
      let p : Kind → Bool = is_of_kind kinds u.first in
      let n : Kind → Bool = is_of_kind kinds u.second in
      let g = given-at same (λ q. p q && n q) ANY s.kind u.typed in
      let passes : (p g.at && n g.at) ≡ true = found-passes (λ q. p q && n q) ANY g.at g.found in
      operand first (Some x) u.first g.at c (left (p g.at) (n g.at) passes) (ap Some u.erases_first) t k (λ a. second >>= nvl_typed place a) (λ a i.
      operand second (Some y) u.second g.at d (right (p g.at) (n g.at) passes) (ap Some u.erases_second) t k (nvl_typed place a) (λ b j.
      let w = two-agree ANY p n a b g.at any-ordered g.found i j in
      met-at t k s.kind w.kind (tree.Nvl (widened w.kind a) (widened w.kind b)) (nvl_typed place a b)
      (ap {B = Answer} (λ (z : Option Kind). ◌>>=◌ {A = Pair} (or_refused z WrongType place >>= (λ kind. Ok (record { kind = kind; left = widened kind a; right = widened kind b }))) (λ m. Ok (typed_as m.kind (tree.Nvl m.left m.right)))) w.found)
      s.stands (subst (λ (z : Kind). stands_for z w.kind ≡ true) g.gives_it w.stands)))

  pub function-complete : (f : BinaryFunction) (place : Place) (first second : Answer) (r s : Resolved) → Complete first r → Complete second s → Complete (first >>= (λ x. second >>= function_typed f place x)) (function_of f r s)
  function-complete function.Mod place first second r s c d = binary-complete binary.Mod place first second r s c d
  function-complete function.Nvl place first second r s c d = nvl-complete place first second r s c d
  function-complete function.Instr place first second r s c d = binary-complete binary.Instr place first second r s c d

  -- ---- a choice

  record IsIf (x y z : CheckedExpr) (k : Kind) : Type 0 where
    pub condition : CheckedExpr
    pub first : CheckedExpr
    pub second : CheckedExpr
    pub erases_condition : x ≡ erased condition
    pub erases_first : y ≡ erased first
    pub erases_second : z ≡ erased second
    pub typed : (is_of_kind kinds condition Truth && given same (λ q. is_of_kind kinds first q && is_of_kind kinds second q) ANY k) ≡ true

  is-if : (x y z : CheckedExpr) (layer : CheckedExpr-F CheckedExpr) (k : Kind) → CheckedExpr-F.If x y z ≡ plain_layer (map-CheckedExpr CheckedExpr CheckedExpr erased layer) → kinds_at kinds layer k ≡ true → IsIf x y z k
  is-if x y z (CheckedExpr-F.If c a b) k e h = record { condition = c; first = a; second = b; erases_condition = cc; erases_first = cc; erases_second = cc; typed = h }
  is-if x y z _ k e h = cc

  pub if-complete : (place : Place) (condition first second : Answer) (q r s : Resolved) → Complete condition q → Complete first r → Complete second s → Complete (condition >>= (λ x. first >>= (λ y. second >>= if_typed place x y))) (three tree.If q r s)
  if-complete place condition first second None r s b c d = λ t k h e. cc
  if-complete place condition first second (Some x) None s b c d = λ t k h e. cc
  if-complete place condition first second (Some x) (Some y) None b c d = λ t k h e. cc
  if-complete place condition first second (Some x) (Some y) (Some z) b c d = λ t k h e.
      let s = seen kinds t k h in
      let u = is-if x y z s.layer s.kind (level-of (CheckedExpr-F.If x y z) (tree.If x y z) t k s (tree.rolls-If x y z) e) s.typed in
      let p : Kind → Bool = is_of_kind kinds u.first in
      let n : Kind → Bool = is_of_kind kinds u.second in
      let test : is_of_kind kinds u.condition Truth ≡ true = left (is_of_kind kinds u.condition Truth) (given same (λ q. p q && n q) ANY s.kind) u.typed in
      let g = given-at same (λ q. p q && n q) ANY s.kind (right (is_of_kind kinds u.condition Truth) (given same (λ q. p q && n q) ANY s.kind) u.typed) in
      let passes : (p g.at && n g.at) ≡ true = found-passes (λ q. p q && n q) ANY g.at g.found in
      operand condition (Some x) u.condition Truth b test (ap Some u.erases_condition) t k (λ a. first >>= (λ f. second >>= if_typed place a f)) (λ a i.
      operand first (Some y) u.first g.at c (left (p g.at) (n g.at) passes) (ap Some u.erases_first) t k (λ f. second >>= if_typed place a f) (λ f j.
      operand second (Some z) u.second g.at d (right (p g.at) (n g.at) passes) (ap Some u.erases_second) t k (if_typed place a f) (λ l m.
      let w = two-agree ANY p n f l g.at any-ordered g.found j m in
      met-at t k s.kind w.kind (tree.If (widened Truth a) (widened w.kind f) (widened w.kind l)) (if_typed place a f l)
      (ap {B = Answer} (λ (v : Result CheckedExpr Refusal). v >>= (λ cond. agreeing place ANY f l >>= (λ m. Ok (typed_as m.kind (tree.If cond m.left m.right))))) (wanted-goes place Truth a i.stands)
      ∙ ap {B = Answer} (λ (v : Option Kind). ◌>>=◌ {A = Pair} (or_refused v WrongType place >>= (λ kind. Ok (record { kind = kind; left = widened kind f; right = widened kind l }))) (λ m. Ok (typed_as m.kind (tree.If (widened Truth a) m.left m.right)))) w.found)
      s.stands (subst (λ (v : Kind). stands_for v w.kind ≡ true) g.gives_it w.stands))))

  -- ---- sets and bounds

  record IsIn (x : CheckedExpr) (set : List Value) (k : Kind) : Type 0 where
    pub part : CheckedExpr
    pub values : List Value
    pub erases : x ≡ erased part
    pub same_values : map number_value set ≡ map number_value values
    pub typed : given truth (λ q. is_of_kind kinds part q && list_all (is_of_set q) values) ANY k ≡ true

  is-in : (x : CheckedExpr) (sign : InSign) (set : List Value) (layer : CheckedExpr-F CheckedExpr) (k : Kind) → CheckedExpr-F.In x sign (map number_value set) ≡ plain_layer (map-CheckedExpr CheckedExpr CheckedExpr erased layer) → kinds_at kinds layer k ≡ true → IsIn x set k
  is-in x sign set (CheckedExpr-F.In a s vs) k e h = record { part = a; values = vs; erases = cc; same_values = cc; typed = h }
  is-in x sign set _ k e h = cc

  pub in-complete : (sign : InSign) (set : List Value) (place : Place) (answer : Answer) (r : Resolved) → Complete answer r → Complete (answer >>= in_typed sign set place) (one (λ x. tree.In x sign (map number_value set)) r)
  in-complete sign set place answer None c = λ t k h e. cc
  in-complete sign set place answer (Some x) c = λ t k h e.
      let s = seen kinds t k h in
      let u = is-in x sign set s.layer s.kind (level-of (CheckedExpr-F.In x sign (map number_value set)) (tree.In x sign (map number_value set)) t k s (tree.rolls-In x sign (map number_value set)) e) s.typed in
      let p : Kind → Bool = is_of_kind kinds u.part in
      let g = given-at truth (λ q. p q && list_all (is_of_set q) u.values) ANY s.kind u.typed in
      let passes : (p g.at && list_all (is_of_set g.at) u.values) ≡ true = found-passes (λ q. p q && list_all (is_of_set q) u.values) ANY g.at g.found in
      let fit : list_all (is_of_set g.at) u.values ≡ true = right (p g.at) (list_all (is_of_set g.at) u.values) passes in
      operand answer (Some x) u.part g.at c (left (p g.at) (list_all (is_of_set g.at) u.values) passes) (ap Some u.erases) t k (in_typed sign set place) (λ a i.
      let j = found-some (λ kind. list_all (may_stand kind) (a.kind ∷ map literal_kind set)) ANY (wide g.at) (within-any (wide g.at)) (both (may_stand (wide g.at) a.kind) (list_all (may_stand (wide g.at)) (map literal_kind set)) (wide-stands g.at a.kind i.stands) (set-kinds g.at set u.values u.same_values fit)) in
      met-at t k s.kind Truth (tree.In (widened j.0 a) sign (map (widened_value j.0) set)) (in_typed sign set place a)
      (ap {B = Answer} (λ (z : Option Kind). or_refused z WrongType place >>= (λ kind. demanded (list_all is_present set) BadConstant place >>= (λ met. Ok (typed_as Truth (tree.In (widened kind a) sign (map (widened_value kind) set)))))) j.1
      ∙ ap {B = Answer} (λ (z : Result (Unit {0}) Refusal). z >>= (λ met. Ok (typed_as Truth (tree.In (widened j.0 a) sign (map (widened_value j.0) set))))) (demand-goes (list_all is_present set) BadConstant place (set-present g.at set u.values u.same_values fit)))
      s.stands (subst (λ (z : Kind). stands_for z Truth ≡ true) g.gives_it refl))

  record IsBetween (x : CheckedExpr) (low high : Value) (k : Kind) : Type 0 where
    pub part : CheckedExpr
    pub lowest : Value
    pub highest : Value
    pub erases : x ≡ erased part
    pub same_low : number_value low ≡ number_value lowest
    pub same_high : number_value high ≡ number_value highest
    pub typed : given truth (λ q. is_of_kind kinds part q && (fits q lowest && fits q highest)) ANY k ≡ true

  is-between : (x : CheckedExpr) (low high : Value) (layer : CheckedExpr-F CheckedExpr) (k : Kind) → CheckedExpr-F.Between x (number_value low) (number_value high) ≡ plain_layer (map-CheckedExpr CheckedExpr CheckedExpr erased layer) → kinds_at kinds layer k ≡ true → IsBetween x low high k
  is-between x low high (CheckedExpr-F.Between a l m) k e h = record { part = a; lowest = l; highest = m; erases = cc; same_low = cc; same_high = cc; typed = h }
  is-between x low high _ k e h = cc

  pub between-complete : (low high : Value) (place : Place) (answer : Answer) (r : Resolved) → Complete answer r → Complete (answer >>= between_typed low high place) (one (λ x. tree.Between x (number_value low) (number_value high)) r)
  between-complete low high place answer None c = λ t k h e. cc
  between-complete low high place answer (Some x) c = λ t k h e.
      let s = seen kinds t k h in
      let u = is-between x low high s.layer s.kind (level-of (CheckedExpr-F.Between x (number_value low) (number_value high)) (tree.Between x (number_value low) (number_value high)) t k s (tree.rolls-Between x (number_value low) (number_value high)) e) s.typed in
      let p : Kind → Bool = is_of_kind kinds u.part in
      let g = given-at truth (λ q. p q && (fits q u.lowest && fits q u.highest)) ANY s.kind u.typed in
      let passes : (p g.at && (fits g.at u.lowest && fits g.at u.highest)) ≡ true = found-passes (λ q. p q && (fits q u.lowest && fits q u.highest)) ANY g.at g.found in
      let fit : (fits g.at u.lowest && fits g.at u.highest) ≡ true = right (p g.at) (fits g.at u.lowest && fits g.at u.highest) passes in
      let first : may_stand (wide g.at) (literal_kind low) ≡ true = bound-kind g.at low u.lowest u.same_low (left (fits g.at u.lowest) (fits g.at u.highest) fit) in
      let second : may_stand (wide g.at) (literal_kind high) ≡ true = bound-kind g.at high u.highest u.same_high (right (fits g.at u.lowest) (fits g.at u.highest) fit) in
      operand answer (Some x) u.part g.at c (left (p g.at) (fits g.at u.lowest && fits g.at u.highest) passes) (ap Some u.erases) t k (between_typed low high place) (λ a i.
      let all : list_all (may_stand (wide g.at)) (a.kind ∷ literal_kind low ∷ literal_kind high ∷ []) ≡ true = both (may_stand (wide g.at) a.kind) (may_stand (wide g.at) (literal_kind low) && (may_stand (wide g.at) (literal_kind high) && true)) (wide-stands g.at a.kind i.stands) (both (may_stand (wide g.at) (literal_kind low)) (may_stand (wide g.at) (literal_kind high) && true) first (both (may_stand (wide g.at) (literal_kind high)) true second refl)) in
      let j = found-some (λ kind. list_all (may_stand kind) (a.kind ∷ literal_kind low ∷ literal_kind high ∷ [])) ANY (wide g.at) (within-any (wide g.at)) all in
      met-at t k s.kind Truth (tree.Between (widened j.0 a) (widened_value j.0 low) (widened_value j.0 high)) (between_typed low high place a)
      (ap {B = Answer} (λ (z : Option Kind). or_refused z WrongType place >>= (λ kind. Ok (typed_as Truth (tree.Between (widened kind a) (widened_value kind low) (widened_value kind high))))) j.1)
      s.stands (subst (λ (z : Kind). stands_for z Truth ≡ true) g.gives_it refl))

  -- ---- literals

  record IsLiteral (v : Value) (layer : CheckedExpr-F CheckedExpr) (k : Kind) : Type 0 where
    pub is : layer ≡ CheckedExpr-F.Literal v
    pub typed : fits k v ≡ true

  is-literal : (v : Value) (layer : CheckedExpr-F CheckedExpr) (k : Kind) → CheckedExpr-F.Literal v ≡ plain_layer (map-CheckedExpr CheckedExpr CheckedExpr erased layer) → kinds_at kinds layer k ≡ true → IsLiteral v layer k
  is-literal v (CheckedExpr-F.Literal w) k e h = let same : w ≡ v = cc in record { is = ap CheckedExpr-F.Literal same; typed = subst (λ (z : Value). fits k z ≡ true) same h }
  is-literal v _ k e h = cc

  literal-stands : (v : Value) (k q : Kind) → stands_for k q ≡ true → fits q v ≡ true → may_stand k (literal_kind v) ≡ true
  literal-stands v k q h e = at (literal_kind v) (right (in_range v) (is_exactly (literal_kind v) q) e)
    where
      at : (g : Option Kind) → is_exactly g q ≡ true → may_stand k g ≡ true
      at None i = refl
      at (Some own) i = subst (λ (z : Kind). stands_for k z ≡ true) (sym (is_kind-same own q i)) h

  null-everywhere : (v : Value) → literal_kind v ≡ None → (q : Kind) → fits q v ≡ true
  null-everywhere value.Null e q = refl
  null-everywhere (value.Integer n) e q = cc
  null-everywhere (value.Number n) e q = cc
  null-everywhere (value.Text cs) e q = cc
  null-everywhere (value.Truth b) e q = cc

  pub literal-complete : (v : Value) → Complete (Ok (literal_typed v)) (Some (tree.Literal v))
  literal-complete v = λ t k h e.
      let s = seen kinds t k h in
      let u = is-literal v s.layer s.kind (level-of (CheckedExpr-F.Literal v) (tree.Literal v) t k s (tree.rolls-Literal v) e) s.typed in
      record {
        stands = literal-stands v k s.kind s.stands u.typed;
        null = λ no. s.own (λ q. subst (λ (z : CheckedExpr-F CheckedExpr). kinds_at kinds z q ≡ true) (sym u.is) (null-everywhere v no q));
      }

  -- what can be no scalar has no tree
  pub none-complete : (answer : Answer) → Complete answer None
  none-complete answer = λ t k h e. cc
