-- What a scalar operator comes to, wherever it stands.
use Rattle.std.proofs.Common.{◌≡◌, ◌∙◌, Bool, true, false, List, [], ◌∷◌, map, not, Option, Some, None, Result, Ok, Err, refl, ap}
use Rattle.std.specs.List.{list_all}
use Rattle.vtl_values.specs.declared.kind.Kind.{Kind}
use Rattle.vtl_values.specs.declared.kind.Kind.TheVariants.{Integer, Number, Text, Truth}
use Rattle.vtl_values.specs.declared.place.Place.{Place}
use Rattle.scalar_texts.specs.Patterns.{is_pattern}
use Rattle.scalar_trees.specs.declared.tree.CheckedExpr.{CheckedExpr}
use Rattle.scalar_trees.specs.declared.tree.CheckedExpr.TheVariants as tree
use Rattle.scalar_trees.specs.Kinds.{ANY, agreed, unary_takes, unary_gives, binary_takes, binary_gives, round_gives, literal_kind, widened_value}
use Rattle.scalar_trees.specs.WellTyped.{digits_fit, is_present}
use Rattle.scalar_trees.specs.declared.typing.stop.Fault.{Fault}
use Rattle.scalar_trees.specs.declared.typing.stop.Fault.TheVariants.{WrongType, BadConstant, BadPattern}
use Rattle.scalar_trees.specs.declared.typing.stop.Refusal.{Refusal}
use Rattle.scalar_trees.specs.declared.typing.typed.Typed.{Typed}
use Rattle.scalar_trees.specs.typing.Scalars.{Agreed, widened, typed_as, joint, wanted, wanted_if, agreeing}
use Rattle.scalar_trees.specs.typing.Steps.{◌>>=◌, or_refused, demanded}
use Rattle.data_set_trees.specs.clauses.Clauses.{demands}
use Rattle.data_set_trees.specs.declared.form.Form.{Form}
use Rattle.data_set_trees.specs.declared.form.Form.TheVariants as form
use Rattle.data_set_trees.specs.Forms.{formed, first, second}
use Rattle.data_set_trees.specs.Lifted.{kinds_fit, is_wrong_type}

-- ---- answers that differ in their places alone

abbrev pub unplaced : {A : Type 0} → Result A Refusal → Result A Fault
unplaced (Ok a) = Ok a
unplaced (Err refusal) = Err refusal.fault

abbrev pub Same : {A : Type 0} → Result A Refusal → Result A Refusal → Type 0
Same m n = unplaced m ≡ unplaced n

pub then_same : {A B : Type 0} (m n : Result A Refusal) (f g : A → Result B Refusal) → Same m n → ((a : A) → Same (f a) (g a)) → Same (m >>= f) (n >>= g)
then_same (Ok a) (Ok b) f g same each = let is : a ≡ b = cc in each a ∙ ap (λ x. unplaced (g x)) is
then_same (Ok a) (Err r) f g same each = cc
then_same (Err r) (Ok b) f g same each = cc
then_same (Err r) (Err s) f g same each = let is : r.fault ≡ s.fault = cc in ap (λ (fault : Fault). Err fault) is

-- what gives something at one place gives it at another
pub given_so : {A : Type 0} (m n : Result A Refusal) (a : A) → Same m n → m ≡ Ok a → n ≡ Ok a
given_so (Ok x) (Ok y) a same is = let equal : x ≡ y = cc in let given : x ≡ a = cc in cc
given_so (Ok x) (Err r) a same is = cc
given_so (Err r) n a same is = cc

or_same : {A : Type 0} (found : Option A) (fault : Fault) (p q : Place) → Same (or_refused found fault p) (or_refused found fault q)
or_same (Some a) fault p q = refl
or_same None fault p q = refl

demanded_same : (holds : Bool) (fault : Fault) (p q : Place) → Same (demanded holds fault p) (demanded holds fault q)
demanded_same true fault p q = refl
demanded_same false fault p q = refl

pub demands_same : (ds : List (Bool × Fault)) (p q : Place) → Same (demands p ds) (demands q ds)
demands_same [] p q = refl
demands_same (d ∷ ds) p q = then_same (demanded d.0 d.1 p) (demanded d.0 d.1 q) (λ met. demands p ds) (λ met. demands q ds) (demanded_same d.0 d.1 p q) (λ met. demands_same ds p q)

-- ---- operands

joint_same : (takes : List Kind) (kinds : List (Option Kind)) (p q : Place) → Same (joint p takes kinds) (joint q takes kinds)
joint_same takes kinds p q = or_same (agreed takes kinds) WrongType p q

wanted_same : (kind : Kind) (a : Typed) (p q : Place) → Same (wanted p kind a) (wanted q kind a)
wanted_same kind a p q =
    let next : Kind → Result CheckedExpr Refusal = λ k. Ok (widened k a) in
    then_same (joint p (kind ∷ []) (a.kind ∷ [])) (joint q (kind ∷ []) (a.kind ∷ [])) next next (joint_same (kind ∷ []) (a.kind ∷ []) p q) (λ k. refl)

wanted_if_same : (kind : Kind) (a : Option Typed) (p q : Place) → Same (wanted_if p kind a) (wanted_if q kind a)
wanted_if_same kind None p q = refl
wanted_if_same kind (Some a) p q =
    let next : CheckedExpr → Result (Option CheckedExpr) Refusal = λ t. Ok (Some t) in
    then_same (wanted p kind a) (wanted q kind a) next next (wanted_same kind a p q) (λ t. refl)

agreeing_same : (takes : List Kind) (a b : Typed) (p q : Place) → Same (agreeing p takes a b) (agreeing q takes a b)
agreeing_same takes a b p q =
    let next : Kind → Result Agreed Refusal = λ kind. Ok (record { kind = kind; left = widened kind a; right = widened kind b }) in
    let kinds = a.kind ∷ b.kind ∷ [] in
    then_same (joint p takes kinds) (joint q takes kinds) next next (joint_same takes kinds p q) (λ k. refl)

-- ---- operators

-- the same steps, of which the second has a place too
twice_same : {A B C : Type 0} (m n : Result A Refusal) (f g : A → Result B Refusal) (h : A → B → Result C Refusal) → Same m n → ((a : A) → Same (f a) (g a)) → Same (m >>= (λ a. f a >>= h a)) (n >>= (λ a. g a >>= h a))
twice_same m n f g h same each = then_same m n (λ a. f a >>= h a) (λ a. g a >>= h a) same (λ a. then_same (f a) (g a) (h a) (h a) (each a) (λ b. refl))

once_same : {A B : Type 0} (m n : Result A Refusal) (h : A → Result B Refusal) → Same m n → Same (m >>= h) (n >>= h)
once_same m n h same = then_same m n h h same (λ a. refl)

texts_same : (a b : Typed) (c : Option Typed) (make : CheckedExpr → CheckedExpr → Option CheckedExpr → Typed) (p q : Place)
    → Same (wanted p Text a >>= (λ x. wanted p Text b >>= (λ y. wanted_if p Text c >>= (λ z. Ok (make x y z))))) (wanted q Text a >>= (λ x. wanted q Text b >>= (λ y. wanted_if q Text c >>= (λ z. Ok (make x y z)))))
texts_same a b c make p q =
    let last : CheckedExpr → Place → CheckedExpr → Result Typed Refusal = λ x place y. wanted_if place Text c >>= (λ z. Ok (make x y z)) in
    then_same (wanted p Text a) (wanted q Text a) (λ x. wanted p Text b >>= last x p) (λ x. wanted q Text b >>= last x q) (wanted_same Text a p q)
    (λ x. then_same (wanted p Text b) (wanted q Text b) (last x p) (last x q) (wanted_same Text b p q) (λ y. once_same (wanted_if p Text c) (wanted_if q Text c) (λ z. Ok (make x y z)) (wanted_if_same Text c p q)))

part_same : (a : Typed) (b c : Option Typed) (make : CheckedExpr → Option CheckedExpr → Option CheckedExpr → Typed) (p q : Place)
    → Same (wanted p Text a >>= (λ x. wanted_if p Integer b >>= (λ y. wanted_if p Integer c >>= (λ z. Ok (make x y z))))) (wanted q Text a >>= (λ x. wanted_if q Integer b >>= (λ y. wanted_if q Integer c >>= (λ z. Ok (make x y z)))))
part_same a b c make p q =
    let last : CheckedExpr → Place → Option CheckedExpr → Result Typed Refusal = λ x place y. wanted_if place Integer c >>= (λ z. Ok (make x y z)) in
    then_same (wanted p Text a) (wanted q Text a) (λ x. wanted_if p Integer b >>= last x p) (λ x. wanted_if q Integer b >>= last x q) (wanted_same Text a p q)
    (λ x. then_same (wanted_if p Integer b) (wanted_if q Integer b) (last x p) (last x q) (wanted_if_same Integer b p q) (λ y. once_same (wanted_if p Integer c) (wanted_if q Integer c) (λ z. Ok (make x y z)) (wanted_if_same Integer c p q)))

-- an operator is the same wherever it stands
pub formed_same : (f : Form) (ts : List Typed) (p q : Place) → Same (formed f p ts) (formed f q ts)
formed_same (form.Unary operator) [] p q = refl
formed_same (form.Unary operator) (a ∷ []) p q =
    once_same (joint p (unary_takes operator) (a.kind ∷ [])) (joint q (unary_takes operator) (a.kind ∷ [])) (λ kind. Ok (typed_as (unary_gives operator kind) (tree.Unary operator (widened kind a)))) (joint_same (unary_takes operator) (a.kind ∷ []) p q)
formed_same (form.Unary operator) (a ∷ b ∷ ts) p q = refl
formed_same (form.Binary operator) [] p q = refl
formed_same (form.Binary operator) (a ∷ []) p q = refl
formed_same (form.Binary operator) (a ∷ b ∷ []) p q =
    once_same (agreeing p (binary_takes operator) a b) (agreeing q (binary_takes operator) a b) (λ j. Ok (typed_as (binary_gives operator j.kind) (tree.Binary operator j.left j.right))) (agreeing_same (binary_takes operator) a b p q)
formed_same (form.Binary operator) (a ∷ b ∷ c ∷ ts) p q = refl
formed_same form.Nvl [] p q = refl
formed_same form.Nvl (a ∷ []) p q = refl
formed_same form.Nvl (a ∷ b ∷ []) p q = once_same (agreeing p ANY a b) (agreeing q ANY a b) (λ j. Ok (typed_as j.kind (tree.Nvl j.left j.right))) (agreeing_same ANY a b p q)
formed_same form.Nvl (a ∷ b ∷ c ∷ ts) p q = refl
formed_same form.If [] p q = refl
formed_same form.If (c ∷ []) p q = refl
formed_same form.If (c ∷ a ∷ []) p q = refl
formed_same form.If (c ∷ a ∷ b ∷ []) p q =
    twice_same (wanted p Truth c) (wanted q Truth c) (λ condition. agreeing p ANY a b) (λ condition. agreeing q ANY a b) (λ condition j. Ok (typed_as j.kind (tree.If condition j.left j.right))) (wanted_same Truth c p q) (λ condition. agreeing_same ANY a b p q)
formed_same form.If (c ∷ a ∷ b ∷ d ∷ ts) p q = refl
formed_same (form.In sign set) [] p q = refl
formed_same (form.In sign set) (a ∷ []) p q =
    let kinds = a.kind ∷ map literal_kind set in
    twice_same (joint p ANY kinds) (joint q ANY kinds) (λ kind. demanded (list_all is_present set) BadConstant p) (λ kind. demanded (list_all is_present set) BadConstant q) (λ kind met. Ok (typed_as Truth (tree.In (widened kind a) sign (map (widened_value kind) set)))) (joint_same ANY kinds p q) (λ kind. demanded_same (list_all is_present set) BadConstant p q)
formed_same (form.In sign set) (a ∷ b ∷ ts) p q = refl
formed_same (form.Between low high) [] p q = refl
formed_same (form.Between low high) (a ∷ []) p q =
    let kinds = a.kind ∷ literal_kind low ∷ literal_kind high ∷ [] in
    once_same (joint p ANY kinds) (joint q ANY kinds) (λ kind. Ok (typed_as Truth (tree.Between (widened kind a) (widened_value kind low) (widened_value kind high)))) (joint_same ANY kinds p q)
formed_same (form.Between low high) (a ∷ b ∷ ts) p q = refl
formed_same (form.Round function digits) [] p q = refl
formed_same (form.Round function digits) (a ∷ []) p q =
    twice_same (wanted p Number a) (wanted q Number a) (λ operand. demanded (digits_fit digits) BadConstant p) (λ operand. demanded (digits_fit digits) BadConstant q) (λ operand met. Ok (typed_as (round_gives digits) (tree.Round function operand digits))) (wanted_same Number a p q) (λ operand. demanded_same (digits_fit digits) BadConstant p q)
formed_same (form.Round function digits) (a ∷ b ∷ ts) p q = refl
formed_same form.Substr [] p q = refl
formed_same form.Substr (a ∷ others) p q = part_same a (first others) (second others) (λ x y z. typed_as Text (tree.Substr x y z)) p q
formed_same form.Replace [] p q = refl
formed_same form.Replace (a ∷ []) p q = refl
formed_same form.Replace (a ∷ pattern ∷ others) p q = texts_same a pattern (first others) (λ x y z. typed_as Text (tree.Replace x y z)) p q
formed_same (form.Matches pattern) [] p q = refl
formed_same (form.Matches pattern) (a ∷ []) p q =
    twice_same (wanted p Text a) (wanted q Text a) (λ operand. demanded (is_pattern pattern) BadPattern p) (λ operand. demanded (is_pattern pattern) BadPattern q) (λ operand met. Ok (typed_as Truth (tree.Matches operand pattern))) (wanted_same Text a p q) (λ operand. demanded_same (is_pattern pattern) BadPattern p q)
formed_same (form.Matches pattern) (a ∷ b ∷ ts) p q = refl

-- ---- whether kinds fit

pub fit_same : (m n : Result Typed Refusal) → Same m n → kinds_fit m ≡ kinds_fit n
fit_same (Ok a) (Ok b) same = refl
fit_same (Ok a) (Err r) same = cc
fit_same (Err r) (Ok b) same = cc
fit_same (Err r) (Err s) same = let is : r.fault ≡ s.fault = cc in ap (λ (fault : Fault). not (is_wrong_type fault)) is
