-- What a step answers whose parts answered.
use Rattle.std.proofs.Common.{◌≡◌, Bool, true, Option, None, Result, Some, Ok, Err, IfOk, IfErr, IsErrAnd, refl, sym, subst, ap, ◌∙◌}
use Rattle.vtl_values.specs.declared.kind.Kind.{Kind}
use Rattle.vtl_values.specs.declared.place.Place.{Place}
use Rattle.scalar_trees.specs.WellTyped.{Kinds, is_exactly, is_of_kind}
use Rattle.scalar_trees.specs.declared.typing.stop.Fault.TheVariants.{WrongStructure}
use Rattle.scalar_trees.specs.declared.typing.stop.Refusal.{Refusal}
use Rattle.scalar_trees.specs.declared.typing.stop.TypeStop.{TypeStop}
use Rattle.scalar_trees.specs.declared.typing.stop.TypeStop.TheVariants.{Refused, Memory}
use Rattle.scalar_trees.specs.declared.typing.typed.Typed.{Typed}
use Rattle.scalar_trees.specs.typing.Steps.{◌>>=◌, refused, Refuses}
use Rattle.scalar_trees.specs.typing.Sound.{IsTyped}
use Rattle.scalar_trees.specs.declared.typing.scope.Basis.{Basis}
use Rattle.scalar_trees.specs.declared.typing.scope.Scope.{Scope}
use Rattle.scalar_trees.specs.typing.Resolved.{resolved}
use Rattle.scalar_trees.proofs.typing.Erasing.{erasing}
use Rattle.scalar_trees.specs.Erased.{erased}
use Rattle.vtl_syntax.specs.declared.expr.Expr.{Expr}
use Rattle.scalar_trees.specs.typing.Scalars.{Answer, typed, whole_kind}
use Rattle.scalar_trees.proofs.typing.Sound.{is_kind-refl}
use Rattle.component_typing.specs.Parts.{Answers}

-- the same, where the meaning is the same
pub answers_same : (kinds : Kinds) (m n : Answer) (r : Result Typed TypeStop) → m ≡ n → Answers kinds m r → Answers kinds n r
answers_same kinds m n r same a = subst (λ (q : Answer). Answers kinds q r) same a

-- after a step that gave something
pub answers_after : {A : Type 0} (kinds : Kinds) (m : Result A Refusal) (next : A → Answer) (value : A) (r : Result Typed TypeStop) → m ≡ Ok value → Answers kinds (next value) r → Answers kinds (m >>= next) r
answers_after kinds m next value r is a = answers_same kinds (next value) (m >>= next) r (sym (ap (λ q. q >>= next) is)) a

-- a stop of the first step
pub stops_there : {A : Type 0} (m : Result A Refusal) (next : A → Answer) (stop : TypeStop) → Refuses m stop → Refuses (m >>= next) stop
stops_there m next (Refused refusal) refuses = ap (λ q. q >>= next) refuses
stops_there m next Memory refuses = tt

-- a stop that is passed on
pub stops : (kinds : Kinds) (m : Answer) (stop : TypeStop) (r : Result Typed TypeStop) → Refuses m stop → IsErrAnd r (λ given. given ≡ stop) → Answers kinds m r
stops kinds m stop (Ok value) refuses given = absurd given
stops kinds m stop (Err given) refuses is = record { ok = tt; err = subst (Refuses m) (sym is) refuses; typed = tt }

-- the exit of a `?` at the first step
pub ends_there : {A : Type 0} (kinds : Kinds) (m : Result A Refusal) (next : A → Answer) (stop : TypeStop) (r : Result Typed TypeStop) → Refuses m stop → IsErrAnd r (λ given. given ≡ stop) → Answers kinds (m >>= next) r
ends_there kinds m next stop r refuses given = stops kinds (m >>= next) stop r (stops_there m next stop refuses) given

-- what stands for a data set, whose operands have no fault
pub misplaced_there : (kinds : Kinds) (operands : Result (Unit {0}) Refusal) (place : Place) (stop : TypeStop) → operands ≡ Ok tt → stop ≡ Refused (record { fault = WrongStructure; place = place }) → Answers kinds (operands >>= (λ met. refused WrongStructure place)) (Err stop)
misplaced_there kinds operands place stop is at = answers_after kinds operands (λ met. refused WrongStructure place) tt (Err stop) is (record { ok = tt; err = subst (Refuses (refused WrongStructure place)) (sym at) refl; typed = tt })

-- what is answered as meant, and well typed
pub answers_as : (kinds : Kinds) (m : Answer) (r : Result Typed TypeStop) → IfOk r (λ t. m ≡ Ok t) → IfErr r (Refuses m) → IfOk r (IsTyped kinds) → Answers kinds m r
answers_as kinds m r ok err typed = record { ok = ok; err = err; typed = typed }

-- what holds anyway holds of what is answered
pub always : {P : Type 0} (r : Result Typed TypeStop) → P → IfOk r (λ t. P)
always (Ok value) holds = holds
always (Err stop) holds = tt

-- what is checked is the expression as it is written
pub as_written : (scope : Scope) (basis : Basis) (e : Expr) (r : Result Typed TypeStop) → IfOk r (λ t. typed scope basis e ≡ Ok t) → IfOk r (λ t. resolved scope basis e ≡ Some (erased t.tree))
as_written scope basis e (Ok t) is = erasing scope basis e t is
as_written scope basis e (Err stop) is = tt

exact : (null_kind : Kind) (kind : Option Kind) → is_exactly kind (whole_kind null_kind kind) ≡ true
exact null_kind None = refl
exact null_kind (Some kind) = is_kind-refl kind

-- a whole expression is of its kind
pub whole_typed : (kinds : Kinds) (null_kind : Kind) (t : Typed) (kind : Kind) → kind ≡ whole_kind null_kind t.kind → IsTyped kinds t → is_of_kind kinds t.tree kind ≡ true
whole_typed kinds null_kind t kind is typed = ap (is_of_kind kinds t.tree) is ∙ ap (λ (f : Kind → Bool). f (whole_kind null_kind t.kind)) typed ∙ exact null_kind t.kind
