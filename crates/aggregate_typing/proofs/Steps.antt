-- What a step answers whose parts answered.
use Rattle.std.proofs.Common.{◌≡◌, Result, Ok, Err, IsErrAnd, sym, subst}
use Rattle.scalar_trees.specs.declared.typing.stop.Refusal.{Refusal}
use Rattle.scalar_trees.specs.declared.typing.stop.TypeStop.{TypeStop}
use Rattle.scalar_trees.specs.typing.Steps.{◌>>=◌, Refuses}
use Rattle.operator_typing.proofs.Steps.{goes_on, stops_there}
use Rattle.aggregate_typing.specs.Parts.{Answers}

-- where the meaning is the same
pub answers_same : {A : Type 0} (m n : Result A Refusal) (r : Result A TypeStop) → m ≡ n → Answers m r → Answers n r
answers_same m n r same a = subst (λ q. Answers q r) same a

-- a stop that is passed on
pub stopped : {A : Type 0} (m : Result A Refusal) (stop : TypeStop) (r : Result A TypeStop) → Refuses m stop → IsErrAnd r (λ given. given ≡ stop) → Answers m r
stopped m stop (Ok value) refuses given = absurd given
stopped m stop (Err given) refuses is = record { ok = tt; err = subst (Refuses m) (sym is) refuses }

-- after a step that gave something
pub answers_after : {A B : Type 0} (m : Result A Refusal) (next : A → Result B Refusal) (value : A) (r : Result B TypeStop) → m ≡ Ok value → Answers (next value) r → Answers (m >>= next) r
answers_after m next value r is a = answers_same (next value) (m >>= next) r (sym (goes_on m next value is)) a

-- the exit of a `?` at the first step
pub ends_there : {A B : Type 0} (m : Result A Refusal) (next : A → Result B Refusal) (stop : TypeStop) (r : Result B TypeStop) → Refuses m stop → IsErrAnd r (λ given. given ≡ stop) → Answers (m >>= next) r
ends_there m next stop r refuses given = stopped (m >>= next) stop r (stops_there m next stop refuses) given
