-- What a step answers whose parts answered.
use Rattle.std.proofs.Common.{◌≡◌, Result, Ok, Err, IfOk, IfErr, IsErrAnd, sym, subst}
use Rattle.scalar_trees.specs.declared.typing.stop.Refusal.{Refusal}
use Rattle.scalar_trees.specs.declared.typing.stop.TypeStop.{TypeStop}
use Rattle.scalar_trees.specs.declared.typing.stop.TypeStop.TheVariants.{Memory}
use Rattle.scalar_trees.specs.typing.Steps.{◌>>=◌, Refuses}
use Rattle.operator_typing.proofs.Steps.{goes_on, stops_there}
use Rattle.statement_typing.specs.Parts.{Answers}

-- where the meaning is the same
pub answers_same : {A : Type 0} (m n : Result A Refusal) (r : Result A TypeStop) → m ≡ n → Answers m r → Answers n r
answers_same m n r same a = subst (λ q. Answers q r) same a

-- what is answered as meant
pub answers_as : {A : Type 0} (m : Result A Refusal) (r : Result A TypeStop) → IfOk r (λ value. m ≡ Ok value) → IfErr r (Refuses m) → Answers m r
answers_as m r ok err = record { ok = ok; err = err }

-- a stop that is passed on
pub stopped : {A : Type 0} (m : Result A Refusal) (stop : TypeStop) (r : Result A TypeStop) → Refuses m stop → IsErrAnd r (λ given. given ≡ stop) → Answers m r
stopped m stop (Ok value) refuses given = absurd given
stopped m stop (Err given) refuses is = record { ok = tt; err = subst (Refuses m) (sym is) refuses }

-- want of memory
pub no_memory : {A : Type 0} (m : Result A Refusal) (r : Result A TypeStop) → IsErrAnd r (λ given. given ≡ Memory) → Answers m r
no_memory m r given = stopped m Memory r tt given

-- after a step that gave something
pub answers_after : {A B : Type 0} (m : Result A Refusal) (next : A → Result B Refusal) (value : A) (r : Result B TypeStop) → m ≡ Ok value → Answers (next value) r → Answers (m >>= next) r
answers_after m next value r is a = answers_same (next value) (m >>= next) r (sym (goes_on m next value is)) a

-- the exit of a `?` at the first step
pub ends_there : {A B : Type 0} (m : Result A Refusal) (next : A → Result B Refusal) (stop : TypeStop) (r : Result B TypeStop) → Refuses m stop → IsErrAnd r (λ given. given ≡ stop) → Answers (m >>= next) r
ends_there m next stop r refuses given = stopped (m >>= next) stop r (stops_there m next stop refuses) given
