-- Steps of typing that follow one another.
use Rattle.std.proofs.Common.{◌≡◌, Result, Ok, Err, IfErr, IsErrAnd, sym, subst, ap}
use Rattle.scalar_trees.specs.declared.typing.stop.Refusal.{Refusal}
use Rattle.scalar_trees.specs.declared.typing.stop.TypeStop.{TypeStop}
use Rattle.scalar_trees.specs.declared.typing.stop.TypeStop.TheVariants.{Refused, Memory}
use Rattle.scalar_trees.specs.typing.Steps.{◌>>=◌, Refuses}

-- a step that gave something, and then the next one
pub goes_on : {A B : Type 0} (m : Result A Refusal) (next : A → Result B Refusal) (value : A) → m ≡ Ok value → (m >>= next) ≡ next value
goes_on m next value is = ap (λ q. q >>= next) is

-- a stop of a step is one of all steps
pub stops_there : {A B : Type 0} (m : Result A Refusal) (next : A → Result B Refusal) (stop : TypeStop) → Refuses m stop → Refuses (m >>= next) stop
stops_there m next (Refused refusal) refuses = ap (λ q. q >>= next) refuses
stops_there m next Memory refuses = tt

-- a stop of what means the same
pub stops_same : {A : Type 0} (m n : Result A Refusal) (stop : TypeStop) → m ≡ n → Refuses m stop → Refuses n stop
stops_same m n stop same refuses = subst (λ q. Refuses q stop) same refuses

-- a stop of the steps after one that gave something
pub stops_after : {A B : Type 0} (m : Result A Refusal) (next : A → Result B Refusal) (value : A) (stop : TypeStop) → m ≡ Ok value → Refuses (next value) stop → Refuses (m >>= next) stop
stops_after m next value stop is refuses = stops_same (next value) (m >>= next) stop (sym (goes_on m next value is)) refuses

-- a stop that is passed on
pub passed_on : {A B : Type 0} (meaning : Result A Refusal) (answer : Result B TypeStop) (stop : TypeStop) → Refuses meaning stop → IsErrAnd answer (λ given. given ≡ stop) → IfErr answer (Refuses meaning)
passed_on meaning (Ok value) stop refuses given = tt
passed_on meaning (Err given) stop refuses is = subst (Refuses meaning) (sym is) refuses

-- want of memory that is passed on
pub memory_passed : {A B : Type 0} (meaning : Result A Refusal) (answer : Result B TypeStop) → IsErrAnd answer (λ given. given ≡ Memory) → IfErr answer (Refuses meaning)
memory_passed meaning answer given = passed_on meaning answer Memory tt given

-- the exit of a `?` at a step
pub fails_there : {A B : Type 0} (m : Result A Refusal) (next : A → Result B Refusal) (answer : Result B TypeStop) (stop : TypeStop) → Refuses m stop → IsErrAnd answer (λ given. given ≡ stop) → IfErr answer (Refuses (m >>= next))
fails_there m next answer stop refuses given = passed_on (m >>= next) answer stop (stops_there m next stop refuses) given

-- the exit of a `?` after a step that gave something
pub fails_after : {A B : Type 0} (m : Result A Refusal) (next : A → Result B Refusal) (value : A) (answer : Result B TypeStop) (stop : TypeStop) → m ≡ Ok value → Refuses (next value) stop → IsErrAnd answer (λ given. given ≡ stop) → IfErr answer (Refuses (m >>= next))
fails_after m next value answer stop is refuses given = passed_on (m >>= next) answer stop (stops_after m next value stop is refuses) given
