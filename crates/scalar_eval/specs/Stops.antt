-- What an evaluation answers.
use Rattle.std.specs.Prelude.{◌≡◌, Option, Some, None, Result, MatchResult, ⊤}
use Rattle.scalar_eval.specs.declared.stop.EvalStop.{EvalStop}
use Rattle.scalar_eval.specs.declared.stop.EvalStop.TheVariants.{Range, Memory}

-- `Range` is told where the meaning is none; want of memory may be told of any
abbrev pub Stops : {A : Type 0} → Option A → EvalStop → Type 0
Stops meaning Range = meaning ≡ None
Stops meaning Memory = ⊤

-- What is answered is the meaning: its value, or `Range` where it is none. Want of memory alone is free.
abbrev pub IsMeant : {A : Type 0} → Option A → Result A EvalStop → Type 0
IsMeant meaning answer = MatchResult answer (λ value. meaning ≡ Some value) (Stops meaning)
