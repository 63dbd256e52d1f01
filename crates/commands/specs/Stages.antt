-- Stages of a command: each goes on with a value, or ends the command with its answer.
use Rattle.std.specs.Prelude.{Result, Ok, Err}
use Rattle.round_runs.specs.Answers.{Answer}

abbrev pub Stage : Type 0 → Type 0
Stage A = Result A Answer

-- one stage, and behind it the next: the first that ends the command wins
abbrev pub after : {A B : Type 0} → Stage A → (A → Stage B) → Stage B
after (Ok a) next = next a
after (Err end) next = Err end

-- the answer of all stages
abbrev pub answer : Stage Answer → Answer
answer (Ok end) = end
answer (Err end) = end
