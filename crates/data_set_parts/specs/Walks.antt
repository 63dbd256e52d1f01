-- Items of which each is typed.
use Rattle.std.specs.Prelude.{List, [], ◌∷◌, Result, Ok}
use Rattle.scalar_trees.specs.declared.typing.stop.Refusal.{Refusal}
use Rattle.scalar_trees.specs.typing.Steps.{◌>>=◌}

-- what each item comes to, or the first fault
abbrev pub each : {X Y : Type 0} → (X → Result Y Refusal) → List X → Result (List Y) Refusal
each h [] = Ok []
each h (x ∷ xs) = h x >>= (λ y. each h xs >>= (λ ys. Ok (y ∷ ys)))
