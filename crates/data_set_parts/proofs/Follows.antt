-- Steps of typing that follow one another.
use Rattle.std.proofs.Common.{◌≡◌, refl, subst, Bool, true, false, List, ◌∷◌, Result, Ok, Err}
use Rattle.std.specs.Prelude.{IfOk, IfErr}
use Rattle.vtl_values.specs.declared.place.Place.{Place}
use Rattle.scalar_trees.specs.declared.typing.stop.Fault.{Fault}
use Rattle.scalar_trees.specs.declared.typing.stop.Refusal.{Refusal}
use Rattle.scalar_trees.specs.declared.typing.stop.TypeStop.{TypeStop}
use Rattle.scalar_trees.specs.typing.Steps.{◌>>=◌, Refuses}
use Rattle.data_set_trees.specs.clauses.Clauses.{demands}

pub assoc : {A B C : Type 0} (m : Result A Refusal) (f : A → Result B Refusal) (g : B → Result C Refusal) → ((m >>= f) >>= g) ≡ (m >>= (λ x. f x >>= g))
assoc (Ok x) f g = refl
assoc (Err refusal) f g = refl

-- what steps gave that gave something
pub gave : {A B : Type 0} (m : Result A Refusal) (next : A → Result B Refusal) (y : B) → (m >>= next) ≡ Ok y → (x : A) × (m ≡ Ok x) × (next x ≡ Ok y)
gave (Ok x) next y is = (x, refl, is)
gave (Err refusal) next y is = cc

-- the first of what is demanded is met
pub first_met : (place : Place) (b : Bool) (fault : Fault) (ds : List (Bool × Fault)) (met : Unit {0}) → demands place ((b, fault) ∷ ds) ≡ Ok met → (b ≡ true) × (demands place ds ≡ Ok met)
first_met place true fault ds met is = (refl, is)
first_met place false fault ds met is = cc

-- an answer to what means the same
pub ok_same : {A : Type 0} (m n : Result A Refusal) (answer : Result A TypeStop) → m ≡ n → IfOk answer (λ x. m ≡ Ok x) → IfOk answer (λ x. n ≡ Ok x)
ok_same {A} m n answer same holds = subst (λ (q : Result A Refusal). IfOk answer (λ x. q ≡ Ok x)) same holds

pub err_same : {A : Type 0} (m n : Result A Refusal) (answer : Result A TypeStop) → m ≡ n → IfErr answer (Refuses m) → IfErr answer (Refuses n)
err_same {A} m n answer same holds = subst (λ (q : Result A Refusal). IfErr answer (Refuses q)) same holds
