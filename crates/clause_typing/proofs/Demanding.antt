-- Demands that a clause makes, and what it is checked to be where all are met.
use Rattle.std.proofs.Common.{◌≡◌, refl, Bool, true, false, ◌&&◌, List, [], ◌∷◌, Result, Ok, IfErr, IsErrAnd, ap, sym, ◌∙◌}
use Rattle.std.specs.List.{list_all}
use Rattle.vtl_values.specs.declared.place.Place.{Place}
use Rattle.scalar_trees.specs.declared.typing.stop.Fault.{Fault}
use Rattle.scalar_trees.specs.declared.typing.stop.TypeStop.{TypeStop}
use Rattle.scalar_trees.specs.typing.Steps.{◌>>=◌, demanded, Refuses}
use Rattle.data_set_trees.specs.clauses.Clauses.{demands}
use Rattle.operator_typing.proofs.Steps.{goes_on, stops_same, fails_there}

-- all demands of the code are met, and they are those of the definition
pub passes : {A : Type 0} (place : Place) (given meant : List (Bool × Fault)) (value : A) (met : Unit {0}) → given ≡ meant → demands place given ≡ Ok met → (demands place meant >>= (λ met. Ok value)) ≡ Ok value
passes {A} place given meant value met same is = goes_on (demands place meant) (λ met. Ok value) met (ap (demands place) (sym same) ∙ is)

-- one isn't
pub refuses : {A : Type 0} (place : Place) (given meant : List (Bool × Fault)) (value : A) (answer : Result A TypeStop) (stop : TypeStop) → given ≡ meant → Refuses (demands place given) stop → IsErrAnd answer (λ told. told ≡ stop) → IfErr answer (Refuses (demands place meant >>= (λ met. Ok value)))
refuses {A} place given meant value answer stop same is told = fails_there (demands place meant) (λ met. Ok value) answer stop (stops_same (demands place given) (demands place meant) stop (ap (demands place) same) is) told

-- what is demanded holds, where all demands are met
pub hold : (place : Place) (ds : List (Bool × Fault)) (met : Unit {0}) → demands place ds ≡ Ok met → list_all (λ d. d.0) ds ≡ true
hold place [] met h = refl
hold place (d ∷ ds) met h = by_test d.0 (hold place ds met) h
  where
    by_test : (b : Bool) → (demands place ds ≡ Ok met → list_all (λ e. e.0) ds ≡ true) → (demanded b d.1 place >>= (λ met. demands place ds)) ≡ Ok met → (b && list_all (λ e. e.0) ds) ≡ true
    by_test true later i = later i
    by_test false later i = cc
