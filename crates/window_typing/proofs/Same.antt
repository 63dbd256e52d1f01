-- Answers to what means the same.
use Rattle.std.proofs.Common.{◌≡◌, Result, Ok, IfOk, IfErr, subst}
use Rattle.scalar_trees.specs.declared.typing.stop.Refusal.{Refusal}
use Rattle.scalar_trees.specs.declared.typing.stop.TypeStop.{TypeStop}
use Rattle.scalar_trees.specs.typing.Steps.{Refuses}

pub ok_same : {A : Type 0} (m n : Result A Refusal) (answer : Result A TypeStop) → m ≡ n → IfOk answer (λ x. m ≡ Ok x) → IfOk answer (λ x. n ≡ Ok x)
ok_same {A} m n answer same holds = subst (λ (q : Result A Refusal). IfOk answer (λ x. q ≡ Ok x)) same holds

pub err_same : {A : Type 0} (m n : Result A Refusal) (answer : Result A TypeStop) → m ≡ n → IfErr answer (Refuses m) → IfErr answer (Refuses n)
err_same {A} m n answer same holds = subst (λ (q : Result A Refusal). IfErr answer (Refuses q)) same holds
