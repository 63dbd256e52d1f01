-- Operands that are typed one after the other.
use Rattle.std.proofs.Common.{◌≡◌, List, [], ◌∷◌, ◌++◌, Result, Ok, Err, refl, sym, ap, ◌∙◌}
use Rattle.scalar_trees.specs.declared.typing.stop.Refusal.{Refusal}
use Rattle.scalar_trees.specs.typing.Steps.{◌>>=◌}
use Rattle.operator_typing.proofs.Steps.{goes_on}
use Rattle.data_set_trees.specs.declared.operand.Operand.{Operand}
use Rattle.data_set_trees.specs.Trees.{SetAnswer}
use Rattle.expression_rules.specs.Expressions.{Naming, Typing, all_typed}

abbrev All : Type 0
All = Result (List Operand) Refusal

starts : (n : All) → n ≡ (n >>= (λ ps. Ok ([] ++ ps)))
starts (Ok ps) = refl
starts (Err refusal) = refl

joins : (t : SetAnswer) (m n q : All) → q ≡ (m >>= (λ os. n >>= (λ ps. Ok (os ++ ps)))) → (t >>= (λ o. q >>= (λ os. Ok (o ∷ os)))) ≡ ((t >>= (λ o. m >>= (λ os. Ok (o ∷ os)))) >>= (λ os. n >>= (λ ps. Ok (os ++ ps))))
joins (Err refusal) m n q is = refl
joins (Ok o) (Err refusal) n q is = ap (λ (k : All). k >>= (λ os. Ok (o ∷ os))) is
joins (Ok o) (Ok os) (Err refusal) q is = ap (λ (k : All). k >>= (λ os. Ok (o ∷ os))) is
joins (Ok o) (Ok os) (Ok ps) q is = ap (λ (k : All). k >>= (λ os. Ok (o ∷ os))) is

module _ (naming : Naming) where
  -- operands, and then others
  all_append : (ts us : List Typing) → all_typed (ts ++ us) naming ≡ (all_typed ts naming >>= (λ os. all_typed us naming >>= (λ ps. Ok (os ++ ps))))
  all_append [] us = starts (all_typed us naming)
  all_append (t ∷ ts) us = joins (t naming) (all_typed ts naming) (all_typed us naming) (all_typed (ts ++ us) naming) (all_append ts us)

  pub both_typed : (ts us : List Typing) (os ps all : List Operand) → all_typed ts naming ≡ Ok os → all_typed us naming ≡ Ok ps → all ≡ os ++ ps → all_typed (ts ++ us) naming ≡ Ok all
  both_typed ts us os ps all first second both =
      all_append ts us
      ∙ goes_on (all_typed ts naming) (λ os. all_typed us naming >>= (λ ps. Ok (os ++ ps))) os first
      ∙ goes_on (all_typed us naming) (λ ps. Ok (os ++ ps)) ps second
      ∙ ap Ok (sym both)
