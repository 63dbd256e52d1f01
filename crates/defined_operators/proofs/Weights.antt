-- The body of an operator that is found weighs less than all of them.
use Rattle.std.proofs.Common.{◌≡◌, ◌⊎◌, inl, inr, ℕ, suc, ◌+◌, ◌*◌, ◌≤◌, ◌<◌, Bool, true, false, List, [], ◌∷◌, Option, Some, None, refl, sym, ap, ◌∙◌, arith}
use Rattle.std.specs.Prelude.{find}
use Rattle.vtl_syntax.specs.declared.operator.DefinedOperator.{DefinedOperator}
use Rattle.vtl_syntax.specs.declared.expr.Expr.{size-Expr}
use Rattle.operator_faults.specs.Names.{same_word}
use Rattle.operator_faults.specs.Calls.{operator_of}
use Rattle.defined_operators.specs.declared.calling.Calling.{Calling}
use Rattle.defined_operators.specs.declared.calling.Calling.TheVariants as calling
use Rattle.defined_operators.specs.Callings.{level}
use Rattle.defined_operators.specs.Writers.{weight, times}

five : (os : List DefinedOperator) → 5 ≤ weight os
five [] = omega arith
five (o ∷ os) = let h : 5 ≤ weight os = five os in omega arith

tells : (b : Bool) → (b ≡ true) ⊎ (b ≡ false)
tells true = inl refl
tells false = inr refl

find-here : (p : DefinedOperator → Bool) (x : DefinedOperator) (xs : List DefinedOperator) → p x ≡ true → find p (x ∷ xs) ≡ Some x
find-here p x xs h = rw h refl

find-later : (p : DefinedOperator → Bool) (x : DefinedOperator) (xs : List DefinedOperator) → p x ≡ false → find p (x ∷ xs) ≡ find p xs
find-later p x xs h = rw h refl

pub found_weighs : (os : List DefinedOperator) (w : List ℕ) (o : DefinedOperator) → operator_of os w ≡ Some o → 5 * size-Expr o.body + 5 ≤ weight os
found_weighs [] w o e = absurd (cc e)
found_weighs (x ∷ os) w o e =
    let p : DefinedOperator → Bool = λ (q : DefinedOperator). same_word q.name w in
    elim (tells (p x)) [
      | inl pass ↦
          let same : x ≡ o = cc (sym (find-here p x os pass) ∙ e) in
          let size : size-Expr x.body ≡ size-Expr o.body = ap (λ (q : DefinedOperator). size-Expr q.body) same in
          let h : 5 ≤ weight os = five os in omega arith
      | inr fail ↦ let h : 5 * size-Expr o.body + 5 ≤ weight os = found_weighs os w o (sym (find-later p x os fail) ∙ e) in omega arith
    ]

-- a body has less to go than a call of its operator
pub body_less : (os : List DefinedOperator) (w : List ℕ) (o : DefinedOperator) (left : ℕ) (c : Calling) → operator_of os w ≡ Some o → c ≡ calling.Opened (left + 1) → times left (weight os) + (5 * size-Expr o.body + 2) < times (level c) (weight os)
body_less os w o left c found is =
    let is_next : left + 1 ≡ suc left = omega arith in
    let far : times (level c) (weight os) ≡ times left (weight os) + weight os = ap (λ (x : Calling). times (level x) (weight os)) is ∙ ap (λ (n : ℕ). times n (weight os)) is_next in
    let h : 5 * size-Expr o.body + 5 ≤ weight os = found_weighs os w o found in
    omega arith

-- with one more call
pub one_less : (left n : ℕ) (w : ℕ) → n ≡ suc left → times left w + w ≡ times n w
one_less left n w is = sym (ap (λ (k : ℕ). times k w) is)
