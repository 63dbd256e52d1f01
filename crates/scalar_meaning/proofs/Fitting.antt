-- A value fits a kind where the test of it passes.
use Rattle.std.proofs.Common.{◌≡◌, ◌≤◌, ℕ, Bool, true, false, ◌&&◌, nat_abs, nat_le, refl, arith}
use Rattle.std.proofs.lemmas.Bool.Decides.{nat_tests}
use Rattle.vtl_values.specs.Ranges.{MOST_INTEGER, MOST_MILLIONTHS}
use Rattle.vtl_values.specs.Texts.{Fits}
use Rattle.vtl_values.specs.declared.kind.Kind.{Kind}
use Rattle.vtl_values.specs.declared.kind.Kind.TheVariants as kind
use Rattle.vtl_values.specs.declared.value.Value.{Value}
use Rattle.vtl_values.specs.declared.value.Value.TheVariants.{Null, Truth, Integer, Number, Text}
use Rattle.scalar_trees.specs.WellTyped.{fits}
use Rattle.scalar_trees.proofs.typing.Sound.{both, left}

abbrev pub Passes : Kind → Value → Type 0
Passes k v = fits k v ≡ true

pub le-test : (n most : ℕ) → n ≤ most → nat_le n most ≡ true
le-test n most h = grind (arith, nat_tests)

pub test-le : (n most : ℕ) → nat_le n most ≡ true → n ≤ most
test-le n most h = grind (arith, nat_tests)

pub passes : (k : Kind) (v : Value) → Fits k v → Passes k v
passes kind.Integer Null h = refl
passes kind.Number Null h = refl
passes kind.Text Null h = refl
passes kind.Truth Null h = refl
passes kind.Integer (Integer n) h = both (nat_le (nat_abs n) MOST_INTEGER) true (le-test (nat_abs n) MOST_INTEGER h) refl
passes kind.Number (Integer n) h = absurd h
passes kind.Text (Integer n) h = absurd h
passes kind.Truth (Integer n) h = absurd h
passes kind.Integer (Number n) h = absurd h
passes kind.Number (Number n) h = both (nat_le (nat_abs n) MOST_MILLIONTHS) true (le-test (nat_abs n) MOST_MILLIONTHS h) refl
passes kind.Text (Number n) h = absurd h
passes kind.Truth (Number n) h = absurd h
passes kind.Integer (Truth b) h = absurd h
passes kind.Number (Truth b) h = absurd h
passes kind.Text (Truth b) h = absurd h
passes kind.Truth (Truth b) h = refl
passes kind.Integer (Text cs) h = absurd h
passes kind.Number (Text cs) h = absurd h
passes kind.Text (Text cs) h = refl
passes kind.Truth (Text cs) h = absurd h

no : (b : Bool) → (b && false) ≡ true → ⊥
no true h = cc
no false h = cc

pub fitting : (k : Kind) (v : Value) → Passes k v → Fits k v
fitting kind.Integer Null h = tt
fitting kind.Number Null h = tt
fitting kind.Text Null h = tt
fitting kind.Truth Null h = tt
fitting kind.Integer (Integer n) h = test-le (nat_abs n) MOST_INTEGER (left (nat_le (nat_abs n) MOST_INTEGER) true h)
fitting kind.Number (Integer n) h = absurd (no (nat_le (nat_abs n) MOST_INTEGER) h)
fitting kind.Text (Integer n) h = absurd (no (nat_le (nat_abs n) MOST_INTEGER) h)
fitting kind.Truth (Integer n) h = absurd (no (nat_le (nat_abs n) MOST_INTEGER) h)
fitting kind.Integer (Number n) h = absurd (no (nat_le (nat_abs n) MOST_MILLIONTHS) h)
fitting kind.Number (Number n) h = test-le (nat_abs n) MOST_MILLIONTHS (left (nat_le (nat_abs n) MOST_MILLIONTHS) true h)
fitting kind.Text (Number n) h = absurd (no (nat_le (nat_abs n) MOST_MILLIONTHS) h)
fitting kind.Truth (Number n) h = absurd (no (nat_le (nat_abs n) MOST_MILLIONTHS) h)
fitting kind.Integer (Truth b) h = cc
fitting kind.Number (Truth b) h = cc
fitting kind.Text (Truth b) h = cc
fitting kind.Truth (Truth b) h = tt
fitting kind.Integer (Text cs) h = cc
fitting kind.Number (Text cs) h = cc
fitting kind.Text (Text cs) h = tt
fitting kind.Truth (Text cs) h = cc
