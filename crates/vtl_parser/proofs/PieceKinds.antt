-- The kind of the piece that begins.
use Rattle.std.proofs.Common.{◌≡◌, ℕ, ◌-◌, ◌<◌, length, [], ◌∷◌, drop, Bool, true, false, refl, sym, arith}
use Rattle.std.proofs.lemmas.Bool.{lt-ltb, le-ltb, ltb-true, ltb-false}
use Rattle.std.specs.Prelude.{nat_lt}
use Rattle.vtl_syntax.specs.declared.script.Script.{Script}
use Rattle.vtl_grammar.specs.Marks.{Tokens}
use Rattle.vtl_grammar.specs.Rules.{statements, rulesets, operators}
use Rattle.vtl_grammar.specs.Scripts.{PieceKind, a_statement, a_ruleset, an_operator}
use Rattle.vtl_grammar.specs.Reading.{Expected, TooMany, halt, got, starts}
use Rattle.vtl_grammar.specs.ScriptReading.{any_left, kind_at, kind_firsts, told, definitions, statement_firsts, definition_firsts}
use Rattle.vtl_parser.specs.Scripts.{left_of}

-- fewer are there than there may be
pub has-room : (n most : ℕ) → nat_lt n most ≡ nat_lt 0 (most - n)
has-room n most = by_test (nat_lt n most) refl
  where
    by_test : (c : Bool) → nat_lt n most ≡ c → c ≡ nat_lt 0 (most - n)
    by_test true is = sym (lt-ltb 0 (most - n) (omega (arith, ltb-true n most)))
    by_test false is = sym (le-ltb 0 (most - n) (omega (arith, ltb-false n most)))

module _ (s : Script) where
  there : (k : PieceKind) → 0 < left_of s k → nat_lt 0 (left_of s k) ≡ true
  there k some = lt-ltb 0 (left_of s k) some

  none : (k : PieceKind) → left_of s k ≡ 0 → nat_lt 0 (left_of s k) ≡ false
  none k full = le-ltb 0 (left_of s k) (omega arith)

  pub statement-begins : (ts : Tokens) → starts statement_firsts ts ≡ true → 0 < left_of s a_statement → kind_at (left_of s) ts ≡ got a_statement 0 ts
  statement-begins [] begins some = absurd cc
  statement-begins (t ∷ ts) begins some = let test = there a_statement some in rw (begins, test) refl

  pub statement-full : (ts : Tokens) → starts statement_firsts ts ≡ true → left_of s a_statement ≡ 0 → kind_at (left_of s) ts ≡ halt (TooMany statements) ts
  statement-full [] begins full = absurd cc
  statement-full (t ∷ ts) begins full = let test = none a_statement full in rw (begins, test) refl

  pub no-kind : (ts : Tokens) → 0 < length ts → starts statement_firsts ts ≡ false → starts definition_firsts ts ≡ false → kind_at (left_of s) ts ≡ halt Expected ts
  no-kind [] some a b = absurd (omega arith)
  no-kind (t ∷ ts) some a b = rw (a, b) refl

  pub definitions-full : (ts : Tokens) → starts statement_firsts ts ≡ false → starts definition_firsts ts ≡ true → any_left (left_of s) definitions ≡ false → kind_at (left_of s) ts ≡ halt (TooMany rulesets) ts
  definitions-full [] a b full = absurd cc
  definitions-full (t ∷ ts) a b full = rw (a, b, full) refl

  pub definition-told : (ts : Tokens) → starts statement_firsts ts ≡ false → starts definition_firsts ts ≡ true → any_left (left_of s) definitions ≡ true → kind_at (left_of s) ts ≡ told (left_of s) definitions (drop 1 ts)
  definition-told [] a b some = absurd cc
  definition-told (t ∷ ts) a b some = rw (a, b, some) refl

  -- ---- after `define`

  module _ (ts : Tokens) where
    pub ruleset-told : starts (kind_firsts a_ruleset) ts ≡ true → 0 < left_of s a_ruleset → told (left_of s) definitions ts ≡ got a_ruleset 0 ts
    ruleset-told begins some = let test = there a_ruleset some in rw (begins, test) refl

    pub ruleset-full : starts (kind_firsts a_ruleset) ts ≡ true → left_of s a_ruleset ≡ 0 → told (left_of s) definitions ts ≡ halt (TooMany rulesets) ts
    ruleset-full begins full = let test = none a_ruleset full in rw (begins, test) refl

    pub operator-told : starts (kind_firsts a_ruleset) ts ≡ false → starts (kind_firsts an_operator) ts ≡ true → 0 < left_of s an_operator → told (left_of s) definitions ts ≡ got an_operator 0 ts
    operator-told none_there begins some = let test = there an_operator some in rw (none_there, begins, test) refl

    pub operator-full : starts (kind_firsts a_ruleset) ts ≡ false → starts (kind_firsts an_operator) ts ≡ true → left_of s an_operator ≡ 0 → told (left_of s) definitions ts ≡ halt (TooMany operators) ts
    operator-full none_there begins full = let test = none an_operator full in rw (none_there, begins, test) refl

    pub nothing-told : starts (kind_firsts a_ruleset) ts ≡ false → starts (kind_firsts an_operator) ts ≡ false → told (left_of s) definitions ts ≡ halt Expected ts
    nothing-told a b = rw (a, b) refl
