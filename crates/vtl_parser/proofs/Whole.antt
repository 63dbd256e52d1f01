-- Reading with any count of items that is no less than that of the tokens answers the same.
use Rattle.std.proofs.Common.{◌≡◌, ℕ, suc, ◌+◌, ◌≤◌, ◌<◌, length, List, [], ◌∷◌, ◌++◌, Ok, Err, inl, inr, refl, ap, arith}
use Rattle.std.proofs.lemmas.List.{length-append}
use Rattle.vtl_grammar.specs.Marks.{Tokens}
use Rattle.vtl_grammar.specs.Rules.{Limit, operands, rules, parameters, statements, rulesets, operators, lists}
use Rattle.vtl_grammar.specs.Scripts.{PieceKind, a_statement, a_ruleset, an_operator, limit_of, Piece, script_of, language, LEVELS}
use Rattle.vtl_grammar.specs.Reading.{Kind, Expected, TooDeep, TooMany, Halt, Read, mapped}
use Rattle.vtl_grammar.specs.ScriptReading.{Left, total, limits_of, read_pieces, read_script}
use Rattle.vtl_grammar.specs.Laws.{read_whole}
use Rattle.vtl_grammar.proofs.Explained.{IsMore, IsHalted, Explains, Beyond}
use Rattle.vtl_grammar.proofs.ScriptLaws.{SpellsPieces, pieces-explained, pieces-agree}
use Rattle.vtl_grammar.proofs.Agreement.{SamePieces, IsSame, Agrees}
use Rattle.vtl_cursor.specs.Limits.{most}
use Rattle.vtl_parser.specs.Scripts.{levelless, script_read, whole_read}

-- nothing came before
abbrev none_yet : Left
none_yet j = 0

module _ (n m : ℕ) (le : n ≤ m) (ts : Tokens) (few : length ts ≤ n) where
  more : IsMore (language n) (language m)
  more operands = omega arith
  more rules = omega arith
  more parameters = omega arith
  more statements = omega arith
  more rulesets = omega arith
  more operators = omega arith
  more lists = le

  alike : SamePieces (language n) (language m)
  alike a_statement = refl
  alike a_ruleset = refl
  alike an_operator = refl

  abbrev pieces : ℕ → Tokens → Read (List Piece)
  pieces j us = read_pieces (language j) LEVELS (suc (total (limits_of (language j)))) (limits_of (language j)) us

  agree : Agrees (language n) (language m) more (Unit {0}) (pieces n ts) (pieces m ts)
  agree = pieces-agree (language n) (language m) more (Unit {0}) LEVELS LEVELS (omega arith) (λ u. refl) (suc (total (limits_of (language n)))) (suc (total (limits_of (language m)))) (limits_of (language n)) (limits_of (language m)) (omega arith) (omega arith) (λ j. more (limit_of j)) (λ s j. s j) ts

  -- no list has too many items
  not_long : (e : Halt) → IsHalted (pieces n) (SpellsPieces none_yet) (language n) LEVELS n ts e → e.kind ≡ TooMany lists → ⊥
  not_long e f is = by_rest e.rest refl f.beyond
    where
      by_rest : (rest : Tokens) → e.rest ≡ rest → Beyond (SpellsPieces none_yet) (language n) LEVELS e.kind f.front rest → ⊥
      by_rest [] end b = let k : e.kind ≡ Expected = b in absurd cc
      by_rest (t ∷ us) end b =
          let long : n ≤ length f.front = f.long is in
          let all : length ts ≡ length (f.front ++ e.rest) = ap (λ (vs : Tokens). length vs) f.parts in
          let sum = length-append f.front e.rest in
          let some : length e.rest ≡ length (t ∷ us) = ap (λ (vs : Tokens). length vs) end in
          omega arith

  same_kind : (e : Halt) → (e.kind ≡ TooMany lists → ⊥) → (k : Kind) → e.kind ≡ k → IsSame (language n) (language m) more (Unit {0}) k
  same_kind e short Expected is = tt
  same_kind e short TooDeep is = tt
  same_kind e short (TooMany operands) is = (refl, alike)
  same_kind e short (TooMany rules) is = (refl, alike)
  same_kind e short (TooMany parameters) is = (refl, alike)
  same_kind e short (TooMany statements) is = (refl, alike)
  same_kind e short (TooMany rulesets) is = (refl, alike)
  same_kind e short (TooMany operators) is = (refl, alike)
  same_kind e short (TooMany lists) is = absurd (short is)

  same : (x : Read (List Piece)) → Explains (pieces n) (SpellsPieces none_yet) (language n) LEVELS n ts x → (y : Read (List Piece)) → Agrees (language n) (language m) more (Unit {0}) x y → y ≡ x
  same (Ok a) f y g = g
  same (Err e) f y g = g (same_kind e (not_long e f) e.kind refl)

  pub script-same : read_script (language m) LEVELS ts ≡ read_script (language n) LEVELS ts
  script-same = ap (mapped script_of) (same (pieces n ts) (pieces-explained (language n) LEVELS (suc (total (limits_of (language n)))) none_yet (limits_of (language n)) (λ j. omega arith) (omega arith) ts) (pieces m ts) agree)

-- so reading a script with as many as there are tokens
pub whole-is : (n : ℕ) (ts : Tokens) → length ts ≤ n → read_script (language n) LEVELS ts ≡ read_whole ts
whole-is n ts le = script-same (length ts) n le ts (omega arith)

-- and reading a script with the levels of the language is reading it whole
pub levels-whole : (ts : Tokens) → length ts ≤ most → script_read 64 ts ≡ whole_read ts
unfolding script_read whole_read
levels-whole ts few = ap (levelless (λ v. v)) (whole-is most ts few)
