-- Scripts, and their limits.
use Rattle.std.specs.Prelude.{◌≡◌, ℕ, ◌≤◌, List, [], ◌∷◌, ◌++◌, length, Bool, true, false, ◌⊎◌}
use Rattle.std.proofs.Common.{inl, inr}
use Rattle.vtl_values.specs.declared.place.Place.{Place}
use Rattle.vtl_tokens.specs.declared.keyword.Keyword.TheVariants as words
use Rattle.vtl_tokens.specs.declared.sign.Sign.TheVariants as signs
use Rattle.vtl_syntax.specs.declared.script.Statement.{Statement}
use Rattle.vtl_syntax.specs.declared.script.Script.{Script}
use Rattle.vtl_syntax.specs.declared.ruleset.Ruleset.{Ruleset}
use Rattle.vtl_syntax.specs.declared.operator.DefinedOperator.{DefinedOperator}
use Rattle.vtl_grammar.specs.Marks.{Tokens}
use Rattle.vtl_grammar.specs.Rules.{Rule, name, ◌▸◌, either, Limit, Counts, operands, rules, parameters, statements, rulesets, operators, lists, Of, word, sig, expr, Spells}
use Rattle.vtl_grammar.specs.Expressions.{IsPart}
use Rattle.vtl_grammar.specs.Rulesets.{semicolon, ruleset_rule, ruleset_of}
use Rattle.vtl_grammar.specs.Operators.{operator_rule, operator_of}

-- name ("<-" | ":=") expr ";"
abbrev pub statement_rule : Rule
statement_rule = name ▸ either (sig signs.Arrow) (sig signs.Assign) ▸ expr 0 ▸ semicolon

abbrev pub is_arrow : Place ⊎ Place → Bool
is_arrow (inl p) = true
is_arrow (inr p) = false

abbrev pub statement_of : Of statement_rule → Statement
statement_of v = record { name = v.0.value; persistent = is_arrow v.1.0; expr = v.1.1.0; place = v.0.place }

-- "define" g ";"
abbrev pub definition : Rule → Rule
definition g = word words.Define ▸ g ▸ semicolon

-- ---- pieces

-- what a script is made of
pub data PieceKind : Type 0 where
  a_statement : PieceKind
  a_ruleset : PieceKind
  an_operator : PieceKind

-- what says how many of a kind there may be
abbrev pub limit_of : PieceKind → Limit
limit_of a_statement = statements
limit_of a_ruleset = rulesets
limit_of an_operator = operators

abbrev pub piece_rule : PieceKind → Rule
piece_rule a_statement = statement_rule
piece_rule a_ruleset = definition ruleset_rule
piece_rule an_operator = definition operator_rule

abbrev pub OfKind : PieceKind → Type 0
OfKind a_statement = Statement
OfKind a_ruleset = Ruleset
OfKind an_operator = DefinedOperator

abbrev pub piece_tree : (k : PieceKind) → Of (piece_rule k) → OfKind k
piece_tree a_statement v = statement_of v
piece_tree a_ruleset v = ruleset_of v.0 v.1.0
piece_tree an_operator v = operator_of v.0 v.1.0

abbrev pub Piece : Type 0
Piece = (k : PieceKind) × OfKind k

-- the piece where it is of that kind, else nothing
abbrev pub of_kind : (k : PieceKind) → Piece → List (OfKind k)
of_kind a_statement (a_statement, x) = x ∷ []
of_kind a_ruleset (a_ruleset, x) = x ∷ []
of_kind an_operator (an_operator, x) = x ∷ []
of_kind _ _ = []

-- the pieces of that kind, in their order
abbrev pub all_of_kind : (k : PieceKind) → List Piece → List (OfKind k)
all_of_kind k [] = []
all_of_kind k (p ∷ ps) = of_kind k p ++ all_of_kind k ps

-- the tokens spell the piece
abbrev pub IsPiece : Counts → ℕ → Piece → Tokens → Type 0
IsPiece L d p us = (v : Of (piece_rule p.0)) × (p.1 ≡ piece_tree p.0 v) × Spells L (IsPart L d) (piece_rule p.0) v us

-- the tokens spell the pieces, one after the other
abbrev pub IsPieces : Counts → ℕ → List Piece → Tokens → Type 0
IsPieces L d [] us = us ≡ []
IsPieces L d (p ∷ ps) us = (a b : Tokens) × (us ≡ a ++ b) × IsPiece L d p a × IsPieces L d ps b

-- there are no more pieces of a kind than there may be
abbrev pub AreFew : Counts → List Piece → Type 0
AreFew L ps = (k : PieceKind) → length (all_of_kind k ps) ≤ L (limit_of k)

abbrev pub script_of : List Piece → Script
script_of ps = record { statements = all_of_kind a_statement ps; rulesets = all_of_kind a_ruleset ps; operators = all_of_kind an_operator ps }

-- the tokens are that script, where there are at most d levels and L of each other
abbrev pub IsScriptIn : Counts → ℕ → Script → Tokens → Type 0
IsScriptIn L d s us = (ps : List Piece) × (s ≡ script_of ps) × AreFew L ps × IsPieces L d ps us

-- ---- the limits of the language

-- levels of an expression
abbrev pub LEVELS : ℕ
LEVELS = 64

-- eight operands, 256 rules, 16 parameters, 256 statements, 64 rulesets, 64 operators; other lists may have any number
-- of items
abbrev pub language : ℕ → Counts
language n operands = 6
language n rules = 255
language n parameters = 15
language n statements = 256
language n rulesets = 64
language n operators = 64
language n lists = n

-- the tokens before the end are that script
abbrev pub IsScript : Script → Tokens → Type 0
IsScript s us = (n : ℕ) × IsScriptIn (language n) LEVELS s us

-- the same, if there were other limits, or none
abbrev pub IsScriptAtLarge : Script → Tokens → Type 0
IsScriptAtLarge s us = (L : Counts) × (d : ℕ) × IsScriptIn L d s us
