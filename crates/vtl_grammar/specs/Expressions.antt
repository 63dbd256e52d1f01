-- Which tokens spell an expression, with at most so many levels inside one another.
use Rattle.std.specs.Prelude.{◌≡◌, ℕ, zero, suc, ◌≤◌, [], ◌∷◌, ◌++◌, Some, ◌⊎◌}
use Rattle.vtl_values.specs.declared.place.Place.{Place}
use Rattle.vtl_tokens.specs.declared.token.Token.{Token}
use Rattle.vtl_syntax.specs.declared.expr.Expr.{Expr}
use Rattle.vtl_grammar.specs.Marks.{Mark, Tokens, at, kind_of}
use Rattle.vtl_grammar.specs.Rules.{Counts, Part, OfPart, expression, clause, Of, Spells}
use Rattle.vtl_grammar.specs.Clauses.{join_part_rule, join_part_tree}
use Rattle.vtl_grammar.specs.Calls.{Form}
use Rattle.vtl_grammar.specs.Forms.{Tail, form_of, tail_of, leaf_in, leaf_precedence}

abbrev pub Spelled : Type 1
Spelled = (q : Part) → OfPart q → Tokens → Type 0

-- one token is the whole
abbrev pub IsLeaf : ℕ → Expr → Tokens → Type 0
IsLeaf m e us = (t : Token) × (leaf_in t.what t.place ≡ Some e) × (m ≤ leaf_precedence t.what) × (us ≡ t ∷ [])

-- a form of precedence m or higher that begins with its own word
pub record IsForm (L : Counts) (T : Spelled) (m : ℕ) (e : Expr) (us : Tokens) : Type 0 where
  pub begins : Mark
  pub place : Place
  pub form : Form
  pub of_mark : form_of begins ≡ Some form
  pub precedence : m ≤ form.precedence
  pub value : Of form.rule
  pub is : e ≡ form.tree value place
  pub after : Tokens
  pub tokens : us ≡ at (kind_of begins) place ∷ after
  pub spelled : Spells L T form.rule value after

-- an expression of the precedence that the operand has to have, and what goes on after it
pub record IsTailed (L : Counts) (T : Spelled) (m : ℕ) (e : Expr) (us : Tokens) : Type 0 where
  pub left : Expr
  pub front : Tokens
  pub begins : Mark
  pub place : Place
  pub tail : Tail
  pub of_mark : tail_of begins ≡ Some tail
  pub precedence : m ≤ tail.precedence
  pub left_spelled : T (expression tail.operand) left front
  pub value : Of tail.rule
  pub is : e ≡ tail.tree left value place
  pub after : Tokens
  pub tokens : us ≡ front ++ at (kind_of begins) place ∷ after
  pub spelled : Spells L T tail.rule value after

-- the tokens spell this part, with at most so many levels
abbrev pub IsPart : Counts → ℕ → Spelled
IsPart L zero (expression m) e us = IsLeaf m e us
IsPart L zero (clause k) c us = ⊥
IsPart L (suc d) (expression m) e us = IsLeaf m e us ⊎ IsForm L (IsPart L d) m e us ⊎ IsTailed L (IsPart L d) m e us
IsPart L (suc d) (clause k) c us = (v : Of (join_part_rule k)) × (c ≡ join_part_tree k v) × Spells L (IsPart L d) (join_part_rule k) v us
