-- Rules of a grammar, what each stands for, and the tokens that spell it (docs/language.md, "Grammar").
use Rattle.std.specs.Prelude.{◌≡◌, ℕ, zero, suc, ℤ, List, [], ◌∷◌, ◌++◌, Option, Some, None, ◌⊎◌}
use Rattle.std.proofs.Common.{inl, inr}
use Rattle.vtl_values.specs.declared.place.Place.{Place}
use Rattle.vtl_tokens.specs.declared.token.TokenKind.TheVariants as what
use Rattle.vtl_tokens.specs.declared.keyword.Keyword.{Keyword}
use Rattle.vtl_tokens.specs.declared.keyword.Keyword.TheVariants as words
use Rattle.vtl_tokens.specs.declared.sign.Sign.{Sign}
use Rattle.vtl_tokens.specs.declared.sign.Sign.TheVariants as signs
use Rattle.vtl_syntax.specs.declared.expr.Expr.{Expr}
use Rattle.vtl_syntax.specs.declared.expr.Clause.{Clause}
use Rattle.vtl_grammar.specs.Marks.{Mark, key, sign, Tokens, at, kind_of}

-- what is counted: the operands of a call after the second, the rules of a ruleset and the parameters of an operator
-- after the first, the statements, rulesets and operators of a script, and the items of a list that has no limit of
-- its own
pub data Limit : Type 0 where
  operands : Limit
  rules : Limit
  parameters : Limit
  statements : Limit
  rulesets : Limit
  operators : Limit
  lists : Limit

-- how many of each there may be
abbrev pub Counts : Type 0
Counts = Limit → ℕ

-- the places for a clause in a join
pub data JoinPart : Type 0 where
  filtering : JoinPart
  calculating : JoinPart
  keeping : JoinPart
  renaming : JoinPart

-- what has levels: an expression of this precedence or a higher one, or a clause in a join
pub data Part : Type 0 where
  expression : ℕ → Part
  clause : JoinPart → Part

abbrev pub OfPart : Part → Type 0
OfPart (expression m) = Expr
OfPart (clause k) = Clause

-- what may stand before something: a name and a colon, or the word `rule` and a name
pub data Prefix : Type 0 where
  label : Prefix
  component : Prefix

infixr 20 ◌▸◌
pub data Rule : Type 0 where
  mark : Mark → Rule
  name : Rule
  integer : Rule
  number : Rule
  text : Rule
  part : Part → Rule
  ◌▸◌ : Rule → Rule → Rule  -- g h
  option : Rule → Rule → Rule  -- [g] h
  suffix : Rule → Rule → Rule  -- g [h]
  either : Rule → Rule → Rule  -- g | h
  repeated : Limit → Rule → Rule → Rule  -- g {h}, with at most so many h
  prefixed : Prefix → Rule → Rule  -- [name ":"] g, ["rule" name] g
  here : Rule → Rule  -- g, and where it begins

-- something, and where it stands
pub record At (A : Type 0) : Type 0 where
  pub value : A
  pub place : Place

-- a text
abbrev pub Text : Type 0
Text = List ℕ

-- what a rule stands for
abbrev pub Of : Rule → Type 0
Of (mark m) = Place
Of name = At Text
Of integer = At ℤ
Of number = At ℤ
Of text = At Text
Of (part q) = OfPart q
Of (g ▸ h) = Of g × Of h
Of (option g h) = Option (Of g) × Of h
Of (suffix g h) = Of g × Option (Of h)
Of (either g h) = Of g ⊎ Of h
Of (repeated l g h) = Of g × List (Of h)
Of (prefixed p g) = Option (At Text) × Of g
Of (here g) = Place × Of g

-- the place of the first token
abbrev pub first_place : Tokens → Place
first_place [] = record { line = 0; column = 0 }
first_place (t ∷ ts) = t.place

-- any number of them up to n
abbrev pub SpellsMore : {A : Type 0} → (A → Tokens → Type 0) → ℕ → List A → Tokens → Type 0
SpellsMore S n [] us = us ≡ []
SpellsMore S zero (x ∷ xs) us = ⊥
SpellsMore S (suc n) (x ∷ xs) us = (a b : Tokens) × (us ≡ a ++ b) × S x a × SpellsMore S n xs b

-- the two tokens of a prefix
abbrev pub prefix_tokens : Prefix → At Text → Place → Tokens → Tokens
prefix_tokens label l p us = at (what.Name l.value) l.place ∷ at (what.Sign signs.Colon) p ∷ us
prefix_tokens component l p us = at (what.Reserved words.Rule) p ∷ at (what.Name l.value) l.place ∷ us

-- the tokens spell this by the rule, where `T` says it of parts
abbrev pub Spells : Counts → (T : (q : Part) → OfPart q → Tokens → Type 0) → (g : Rule) → Of g → Tokens → Type 0
Spells L T (mark m) p us = us ≡ at (kind_of m) p ∷ []
Spells L T name v us = us ≡ at (what.Name v.value) v.place ∷ []
Spells L T integer v us = us ≡ at (what.Integer v.value) v.place ∷ []
Spells L T number v us = us ≡ at (what.Number v.value) v.place ∷ []
Spells L T text v us = us ≡ at (what.Text v.value) v.place ∷ []
Spells L T (part q) v us = T q v us
Spells L T (g ▸ h) v us = (a b : Tokens) × (us ≡ a ++ b) × Spells L T g v.0 a × Spells L T h v.1 b
Spells L T (option g h) (None, w) us = Spells L T h w us
Spells L T (option g h) (Some v, w) us = (a b : Tokens) × (us ≡ a ++ b) × Spells L T g v a × Spells L T h w b
Spells L T (suffix g h) (v, None) us = Spells L T g v us
Spells L T (suffix g h) (v, Some w) us = (a b : Tokens) × (us ≡ a ++ b) × Spells L T g v a × Spells L T h w b
Spells L T (either g h) (inl v) us = Spells L T g v us
Spells L T (either g h) (inr v) us = Spells L T h v us
Spells L T (repeated l g h) v us = (a b : Tokens) × (us ≡ a ++ b) × Spells L T g v.0 a × SpellsMore (Spells L T h) (L l) v.1 b
Spells L T (prefixed p g) (None, v) us = Spells L T g v us
Spells L T (prefixed p g) (Some l, v) us = (q : Place) × (b : Tokens) × (us ≡ prefix_tokens p l q b) × Spells L T g v b
Spells L T (here g) v us = (v.0 ≡ first_place us) × Spells L T g v.1 us

-- ---- short forms

abbrev pub word : Keyword → Rule
word w = mark (key w)

abbrev pub sig : Sign → Rule
sig s = mark (sign s)

abbrev pub expr : ℕ → Rule
expr m = part (expression m)

abbrev pub comma : Rule
comma = sig signs.Comma

abbrev pub open_paren : Rule
open_paren = sig signs.LeftParen

abbrev pub close_paren : Rule
close_paren = sig signs.RightParen

-- g {"," g}
abbrev pub commas : Rule → Rule
commas g = repeated lists g (comma ▸ g)

-- the items of such a list
abbrev pub listed : {A B : Type 0} → (A → B) → A × List (Place × A) → List B
listed f v = f v.0 ∷ rest_of f v.1
  where
    rest_of : {A B : Type 0} → (A → B) → List (Place × A) → List B
    rest_of f [] = []
    rest_of f (w ∷ ws) = f w.1 ∷ rest_of f ws
