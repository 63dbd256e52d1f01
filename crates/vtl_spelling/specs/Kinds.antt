-- Kinds of tokens in a row, and how rows are put together.
use Rattle.std.specs.Prelude.{ℕ, ℤ, pos, negsuc, suc, List, [], ◌∷◌, ◌++◌, Option, Some, None}
use Rattle.std.specs.List.{flat_map}
use Rattle.vtl_tokens.specs.declared.keyword.Keyword.{Keyword}
use Rattle.vtl_tokens.specs.declared.sign.Sign.{Sign}
use Rattle.vtl_tokens.specs.declared.sign.Sign.TheVariants as signs
use Rattle.vtl_tokens.specs.declared.token.TokenKind.{TokenKind}
use Rattle.vtl_tokens.specs.declared.token.TokenKind.TheVariants as what

abbrev pub Kinds : Type 0
Kinds = List TokenKind

-- one behind the other
infixr 20 ◌&◌
abbrev pub ◌&◌ : Kinds → Kinds → Kinds
a & b = a ++ b

abbrev pub one : TokenKind → Kinds
one k = k ∷ []

abbrev pub key : Keyword → Kinds
key k = one (what.Reserved k)

abbrev pub sig : Sign → Kinds
sig s = one (what.Sign s)

abbrev pub comma : Kinds
comma = sig signs.Comma

abbrev pub open_paren : Kinds
open_paren = sig signs.LeftParen

abbrev pub close_paren : Kinds
close_paren = sig signs.RightParen

-- what is there, if it is
abbrev pub optional : {A : Type 0} → (A → Kinds) → Option A → Kinds
optional f None = []
optional f (Some x) = f x

-- with that before each but the first
abbrev pub separated : {A : Type 0} → Kinds → (A → Kinds) → List A → Kinds
separated k f [] = []
separated k f (x ∷ xs) = f x & flat_map (λ y. k & f y) xs

abbrev pub commas : {A : Type 0} → (A → Kinds) → List A → Kinds
commas f xs = separated comma f xs

abbrev pub name : List ℕ → Kinds
name w = one (what.Name w)

abbrev pub text : List ℕ → Kinds
text w = one (what.Text w)

abbrev pub integer : ℤ → Kinds
integer z = one (what.Integer z)

-- with a minus before it, where it is negative
abbrev pub signed : (ℤ → TokenKind) → ℤ → Kinds
signed of (pos n) = one (of (pos n))
signed of (negsuc n) = sig signs.Minus & one (of (pos (suc n)))

abbrev pub signed_integer : ℤ → Kinds
signed_integer z = signed what.Integer z
