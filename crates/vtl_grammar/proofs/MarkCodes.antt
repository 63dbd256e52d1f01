-- The marks have codes of their own.
use Rattle.std.proofs.Common.{◌≡◌, ℕ, zero, suc, List, [], ◌∷◌, refl, sym, ap, ◌∙◌}
use Rattle.std.specs.Prelude.{map}
use Rattle.vtl_tokens.specs.declared.keyword.Keyword.TheVariants as words
use Rattle.vtl_tokens.specs.declared.keyword.TheConstants.Keyword.{ALL}
use Rattle.vtl_tokens.specs.declared.sign.Sign.TheVariants as signs
use Rattle.vtl_grammar.specs.Marks.{Mark, key, sign, mark_code}

nth : ℕ → List Mark → Mark
nth n [] = sign signs.Arrow
nth zero (m ∷ ms) = m
nth (suc n) (m ∷ ms) = nth n ms

all : List Mark
all = sign signs.Arrow ∷ sign signs.Assign ∷ sign signs.Semicolon ∷ sign signs.Comma ∷ sign signs.LeftParen ∷ sign signs.RightParen ∷ sign signs.LeftBracket ∷ sign signs.RightBracket ∷ sign signs.LeftBrace ∷ sign signs.RightBrace ∷ sign signs.Plus ∷ sign signs.Minus ∷ sign signs.Star ∷ sign signs.Slash ∷ sign signs.Bars ∷ sign signs.Equal ∷ sign signs.NotEqual ∷ sign signs.LessThan ∷ sign signs.GreaterThan ∷ sign signs.AtMost ∷ sign signs.AtLeast ∷ sign signs.Hash ∷ sign signs.Colon ∷ map key ALL

back : (m : Mark) → nth (mark_code m) all ≡ m
unfolding nth all
back (sign signs.Arrow) = refl
back (key words.Define) = refl
back _ = refl

pub code-one : (m n : Mark) → mark_code m ≡ mark_code n → m ≡ n
code-one m n e = sym (back m) ∙ ap (λ (k : ℕ). nth k all) e ∙ back n
