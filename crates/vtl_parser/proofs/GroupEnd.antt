-- Whether the last of the tokens is the word `group`.
use Rattle.std.proofs.Common.{◌≡◌, suc, ◌-◌, [], ◌∷◌, length, Bool, false, Option, Some, None, refl, sym, ap, ◌∙◌, arith}
use Rattle.std.specs.Prelude.{nat_eq, slice_get}
use Rattle.vtl_tokens.specs.declared.token.Token.{Token}
use Rattle.vtl_tokens.specs.declared.keyword.Keyword.TheVariants.{Group}
use Rattle.vtl_grammar.specs.Marks.{key, Tokens, of_mark, sort_of}
use Rattle.vtl_grammar.specs.LeftOut.{ends_with_group}

abbrev pub is_group_there : Option Token → Bool
is_group_there None = false
is_group_there (Some t) = nat_eq (sort_of t.what) (of_mark (key Group))

pub ends_with_group-last : (ts : Tokens) → ends_with_group ts ≡ is_group_there (slice_get ts (length ts - 1))
ends_with_group-last [] = refl
ends_with_group-last (t ∷ []) = refl
ends_with_group-last (t ∷ u ∷ ts) =
    let next : length (t ∷ u ∷ ts) - 1 ≡ suc (length (u ∷ ts) - 1) = omega arith in
    ends_with_group-last (u ∷ ts) ∙ sym (ap (λ n. is_group_there (slice_get (t ∷ u ∷ ts) n)) next)
