-- Which words are left out where they stand (docs/language.md, "Faults" of "Grammar").
use Rattle.std.specs.Prelude.{Bool, false, ◌&&◌, ◌||◌, [], ◌∷◌, nat_eq}
use Rattle.vtl_values.specs.declared.place.Place.{Place}
use Rattle.vtl_tokens.specs.declared.keyword.Keyword.{Keyword}
use Rattle.vtl_tokens.specs.declared.keyword.Keyword.TheVariants.{Group, All, Aggr}
use Rattle.vtl_tokens.specs.Keywords.{is_left_out}
use Rattle.vtl_grammar.specs.Marks.{key, Tokens, of_mark, sort_of}
use Rattle.vtl_grammar.specs.Laws.{read_whole, with_rename, passes_last}

abbrev pub is_same_word : Keyword → Keyword → Bool
is_same_word w v = nat_eq (of_mark (key w)) (of_mark (key v))

-- whether the last of the tokens is the word `group`
abbrev pub ends_with_group : Tokens → Bool
ends_with_group [] = false
ends_with_group (t ∷ []) = nat_eq (sort_of t.what) (of_mark (key Group))
ends_with_group (t ∷ u ∷ ts) = ends_with_group (u ∷ ts)

-- whether the word is left out after these tokens: everywhere, or after `group`, or where `rename` could stand
abbrev pub is_left_out_at : Keyword → Tokens → Place → Bool
is_left_out_at w front p = is_left_out w || ((is_same_word w All && ends_with_group front) || (is_same_word w Aggr && passes_last (read_whole (with_rename front p))))
