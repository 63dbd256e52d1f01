-- A reserved word is written in one way, and no two are written alike.
use Rattle.std.proofs.Common.{◌≡◌, ℕ, Bool, true, false, cond, List, [], ◌∷◌, Option, None, Some, refl, sym, ap, ◌∙◌, nat_eq}
use Rattle.std.proofs.lemmas.Bool.Decides.{Decides-eqb}
use Rattle.std.proofs.lemmas.Slice.Eq.{slice_eq-Decides}
use Rattle.std.specs.Cmp.Lexicographic.{pointwise}
use Rattle.std.specs.List.{find, list_all}
use Rattle.vtl_tokens.specs.declared.keyword.Keyword.{Keyword}
use Rattle.vtl_tokens.specs.declared.keyword.Keyword.TheVariants.{Define}
use Rattle.vtl_tokens.specs.declared.keyword.TheConstants.Keyword.{ALL}
use Rattle.vtl_tokens.specs.Keywords.{word_of, keyword_of, is_small}

-- what a search finds passes its test
pub find_passes : {X : Type 0} (test : X → Bool) (xs : List X) (x : X) → find test xs ≡ Some x → test x ≡ true
find_passes test [] x found = cc
find_passes {X} test (y ∷ ys) x found = by (test y) refl found (find_passes test ys x)
  where
    by : (b : Bool) → test y ≡ b → cond b (Some y) (find test ys) ≡ Some x → (find test ys ≡ Some x → test x ≡ true) → test x ≡ true
    by true passes found later = cc
    by false fails found later = later found

pub written_word_is_found : (word : Keyword) → keyword_of (word_of word) ≡ Some word
unfolding keyword_of
written_word_is_found word = elim word as (λ w. keyword_of (word_of w) ≡ Some w) [ Define ↦ refl | _ ↦ refl ]

pub found_word_is_written : (text : List ℕ) (word : Keyword) → keyword_of text ≡ Some word → text ≡ word_of word
unfolding keyword_of
found_word_is_written text word found = sym ((slice_eq-Decides Decides-eqb (word_of word) text (pointwise nat_eq (word_of word) text) refl).0 (find_passes (λ w. pointwise nat_eq (word_of w) text) ALL word found))

written_small : (word : Keyword) → list_all is_small (word_of word) ≡ true
written_small word = elim word as (λ w. list_all is_small (word_of w) ≡ true) [ Define ↦ refl | _ ↦ refl ]

-- so a text with another byte is none
pub none_is_written : (text : List ℕ) → list_all is_small text ≡ false → keyword_of text ≡ None
none_is_written text other = by (keyword_of text) refl
  where
    by : (found : Option Keyword) → keyword_of text ≡ found → found ≡ None
    by None is = refl
    by (Some word) is =
        let small : list_all is_small text ≡ true = ap (list_all is_small) (found_word_is_written text word is) ∙ written_small word in
        cc
