-- Words that are left out, by the grammar.
use Rattle.std.proofs.Common.{◌≡◌, [], ◌∷◌, ◌++◌, Bool, true, false, ◌&&◌, ◌||◌, ◌⊎◌, inl, inr, refl, ap, subst, ◌∙◌}
use Rattle.vtl_values.specs.declared.place.Place.{Place}
use Rattle.vtl_tokens.specs.declared.token.TokenKind.TheVariants as what
use Rattle.vtl_tokens.specs.declared.keyword.Keyword.{Keyword}
use Rattle.vtl_tokens.specs.declared.keyword.Keyword.TheVariants as words
use Rattle.vtl_tokens.specs.Keywords.{is_left_out}
use Rattle.vtl_grammar.specs.Marks.{Tokens, at, key, of_mark}
use Rattle.vtl_grammar.specs.Scripts.{IsScript}
use Rattle.vtl_grammar.specs.Faults.{GoesOn, IsAllOfGroup, IsAggrOfJoin}
use Rattle.vtl_grammar.specs.Laws.{read_whole, with_rename, passes_last}
use Rattle.vtl_grammar.proofs.RenameLaw.{tells_rename}
use Rattle.vtl_grammar.specs.LeftOut.{is_same_word, ends_with_group, is_left_out_at}
use Rattle.vtl_grammar.proofs.Sorts.{is_mark, nat_eq-refl}

no_truth : {P : Type 0} → false ≡ true → P
no_truth e = cc

same-told : (w v : Keyword) → is_same_word w v ≡ true → w ≡ v
same-told w v e = same (is_mark (key v) (what.Reserved w) e)
  where
    same : what.Reserved w ≡ what.Reserved v → w ≡ v
    same e = cc

same-is : (w v : Keyword) → w ≡ v → is_same_word w v ≡ true
same-is w v e = subst (λ (x : Keyword). is_same_word w x ≡ true) e (nat_eq-refl (of_mark (key w)))

-- ---- after `group`

EndsWithGroup : Tokens → Type 0
EndsWithGroup front = (front' : Tokens) × (p : Place) × (front ≡ front' ++ at (what.Reserved words.Group) p ∷ [])

group_end-told : (front : Tokens) → ends_with_group front ≡ true → EndsWithGroup front
unfolding EndsWithGroup
group_end-told [] e = no_truth e
group_end-told (t ∷ []) e = ([], t.place, ap (λ k. at k t.place ∷ []) (is_mark (key words.Group) t.what e))
group_end-told (t ∷ u ∷ ts) e =
    let more = group_end-told (u ∷ ts) e in
    (t ∷ more.0, more.1, ap (λ (us : Tokens). t ∷ us) more.2)

group_end-at : (front : Tokens) (p : Place) → ends_with_group (front ++ at (what.Reserved words.Group) p ∷ []) ≡ true
group_end-at [] p = nat_eq-refl (of_mark (key words.Group))
group_end-at (t ∷ []) p = refl
group_end-at (t ∷ u ∷ ts) p = group_end-at (u ∷ ts) p

-- ---- a word after tokens with which a script goes on

abbrev pub IsLeftOutAfter : Keyword → Tokens → Place → Type 0
IsLeftOutAfter w front p = (is_left_out w ≡ true) ⊎ IsAllOfGroup w front ⊎ IsAggrOfJoin w front p

by_tests : {A B C : Type 0} (a b c d e : Bool) → (a ≡ true → A) → (b ≡ true → c ≡ true → B) → (d ≡ true → e ≡ true → C) → (a || ((b && c) || (d && e))) ≡ true → A ⊎ B ⊎ C
by_tests true b c d e f g h is = inl (f refl)
by_tests false true true d e f g h is = inr (inl (g refl refl))
by_tests false true false true true f g h is = inr (inr (h refl refl))
by_tests false true false true false f g h is = no_truth is
by_tests false true false false e f g h is = no_truth is
by_tests false false c true true f g h is = inr (inr (h refl refl))
by_tests false false c true false f g h is = no_truth is
by_tests false false c false e f g h is = no_truth is

first-holds : (a b c d e : Bool) → a ≡ true → (a || ((b && c) || (d && e))) ≡ true
first-holds true b c d e h = refl
first-holds false b c d e h = no_truth h

second-holds : (a b c d e : Bool) → b ≡ true → c ≡ true → (a || ((b && c) || (d && e))) ≡ true
second-holds true b c d e g h = refl
second-holds false true true d e g h = refl
second-holds false true false d e g h = no_truth h
second-holds false false c d e g h = no_truth g

third-holds : (a b c d e : Bool) → d ≡ true → e ≡ true → (a || ((b && c) || (d && e))) ≡ true
third-holds true b c d e g h = refl
third-holds false true true d e g h = refl
third-holds false true false true true g h = refl
third-holds false true false true false g h = no_truth h
third-holds false true false false e g h = no_truth g
third-holds false false c true true g h = refl
third-holds false false c true false g h = no_truth h
third-holds false false c false e g h = no_truth g

module _ (w : Keyword) (front : Tokens) (p : Place) (on : GoesOn IsScript front) where
  pub told : is_left_out_at w front p ≡ true → IsLeftOutAfter w front p
  unfolding EndsWithGroup
  told e =
      by_tests {A = is_left_out w ≡ true} {B = IsAllOfGroup w front} {C = IsAggrOfJoin w front p} (is_left_out w) (is_same_word w words.All) (ends_with_group front) (is_same_word w words.Aggr) (passes_last (read_whole (with_rename front p)))
      (λ a. a) (λ a g. (same-told w words.All a, group_end-told front g)) (λ a r. (same-told w words.Aggr a, (tells_rename front p on).0 r)) e

  pub is : IsLeftOutAfter w front p → is_left_out_at w front p ≡ true
  is (inl h) = first-holds (is_left_out w) (is_same_word w words.All) (ends_with_group front) (is_same_word w words.Aggr) (passes_last (read_whole (with_rename front p))) h
  is (inr (inl h)) =
      second-holds (is_left_out w) (is_same_word w words.All) (ends_with_group front) (is_same_word w words.Aggr) (passes_last (read_whole (with_rename front p))) (same-is w words.All h.0)
      (ap ends_with_group h.1.2 ∙ group_end-at h.1.0 h.1.1)
  is (inr (inr h)) = third-holds (is_left_out w) (is_same_word w words.All) (ends_with_group front) (is_same_word w words.Aggr) (passes_last (read_whole (with_rename front p))) (same-is w words.Aggr h.0) ((tells_rename front p on).1 h.1)
