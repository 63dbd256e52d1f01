-- The operands that stand behind what is held, one by its number.
use Rattle.std.proofs.Common.{◌≡◌, ◌≢◌, ℕ, ◌<◌, List, [], ◌∷◌, zip, length, get_or, Option, Some, None, refl, sym, ap, subst, ◌∙◌, zero, suc, arith}
use Rattle.std.specs.List.{AllZip}
use Rattle.std.specs.Option.{IfSome}
use Rattle.std.specs.FinMap.{empty, get}
use Rattle.std.proofs.Math.ListN.{get_or-map}
use Rattle.std.proofs.lemmas.List.{get_or_default}
use Rattle.std.proofs.lemmas.Option.{unwrap_or-slice_get}
use Rattle.std.proofs.lemmas.Slice.Zip.{get_or-zip}
use Rattle.vtl_values.specs.declared.value.Value.{Value}
use Rattle.vtl_values.proofs.Values.{key_cmp-IsTotalOrder, key_cmp-IsAntisymmetric}
use Rattle.data_model.specs.Deltas.{Pair, apply, after, BeginsAt}
use Rattle.data_model.proofs.DeltaLemmas.{get-apply}
use Rattle.point_sets.specs.Changes.{Changes}
use Rattle.point_sets.specs.DataSets.{DataSet}
use Rattle.structured_sets.specs.Fitting.{IsSetOf}
use Rattle.data_set_trees.specs.Components.{identifiers}
use Rattle.held_index.specs.Holdings.{Holding, operand}
use Rattle.held_index.specs.Rules.{after_news}
use Rattle.pair_ops.proofs.Meetings.{long-key}
use Rattle.operator_meaning.specs.joins.Joins.{JoinOn}
use Rattle.join_eval.specs.Plans.{structure_of}
use Rattle.outer_joins.proofs.Looked.{as-many-after}
use Rattle.outer_joins.proofs.Right.{AllZip-length}
use Rattle.inner_joins.specs.Noted.{news_of, AreBehind}

-- what holds of two lists one by one holds at a place
AllZip-at : {A B : Type 0} (F : A → B → Type 0) (xs : List A) (ys : List B) (i : ℕ) (d : A) (e : B) → AllZip F xs ys → i < length xs → F (get_or xs i d) (get_or ys i e)
AllZip-at F [] ys i d e all within = absurd (omega (arith, within))
AllZip-at F (x ∷ xs) [] i d e all within = absurd all
AllZip-at F (x ∷ xs) (y ∷ ys) zero d e all within = all.0
AllZip-at F (x ∷ xs) (y ∷ ys) (suc i) d e all within = AllZip-at F xs ys i d e all.1 (omega (arith, within))

-- an operand that there is stands at its number
pub operand-at : (xs : List DataSet) (number : ℕ) → number < length xs → operand number xs ≡ get_or xs number (operand number xs)
operand-at xs number within = unwrap_or-slice_get xs number empty ∙ get_or_default xs number empty (operand number xs) within

module _ (j : JoinOn) (held : List Holding) (news : List Changes) (xs : List DataSet) (behind : AreBehind j held news xs) where
  -- there are as many as the join has
  pub many : length xs ≡ length j.operands
  many = AllZip-length IsSetOf j.operands xs behind.fit

  many-news : length news ≡ length j.operands
  many-news = sym (AllZip-length BeginsAt news xs behind.begin) ∙ many

  pub many-after : length (after_news news xs) ≡ length j.operands
  many-after = as-many-after news xs (many-news ∙ sym many) ∙ many

  module _ (number : ℕ) (within : number < length j.operands) where
    pub after-is : operand number (after_news news xs) ≡ apply (news_of number news) (operand number xs)
    after-is =
        let no_change : Changes = empty in
        let no_point : DataSet = empty in
        let put : Changes × DataSet → DataSet = λ p. apply p.0 p.1 in
        unwrap_or-slice_get (after_news news xs) number no_point
        ∙ get_or_default (after_news news xs) number no_point (apply no_change no_point) (omega (arith, within, many-after))
        ∙ get_or-map put (zip news xs) number (no_change, no_point)
        ∙ ap put (get_or-zip news xs number (no_change, no_point) (omega (arith, within, many-news)) (omega (arith, within, many)))
        ∙ ap (apply (news_of number news)) (sym (unwrap_or-slice_get xs number no_point))

    fit-before : IsSetOf (structure_of j number) (operand number xs)
    fit-before =
        subst (IsSetOf (structure_of j number)) (sym (unwrap_or-slice_get xs number empty))
        (AllZip-at IsSetOf j.operands xs number [] empty behind.fit within)

    fit-after : IsSetOf (structure_of j number) (operand number (after_news news xs))
    fit-after =
        subst (IsSetOf (structure_of j number)) (sym (unwrap_or-slice_get (after_news news xs) number empty))
        (AllZip-at IsSetOf j.operands (after_news news xs) number [] empty behind.fit_after within)

    begins : BeginsAt (news_of number news) (operand number xs)
    begins =
        subst (BeginsAt (news_of number news)) (sym (unwrap_or-slice_get xs number empty))
        (AllZip-at BeginsAt news xs number empty empty behind.begin (omega (arith, within, many-news)))

    -- what comes at a key
    pub get-after : (k : List Value) → get (operand number (after_news news xs)) k ≡ after (get (news_of number news) k) (get (operand number xs) k)
    get-after k = ap (λ (m : DataSet). get m k) after-is ∙ get-apply key_cmp-IsTotalOrder key_cmp-IsAntisymmetric (news_of number news) (operand number xs) k

    pub stays-at : (k : List Value) → get (news_of number news) k ≡ None → get (operand number (after_news news xs)) k ≡ get (operand number xs) k
    stays-at k none = get-after k ∙ ap (λ (c : Option (Pair (List Value))). after c (get (operand number xs) k)) none

    module _ (k : List Value) (x : Pair (List Value)) (there : get (news_of number news) k ≡ Some x) where
      pub was-at : get (operand number xs) k ≡ x.0
      was-at = subst (λ (c : Option (Pair (List Value))). IfSome c (λ y. get (operand number xs) k ≡ y.0)) there (begins k)

      pub is-at : get (operand number (after_news news xs)) k ≡ x.1
      is-at = get-after k ∙ ap (λ (c : Option (Pair (List Value))). after c (get (operand number xs) k)) there

      -- a key that changes has a value for each identifier
      pub changed-long : x.0 ≢ x.1 → length k ≡ length (identifiers (structure_of j number))
      changed-long differs = by_points x.0 x.1 differs was-at is-at
        where
          by_points : (o p : Option (List Value)) → o ≢ p → get (operand number xs) k ≡ o → get (operand number (after_news news xs)) k ≡ p → length k ≡ length (identifiers (structure_of j number))
          by_points (Some rest) p other was is = long-key (structure_of j number) (operand number xs) k rest fit-before was
          by_points None (Some rest) other was is = long-key (structure_of j number) (operand number (after_news news xs)) k rest fit-after is
          by_points None None other was is = absurd (other refl)

    -- and so has one with a point
    pub point-long : (k rest : List Value) → get (operand number xs) k ≡ Some rest → length k ≡ length (identifiers (structure_of j number))
    point-long k rest there = long-key (structure_of j number) (operand number xs) k rest fit-before there
