-- Names in a list of named structures.
use Rattle.std.proofs.Common.{◌≡◌, ℕ, suc, zero, ◌-◌, ◌<◌, ◌≤◌, false, List, [], ◌∷◌, ◌++◌, length, take, None, Some, slice_get, slice_index_or, nat_eq, refl, sym, ap, subst, ◌∙◌, arith, add-one, length-append, ⊎_elim}
use Rattle.std.proofs.lemmas.Bool.{cases_lt}
use Rattle.std.proofs.lemmas.Bool.Decides.{Decides-eqb}
use Rattle.std.proofs.lemmas.List.{take_all}
use Rattle.std.proofs.lemmas.Option.{slice_get_within, slice_get-get_or, get_or_from_slice_get}
use Rattle.std.proofs.lemmas.Slice.Eq.{slice_eq-Decides}
use Rattle.std.proofs.lemmas.Map.Keys.{IsDistinct-head, IsDistinct-tail}
use Rattle.std.proofs.lemmas.Map.Made.{AllPairs-from_IsDistinct, IsDistinct-from_AllPairs}
use Rattle.std.proofs.Math.Seq.{take-suc}
use Rattle.std.specs.Bool.{Decides}
use Rattle.std.specs.Cmp.Lexicographic.{pointwise, nat_list_eq_equiv}
use Rattle.std.specs.List.{IsDistinct, AllByRecursion}
use Rattle.std.specs.Map.{keys_of}
use Rattle.vtl_values.specs.declared.structure.Component.{Component}
use Rattle.vtl_values.specs.Structures.{NamedStructures, structure_of, HasNamesOnce}

-- the test of two texts tells whether they are equal
pub same_text-Decides : (a b : List ℕ) → Decides (pointwise nat_eq a b) (a ≡ b)
same_text-Decides a b = slice_eq-Decides Decides-eqb a b (pointwise nat_eq a b) refl

-- keys that the test tells apart differ
pub HasNamesOnce-from_IsDistinct : (named : NamedStructures) → IsDistinct (pointwise nat_eq) (keys_of named) → HasNamesOnce named
HasNamesOnce-from_IsDistinct named apart = AllPairs-from_IsDistinct same_text-Decides (keys_of named) apart

-- what holds of each key holds of that at i
at_key : (P : List ℕ → Type 0) (named : NamedStructures) (i : ℕ) (p : List ℕ × List Component) → AllByRecursion P (keys_of named) → slice_get named i ≡ Some p → P p.0
at_key P [] i p all at = cc
at_key P (e ∷ named) zero p all at = let same : e ≡ p = cc in subst (λ (q : List ℕ × List Component). P q.0) same all.0
at_key P (e ∷ named) (suc i) p all at = at_key P named i p all.1 at

-- a name that stands at i stands nowhere before it
absent_before : (named : NamedStructures) (i : ℕ) (p : List ℕ × List Component) → IsDistinct (pointwise nat_eq) (keys_of named) → slice_get named i ≡ Some p → structure_of (take i named) p.0 ≡ None
absent_before [] i p apart at = cc
absent_before (e ∷ named) zero p apart at = refl
absent_before (e ∷ named) (suc i) p apart at =
    let head : pointwise nat_eq e.0 p.0 ≡ false = at_key (λ k. pointwise nat_eq e.0 k ≡ false) named i p (IsDistinct-head (pointwise nat_eq) e.0 (keys_of named) apart) at in
    rw (nat_list_eq_equiv.symm p.0 e.0 ∙ head) (absent_before named i p (IsDistinct-tail (pointwise nat_eq) e.0 (keys_of named) apart) at)

-- a name that stands at i isn't among those before it
pub structure_of-take : (named before : NamedStructures) (p : List ℕ × List Component) → HasNamesOnce named → before ≡ take (length before) named → slice_get named (length before) ≡ Some p → structure_of before p.0 ≡ None
structure_of-take named before p once so_far at =
    ap (λ l. structure_of l p.0) so_far
    ∙ absent_before named (length before) p (IsDistinct-from_AllPairs same_text-Decides (keys_of named) once) at

-- a list copied as far as `before`, and one item more
pub record GoesOn (named before after : NamedStructures) : Type 0 where
  pub so_far : after ≡ take (length after) named
  pub within : length after ≤ length named
  pub further : length named - length after < length named - length before

pub one_more : (named before after : NamedStructures) (p : List ℕ × List Component) → before ≡ take (length before) named → slice_get named (length before) ≡ Some p → after ≡ before ++ p ∷ [] → GoesOn named before after
one_more named before after p so_far at is =
    let inside : length before < length named = slice_get_within named (length before) p at in
    let long : length after ≡ suc (length before) = ap length is ∙ length-append before (p ∷ []) ∙ add-one (length before) in
    record {
      so_far = is ∙ (λ i. so_far i ++ p ∷ []) ∙ sym (ap (λ n. take n named) long ∙ take-suc named (length before) p inside ∙ ap (λ q. take (length before) named ++ q ∷ []) (get_or_from_slice_get named (length before) p p at));
      within = omega arith;
      further = omega arith;
    }

-- a list copied to its end
pub all_copied : (named copies : NamedStructures) → copies ≡ take (length copies) named → length copies ≤ length named → slice_get named (length copies) ≡ None → copies ≡ named
all_copied named copies so_far within none = so_far ∙ take_all (length copies) named (⊎_elim
    (λ (h : length copies < length named). absurd (let at : slice_get named (length copies) ≡ Some (slice_index_or named (length copies) ([], [])) = slice_get-get_or named (length copies) ([], []) h in cc))
    (λ (h : length named ≤ length copies). h)
    (cases_lt (length copies) (length named)))
