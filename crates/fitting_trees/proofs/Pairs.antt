-- Measures of two data sets have their kinds among the components of both.
use Rattle.std.proofs.Common.{◌≡◌, ℕ, zero, suc, ◌+◌, ◌++◌, Bool, true, false, List, [], ◌∷◌, length, Option, Some, None, option_map, ap, ◌∙◌, if◌then◌else◌, arith}
use Rattle.std.proofs.lemmas.List.Elements.{All-nil, All-cons, All-head, All-tail}
use Rattle.std.specs.Prelude.{slice_get, zip, find}
use Rattle.std.specs.List.{All, cons_option}
use Rattle.vtl_values.specs.declared.structure.Component.{Component}
use Rattle.data_set_trees.specs.declared.measure.Measure.{Measure}
use Rattle.data_set_trees.specs.Components.{measures}
use Rattle.data_set_trees.specs.Pairs.{is_called, meeting}
use Rattle.data_set_trees.specs.checked.Operators.{kinds_on_both}
use Rattle.fitting_trees.proofs.Components.{AreFrom, IsThere, some-there}
use Rattle.fitting_trees.proofs.Lifted.{MeetThere}

-- ---- where components of both stand

slice_get-front : {X : Type 0} (xs ys : List X) (k : ℕ) (x : X) → slice_get xs k ≡ Some x → slice_get (xs ++ ys) k ≡ Some x
slice_get-front [] ys k x e = cc
slice_get-front (y ∷ xs) ys zero x e = e
slice_get-front (y ∷ xs) ys (suc k) x e = slice_get-front xs ys k x e

slice_get-back : {X : Type 0} (xs ys : List X) (k : ℕ) → slice_get (xs ++ ys) (length xs + k) ≡ slice_get ys k
slice_get-back [] ys k = let same : 0 + k ≡ k = omega arith in ap (slice_get ys) same
slice_get-back (x ∷ xs) ys k =
    let next : length (x ∷ xs) + k ≡ suc (length xs + k) = omega arith in
    ap (slice_get (x ∷ xs ++ ys)) next ∙ slice_get-back xs ys k

-- ---- what meets

module _ (P Q : Measure → Type 0) where
  abbrev Both : Measure × Measure → Type 0
  Both p = P p.0 × Q p.1

  found-both : (m : Measure) (p : Measure → Bool) (ns : List Measure) (rest : List (Measure × Measure)) → P m → All Q ns → All Both rest → All Both (cons_option (option_map (λ n. (m, n)) (find p ns)) rest)
  found-both m p [] rest one all more = more
  found-both m p (n ∷ ns) rest one all more =
      elim (p n) as (λ (b : Bool). All Both (cons_option (option_map (λ n. (m, n)) (if b then Some n else find p ns)) rest)) [
        | true ↦ All-cons Both (m, n) rest (one, All-head Q n ns all) more
        | false ↦ found-both m p ns rest one (All-tail Q n ns all) more
      ]

  -- what holds of the measures of each data set holds of those that meet
  meeting-both : (changed : Option (List ℕ)) (ms ns : List Measure) → All P ms → All Q ns → All Both (meeting changed ms ns)
  meeting-both None [] ns all others = All-nil Both
  meeting-both None (m ∷ ms) ns all others = found-both m (is_called m.name) ns (meeting None ms ns) (All-head P m ms all) others (meeting-both None ms ns (All-tail P m ms all) others)
  meeting-both (Some name) [] ns all others = All-nil Both
  meeting-both (Some name) (m ∷ ms) [] all others = All-nil Both
  meeting-both (Some name) (m ∷ ms) (n ∷ ns) all others = All-cons Both (m, n) (zip ms ns) (All-head P m ms all, All-head Q n ns others) (meeting-both (Some name) ms ns (All-tail P m ms all) (All-tail Q n ns others))

-- ---- measures of both

module _ (s t : List Component) where
  abbrev both : List Component
  both = s ++ t

  abbrev after : ℕ → ℕ
  after n = length s + n

  first-from : AreFrom both (λ n. n) 0 s
  first-from k c at = let same : 0 + k ≡ k = omega arith in ap (slice_get both) same ∙ slice_get-front s t k c at

  second-from : AreFrom both after 0 t
  second-from k c at = let same : 0 + k ≡ k = omega arith in ap (λ (m : ℕ). slice_get both (after m)) same ∙ slice_get-back s t k ∙ at

  -- the measures that meet have their kinds
  pub both-there : (changed : Option (List ℕ)) → All (MeetThere (kinds_on_both s t) (length s)) (meeting changed (measures s) (measures t))
  both-there changed = meeting-both (IsThere both (λ n. n)) (IsThere both after) changed (measures s) (measures t) (some-there both (λ n. n) s first-from) (some-there both after t second-from)
