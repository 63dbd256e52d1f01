-- Components of which one changes, or to which one comes.
use Rattle.std.proofs.Common.{◌≡◌, refl, ℕ, zero, suc, List, [], ◌∷◌, ◌++◌, Some, None, get_or, ap, subst, ◌∙◌, ◌≢◌, arith}
use Rattle.std.specs.Prelude.{slice_get, slice_set}
use Rattle.std.specs.Option.{option_map_or}
use Rattle.std.specs.List.{All, AllPairs}
use Rattle.std.proofs.lemmas.List.Elements.{All-nil, All-cons, All-head, All-tail, All-append, All-weaker}
use Rattle.std.proofs.lemmas.List.Kept.{AllPairs-cons}
use Rattle.vtl_values.specs.declared.structure.Component.{Component}
use Rattle.data_set_trees.specs.clauses.Frames.{changed_at}
use Rattle.data_set_trees.proofs.clauses.Parts.{pairs_head, pairs_tail}
use Rattle.data_set_trees.proofs.clauses.Ordered.{pairs_append}

-- a later component changes
pub changed-later : (change : Component → Component) (m : ℕ) (c : Component) (cs : List Component) → changed_at change (suc m) (c ∷ cs) ≡ c ∷ changed_at change m cs
changed-later change m c cs = elim (slice_get cs m) as (λ o. option_map_or (λ d. slice_set (c ∷ cs) (suc m) (change d)) o (c ∷ cs) ≡ c ∷ option_map_or (λ d. slice_set cs m (change d)) o cs) [ None ↦ refl | Some d ↦ refl ]

-- what a change keeps, all components keep
pub All-changed : (P : Component → Type 0) (change : Component → Component) → ((c : Component) → P c → P (change c)) → (n : ℕ) (cs : List Component) → All P cs → All P (changed_at change n cs)
All-changed P change keeps n [] all = all
All-changed P change keeps zero (c ∷ cs) all = All-cons P (change c) cs (keeps c (All-head P c cs all)) (All-tail P c cs all)
All-changed P change keeps (suc n) (c ∷ cs) all = rw (changed-later change n c cs) (All-cons P c (changed_at change n cs) (All-head P c cs all) (All-changed P change keeps n cs (All-tail P c cs all)))

pub AllPairs-changed : (R : Component → Component → Type 0) (change : Component → Component) → ((c d : Component) → R c d → R (change c) d) → ((c d : Component) → R c d → R c (change d)) → (n : ℕ) (cs : List Component) → AllPairs R cs → AllPairs R (changed_at change n cs)
AllPairs-changed R change before behind n [] pairs = pairs
AllPairs-changed R change before behind zero (c ∷ cs) pairs = AllPairs-cons R (change c) cs (All-weaker (R c) (R (change c)) (before c) cs (pairs_head R c cs pairs)) (pairs_tail R c cs pairs)
AllPairs-changed R change before behind (suc n) (c ∷ cs) pairs =
    rw (changed-later change n c cs)
    (AllPairs-cons R c (changed_at change n cs) (All-changed (R c) change (behind c) n cs (pairs_head R c cs pairs)) (AllPairs-changed R change before behind n cs (pairs_tail R c cs pairs)))

All-one : (P : Component → Type 0) (c : Component) → P c → All P (c ∷ [])
All-one P c own = All-cons P c [] own (All-nil P)

pub All-added : (P : Component → Type 0) (cs : List Component) (c : Component) → All P cs → P c → All P (cs ++ c ∷ [])
All-added P cs c all own = All-append P cs (c ∷ []) all (All-one P c own)

pub AllPairs-added : (R : Component → Component → Type 0) (cs : List Component) (c : Component) → AllPairs R cs → All (λ d. R d c) cs → AllPairs R (cs ++ c ∷ [])
AllPairs-added R cs c pairs all =
    pairs_append R cs (c ∷ []) pairs
    (AllPairs-cons R c [] (All-nil (R c)) (λ i j d below within. absurd (omega (arith, within))))
    (λ k d within. All-one (R (get_or cs k d)) c (all k d within))

-- the one with the number is changed
pub changed-here : (P : Component → Type 0) (change : Component → Component) → ((d : Component) → P (change d)) → (n : ℕ) (cs : List Component) (c : Component) → slice_get (changed_at change n cs) n ≡ Some c → P c
changed-here P change each n [] c h = cc
changed-here P change each zero (d ∷ ds) c h = let same : change d ≡ c = cc in subst P same (each d)
changed-here P change each (suc n) (d ∷ ds) c h = changed-here P change each n ds c (subst (λ (xs : List Component). slice_get xs (suc n) ≡ Some c) (changed-later change n d ds) h)

-- and the others aren't
pub changed-other : (change : Component → Component) (n m : ℕ) (cs : List Component) → n ≢ m → slice_get (changed_at change n cs) m ≡ slice_get cs m
changed-other change n m [] apart = refl
changed-other change zero zero (d ∷ ds) apart = absurd (apart refl)
changed-other change zero (suc m) (d ∷ ds) apart = refl
changed-other change (suc n) zero (d ∷ ds) apart = ap (λ (xs : List Component). slice_get xs zero) (changed-later change n d ds)
changed-other change (suc n) (suc m) (d ∷ ds) apart = ap (λ (xs : List Component). slice_get xs (suc m)) (changed-later change n d ds) ∙ changed-other change n m ds (λ same. apart (ap (λ (k : ℕ). suc k) same))
