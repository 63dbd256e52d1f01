-- Components that a clause leaves.
use Rattle.std.proofs.Common.{◌≡◌, ◌≢◌, refl, ℕ, suc, ◌+◌, ◌≤◌, Bool, true, false, List, [], ◌∷◌, ◌++◌, Option, Some, length, ap, sym, subst, ◌∙◌, if◌then◌else◌, arith}
use Rattle.std.specs.List.{All, AllPairs, filter_map, cons_option, slice_get}
use Rattle.std.proofs.lemmas.List.{append_assoc, length_push}
use Rattle.std.proofs.lemmas.List.Elements.{All-nil, All-cons, All-head, All-tail}
use Rattle.std.proofs.lemmas.List.Kept.{AllPairs-cons}
use Rattle.vtl_values.specs.declared.structure.Component.{Component}
use Rattle.vtl_values.specs.declared.kind.Role.TheVariants.{Viral}
use Rattle.vtl_values.specs.declared.structure.Codes.TheVariants.{Any}
use Rattle.vtl_values.specs.Structures.{IsStructure, FitsCodes, place_of}
use Rattle.data_set_trees.specs.clauses.Frames.{numbers_from}
use Rattle.data_set_trees.specs.clauses.Laws.{LeavesStructures}

-- the components that pass, of which the first has this number
abbrev pub left_from : (ℕ → Component → Bool) → ℕ → List Component → List Component
left_from passes n [] = []
left_from passes n (c ∷ cs) = if passes n c then c ∷ left_from passes (n + 1) cs else left_from passes (n + 1) cs

slice_get_after : (before : List Component) (c : Component) (cs : List Component) → slice_get (before ++ c ∷ cs) (length before) ≡ Some c
slice_get_after [] c cs = refl
slice_get_after (b ∷ bs) c cs = slice_get_after bs c cs

-- picked by their numbers, they are just those
pub picked_are : (passes : ℕ → Component → Bool) (before cs : List Component) → filter_map (slice_get (before ++ cs)) (numbers_from passes (length before) cs) ≡ left_from passes (length before) cs
picked_are passes before [] = refl
picked_are passes before (c ∷ cs) =
    let n = length before in
    let all = before ++ c ∷ cs in
    let next = before ++ c ∷ [] in
    let given = picked_are passes next cs in
    let counted : filter_map (slice_get (next ++ cs)) (numbers_from passes (n + 1) cs) ≡ left_from passes (n + 1) cs = subst (λ (m : ℕ). filter_map (slice_get (next ++ cs)) (numbers_from passes m cs) ≡ left_from passes m cs) (length_push before c) given in
    let more : filter_map (slice_get all) (numbers_from passes (n + 1) cs) ≡ left_from passes (n + 1) cs = subst (λ (q : List Component). filter_map (slice_get q) (numbers_from passes (n + 1) cs) ≡ left_from passes (n + 1) cs) (append_assoc before (c ∷ []) cs) counted in
    let numbers = numbers_from passes (n + 1) cs in
    let rest = left_from passes (n + 1) cs in
    elim (passes n c) as (λ (b : Bool). filter_map (slice_get all) (if b then n ∷ numbers else numbers) ≡ (if b then c ∷ rest else rest)) [
      | true ↦ ap (λ (o : Option Component). cons_option o (filter_map (slice_get all) numbers)) (slice_get_after before c cs) ∙ ap (λ (q : List Component). c ∷ q) more
      | false ↦ more
    ]

-- what holds of all holds of them
pub left_all : (P : Component → Type 0) (passes : ℕ → Component → Bool) (n : ℕ) (cs : List Component) → All P cs → All P (left_from passes n cs)
left_all P passes n [] all = All-nil P
left_all P passes n (c ∷ cs) all =
    let rest = left_from passes (n + 1) cs in
    let more = left_all P passes (n + 1) cs (All-tail P c cs all) in
    elim (passes n c) as (λ (b : Bool). All P (if b then c ∷ rest else rest)) [
      | true ↦ All-cons P c rest (All-head P c cs all) more
      | false ↦ more
    ]

pub pairs_head : (R : Component → Component → Type 0) (c : Component) (cs : List Component) → AllPairs R (c ∷ cs) → All (R c) cs
pairs_head R c cs pairs = λ k d within. pairs 0 (suc k) d (omega arith) (omega arith)

pub pairs_tail : (R : Component → Component → Type 0) (c : Component) (cs : List Component) → AllPairs R (c ∷ cs) → AllPairs R cs
pairs_tail R c cs pairs = λ i j d below within. pairs (suc i) (suc j) d (omega arith) (omega arith)

pub left_pairs : (R : Component → Component → Type 0) (passes : ℕ → Component → Bool) (n : ℕ) (cs : List Component) → AllPairs R cs → AllPairs R (left_from passes n cs)
left_pairs R passes n [] pairs = pairs
left_pairs R passes n (c ∷ cs) pairs =
    let rest = left_from passes (n + 1) cs in
    let more = left_pairs R passes (n + 1) cs (pairs_tail R c cs pairs) in
    elim (passes n c) as (λ (b : Bool). AllPairs R (if b then c ∷ rest else rest)) [
      | true ↦ AllPairs-cons R c rest (left_all (R c) passes (n + 1) cs (pairs_head R c cs pairs)) more
      | false ↦ more
    ]

left_is : (passes : ℕ → Component → Bool) (cs : List Component) → IsStructure cs → IsStructure (left_from passes 0 cs)
left_is passes cs is = record {
  in_order = left_pairs (λ a b. place_of a.role ≤ place_of b.role) passes 0 cs is.in_order;
  names_differ = left_pairs (λ a b. a.name ≢ b.name) passes 0 cs is.names_differ;
  viral_listed = left_all (λ c. c.role ≡ Viral → c.codes ≢ Any) passes 0 cs is.viral_listed;
  codes_fit = left_all (λ c. FitsCodes c.kind c.codes) passes 0 cs is.codes_fit;
}

pub leaves_structures : LeavesStructures
leaves_structures passes frame is = subst IsStructure (sym (picked_are passes [] frame.components)) (left_is passes frame.components is)
