-- Components by role.
use Rattle.std.proofs.Common.{◌≡◌, ◌≢◌, refl, ℕ, ◌+◌, ◌<◌, ◌≤◌, Bool, true, false, List, [], ◌∷◌, ◌++◌, get_or, ap, sym, subst, ◌∙◌, if◌then◌else◌, arith}
use Rattle.std.specs.List.{All, AllPairs, filter_map, slice_get}
use Rattle.std.proofs.lemmas.List.Elements.{All-nil, All-cons, All-head, All-tail, All-append, All-weaker, filter_map-append}
use Rattle.std.proofs.lemmas.List.Kept.{AllPairs-cons}
use Rattle.vtl_values.specs.declared.kind.Role.{Role}
use Rattle.vtl_values.specs.declared.kind.Role.TheVariants.{Identifier, Measure, Attribute, Viral}
use Rattle.vtl_values.specs.declared.structure.Codes.TheVariants.{Any}
use Rattle.vtl_values.specs.declared.structure.Component.{Component}
use Rattle.vtl_values.specs.Structures.{IsStructure, FitsCodes, place_of}
use Rattle.data_set_trees.specs.clauses.Frames.{is_role, has_role, numbers_of, numbers_by_role}
use Rattle.data_set_trees.specs.clauses.Laws.{FitTogether, OrdersStructures}
use Rattle.data_set_trees.proofs.clauses.Parts.{left_from, picked_are, left_all, pairs_head, pairs_tail, left_pairs}

pub role_is : (r s : Role) → is_role r s ≡ true → r ≡ s
role_is Identifier Identifier is = refl
role_is Identifier Measure is = cc
role_is Identifier Attribute is = cc
role_is Identifier Viral is = cc
role_is Measure Identifier is = cc
role_is Measure Measure is = refl
role_is Measure Attribute is = cc
role_is Measure Viral is = cc
role_is Attribute Identifier is = cc
role_is Attribute Measure is = cc
role_is Attribute Attribute is = refl
role_is Attribute Viral is = cc
role_is Viral Identifier is = cc
role_is Viral Measure is = cc
role_is Viral Attribute is = cc
role_is Viral Viral is = refl

-- no component has two
apart : (r s : Role) (c : Component) → place_of r < place_of s → has_role r c ≡ true → has_role s c ≡ true → ⊥
apart r s c below first second = let same : place_of r ≡ place_of s = ap place_of (role_is r c.role first ∙ sym (role_is s c.role second)) in omega (arith, same)

same_place : (r : Role) (a b : Component) → r ≡ a.role → r ≡ b.role → place_of a.role ≤ place_of b.role
same_place r a b first second = let same : place_of a.role ≡ place_of b.role = ap place_of (sym first ∙ second) in omega (arith, same)

next_place : (r s : Role) (a b : Component) → place_of r < place_of s → r ≡ a.role → s ≡ b.role → place_of a.role ≤ place_of b.role
next_place r s a b below first second =
    let here : place_of r ≡ place_of a.role = ap place_of first in
    let there : place_of s ≡ place_of b.role = ap place_of second in
    omega (arith, here, there)

-- the components of a role
abbrev pub part : Role → List Component → List Component
part r cs = left_from (λ number. has_role r) 0 cs

abbrev ordered : List Component → List Component
ordered cs = ((part Identifier cs ++ part Measure cs) ++ part Attribute cs) ++ part Viral cs

pub pairs_append : (R : Component → Component → Type 0) (xs ys : List Component) → AllPairs R xs → AllPairs R ys → All (λ x. All (R x) ys) xs → AllPairs R (xs ++ ys)
pairs_append R [] ys first second across = second
pairs_append R (x ∷ xs) ys first second across =
    AllPairs-cons R x (xs ++ ys) (All-append (R x) xs ys (pairs_head R x xs first) (All-head (λ z. All (R z) ys) x xs across)) (pairs_append R xs ys (pairs_tail R x xs first) second (All-tail (λ z. All (R z) ys) x xs across))

-- what relates the components of each role, and those of each two roles, relates all of them by role
by_parts : (R : Component → Component → Type 0) (cs : List Component) → ((r : Role) → AllPairs R (part r cs)) → ((r s : Role) → place_of r < place_of s → All (λ x. All (R x) (part s cs)) (part r cs)) → AllPairs R (ordered cs)
by_parts R cs own across =
    let i = part Identifier cs in
    let m = part Measure cs in
    let a = part Attribute cs in
    let v = part Viral cs in
    let to : List Component → Component → Type 0 = λ ys x. All (R x) ys in
    pairs_append R ((i ++ m) ++ a) v
    (pairs_append R (i ++ m) a (pairs_append R i m (own Identifier) (own Measure) (across Identifier Measure (omega arith))) (own Attribute)
    (All-append (to a) i m (across Identifier Attribute (omega arith)) (across Measure Attribute (omega arith))))
    (own Viral)
    (All-append (to v) (i ++ m) a (All-append (to v) i m (across Identifier Viral (omega arith)) (across Measure Viral (omega arith))) (across Attribute Viral (omega arith)))

-- those of a role have it
have_one : (r : Role) (c : Component) (rest : List Component) (b : Bool) → has_role r c ≡ b → All (λ d. r ≡ d.role) rest → All (λ d. r ≡ d.role) (if b then c ∷ rest else rest)
have_one r c rest true is more = All-cons (λ d. r ≡ d.role) c rest (role_is r c.role is) more
have_one r c rest false is more = more

pub have_role : (r : Role) (n : ℕ) (cs : List Component) → All (λ c. r ≡ c.role) (left_from (λ number. has_role r) n cs)
have_role r n [] = All-nil (λ c. r ≡ c.role)
have_role r n (c ∷ cs) = have_one r c (left_from (λ number. has_role r) (n + 1) cs) (has_role r c) refl (have_role r (n + 1) cs)

-- a relation that holds both ways holds between the components of two roles, if it holds of each two components
across_one : (R : Component → Component → Type 0) (c : Component) (firsts seconds : List Component) (b e : Bool) → (b ≡ true → e ≡ true → ⊥)
    → All (λ x. R x c) firsts → All (R c) seconds → All (λ x. All (R x) seconds) firsts → All (λ x. All (R x) (if e then c ∷ seconds else seconds)) (if b then c ∷ firsts else firsts)
across_one R c firsts seconds true true never to from more = absurd (never refl refl)
across_one R c firsts seconds true false never to from more = All-cons (λ x. All (R x) seconds) c firsts from more
across_one R c firsts seconds false true never to from more = λ k d within. All-cons (R (get_or firsts k d)) c seconds (to k d within) (more k d within)
across_one R c firsts seconds false false never to from more = more

pub across_from : (R : Component → Component → Type 0) → ((a b : Component) → R a b → R b a) → (r s : Role) → place_of r < place_of s → (n : ℕ) (cs : List Component) → AllPairs R cs
    → All (λ x. All (R x) (left_from (λ number. has_role s) n cs)) (left_from (λ number. has_role r) n cs)
across_from R turned r s below n [] pairs = All-nil (λ x. All (R x) [])
across_from R turned r s below n (c ∷ cs) pairs =
    let firsts = left_from (λ number. has_role r) (n + 1) cs in
    let seconds = left_from (λ number. has_role s) (n + 1) cs in
    let ahead = pairs_head R c cs pairs in
    let back = All-weaker (R c) (λ x. R x c) (λ x. turned c x) cs ahead in
    across_one R c firsts seconds (has_role r c) (has_role s c) (apart r s c below)
    (left_all (λ x. R x c) (λ number. has_role r) (n + 1) cs back)
    (left_all (R c) (λ number. has_role s) (n + 1) cs ahead)
    (across_from R turned r s below (n + 1) cs (pairs_tail R c cs pairs))

-- ---- the order

in_order : (cs : List Component) → AllPairs (λ a b. place_of a.role ≤ place_of b.role) (ordered cs)
in_order cs = by_parts (λ a b. place_of a.role ≤ place_of b.role) cs
    (λ r. λ i j d below within. same_place r (get_or (part r cs) i d) (get_or (part r cs) j d) (have_role r 0 cs i d (omega arith)) (have_role r 0 cs j d within))
    (λ r s below. λ i d within. λ j e there. next_place r s (get_or (part r cs) i d) (get_or (part s cs) j e) below (have_role r 0 cs i d within) (have_role s 0 cs j e there))

differ : (cs : List Component) → AllPairs (λ a b. a.name ≢ b.name) cs → AllPairs (λ a b. a.name ≢ b.name) (ordered cs)
differ cs pairs = by_parts (λ a b. a.name ≢ b.name) cs
    (λ r. left_pairs (λ a b. a.name ≢ b.name) (λ number. has_role r) 0 cs pairs)
    (λ r s below. across_from (λ a b. a.name ≢ b.name) (λ a b other same. other (sym same)) r s below 0 cs pairs)

all_ordered : (P : Component → Type 0) (cs : List Component) → All P cs → All P (ordered cs)
all_ordered P cs all =
    let of = λ (r : Role). left_all P (λ number. has_role r) 0 cs all in
    All-append P ((part Identifier cs ++ part Measure cs) ++ part Attribute cs) (part Viral cs) (All-append P (part Identifier cs ++ part Measure cs) (part Attribute cs) (All-append P (part Identifier cs) (part Measure cs) (of Identifier) (of Measure)) (of Attribute)) (of Viral)

-- ---- by role

picked_ordered : (cs : List Component) → filter_map (slice_get cs) (numbers_by_role cs) ≡ ordered cs
picked_ordered cs =
    let at = filter_map (slice_get cs) in
    let i = numbers_of Identifier cs in
    let m = numbers_of Measure cs in
    let a = numbers_of Attribute cs in
    let v = numbers_of Viral cs in
    let is = λ (r : Role). picked_are (λ number. has_role r) [] cs in
    let two : at (i ++ m) ≡ part Identifier cs ++ part Measure cs = filter_map-append (slice_get cs) i m ∙ (λ q. is Identifier q ++ is Measure q) in
    let three : at ((i ++ m) ++ a) ≡ (part Identifier cs ++ part Measure cs) ++ part Attribute cs = filter_map-append (slice_get cs) (i ++ m) a ∙ (λ q. two q ++ is Attribute q) in
    filter_map-append (slice_get cs) ((i ++ m) ++ a) v ∙ (λ q. three q ++ is Viral q)

ordered_is : (cs : List Component) → FitTogether cs → IsStructure (ordered cs)
ordered_is cs fit = record {
  in_order = in_order cs;
  names_differ = differ cs fit.names_differ;
  viral_listed = all_ordered (λ c. c.role ≡ Viral → c.codes ≢ Any) cs fit.viral_listed;
  codes_fit = all_ordered (λ c. FitsCodes c.kind c.codes) cs fit.codes_fit;
}

pub orders_structures : OrdersStructures
orders_structures frame fit = subst IsStructure (sym (picked_ordered frame.components)) (ordered_is frame.components fit)
